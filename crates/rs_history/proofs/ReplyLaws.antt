-- Replies in the order of their regions.
use Rattle.std.proofs.Common.{◌≡◌, ◌∙◌, sym, refl, ap, subst, ℕ, ◌<◌, ◌≤◌, List, [], ◌∷◌, Bool, true, false, inl, inr, arith}
use Rattle.std.specs.Prelude.{◌==◌, ltb, if◌then◌else◌}
use Rattle.std.specs.List.{filter, AllByRecursion}
use Rattle.std.proofs.lemmas.Bool.{cases_order, eqb-true, eq-eqb, ltb-true, ltb-false}
use Rattle.rs_entry.specs.declared.outcome.ReplyLine.{ReplyLine}
use Rattle.rs_history.specs.Outcomes.{put_reply, by_region}
use Rattle.rs_history.specs.Replies.{of_region}

pub not_equal : (x y : ℕ) → (x ≡ y → ⊥) → (x == y) ≡ false
not_equal x y h = go (x == y) refl where
  go : (b : Bool) → (x == y) ≡ b → b ≡ false
  go true e = absurd (h (eqb-true x y e))
  go false e = refl

-- ---- replies whose regions never fall

abbrev pub AreFrom : ℕ → List ReplyLine → Type 0
AreFrom n ys = AllByRecursion (λ (y : ReplyLine). n ≤ y.region) ys

abbrev pub Rise : List ReplyLine → Type 0
Rise [] = Unit {0}
Rise (y ∷ ys) = AreFrom y.region ys × Rise ys

pub from_less : (m n : ℕ) (ys : List ReplyLine) → m ≤ n → AreFrom n ys → AreFrom m ys
from_less m n [] h a = tt
from_less m n (y ∷ ys) h a = (omega (arith, h, a.0), from_less m n ys h a.1)

-- ---- replies put in order

put_from : (n : ℕ) (y : ReplyLine) (zs : List ReplyLine) → n ≤ y.region → AreFrom n zs → AreFrom n (put_reply y zs)
put_from n y [] h a = (h, tt)
put_from n y (z ∷ zs) h a = go (ltb z.region y.region) (put_from n y zs h a.1) where
  go : (b : Bool) → AreFrom n (put_reply y zs) → AreFrom n (if b then z ∷ put_reply y zs else y ∷ z ∷ zs)
  go true m = (a.0, m)
  go false m = (h, a)

put_rises : (y : ReplyLine) (zs : List ReplyLine) → Rise zs → Rise (put_reply y zs)
put_rises y [] r = (tt, tt)
put_rises y (z ∷ zs) r = go (ltb z.region y.region) refl (put_rises y zs r.1) where
  go : (b : Bool) → ltb z.region y.region ≡ b → Rise (put_reply y zs) → Rise (if b then z ∷ put_reply y zs else y ∷ z ∷ zs)
  go true e m = let lt : z.region < y.region = ltb-true z.region y.region e in (put_from z.region y zs (omega (arith, lt)) r.0, m)
  go false e m = let le : y.region ≤ z.region = ltb-false z.region y.region e in ((le, from_less y.region z.region zs le r.0), r)

pub by_region_rises : (ys : List ReplyLine) → Rise (by_region ys)
by_region_rises [] = tt
by_region_rises (y ∷ ys) = put_rises y (by_region ys) (by_region_rises ys)

-- two replies of different regions may change places
swap : (id : ℕ) (y z : ReplyLine) (zs : List ReplyLine) → z.region < y.region → filter (of_region id) (z ∷ y ∷ zs) ≡ filter (of_region id) (y ∷ z ∷ zs)
swap id y z zs lt = go (id == y.region) (id == z.region) refl refl where
  go : (b d : Bool) → (id == y.region) ≡ b → (id == z.region) ≡ d
      → (if d then z ∷ (if b then y ∷ filter (of_region id) zs else filter (of_region id) zs) else (if b then y ∷ filter (of_region id) zs else filter (of_region id) zs))
      ≡ (if b then y ∷ (if d then z ∷ filter (of_region id) zs else filter (of_region id) zs) else (if d then z ∷ filter (of_region id) zs else filter (of_region id) zs))
  go true true e f = absurd (let p : id ≡ y.region = eqb-true id y.region e in let q : id ≡ z.region = eqb-true id z.region f in omega (arith, p, q, lt))
  go true false e f = refl
  go false true e f = refl
  go false false e f = refl

front : (id : ℕ) (z : ReplyLine) (us vs : List ReplyLine) → filter (of_region id) us ≡ filter (of_region id) vs → filter (of_region id) (z ∷ us) ≡ filter (of_region id) (z ∷ vs)
front id z us vs h = ap (λ (ws : List ReplyLine). if id == z.region then z ∷ ws else ws) h

put_same : (id : ℕ) (y : ReplyLine) (zs : List ReplyLine) → filter (of_region id) (put_reply y zs) ≡ filter (of_region id) (y ∷ zs)
put_same id y [] = refl
put_same id y (z ∷ zs) = go (ltb z.region y.region) refl (put_same id y zs) where
  go : (b : Bool) → ltb z.region y.region ≡ b → filter (of_region id) (put_reply y zs) ≡ filter (of_region id) (y ∷ zs)
      → filter (of_region id) (if b then z ∷ put_reply y zs else y ∷ z ∷ zs) ≡ filter (of_region id) (y ∷ z ∷ zs)
  go true e m = front id z (put_reply y zs) (y ∷ zs) m ∙ swap id y z zs (ltb-true z.region y.region e)
  go false e m = refl

pub by_region_same : (id : ℕ) (ys : List ReplyLine) → filter (of_region id) (by_region ys) ≡ filter (of_region id) ys
by_region_same id [] = refl
by_region_same id (y ∷ ys) = put_same id y (by_region ys) ∙ front id y (by_region ys) ys (by_region_same id ys)

-- ---- rising replies with the same ones of each region are the same

none_from : (id n : ℕ) (ys : List ReplyLine) → id < n → AreFrom n ys → filter (of_region id) ys ≡ []
none_from id n [] h a = refl
none_from id n (y ∷ ys) h a = rw (not_equal id y.region (λ e. omega (arith, e, h, a.0))) (none_from id n ys h a.1)

first_of : (y : ReplyLine) (ys : List ReplyLine) → filter (of_region y.region) (y ∷ ys) ≡ y ∷ filter (of_region y.region) ys
first_of y ys = rw (eq-eqb y.region y.region refl) refl

-- a region that is below all of a list is in none that has the same replies
below_none : (x y : ReplyLine) (xs ys : List ReplyLine) → x.region < y.region → AreFrom y.region ys
    → filter (of_region x.region) (x ∷ xs) ≡ filter (of_region x.region) (y ∷ ys) → ⊥
below_none x y xs ys lt a h =
    let e : x ∷ filter (of_region x.region) xs ≡ [] = sym (first_of x xs) ∙ h ∙ none_from x.region y.region (y ∷ ys) lt (omega arith, a) in cc

pub unique : (xs ys : List ReplyLine) → Rise xs → Rise ys → ((id : ℕ) → filter (of_region id) xs ≡ filter (of_region id) ys) → xs ≡ ys
unique [] [] r s h = refl
unique [] (y ∷ ys) r s h = absurd (let e : [] ≡ y ∷ filter (of_region y.region) ys = h y.region ∙ first_of y ys in cc)
unique (x ∷ xs) [] r s h = absurd (let e : x ∷ filter (of_region x.region) xs ≡ [] = sym (first_of x xs) ∙ h x.region in cc)
unique (x ∷ xs) (y ∷ ys) r s h =
    elim (cases_order x.region y.region) [
      | inl same ↦ both same (unique xs ys r.1 s.1)
      | inr other ↦ elim other [
        | inl below ↦ absurd (below_none x y xs ys below s.0 (h x.region))
        | inr above ↦ absurd (below_none y x ys xs above r.0 (sym (h y.region)))
      ]
    ] where
      both : x.region ≡ y.region → (((id : ℕ) → filter (of_region id) xs ≡ filter (of_region id) ys) → xs ≡ ys) → x ∷ xs ≡ y ∷ ys
      both same rest_of =
          let heads : x ∷ filter (of_region x.region) xs ≡ y ∷ filter (of_region x.region) ys =
          sym (first_of x xs) ∙ h x.region ∙ subst (λ (n : ℕ). filter (of_region n) (y ∷ ys) ≡ y ∷ filter (of_region n) ys) (sym same) (first_of y ys) in
          let e : x ≡ y = cc in
          let tails : (id : ℕ) → filter (of_region id) xs ≡ filter (of_region id) ys = λ id. tail_of id (id == x.region) (id == y.region) refl refl (h id) heads in
          let rest : xs ≡ ys = rest_of tails in
          cc where
            tail_of : (id : ℕ) (b d : Bool) → (id == x.region) ≡ b → (id == y.region) ≡ d
                → (if b then x ∷ filter (of_region id) xs else filter (of_region id) xs) ≡ (if d then y ∷ filter (of_region id) ys else filter (of_region id) ys)
                → x ∷ filter (of_region x.region) xs ≡ y ∷ filter (of_region x.region) ys
                → filter (of_region id) xs ≡ filter (of_region id) ys
            tail_of id true true e f k m = cc
            tail_of id false false e f k m = k
            tail_of id true false e f k m = absurd (let p : id ≡ x.region = eqb-true id x.region e in let q : true ≡ false = sym (eq-eqb id y.region (p ∙ same)) ∙ f in cc)
            tail_of id false true e f k m = absurd (let p : id ≡ y.region = eqb-true id y.region f in let q : true ≡ false = sym (eq-eqb id x.region (p ∙ sym same)) ∙ e in cc)
