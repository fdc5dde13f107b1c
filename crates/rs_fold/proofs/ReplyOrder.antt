-- A stable sort by region puts the replies by region.
use Rattle.std.proofs.Common.{◌≡◌, ◌∙◌, sym, refl, ap, subst, ℕ, suc, ◌+◌, ◌<◌, ◌≤◌, List, [], ◌∷◌, Bool, true, false, inl, inr, arith, get_or}
use Rattle.std.specs.Prelude.{not, ◌&&◌, ◌==◌}
use Rattle.std.specs.List.{filter}
use Rattle.std.specs.List.Sorted.{ties, IsStableBy, IsSortedBy}
use Rattle.std.specs.Cmp.{IsStrictWeakOrder, nat_cmp_is}
use Rattle.std.specs.Ordering.{nat_cmp, is_lt}
use Rattle.std.specs.declared.cmp.Ordering.{Ordering}
use Rattle.std.specs.declared.cmp.Ordering.TheVariants.{Less, Equal, Greater}
use Rattle.std.proofs.lemmas.Cmp.{nat_cmp_total}
use Rattle.std.proofs.lemmas.Bool.{cases_order, cases_lt, eq-eqb}
use Rattle.std.proofs.lemmas.List.Elements.{filter_agree}
use Rattle.std.proofs.lemmas.List.Sorted.{ranks_by}
use Rattle.rs_entry.specs.declared.outcome.Reply.TheVariants as reply
use Rattle.rs_entry.specs.declared.outcome.ReplyLine.{ReplyLine}
use Rattle.rs_history.specs.Outcomes.{by_region}
use Rattle.rs_history.specs.Replies.{of_region}
use Rattle.rs_fold.specs.Replies.{region_below}
use Rattle.rs_history.proofs.ReplyLaws.{Rise, by_region_rises, by_region_same, from_less, not_equal, unique}

-- ---- tests of two numbers

less : (x y : ℕ) → x < y → nat_cmp x y ≡ Less
less x y h = sym (nat_cmp_is x y Less h)

tie : (x y : ℕ) → x ≡ y → nat_cmp x y ≡ Equal
tie x y h = sym (nat_cmp_is x y Equal h)

more : (x y : ℕ) → y < x → nat_cmp x y ≡ Greater
more x y h = sym (nat_cmp_is x y Greater h)

-- what two answers say of two tests
by_answers : (x y : ℕ) (b : Bool) (o p : Ordering) → (x == y) ≡ b → nat_cmp x y ≡ o → nat_cmp y x ≡ p → b ≡ (not (is_lt o) && not (is_lt p))
    → (x == y) ≡ (not (is_lt (nat_cmp x y)) && not (is_lt (nat_cmp y x)))
by_answers x y b o p e f g h =
    e ∙ h ∙ sym (ap (λ z. not (is_lt z) && not (is_lt (nat_cmp y x))) f ∙ ap (λ z. not (is_lt o) && not (is_lt z)) g)

-- neither is less exactly where they are equal
tied_is : (x y : ℕ) → (x == y) ≡ (not (is_lt (nat_cmp x y)) && not (is_lt (nat_cmp y x)))
tied_is x y =
    elim (cases_order x y) [
      | inl same ↦ by_answers x y true Equal Equal (eq-eqb x y same) (tie x y same) (tie y x (sym same)) refl
      | inr other ↦ elim other [
        | inl below ↦ by_answers x y false Less Greater (not_equal x y (λ e. omega (arith, e, below))) (less x y below) (more y x below) refl
        | inr above ↦ by_answers x y false Greater Less (not_equal x y (λ e. omega (arith, e, above))) (more x y above) (less y x above) refl
      ]
    ]

not_below : (x y : ℕ) → is_lt (nat_cmp y x) ≡ false → x ≤ y
not_below x y h =
    elim (cases_lt y x) [
      | inl below ↦ absurd (let e : true ≡ false = sym (ap is_lt (less y x below)) ∙ h in cc)
      | inr from ↦ from
    ]

-- ---- what the sort promises

pub region_below_orders : IsStrictWeakOrder region_below
region_below_orders = ranks_by nat_cmp_total (λ (y : ReplyLine). y.region)

-- some reply of this region
placed : ℕ → ReplyLine
placed id = record { region = id; index = 0; reply = reply.Empty }

ties_of_region : (id : ℕ) (y : ReplyLine) → of_region id y ≡ ties region_below (placed id) y
unfolding placed
ties_of_region id y = tied_is id y.region

pub same_replies : (xs ys : List ReplyLine) → IsStableBy region_below xs ys → (id : ℕ) → filter (of_region id) ys ≡ filter (of_region id) xs
same_replies xs ys stable id =
    filter_agree _ _ (ties_of_region id) ys ∙ stable (placed id) ∙ sym (filter_agree _ _ (ties_of_region id) xs)

-- ---- sorted replies

tail_sorted : (y : ReplyLine) (ys : List ReplyLine) → IsSortedBy region_below (y ∷ ys) → IsSortedBy region_below ys
tail_sorted y ys h = λ k d low high.
    let P : ℕ → Type 0 = λ n. region_below (get_or (y ∷ ys) n d) (get_or (y ∷ ys) (suc k) d) ≡ false in
    let one : suc k + 1 ≡ suc (k + 1) = omega arith in
    subst P one (h (suc k) d (omega arith) (omega (arith, high)))

rise_from : (ys : List ReplyLine) → IsSortedBy region_below ys → Rise ys
rise_from [] h = tt
rise_from (y ∷ []) h = (tt, tt)
rise_from (y ∷ z ∷ zs) h =
    let rest = rise_from (z ∷ zs) (tail_sorted y (z ∷ zs) h) in
    let step : y.region ≤ z.region = not_below y.region z.region (h 0 y (omega arith) (omega arith)) in
    ((step, from_less y.region z.region zs step rest.0), rest)

-- what a stable sort by region gives
pub sorted_replies : (xs ys : List ReplyLine) → IsSortedBy region_below ys → ((id : ℕ) → filter (of_region id) ys ≡ filter (of_region id) xs) → ys ≡ by_region xs
sorted_replies xs ys sorted same =
    unique ys (by_region xs) (rise_from ys sorted) (by_region_rises xs) (λ id. same id ∙ sym (by_region_same id xs))
