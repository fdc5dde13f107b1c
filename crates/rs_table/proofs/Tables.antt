-- A table after states were put at their regions' places.
use Rattle.std.proofs.Common.{◌≡◌, ℕ, zero, suc, ◌<◌, Bool, true, false, cond, List, [], ◌∷◌, map, length, get_or, Option, Some, None, refl, ap, sym, ◌∙◌, arith, subst, inl, inr}
use Rattle.std.specs.Prelude.{◌==◌, ltb, find, if◌then◌else◌}
use Rattle.std.specs.List.{AllByRecursion}
use Rattle.std.proofs.lemmas.Bool.{cases_eq, cases_lt, eq-eqb, eqb-true, ltb-false, ltb-true, ne_eqb}
use Rattle.rs_region.specs.declared.state.RegionState.{RegionState}
use Rattle.rs_region.proofs.CutParts.{all_map}
use Rattle.rs_part.specs.Ranges.{EachId}
use Rattle.rs_table.specs.Changes.{with_state, with_states}
use Rattle.rs_table.specs.Rows.{IdsRise, state_of}

-- each id is below all that follow
abbrev pub Ups : List RegionState → Type 0
Ups [] = Unit {0}
Ups (s ∷ ss) = AllByRecursion (λ t. s.region < t.region) ss × Ups ss

all_get : (x : ℕ) (ss : List RegionState) (k : ℕ) → AllByRecursion (λ t. x < t.region) ss → k < length ss → x < get_or (map (λ s. s.region) ss) k 0
all_get x [] k all h = absurd (omega arith)
all_get x (s ∷ ss) zero all h = all.0
all_get x (s ∷ ss) (suc k) all h = all_get x ss k all.1 (omega arith)

length_ids : (ss : List RegionState) → length (map (λ s. s.region) ss) ≡ length ss
length_ids [] = refl
length_ids (s ∷ ss) = ap suc (length_ids ss)

pub rise_of : (ss : List RegionState) → Ups ss → IdsRise ss
rise_of [] u j k lt h = absurd (omega arith)
rise_of (s ∷ ss) u zero zero lt h = absurd (omega arith)
rise_of (s ∷ ss) u zero (suc k) lt h = all_get s.region ss k u.0 (let l = length_ids ss in omega arith)
rise_of (s ∷ ss) u (suc j) zero lt h = absurd (omega arith)
rise_of (s ∷ ss) u (suc j) (suc k) lt h = rise_of ss u.1 j k (omega arith) (omega arith)

all_of : (x : ℕ) (ss : List RegionState) → ((k : ℕ) → k < length ss → x < get_or (map (λ s. s.region) ss) k 0) → AllByRecursion (λ t. x < t.region) ss
all_of x [] f = tt
all_of x (s ∷ ss) f = (f 0 (omega arith), all_of x ss (λ k h. f (suc k) (omega arith)))

pub ups_of : (ss : List RegionState) → IdsRise ss → Ups ss
ups_of [] r = tt
ups_of (s ∷ ss) r = (all_of s.region ss (λ k h. r 0 (suc k) (omega arith) (let l = length_ids ss in omega arith)), ups_of ss (λ j k lt h. r (suc j) (suc k) (omega arith) (omega arith)))

all_with : (x : ℕ) (s : RegionState) (rows : List RegionState) → AllByRecursion (λ t. x < t.region) rows → x < s.region → AllByRecursion (λ t. x < t.region) (with_state s rows)
all_with x s [] all lt = (lt, tt)
all_with x s (r ∷ rs) all lt = go (ltb r.region s.region) (r.region == s.region) (all_with x s rs all.1 lt) where
  go : (a b : Bool) → AllByRecursion (λ t. x < t.region) (with_state s rs) → AllByRecursion (λ t. x < t.region) (cond a (r ∷ with_state s rs) (cond b (s ∷ rs) (s ∷ r ∷ rs)))
  go true b rest = (all.0, rest)
  go false true rest = (lt, all.1)
  go false false rest = (lt, all)

ups_with : (s : RegionState) (rows : List RegionState) → Ups rows → Ups (with_state s rows)
ups_with s [] u = (tt, tt)
ups_with s (r ∷ rs) u = go (ltb r.region s.region) refl (r.region == s.region) refl (ups_with s rs u.1) where
  go : (a : Bool) → ltb r.region s.region ≡ a → (b : Bool) → (r.region == s.region) ≡ b → Ups (with_state s rs) → Ups (cond a (r ∷ with_state s rs) (cond b (s ∷ rs) (s ∷ r ∷ rs)))
  go true e b f rest = (all_with r.region s rs u.0 (ltb-true r.region s.region e), rest)
  go false e true f rest = (let same : r.region ≡ s.region = eqb-true r.region s.region f in subst (λ x. AllByRecursion (λ t. x < t.region) rs) same u.0, u.1)
  go false e false f rest =
      let ge = ltb-false r.region s.region e in
      let ne : r.region ≡ s.region → ⊥ = λ q. cc (f, eq-eqb r.region s.region q) in
      let lt : s.region < r.region = elim (cases_lt s.region r.region) [ inl l ↦ l | inr le ↦ absurd (ne (omega (arith, ge, le))) ] in
      ((lt, all_map (λ t. r.region < t.region) (λ t. s.region < t.region) (λ t h. omega (arith, h, lt)) rs u.0), u)

pub ups_all : (ss rows : List RegionState) → Ups rows → Ups (with_states ss rows)
ups_all [] rows u = u
ups_all (s ∷ ss) rows u = ups_all ss (with_state s rows) (ups_with s rows u)

-- ---- what stands there

-- the state, where it is this region's
abbrev pub put_over : RegionState → ℕ → Option RegionState → Option RegionState
put_over s id o = if id == s.region then Some s else o

abbrev pub over : List RegionState → ℕ → Option RegionState → Option RegionState
over [] id o = o
over (s ∷ ss) id o = over ss id (put_over s id o)

flip : (a b : ℕ) → (a == b) ≡ (b == a)
flip a b = elim (cases_eq a b) [
  | inl e ↦ eq-eqb a b e ∙ sym (eq-eqb b a (sym e))
  | inr ne ↦ ne_eqb a b ne ∙ sym (ne_eqb b a (λ e. ne (sym e)))
]

found_with : (s : RegionState) (rows : List RegionState) (id : ℕ) → state_of (with_state s rows) id ≡ put_over s id (state_of rows id)
found_with s [] id = ap (λ b. cond b (Some s) None) (flip s.region id)
found_with s (r ∷ rs) id = go (ltb r.region s.region) refl (r.region == s.region) refl (found_with s rs id) where
  other : (x : Bool) → (r.region == id) ≡ x → r.region < s.region → state_of (with_state s rs) id ≡ put_over s id (state_of rs id) → cond x (Some r) (state_of (with_state s rs) id) ≡ put_over s id (cond x (Some r) (state_of rs id))
  other true e lt rest =
      let is : r.region ≡ id = eqb-true r.region id e in
      sym (ap (λ b. cond b (Some s) (Some r)) (ne_eqb id s.region (λ q. omega (arith, q, is, lt))))
  other false e lt rest = rest

  same : (x : Bool) → (id == s.region) ≡ x → r.region ≡ s.region → cond x (Some s) (state_of rs id) ≡ cond x (Some s) (cond (r.region == id) (Some r) (state_of rs id))
  same true e is = refl
  same false e is = sym (ap (λ b. cond b (Some r) (state_of rs id)) (ap (λ z. z == id) is ∙ (flip s.region id ∙ e)))

  go : (a : Bool) → ltb r.region s.region ≡ a → (b : Bool) → (r.region == s.region) ≡ b → state_of (with_state s rs) id ≡ put_over s id (state_of rs id)
      → state_of (cond a (r ∷ with_state s rs) (cond b (s ∷ rs) (s ∷ r ∷ rs))) id ≡ put_over s id (state_of (r ∷ rs) id)
  go true e b f rest = other (r.region == id) refl (ltb-true r.region s.region e) rest
  go false e true f rest = ap (λ b. cond b (Some s) (state_of rs id)) (flip s.region id) ∙ same (id == s.region) refl (eqb-true r.region s.region f)
  go false e false f rest = ap (λ b. cond b (Some s) (state_of (r ∷ rs) id)) (flip s.region id)

pub found_all : (ss rows : List RegionState) (id : ℕ) → state_of (with_states ss rows) id ≡ over ss id (state_of rows id)
found_all [] rows id = refl
found_all (s ∷ ss) rows id = found_all ss (with_state s rows) id ∙ ap (over ss id) (found_with s rows id)

-- where ids differ, what is found among the states, else what was there
abbrev pub or_else : Option RegionState → Option RegionState → Option RegionState
or_else None o = o
or_else (Some s) o = Some s

none_over : (ss : List RegionState) (id : ℕ) (o : Option RegionState) → AllByRecursion (λ t. id ≡ t.region → ⊥) ss → over ss id o ≡ o
none_over [] id o all = refl
none_over (s ∷ ss) id o all = none_over ss id (put_over s id o) all.1 ∙ ap (λ b. cond b (Some s) o) (ne_eqb id s.region all.0)

pub over_find : (ss : List RegionState) (id : ℕ) (o : Option RegionState) → EachId ss → over ss id o ≡ or_else (find (λ t. t.region == id) ss) o
over_find [] id o each = refl
over_find (s ∷ ss) id o each = elim (cases_eq id s.region) [
  | inl e ↦
      none_over ss id (put_over s id o) (all_map (λ t. s.region ≡ t.region → ⊥) (λ t. id ≡ t.region → ⊥) (λ t ne q. ne (sym e ∙ q)) ss each.0)
      ∙ (ap (λ b. cond b (Some s) o) (eq-eqb id s.region e)
      ∙ sym (ap (λ b. or_else (cond b (Some s) (find (λ t. t.region == id) ss)) o) (eq-eqb s.region id (sym e))))
  | inr ne ↦
      over_find ss id (put_over s id o) each.1
      ∙ (ap (or_else (find (λ t. t.region == id) ss)) (ap (λ b. cond b (Some s) o) (ne_eqb id s.region ne))
      ∙ sym (ap (λ b. or_else (cond b (Some s) (find (λ t. t.region == id) ss)) o) (ne_eqb s.region id (λ q. ne (sym q)))))
]
