-- The lists of what reshapings need.
use Rattle.std.proofs.Common.{◌≡◌, ℕ, zero, suc, ◌+◌, ◌<◌, true, cond, List, [], ◌∷◌, ◌++◌, length, get_or, Option, subst, refl, ap, sym, ◌∙◌, arith, ◌⊎◌, inl, inr, length-append}
use Rattle.std.specs.Prelude.{◌==◌, ◌||◌, Bool, false, None, Some, slice_get}
use Rattle.std.proofs.lemmas.Bool.{cases_lt, eq-eqb, eqb-true, or_cases}
use Rattle.rs_entry.specs.declared.input.Input.{Input}
use Rattle.rs_entry.specs.declared.input.Store.{Store}
use Rattle.rs_check.specs.declared.rows.Row.{Row}
use Rattle.rs_check.specs.Plans.{reshapings_of, rows_of}
use Rattle.rs_check.specs.Values.{count_of}
use Rattle.rs_table.specs.declared.needs.Needs.{Needs}
use Rattle.rs_table.specs.Cuts.{Reshaping, is_of, is_on, prepare_of}
use Rattle.rs_table.specs.Tellings.{IsWaiting, Keeps, Waits, is_among, needs_below, needs_of, needs_on, no_needs, prepares_of}

-- the last of a list
get_last : {A : Type 0} (xs : List A) (y d : A) (k : ℕ) → k ≡ length xs → get_or (xs ++ y ∷ []) k d ≡ y
get_last [] y d k h = ap (λ z. get_or (y ∷ []) z d) h
get_last (x ∷ xs) y d zero h = absurd (omega (arith, h))
get_last (x ∷ xs) y d (suc k) h = get_last xs y d k (omega (arith, h))

get_before : {A : Type 0} (xs : List A) (y d : A) (k : ℕ) → k < length xs → get_or (xs ++ y ∷ []) k d ≡ get_or xs k d
get_before [] y d k h = absurd (omega arith)
get_before (x ∷ xs) y d zero h = refl
get_before (x ∷ xs) y d (suc k) h = get_before xs y d k (omega arith)

pub prepares_length : (input : Input) (a n : ℕ) → length (prepares_of input a n) ≡ n
prepares_length input a zero = refl
prepares_length input a (suc n) =
    let r = prepares_length input a n in
    let s = length-append (prepares_of input a n) (prepare_of input a (suc n) ∷ []) in
    s ∙ omega (arith, r)

prepare_there : (input : Input) (a n k : ℕ) (d : Option Reshaping) → k < n → get_or (prepares_of input a n) k d ≡ prepare_of input a (k + 1)
prepare_there input a zero k d h = absurd (omega arith)
prepare_there input a (suc n) k d h = let l = prepares_length input a n in elim (cases_lt k n) [
  | inl lt ↦ get_before (prepares_of input a n) (prepare_of input a (suc n)) d k (omega (arith, l, lt)) ∙ prepare_there input a n k d lt
  | inr ge ↦
      (let e : k ≡ n = omega (arith, ge, h) in
      let s : suc n ≡ k + 1 = omega (arith, e) in
      get_last (prepares_of input a n) (prepare_of input a (suc n)) d k (omega (arith, l, e)) ∙ ap (prepare_of input a) s)
]

pub prepare_read : (input : Input) (a k : ℕ) (d : Option Reshaping) → k < length (reshapings_of input a) → get_or (prepares_of input a (length (reshapings_of input a))) k d ≡ prepare_of input a (k + 1)
prepare_read input a k d h = prepare_there input a (length (reshapings_of input a)) k d h

pub needs_length : (input : Input) (place n : ℕ) → length (needs_below input place n) ≡ n
needs_length input place zero = refl
needs_length input place (suc n) =
    let r = needs_length input place n in
    let s = length-append (needs_below input place n) (needs_on input place n ∷ []) in
    s ∙ omega (arith, r)

needs_there : (input : Input) (place n a : ℕ) (d : Needs) → a < n → get_or (needs_below input place n) a d ≡ needs_on input place a
needs_there input place zero a d h = absurd (omega arith)
needs_there input place (suc n) a d h = let l = needs_length input place n in elim (cases_lt a n) [
  | inl lt ↦ get_before (needs_below input place n) (needs_on input place n) d a (omega (arith, l, lt)) ∙ needs_there input place n a d lt
  | inr ge ↦
      (let e : a ≡ n = omega (arith, ge, h) in
      get_last (needs_below input place n) (needs_on input place n) d a (omega (arith, l, e)) ∙ ap (needs_on input place) (sym e))
]

pub needs_read : (input : Input) (place n a : ℕ) (x : Needs) → a < n → is_on input place a ≡ true → x ≡ get_or (needs_below input place n) a x → x ≡ needs_of input a
needs_read input place n a x h on e = e ∙ (needs_there input place n a x h ∙ ap (λ b. cond b (needs_of input a) no_needs) on)

-- ---- work

pub or_right : (a b : Bool) → b ≡ true → (a || b) ≡ true
or_right true b h = refl
or_right false b h = h

-- of some and a last one
pub among_last : (x y : ℕ) (xs ys : List ℕ) → xs ≡ ys ++ y ∷ [] → is_among x xs ≡ true → (y ≡ x) ⊎ (is_among x ys ≡ true)
among_last x y xs ys e h = go ys (subst (λ zs. is_among x zs ≡ true) e h) where
  go : (ys : List ℕ) → is_among x (ys ++ y ∷ []) ≡ true → (y ≡ x) ⊎ (is_among x ys ≡ true)
  go [] h = elim (or_cases (y == x) false h) [ inl p ↦ inl (eqb-true y x p) | inr p ↦ absurd cc ]
  go (z ∷ zs) h = elim (or_cases (z == x) (is_among x (zs ++ y ∷ [])) h) [
    | inl p ↦ inr (ap (λ b. b || is_among x zs) p)
    | inr p ↦ elim (go zs p) [ inl q ↦ inl q | inr q ↦ inr (or_right (z == x) (is_among x zs) q) ]
  ]

pub among_left : (x : ℕ) (xs ys : List ℕ) → is_among x xs ≡ true → is_among x (xs ++ ys) ≡ true
among_left x [] ys h = absurd cc
among_left x (z ∷ zs) ys h = elim (or_cases (z == x) (is_among x zs) h) [
  | inl p ↦ ap (λ b. b || is_among x (zs ++ ys)) p
  | inr p ↦ or_right (z == x) (is_among x (zs ++ ys)) (among_left x zs ys p)
]

pub among_right : (x : ℕ) (xs ys : List ℕ) → is_among x ys ≡ true → is_among x (xs ++ ys) ≡ true
among_right x [] ys h = h
among_right x (z ∷ zs) ys h = or_right (z == x) (is_among x (zs ++ ys)) (among_right x zs ys h)

pub among_one : (x : ℕ) → is_among x (x ∷ []) ≡ true
among_one x = ap (λ b. b || false) (eq-eqb x x refl)

-- ---- waiting

pub keeps_waiting : (input : Input) (f g : ℕ → ℕ → List ℕ) (x : ℕ) → Keeps f g → IsWaiting input f x → IsWaiting input g x
keeps_waiting input f g x keeps w = record {
  birth = λ need e. keeps x need.0 need.1 (w.birth need e);
  prepares = λ nth need lt e. keeps x need.0 need.1 (w.prepares nth need lt e);
}

pub is_waiting : (input : Input) (f : ℕ → ℕ → List ℕ) (x : ℕ) → Waits f (needs_of input x) x → IsWaiting input f x
is_waiting input f x w = record {
  birth = λ need e. w.0 need e;
  prepares = λ nth need lt e. w.1 nth need (prepare_read input x nth None lt ∙ e);
}

-- an address is on a store only below their number
pub on_below : (input : Input) (place a : ℕ) → is_on input place a ≡ true → a < count_of input
unfolding is_on
on_below input place a on = go (slice_get input.stores place) (rows_of input) a on where
  go : (s : Option Store) (rows : List Row) (a : ℕ) → is_of s (slice_get rows a) ≡ true → a < length rows
  go None rows a h = absurd cc
  go (Some s) [] a h = absurd cc
  go (Some s) (r ∷ rs) zero h = omega arith
  go (Some s) (r ∷ rs) (suc a) h = let l = go (Some s) rs a h in omega arith
