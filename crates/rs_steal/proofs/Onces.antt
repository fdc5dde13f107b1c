-- By the rule of a deque each ticket leaves once.
use Rattle.std.proofs.Common.{◌≡◌, ◌≢◌, ◌==◌, ℕ, zero, suc, ◌+◌, ◌<◌, ◌≤◌, Bool, true, false, true≢false, cond, eqb, All, List, [], ◌∷◌, ◌++◌, length, sym, refl, ap, ◌∙◌, subst, ⊎_elim, arith, eq-eqb, ne_eqb}
use Rattle.std.proofs.lemmas.Bool.{cases_eq, cases_lt}
use Rattle.std.proofs.lemmas.List.Sums.{sum_by-append}
use mathlib.Core.Option.{some}
use lib.ListN.{get_elem?}
use Rattle.rs_router.specs.Lists.{times}
use Rattle.rs_steal.specs.declared.deque_rule.DequeView.{DequeView}
use Rattle.rs_steal.specs.Rule.{kept, of, IsShared}
use Rattle.rs_steal.specs.Once.{all_popped, EachOnce}

abbrev sum_below : (ℕ → ℕ) → ℕ → ℕ
sum_below f zero = 0
sum_below f (suc n) = sum_below f n + f n

sum_same : (f g : ℕ → ℕ) (n : ℕ) → ((k : ℕ) → k < n → f k ≡ g k) → sum_below f n ≡ sum_below g n
sum_same f g zero same = refl
sum_same f g (suc n) same = let a = sum_same f g n (λ k less. same k (omega (arith, less))) in let b = same n (omega arith) in omega (arith, a, b)

sum_one : (f g : ℕ → ℕ) (s w n : ℕ) → ((k : ℕ) → s ≢ k → f k ≡ g k) → f s ≡ g s + w → s < n → sum_below f n ≡ sum_below g n + w
sum_one f g s w zero same one less = absurd (omega arith)
sum_one f g s w (suc n) same one less = ⊎_elim
    (λ is. let a = sum_same f g n (λ k below. same k (λ e. omega (arith, below, is, e))) in let b : f n ≡ g n + w = subst (λ k. f k ≡ g k + w) is one in omega (arith, a, b))
    (λ ne. let a = sum_one f g s w n same one (omega (arith, less, ne)) in let b = same n ne in omega (arith, a, b)) (cases_eq s n)

sum_first : (f : ℕ → ℕ) (n : ℕ) → sum_below f (suc n) ≡ f 0 + sum_below (λ k. f (suc k)) n
sum_first f zero = omega arith
sum_first f (suc n) = let a = sum_first f n in omega (arith, a)

sum_none : (n : ℕ) → sum_below (λ _. 0) n ≡ 0
sum_none zero = refl
sum_none (suc n) = let a = sum_none n in omega (arith, a)

abbrev is_empty : List ℕ → Type 0
is_empty [] = Unit {0}
is_empty (x ∷ xs) = ⊥

kept_none : (b : Bool) (y : ℕ) (l : List ℕ) → kept b y l ≡ [] → (b ≡ false) × (l ≡ [])
kept_none true y l e = absurd (subst is_empty (sym e) tt)
kept_none false y l e = (refl, e)

abbrev weight : ℕ → ℕ → ℕ
weight x y = cond (eqb y x) 1 0

times_more : (x y : ℕ) (l : List ℕ) → times x (y ∷ l) ≡ weight x y + times x l
times_more x y l =
    let a : times x (y ∷ l) ≡ times x (y ∷ []) + times x l = sum_by-append (λ (z : ℕ). cond (z == x) 1 0) (y ∷ []) l in
    let b : times x (y ∷ []) ≡ 0 + weight x y = refl in omega (arith, a, b)

-- a pass that took the first one is among the first n
taker_within : (n s y : ℕ) (ss ys : List ℕ) → ((p : ℕ) → n ≤ p → of p (s ∷ ss) (y ∷ ys) ≡ []) → s < n
taker_within n s y ss ys none = ⊎_elim (λ less. less) (λ over. absurd (true≢false (sym (eq-eqb s s refl) ∙ (kept_none (eqb s s) y (of s ss ys) (none s over)).0))) (cases_lt s n)

-- so is each pass that took one
pub takers_within : (n : ℕ) (ss ys : List ℕ) → length ss ≡ length ys → ((p : ℕ) → n ≤ p → of p ss ys ≡ []) → All (λ s. s < n) ss
takers_within n [] ys same none k d less = absurd (omega arith)
takers_within n (s ∷ ss) [] same none k d less = absurd (omega arith)
takers_within n (s ∷ ss) (y ∷ ys) same none zero d less = taker_within n s y ss ys none
takers_within n (s ∷ ss) (y ∷ ys) same none (suc k) d less = takers_within n ss ys (omega arith) (λ p le. (kept_none (eqb s p) y (of p ss ys) (none p le)).1) k d (omega arith)

-- one pass alone took all
pub took_all : (ss ys : List ℕ) → length ss ≡ length ys → All (λ s. s < 1) ss → of 0 ss ys ≡ ys
took_all [] [] same one = refl
took_all [] (y ∷ ys) same one = absurd (omega arith)
took_all (s ∷ ss) [] same one = absurd (omega arith)
took_all (s ∷ ss) (y ∷ ys) same one =
    let first : s ≡ 0 = let l = one 0 s (omega arith) in omega (arith, l) in
    ap (λ b. kept b y (of 0 ss ys)) (eq-eqb s 0 first) ∙ ap (λ l. y ∷ l) (took_all ss ys (omega arith) (λ k d less. one (suc k) d (omega arith)))

-- each taker took its part
parted : (x n : ℕ) (ss ys : List ℕ) → length ss ≡ length ys → ((p : ℕ) → n ≤ p → of p ss ys ≡ []) → sum_below (λ k. times x (of k ss ys)) n ≡ times x ys
parted x n [] [] e none = sum_none n
parted x n [] (y ∷ ys) e none = absurd (omega arith)
parted x n (s ∷ ss) [] e none = absurd (omega arith)
parted x n (s ∷ ss) (y ∷ ys) e none =
    let f : ℕ → ℕ = λ k. times x (kept (eqb s k) y (of k ss ys)) in let g : ℕ → ℕ = λ k. times x (of k ss ys) in
    let rest = parted x n ss ys (omega arith) (λ p le. (kept_none (eqb s p) y (of p ss ys) (none p le)).1) in
    let w : ℕ = weight x y in
    let here : f s ≡ times x (y ∷ of s ss ys) = ap (λ b. times x (kept b y (of s ss ys))) (eq-eqb s s refl) in
    let one : f s ≡ g s + w = let h = times_more x y (of s ss ys) in omega (arith, here, h) in
    let within : s < n = taker_within n s y ss ys none in
    let all = sum_one f g s w n (λ k ne. ap (λ b. times x (kept b y (of k ss ys))) (ne_eqb s k ne)) one within in
    let last = times_more x y ys in omega (arith, rest, all, last)

popped_sum : (x : ℕ) (vs : List DequeView) (h : ℕ → List ℕ) → ((p : ℕ) (v : DequeView) → get_elem? vs p ≡ some v → v.popped ≡ h p) → times x (all_popped vs) ≡ sum_below (λ k. times x (h k)) (length vs)
popped_sum x [] h each = refl
popped_sum x (v ∷ vs) h each =
    let a : times x (v.popped ++ all_popped vs) ≡ times x v.popped + times x (all_popped vs) = sum_by-append (λ (y : ℕ). cond (y == x) 1 0) v.popped (all_popped vs) in
    let b = ap (times x) (each 0 v refl) in
    let c = popped_sum x vs (λ k. h (suc k)) (λ p u e. each (suc p) u e) in
    let d = sum_first (λ k. times x (h k)) (length vs) in omega (arith, a, b, c, d)

pub each_once : (items : List ℕ) (views : List DequeView) → IsShared items views → EachOnce items views
each_once items views r v at x =
    let a = popped_sum x views (λ k. of k r.takers r.gone) (λ p u e. (r.each p u e).0) in
    let b = parted x (length views) r.takers r.gone r.tagged r.later in
    let c = ap (times x) (r.owner v at) in
    let d : times x (r.gone ++ items) ≡ times x r.gone + times x items = sum_by-append (λ (y : ℕ). cond (y == x) 1 0) r.gone items in omega (arith, a, b, c, d)
