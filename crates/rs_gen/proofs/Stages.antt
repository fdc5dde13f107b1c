-- A store within a round: what is made, and which region steps next.
use Rattle.std.proofs.Common.{◌≡◌, ◌∙◌, refl, ap, ℕ, zero, suc, ◌+◌, ◌<◌, ◌≤◌, arith, Bool, true, false, cond, ◌&&◌, not, inl, inr}
use Rattle.std.specs.Prelude.{None, Option, Some}
use Rattle.std.specs.List.{find, range_with_len}
use Rattle.std.proofs.lemmas.Bool.{cases_eq, cases_lt, eq-eqb, ne_eqb}
use Rattle.rs_entry.specs.declared.input.Store.{Store}
use Rattle.rs_entry.specs.declared.outcome.Mode.TheVariants as mode
use Rattle.rs_store.specs.declared.regions.Made.{Made}
use Rattle.rs_store.specs.Stores.{Applied, ByRegion, is_live, is_paused, is_ready, next, own, ready_in, ready_with, with_region}
use Rattle.rs_gen.specs.Rounds.{child}

-- a region that has been taken over
pub record IsOver (o : Option Made) : Type 0 where
  pub made : Made
  pub here : o ≡ Some made
  pub merged : made.state.mode ≡ mode.Merged 1
  pub applied : made.applied ≡ 8

-- in round t region 1 is r, and the round's region is o; those of the rounds before are over, those of later ones aren't made
pub record Stage (f : ByRegion) (t : ℕ) (r : Made) (o : Option Made) : Type 0 where
  pub main : f 1 ≡ Some r
  pub new : f (child t) ≡ o
  pub before : (u : ℕ) → u < t → IsOver (f (child u))
  pub later : (u : ℕ) → t < u → f (child u) ≡ None

-- ---- what a step leaves

put_here : (f : ByRegion) (id : ℕ) (r : Made) → with_region f id r id ≡ Some r
put_here f id r = ap (λ b. cond b (Some r) (f id)) (eq-eqb id id refl)

put_other : (f : ByRegion) (id x : ℕ) (r : Made) → (x ≡ id → ⊥) → with_region f id r x ≡ f x
put_other f id x r other = ap (λ b. cond b (Some r) (f x)) (ne_eqb x id other)

still_over : (o p : Option Made) → p ≡ o → IsOver o → IsOver p
still_over o p same over = record { made = over.made; here = same ∙ over.here; merged = over.merged; applied = over.applied }

-- region 1 changed
pub main_put : (f : ByRegion) (t : ℕ) (r s : Made) (o : Option Made) → Stage f t r o → Stage (with_region f 1 s) t s o
main_put f t r s o stage = record {
  main = refl;
  new = put_other f 1 (child t) s (λ e. omega arith) ∙ stage.new;
  before = λ u h. still_over (f (child u)) (with_region f 1 s (child u)) (put_other f 1 (child u) s (λ e. omega arith)) (stage.before u h);
  later = λ u h. put_other f 1 (child u) s (λ e. omega arith) ∙ stage.later u h;
}

-- the round's region was made, or changed
pub new_put : (f : ByRegion) (t : ℕ) (r q : Made) (o : Option Made) → Stage f t r o → Stage (with_region f (child t) q) t r (Some q)
new_put f t r q o stage = record {
  main = put_other f (child t) 1 q (λ e. omega arith) ∙ stage.main;
  new = put_here f (child t) q;
  before = λ u h. still_over (f (child u)) (with_region f (child t) q (child u)) (put_other f (child t) (child u) q (λ e. omega arith)) (stage.before u h);
  later = λ u h. put_other f (child t) (child u) q (λ e. omega arith) ∙ stage.later u h;
}

-- the round is over
pub next_round : (f : ByRegion) (t : ℕ) (r q : Made) → q.state.mode ≡ mode.Merged 1 → q.applied ≡ 8 → Stage f t r (Some q) → Stage f (suc t) r None
next_round f t r q merged applied stage = record {
  main = stage.main;
  new = stage.later (suc t) (omega arith);
  before = λ u h. elim (cases_lt u t) [
    | inl less ↦ stage.before u less
    | inr more ↦ (let same : u ≡ t = omega arith in record { made = q; here = ap (λ x. f (child x)) same ∙ stage.new; merged = merged; applied = applied })
  ];
  later = λ u h. stage.later u (omega arith);
}

-- ---- which is ready

pub over_rests : (store : Store) (g : Applied) (x : ℕ) → IsOver (g.region x) → is_ready store g x ≡ false
over_rests store g x over =
    ap (ready_in store g x) over.here
    ∙ ap (λ m. (is_live m && not (is_paused (own store x) over.made.state)) && ready_with g over.made.state (next store g x over.made)) over.merged

-- the first round whose region passes
pub find_child : (p : ℕ → Bool) (t a k : ℕ) → a ≤ t → t < a + k → ((u : ℕ) → u < t → p (child u) ≡ false) → p (child t) ≡ true → find p (range_with_len (child a) k) ≡ Some (child t)
find_child p t a zero from to before here = absurd (omega arith)
find_child p t a (suc k) from to before here = elim (cases_eq a t) [
  | inl same ↦ ap (λ b. cond b (Some (child a)) (find p (range_with_len (child a + 1) k))) (ap (λ x. p (child x)) same ∙ here) ∙ ap (λ x. Some (child x)) same
  | inr other ↦ (let next : child a + 1 ≡ child (a + 1) = omega arith in
      ap (λ b. cond b (Some (child a)) (find p (range_with_len (child a + 1) k))) (before a (omega (arith, other)))
      ∙ (ap (λ x. find p (range_with_len x k)) next ∙ find_child p t (a + 1) k (omega (arith, other)) (omega arith) before here))
]

pub none_of : (p : ℕ → Bool) (a k : ℕ) → ((u : ℕ) → u < a + k → p (child u) ≡ false) → find p (range_with_len (child a) k) ≡ None
none_of p a zero each = refl
none_of p a (suc k) each =
    let next : child a + 1 ≡ child (a + 1) = omega arith in
    ap (λ b. cond b (Some (child a)) (find p (range_with_len (child a + 1) k))) (each a (omega arith))
    ∙ (ap (λ x. find p (range_with_len x k)) next ∙ none_of p (a + 1) k (λ u h. each u (omega arith)))
