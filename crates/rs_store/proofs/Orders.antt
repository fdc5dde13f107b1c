-- The canonical order, seen by its regions alone.
use Rattle.std.proofs.Common.{◌≡◌, ℕ, ◌+◌, suc, zero, refl, ap, ◌∙◌, List, [], ◌∷◌, arith}
use Rattle.std.specs.Prelude.{Bool, true, false, Option, Some, None, ◌&&◌, if◌then◌else◌}
use Rattle.std.specs.List.{find}
use mathlib.Core.Path.{fun_ext}
use Rattle.rs_entry.specs.declared.entry.Body.{Body}
use Rattle.rs_entry.specs.declared.entry.Body.TheVariants as body
use Rattle.rs_entry.specs.declared.entry.Entry.{Entry}
use Rattle.rs_entry.specs.declared.input.Store.{Store}
use Rattle.rs_region.specs.Verdicts.{verdict}
use Rattle.rs_region.specs.declared.verdict.Verdict.{Verdict}
use Rattle.rs_region.specs.declared.verdict.Verdict.TheVariants as verdicts
use Rattle.rs_key.specs.Ranges.{is_next_to}
use Rattle.rs_store.specs.declared.regions.Made.{Made}
use Rattle.rs_store.specs.declared.fault.StepFault.{StepFault}
use Rattle.rs_store.specs.Stores.{ByRegion, Applied, Stepped, Went, Broke, own, ids_of, stands, carried_at, carried_next, first_some, next, is_ready, ready_in, ready_with, goes_on, is_paused, is_prepared_for, least_ready, accept, commit_with, step_by, step_with, step_in, step, advance, advance_by, then_advance, after}
use Rattle.rs_store.specs.Runs.{Moved, Failed, bare, forget}

-- what is read of a store's state are its regions alone

carried_same : (store : Store) (g : Applied) (ids : List ℕ) (id index : ℕ) → carried_next store g ids id index ≡ carried_next store (bare g.region) ids id index
carried_same store g [] id index = refl
carried_same store g (t ∷ ts) id index = ap (first_some (carried_at id index (stands store g t))) (carried_same store g ts id index)

pub next_same : (store : Store) (g : Applied) (id : ℕ) (r : Made) → next store g id r ≡ next store (bare g.region) id r
next_same store g id r = ap (first_some _) (carried_same store g (ids_of store) id (r.applied + 1))

pub ready_same : (store : Store) (g : Applied) (id : ℕ) → is_ready store g id ≡ is_ready store (bare g.region) id
ready_same store g id = go (g.region id) where
  go : (o : Option Made) → ready_in store g id o ≡ ready_in store (bare g.region) id o
  go None = refl
  go (Some r) = ap (λ n. goes_on (own store id) r.state && n) (with_next (next store g id r) (next store (bare g.region) id r) (next_same store g id r)) where
    with_next : (a b : Option Entry) → a ≡ b → ready_with g r.state a ≡ ready_with (bare g.region) r.state b
    with_next None None e = refl
    with_next (Some x) None e = absurd cc
    with_next None (Some x) e = absurd cc
    with_next (Some x) (Some y) e = ap (λ z. ready_with g r.state z) e

pub least_same : (store : Store) (g : Applied) → least_ready store g ≡ least_ready store (bare g.region)
least_same store g = ap (λ p. find p (ids_of store)) (fun_ext (ready_same store g))

if_same : (p n : Bool) (a b x y t u : Stepped) → forget a ≡ forget b → forget x ≡ forget y → forget t ≡ forget u
    → forget (if p then (if n then a else x) else t) ≡ forget (if p then (if n then b else y) else u)
if_same true true a b x y t u e f h = e
if_same true false a b x y t u e f h = f
if_same false n a b x y t u e f h = h

commit_same : (store : Store) (g : Applied) (id : ℕ) (r : Made) (b : Body) (source commit : ℕ) (o : Option Made)
    → forget (commit_with store g id r b source commit o) ≡ forget (commit_with store (bare g.region) id r b source commit o)
commit_same store g id r b source commit None = refl
commit_same store g id r b source commit (Some q) =
    if_same (is_prepared_for id commit q.state.mode && is_paused (own store source) q.state) (is_next_to r.state.range q.state.range) _ _ _ _ _ _ refl refl refl

accept_same : (store : Store) (g : Applied) (id : ℕ) (r : Made) (b : Body) → forget (accept store g id r b) ≡ forget (accept store (bare g.region) id r b)
accept_same store g id r body.Empty = refl
accept_same store g id r (body.Write ops) = refl
accept_same store g id r (body.Split side ids keys) = refl
accept_same store g id r (body.Prepare target) = refl
accept_same store g id r (body.Commit source commit l) = commit_same store g id r (body.Commit source commit l) source commit (g.region source)
accept_same store g id r (body.Rollback commit) = refl
accept_same store g id r (body.Conf c) = refl

by_same : (v : Verdict) (store : Store) (g : Applied) (id : ℕ) (r : Made) (e : Entry) → forget (step_by v store g id r e) ≡ forget (step_by v store (bare g.region) id r e)
by_same verdicts.Accept store g id r e = accept_same store g id r e.body
by_same verdicts.Empty store g id r e = refl
by_same verdicts.Stale store g id r e = refl
by_same verdicts.Merging store g id r e = refl
by_same (verdicts.Outside p) store g id r e = refl
by_same (verdicts.BadSplit p) store g id r e = refl
by_same verdicts.BadPeer store g id r e = refl
by_same verdicts.BadRollback store g id r e = refl

with_same : (store : Store) (g : Applied) (id : ℕ) (r : Made) (o : Option Entry) → forget (step_with store g id r o) ≡ forget (step_with store (bare g.region) id r o)
with_same store g id r None = refl
with_same store g id r (Some e) = by_same (verdict r.state e) store g id r e

step_same : (store : Store) (g : Applied) (id : ℕ) → forget (step store g id) ≡ forget (step store (bare g.region) id)
step_same store g id = go (g.region id) where
  go : (o : Option Made) → forget (step_in store g id o) ≡ forget (step_in store (bare g.region) id o)
  go None = refl
  go (Some r) = with_same store g id r (next store g id r) ∙ ap (λ o. forget (step_with store (bare g.region) id r o)) (next_same store g id r)

advance_same : (store : Store) (g : Applied) → forget (advance store g) ≡ forget (advance store (bare g.region))
advance_same store g = go (least_ready store g) ∙ ap (λ o. forget (advance_by store (bare g.region) o)) (least_same store g) where
  go : (o : Option ℕ) → forget (advance_by store g o) ≡ forget (advance_by store (bare g.region) o)
  go None = refl
  go (Some id) = step_same store g id

-- the canonical order's next step, from the regions alone
pub after_next : (store : Store) (n : ℕ) (f : ByRegion) → forget (after store n) ≡ Moved f → forget (after store (suc n)) ≡ forget (advance store (bare f))
after_next store n f h = go (after store n) h where
  go : (s : Stepped) → forget s ≡ Moved f → forget (then_advance store s) ≡ forget (advance store (bare f))
  go (Went g) h = let e : g.region ≡ f = cc in advance_same store g ∙ ap (λ z. forget (advance store (bare z))) e
  go (Broke fault) h = absurd cc

-- nothing changes once none is ready
pub rests : (store : Store) (n : ℕ) (f : ByRegion) → least_ready store (bare f) ≡ None → forget (after store n) ≡ Moved f → (k : ℕ) → forget (after store (k + n)) ≡ Moved f
rests store n f none h zero = let z : 0 + n ≡ n = omega arith in ap (λ m. forget (after store m)) z ∙ h
rests store n f none h (suc k) =
    let s : suc k + n ≡ suc (k + n) = omega arith in
    ap (λ m. forget (after store m)) s ∙ (after_next store (k + n) f (rests store n f none h k) ∙ ap (λ o. forget (advance_by store (bare f) o)) none)

-- a fault stays
pub stays : (store : Store) (n : ℕ) (x : StepFault) → forget (after store n) ≡ Failed x → (k : ℕ) → forget (after store (k + n)) ≡ Failed x
stays store n x h zero = let z : 0 + n ≡ n = omega arith in ap (λ m. forget (after store m)) z ∙ h
stays store n x h (suc k) =
    let s : suc k + n ≡ suc (k + n) = omega arith in
    ap (λ m. forget (after store m)) s ∙ go (after store (k + n)) (stays store n x h k) where
      go : (t : Stepped) → forget t ≡ Failed x → forget (then_advance store t) ≡ Failed x
      go (Went g) h = absurd cc
      go (Broke fault) h = h
