-- A region that passes its next entry.
use Rattle.std.proofs.Common.{◌≡◌, ℕ, ◌+◌, ◌*◌, ◌≤◌, ◌||◌, not, refl, sym, ap, ◌∙◌, subst, filter, arith}
use Rattle.std.specs.Prelude.{Bool, true, false, Option, Some, None, if◌then◌else◌}
use mathlib.Core.Path.{fun_ext}
use Rattle.rs_entry.specs.declared.entry.Body.{Body}
use Rattle.rs_entry.specs.declared.entry.Body.TheVariants as body
use Rattle.rs_entry.specs.declared.entry.Entry.{Entry}
use Rattle.rs_entry.specs.declared.input.Store.{Store}
use Rattle.rs_region.specs.Verdicts.{verdict}
use Rattle.rs_region.specs.declared.verdict.Verdict.{Verdict}
use Rattle.rs_region.specs.declared.verdict.Verdict.TheVariants as verdicts
use Rattle.rs_store.specs.declared.carriers.Carriers.{Carriers}
use Rattle.rs_store.specs.declared.place_map.PlaceMap.{PlaceMap}
use Rattle.rs_store.specs.declared.regions.Made.{Made}
use Rattle.rs_store.specs.declared.regions.Regions.{Regions}
use Rattle.rs_store.specs.Carriers.{is_for}
use Rattle.rs_store.specs.Cursor.{IsCalm, MayPass, is_quiet_for}
use Rattle.rs_store.specs.Places.{Places, known}
use Rattle.rs_store.specs.Runs.{IsFormedStore, IsWithin, Moved, bare, forget, is_quiet, passes, seen}
use Rattle.rs_store.specs.Stores.{ByRegion, Merge, carried_next, first_some, goes_on, ids_of, is_accept, is_ready, merge_in, merge_of, next, own, own_next, passed, stands, stands_in, step, with_region}
use Rattle.rs_store.specs.Walks.{IsWalk}
use Rattle.rs_store.proofs.Frames.{at_it, calm_frame, calm_stands, still_before}
use Rattle.rs_store.proofs.Near.{step_leads}
use Rattle.rs_store.proofs.Verdicts.{step_passes}

or_true : (a : Bool) → (a || true) ≡ true
or_true true = refl
or_true false = refl

-- what is passed is quiet, and no merge
passed_quiet : (v : Verdict) (b : Body) → passes v b ≡ true → (is_quiet b || not (is_accept v)) ≡ true
passed_quiet verdicts.Accept body.Empty p = refl
passed_quiet verdicts.Accept (body.Write ops) p = refl
passed_quiet verdicts.Accept (body.Split side ids keys) p = absurd cc
passed_quiet verdicts.Accept (body.Prepare target) p = absurd cc
passed_quiet verdicts.Accept (body.Commit source commit carried) p = absurd cc
passed_quiet verdicts.Accept (body.Rollback commit) p = absurd cc
passed_quiet verdicts.Accept (body.Conf c) p = absurd cc
passed_quiet verdicts.Empty b p = or_true (is_quiet b)
passed_quiet verdicts.Stale b p = or_true (is_quiet b)
passed_quiet verdicts.Merging b p = or_true (is_quiet b)
passed_quiet (verdicts.Outside place) b p = or_true (is_quiet b)
passed_quiet (verdicts.BadSplit place) b p = or_true (is_quiet b)
passed_quiet verdicts.BadPeer b p = or_true (is_quiet b)
passed_quiet verdicts.BadRollback b p = absurd cc

passed_no_merge : (v : Verdict) (b : Body) → passes v b ≡ true → (if is_accept v then merge_in b else None) ≡ None
passed_no_merge verdicts.Accept body.Empty p = refl
passed_no_merge verdicts.Accept (body.Write ops) p = refl
passed_no_merge verdicts.Accept (body.Split side ids keys) p = absurd cc
passed_no_merge verdicts.Accept (body.Prepare target) p = absurd cc
passed_no_merge verdicts.Accept (body.Commit source commit carried) p = absurd cc
passed_no_merge verdicts.Accept (body.Rollback commit) p = absurd cc
passed_no_merge verdicts.Accept (body.Conf c) p = absurd cc
passed_no_merge verdicts.Empty b p = refl
passed_no_merge verdicts.Stale b p = refl
passed_no_merge verdicts.Merging b p = refl
passed_no_merge (verdicts.Outside place) b p = refl
passed_no_merge (verdicts.BadSplit place) b p = refl
passed_no_merge verdicts.BadPeer b p = refl
passed_no_merge verdicts.BadRollback b p = absurd cc

no_merge : (b : Bool) (o : Option Merge) → o ≡ None → (if b then o else None) ≡ None
no_merge true o h = h
no_merge false o h = refl

module _ (store : Store) (awaited : Places) (f : ByRegion) (id : ℕ) (may : MayPass store awaited f id) where
  line : next store (bare f) id may.made ≡ Some may.entry
  line = ap (λ o. first_some o (carried_next store (bare f) (ids_of store) id (may.made.applied + 1))) may.next

  -- the step
  pub pass_step : forget (step store (bare f) id) ≡ Moved (with_region f id (passed may.made))
  pass_step = ap forget (step_passes store f id may.made may.entry may.here line may.leaves)

  quiet : (r : Made) (e : Entry) → f id ≡ Some r → next store (bare f) id r ≡ Some e → is_quiet_for r.state e ≡ true
  quiet r e h n =
      let same : may.made ≡ r = cc (may.here, h) in
      let same_line : may.entry ≡ e = cc (line, ap (λ x. next store (bare f) id x) same, n) in
      subst (λ x. is_quiet_for x.state e ≡ true) same (subst (λ y. is_quiet_for may.made.state y ≡ true) same_line (passed_quiet (verdict may.made.state may.entry) may.entry.body may.leaves))

  -- it changes nothing for others
  pub pass_calm : IsCalm store awaited f id
  pass_calm = record {
    lone = ap (stands_in (own store id)) may.here
        ∙ no_merge (goes_on (own store id) may.made.state) (merge_of may.made.state (own_next (own store id) may.made.applied))
        (ap (merge_of may.made.state) may.next ∙ passed_no_merge (verdict may.made.state may.entry) may.entry.body may.leaves);
    quiet = quiet;
    unawaited = λ r h. let same : may.made ≡ r = cc (may.here, h) in subst (λ x. awaited id (x.applied + 1) ≡ None) same may.unawaited;
  }

  -- and the region stands before no merge then
  pub pass_lone : stands store (bare (with_region f id (passed may.made))) id ≡ None
  pass_lone =
      ap (stands_in (own store id)) (at_it f id (passed may.made))
      ∙ no_merge (goes_on (own store id) may.made.state) (merge_of may.made.state (own_next (own store id) (may.made.applied + 1))) may.lone

-- the walk after a calm step of a region that stands before no merge then
pub calm_walk : (store : Store) (awaited : PlaceMap) (regions after : Regions) (standing : Carriers) (cursor steps id : ℕ) → IsFormedStore store
    → IsWalk (record { indexed = store; awaited = awaited; regions = regions; standing = standing; cursor = cursor; steps = steps })
    → is_ready store (bare (seen regions)) id ≡ true → IsCalm store (known awaited) (seen regions) id → forget (step store (bare (seen regions)) id) ≡ Moved (seen after)
    → stands store (bare (seen after)) id ≡ None
    → IsWalk (record { indexed = store; awaited = awaited; regions = after; standing = standing; cursor = cursor; steps = steps + 1 })
calm_walk store awaited regions after standing cursor steps id formed walk ready calm went lone =
    let b : (5 + 64 * steps) + 64 ≡ 5 + 64 * (steps + 1) = omega arith in
    let five : 5 ≤ 5 + 64 * steps = omega arith in
    record {
      formed = walk.formed;
      low = subst (λ n. IsWithin n (seen after)) b (step_leads (5 + 64 * steps) five store formed (seen regions) walk.low id (seen after) went);
      before = still_before (is_ready store (bare (seen regions))) (is_ready store (bare (seen after))) (ids_of store) cursor id ready walk.before
          (calm_frame store (known awaited) walk.awaited (seen regions) (seen after) id calm ready went lone);
      standing = walk.standing
          ∙ ap (λ (s : ℕ → Option Merge). λ (q : ℕ). filter (λ (t : ℕ). is_for q (s t)) (ids_of store)) (fun_ext (λ (x : ℕ). sym
          (calm_stands store (known awaited) walk.awaited (seen regions) (seen after) id calm ready went lone x)));
      awaited = walk.awaited;
    }
