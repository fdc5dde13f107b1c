-- What a step adds to what was written and replied before.
use Rattle.std.proofs.Common.{Result, Ok, Err, ◌≡◌, ℕ, ◌+◌, suc, zero, arith, refl, sym, ap, ◌∙◌, subst, List, [], ◌++◌, append-nil}
use Rattle.std.specs.Prelude.{Bool, true, false, Option, Some, None, ◌&&◌, if◌then◌else◌, IfOk}
use Rattle.rs_key.specs.Ranges.{is_next_to}
use Rattle.rs_entry.specs.declared.entry.Body.{Body}
use Rattle.rs_entry.specs.declared.entry.Body.TheVariants as body
use Rattle.rs_entry.specs.declared.entry.Entry.{Entry}
use Rattle.rs_entry.specs.declared.input.Store.{Store}
use Rattle.rs_region.specs.Verdicts.{verdict}
use Rattle.rs_region.specs.declared.verdict.Verdict.{Verdict}
use Rattle.rs_region.specs.declared.verdict.Verdict.TheVariants as verdicts
use Rattle.rs_rows.specs.declared.no_memory.NoMemory.{NoMemory}
use Rattle.rs_store.specs.declared.regions.Made.{Made}
use Rattle.rs_store.specs.declared.walk.Advance.{Advance}
use Rattle.rs_store.specs.declared.walk.Advance.TheVariants as advances
use Rattle.rs_store.specs.declared.fault.StepFault.{StepFault}
use Rattle.rs_store.specs.Stores.{ByRegion, Applied, Stepped, Went, Broke, Wrote, Replied, own, is_paused, is_prepared_for, next, accept, commit_with, step_by, step_with, step_in, step, least_ready, advance_by, advance, then_advance, after}
use Rattle.rs_store.specs.Runs.{bare}
use Rattle.rs_store.specs.declared.carriers.Carriers.{Carriers}
use Rattle.rs_store.specs.declared.place_map.PlaceMap.{PlaceMap}
use Rattle.rs_store.specs.declared.regions.Regions.{Regions}
use Rattle.rs_store.specs.declared.walk.Walk.{Walk}
use Rattle.rs_store.specs.Walks.{Goes, IsWalk, Leads, made_by, store_of}
use Rattle.rs_store.proofs.Orders.{next_same, least_same}

-- a step, on top of these writes and replies
abbrev pub onto : List Wrote → List Replied → Stepped → Stepped
onto ws rs (Went h) = Went (record { region = h.region; writes = ws ++ h.writes; replies = rs ++ h.replies })
onto ws rs (Broke fault) = Broke fault

if_onto : (p n : Bool) (ws : List Wrote) (rs : List Replied) (g h : Applied) (x y : StepFault) → Went g ≡ onto ws rs (Went h)
    → (if p then (if n then Went g else Broke x) else Broke y) ≡ onto ws rs (if p then (if n then Went h else Broke x) else Broke y)
if_onto true true ws rs g h x y e = e
if_onto true false ws rs g h x y e = refl
if_onto false n ws rs g h x y e = refl

module _ (store : Store) (g : Applied) where
  nothing_onto : Went g ≡ onto g.writes g.replies (Went (bare g.region))
  nothing_onto =
      ap (λ ws. Went (record { region = g.region; writes = ws; replies = g.replies })) (sym (append-nil g.writes))
      ∙ ap (λ rs. Went (record { region = g.region; writes = g.writes ++ []; replies = rs })) (sym (append-nil g.replies))

  commit_onto : (id : ℕ) (r : Made) (b : Body) (source commit : ℕ) (o : Option Made)
      → commit_with store g id r b source commit o ≡ onto g.writes g.replies (commit_with store (bare g.region) id r b source commit o)
  commit_onto id r b source commit None = refl
  commit_onto id r b source commit (Some q) =
      if_onto (is_prepared_for id commit q.state.mode && is_paused (own store source) q.state) (is_next_to r.state.range q.state.range) g.writes g.replies _ _ _ _ refl

  accept_onto : (id : ℕ) (r : Made) (b : Body) → accept store g id r b ≡ onto g.writes g.replies (accept store (bare g.region) id r b)
  accept_onto id r body.Empty = refl
  accept_onto id r (body.Write ops) = refl
  accept_onto id r (body.Split side ids keys) = refl
  accept_onto id r (body.Prepare target) = refl
  accept_onto id r (body.Commit source commit l) = commit_onto id r (body.Commit source commit l) source commit (g.region source)
  accept_onto id r (body.Rollback commit) = refl
  accept_onto id r (body.Conf c) = refl

  by_onto : (v : Verdict) (id : ℕ) (r : Made) (e : Entry) → step_by v store g id r e ≡ onto g.writes g.replies (step_by v store (bare g.region) id r e)
  by_onto verdicts.Accept id r e = accept_onto id r e.body
  by_onto verdicts.Empty id r e = refl
  by_onto verdicts.Stale id r e = refl
  by_onto verdicts.Merging id r e = refl
  by_onto (verdicts.Outside place) id r e = refl
  by_onto (verdicts.BadSplit place) id r e = refl
  by_onto verdicts.BadPeer id r e = refl
  by_onto verdicts.BadRollback id r e = refl

  with_onto : (id : ℕ) (r : Made) (o : Option Entry) → step_with store g id r o ≡ onto g.writes g.replies (step_with store (bare g.region) id r o)
  with_onto id r None = nothing_onto
  with_onto id r (Some e) = by_onto (verdict r.state e) id r e

  pub step_onto : (id : ℕ) → step store g id ≡ onto g.writes g.replies (step store (bare g.region) id)
  step_onto id = go (g.region id) where
    go : (o : Option Made) → step_in store g id o ≡ onto g.writes g.replies (step_in store (bare g.region) id o)
    go None = nothing_onto
    go (Some r) = with_onto id r (next store g id r) ∙ ap (λ o. onto g.writes g.replies (step_with store (bare g.region) id r o)) (next_same store g id r)

  pub advance_onto : advance store g ≡ onto g.writes g.replies (advance store (bare g.region))
  advance_onto = go (least_ready store g) ∙ ap (λ o. onto g.writes g.replies (advance_by store (bare g.region) o)) (least_same store g) where
    go : (o : Option ℕ) → advance_by store g o ≡ onto g.writes g.replies (advance_by store (bare g.region) o)
    go None = nothing_onto
    go (Some id) = step_onto id

-- the canonical order one step on, from the regions alone
pub after_on : (store : Store) (n : ℕ) (g : Applied) → after store n ≡ Went g → after store (suc n) ≡ onto g.writes g.replies (advance store (bare g.region))
after_on store n g h = ap (then_advance store) h ∙ advance_onto store g

-- nothing at all changes once none is ready
pub rests_whole : (store : Store) (n : ℕ) (g : Applied) → after store n ≡ Went g → least_ready store (bare g.region) ≡ None → (k : ℕ) → after store (k + n) ≡ Went g
rests_whole store n g h none zero = let z : 0 + n ≡ n = omega arith in ap (after store) z ∙ h
rests_whole store n g h none (suc k) =
    let s : suc k + n ≡ suc (k + n) = omega arith in
    ap (after store) s ∙ (ap (then_advance store) (rests_whole store n g h none k) ∙ ap (advance_by store g) (least_same store g ∙ none))

-- a fault stays
pub breaks_whole : (store : Store) (n : ℕ) (x : StepFault) → after store n ≡ Broke x → (k : ℕ) → after store (k + n) ≡ Broke x
breaks_whole store n x h zero = let z : 0 + n ≡ n = omega arith in ap (after store) z ∙ h
breaks_whole store n x h (suc k) =
    let s : suc k + n ≡ suc (k + n) = omega arith in
    ap (after store) s ∙ ap (then_advance store) (breaks_whole store n x h k)

-- the step of the least region that is ready is the advance
pub advance_is : (store : Store) (f g : ByRegion) (id : ℕ) → Some id ≡ least_ready store (bare f) → g ≡ f → advance store (bare f) ≡ step store (bare g) id
advance_is store f g id least same = ap (advance_by store (bare f)) (sym least) ∙ ap (λ k. step store (bare k) id) (sym same)

-- a walk over a store that is known under another name
pub walk_over : (s t : Store) (awaited : PlaceMap) (regions : Regions) (standing : Carriers) (cursor steps : ℕ) → s ≡ t
    → IsWalk (record { indexed = t; awaited = awaited; regions = regions; standing = standing; cursor = cursor; steps = steps })
    → IsWalk (record { indexed = s; awaited = awaited; regions = regions; standing = standing; cursor = cursor; steps = steps })
walk_over s t awaited regions standing cursor steps same walk =
    subst (λ (x : Store). IsWalk (record { indexed = x; awaited = awaited; regions = regions; standing = standing; cursor = cursor; steps = steps })) (sym same) walk

-- where the advance is this step, it leads where the step goes
pub goes_leads : (store : Store) (old new : ByRegion) (s : Stepped) → advance store (bare old) ≡ s → (r : Result Advance NoMemory) → IfOk r (λ a. Goes s new a) → IfOk r (λ a. Leads store old new a)
goes_leads store old new s is (Ok (advances.Took t)) goes = is ∙ goes
goes_leads store old new s is (Ok advances.Rests) goes = absurd goes
goes_leads store old new s is (Ok (advances.Broke fault)) goes = is ∙ goes
goes_leads store old new s is (Err e) goes = tt

-- equal walks take the same step
pub same_step : {v w : Walk} (id : ℕ) → v ≡ w → step (store_of v) (bare (made_by v)) id ≡ step (store_of w) (bare (made_by w)) id
same_step {v = v} {w = w} id e = ap (λ (u : Walk). step (store_of u) (bare (made_by u)) id) e
