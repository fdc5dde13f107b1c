-- What the verdicts say of regions and entries.
use Rattle.std.proofs.Common.{◌≡◌, ℕ, ◌+◌, refl, sym, ap, ◌∙◌, List}
use Rattle.std.specs.Prelude.{Bool, true, false, Option, Some, None, Ok, ◌&&◌, if◌then◌else◌}
use Rattle.rs_key.specs.Ranges.{Bounds, first_bad_cut, is_next_to}
use Rattle.rs_key.specs.Epochs.{fits}
use Rattle.rs_key.specs.declared.epoch.Epoch.{Epoch}
use Rattle.rs_key.specs.declared.epoch.Kind.TheVariants as kind
use Rattle.rs_entry.specs.declared.entry.Side.{Side}
use Rattle.rs_entry.specs.declared.entry.Body.{Body}
use Rattle.rs_entry.specs.declared.entry.Body.TheVariants as body
use Rattle.rs_entry.specs.declared.entry.Entry.{Entry}
use Rattle.rs_entry.specs.declared.entry.Carried.{Carried}
use Rattle.rs_entry.specs.declared.entry.CarriedBody.{CarriedBody}
use Rattle.rs_entry.specs.declared.entry.CarriedBody.TheVariants as carried
use Rattle.rs_entry.specs.declared.input.Store.{Store}
use Rattle.rs_entry.specs.declared.outcome.Mode.{Mode}
use Rattle.rs_entry.specs.declared.outcome.Mode.TheVariants as mode
use Rattle.rs_entry.specs.Entries.{body_of}
use Rattle.rs_region.specs.Verdicts.{verdict, verdict_on, fitting_verdict, split_verdict}
use Rattle.rs_region.specs.Actions.{turn_body, turned_on}
use Rattle.rs_region.specs.Reshapings.{committed}
use Rattle.rs_region.specs.declared.action.Turn.{Turn}
use Rattle.rs_region.specs.declared.action.Turn.TheVariants as turn
use Rattle.rs_region.specs.declared.state.RegionState.{RegionState}
use Rattle.rs_region.specs.declared.verdict.Verdict.{Verdict}
use Rattle.rs_region.specs.declared.verdict.Verdict.TheVariants as verdicts
use Rattle.rs_store.specs.declared.next_entry.NextEntry.{NextEntry}
use Rattle.rs_store.specs.declared.effect.Effect.{Effect}
use Rattle.rs_store.specs.declared.regions.Made.{Made}
use Rattle.rs_store.specs.declared.fault.StepFault.TheVariants as faults
use Rattle.rs_store.specs.Stores.{ByRegion, Stepped, Went, Broke, with_region, without, is_paused, own, as_merged, is_prepared_for, accept, is_accept, step_by, commit_with, next, step, step_in, step_with, passed, reshaped, merge_in, merge_of}
use Rattle.rs_store.proofs.Updates.{beside, put_over, put_two}
use Rattle.rs_store.specs.Runs.{bare, line_entry, IsFormed, passes}
use Rattle.rs_store.specs.Walks.{came, done, gained, passes_to, IsNextEntry}

no_bad_cut : (o : Option ℕ) → split_verdict o ≡ verdicts.Accept → o ≡ None
no_bad_cut None h = refl
no_bad_cut (Some place) h = absurd cc

split_in : (m : Mode) (range : Bounds) (peers : List ℕ) (side : Side) (ids : List ℕ) (keys : List (List ℕ)) → fitting_verdict m range peers (body.Split side ids keys) ≡ verdicts.Accept → first_bad_cut range keys ≡ None
split_in mode.Normal range peers side ids keys h = no_bad_cut (first_bad_cut range keys) h
split_in (mode.Merging target commit) range peers side ids keys h = absurd cc
split_in (mode.Merged target) range peers side ids keys h = no_bad_cut (first_bad_cut range keys) h
split_in mode.Removed range peers side ids keys h = no_bad_cut (first_bad_cut range keys) h

if_accept : (b : Bool) (v : Verdict) → (if b then v else verdicts.Stale) ≡ verdicts.Accept → v ≡ verdicts.Accept
if_accept true v h = h
if_accept false v h = absurd cc

pub split_good : (s : RegionState) (e : Epoch) (side : Side) (ids : List ℕ) (keys : List (List ℕ)) → verdict_on s e (body.Split side ids keys) ≡ verdicts.Accept → first_bad_cut s.range keys ≡ None
split_good s e side ids keys h = split_in s.mode s.range s.peers side ids keys (if_accept (fits kind.Split s.epoch e) (fitting_verdict s.mode s.range s.peers (body.Split side ids keys)) h)

commit_mode : (m : Mode) (range : Bounds) (peers : List ℕ) (id commit source c : ℕ) (l : List Carried) → fitting_verdict m range peers (body.Commit source c l) ≡ verdicts.Accept → is_prepared_for id commit m ≡ false
commit_mode mode.Normal range peers id commit source c l h = refl
commit_mode (mode.Merging target d) range peers id commit source c l h = absurd cc
commit_mode (mode.Merged target) range peers id commit source c l h = refl
commit_mode mode.Removed range peers id commit source c l h = refl

-- a region whose commit is accepted isn't merging itself
pub commit_good : (s : RegionState) (e : Epoch) (id commit source c : ℕ) (l : List Carried) → verdict_on s e (body.Commit source c l) ≡ verdicts.Accept → is_prepared_for id commit s.mode ≡ false
commit_good s e id commit source c l h = commit_mode s.mode s.range s.peers id commit source c l (if_accept (fits kind.Commit s.epoch e) (fitting_verdict s.mode s.range s.peers (body.Commit source c l)) h)

pub formed_carried : (b : CarriedBody) → IsFormed (body_of b)
formed_carried carried.Empty = tt
formed_carried (carried.Write ops) = tt
formed_carried (carried.Prepare target) = tt

pub accept_is : (v : Verdict) → is_accept v ≡ true → v ≡ verdicts.Accept
accept_is verdicts.Accept h = refl
accept_is verdicts.Empty h = absurd cc
accept_is verdicts.Stale h = absurd cc
accept_is verdicts.Merging h = absurd cc
accept_is (verdicts.Outside p) h = absurd cc
accept_is (verdicts.BadSplit p) h = absurd cc
accept_is verdicts.BadPeer h = absurd cc
accept_is verdicts.BadRollback h = absurd cc

-- an entry that reshaped its region is answered with the region's version
pub answer : (f g : ByRegion) (id index v w : ℕ) (t : Effect) → g ≡ f → w ≡ v → ((h : ByRegion) → gained h t ≡ done h id index w) → Went (done f id index v) ≡ came g (Ok t)
answer f g id index v w t same by e = ap Went (ap (λ h. done h id index v) (sym same) ∙ (ap (done g id index) (sym by) ∙ sym (e g)))

-- a region that is out, turned and put back
pub turns : (store : Store) (f : ByRegion) (id : ℕ) (r : Made) (t : Turn)
    → accept store (bare (with_region f id r)) id r (turn_body t) ≡ Went (done (with_region f id (reshaped r (turned_on store.id (r.applied + 1) t r.state))) id (r.applied + 1) (turned_on store.id (r.applied + 1) t r.state).epoch.version)
turns store f id r t = go t ∙ ap (λ g. Went (done g id (r.applied + 1) (turned_on store.id (r.applied + 1) t r.state).epoch.version)) (put_over f id r (reshaped r (turned_on store.id (r.applied + 1) t r.state))) where
  go : (t : Turn) → accept store (bare (with_region f id r)) id r (turn_body t)
      ≡ Went (done (with_region (with_region f id r) id (reshaped r (turned_on store.id (r.applied + 1) t r.state))) id (r.applied + 1) (turned_on store.id (r.applied + 1) t r.state).epoch.version)
  go (turn.Prepare target) = refl
  go (turn.Rollback commit) = refl
  go (turn.Conf c) = refl

module _ (f : ByRegion) (store : Store) (id source commit : ℕ) (r q : Made) (out : f id ≡ None) (there : f source ≡ Some q) where
  abbrev pub tried : Body → Stepped
  tried b = commit_with store (bare (with_region f id r)) id r b source commit (with_region f id r source)

  tried_is : (b : Body) → tried b ≡ commit_with store (bare (with_region f id r)) id r b source commit (Some q)
  tried_is b = ap (commit_with store (bare (with_region f id r)) id r b source commit) (beside f id source r q out there)

  pub not_prepared : (is_prepared_for id commit q.state.mode && is_paused (own store source) q.state) ≡ false → (b : Body) → tried b ≡ Broke (faults.NotPrepared id (r.applied + 1) source commit)
  not_prepared h b = tried_is b ∙ rw h refl

  pub not_next : (is_prepared_for id commit q.state.mode && is_paused (own store source) q.state) ≡ true → is_next_to r.state.range q.state.range ≡ false
      → (b : Body) → tried b ≡ Broke (faults.NotNext id (r.applied + 1) source commit r.state.range q.state.range)
  not_next h n b = tried_is b ∙ rw (h, n) refl

  pub joined : (is_prepared_for id commit q.state.mode && is_paused (own store source) q.state) ≡ true → is_next_to r.state.range q.state.range ≡ true
      → (b : Body) → tried b ≡ Went (done (with_region (with_region (without f source) source (as_merged q id)) id (reshaped r (committed r.state q.state))) id (r.applied + 1) (committed r.state q.state).epoch.version)
  joined h n b = tried_is b ∙ (rw (h, n) (ap (λ g. Went (done g id (r.applied + 1) (committed r.state q.state).epoch.version)) (put_two f id source r (as_merged q id) (reshaped r (committed r.state q.state)))))

-- the step of a region whose next entry is known
step_known : (store : Store) (f : ByRegion) (id : ℕ) (r : Made) (e : Entry) → f id ≡ Some r → next store (bare f) id r ≡ Some e → step store (bare f) id ≡ step_by (verdict r.state e) store (bare f) id r e
step_known store f id r e here next = ap (step_in store (bare f) id) here ∙ ap (step_with store (bare f) id r) next

pub step_is : (store : Store) (f : ByRegion) (id : ℕ) (c : NextEntry) (k : IsNextEntry store f id c) → step store (bare f) id ≡ step_by c.verdict store (bare f) id k.made (line_entry c.line)
step_is store f id c k =
    step_known store f id k.made (line_entry c.line) k.here k.next ∙ ap (λ v. step_by v store (bare f) id k.made (line_entry c.line)) (sym k.verdict)

passes_by : (v : Verdict) (b : Body) → passes v b ≡ true → (store : Store) (f : ByRegion) (id : ℕ) (r : Made) (e : Entry) → e.body ≡ b → v ≡ verdict r.state e
    → step_by v store (bare f) id r e ≡ Went (passes_to (with_region f id (passed r)) id r v b)
passes_by verdicts.Accept body.Empty p store f id r e h w = let empty : verdict_on r.state e.epoch e.body ≡ verdicts.Empty = ap (verdict_on r.state e.epoch) h in absurd cc
passes_by verdicts.Accept (body.Write ops) p store f id r e h w = ap (accept store (bare f) id r) h
passes_by verdicts.Accept (body.Split side ids keys) p store f id r e h w = absurd cc
passes_by verdicts.Accept (body.Prepare target) p store f id r e h w = absurd cc
passes_by verdicts.Accept (body.Commit source commit carried) p store f id r e h w = absurd cc
passes_by verdicts.Accept (body.Rollback commit) p store f id r e h w = absurd cc
passes_by verdicts.Accept (body.Conf c) p store f id r e h w = absurd cc
passes_by verdicts.Empty b p store f id r e h w = refl
passes_by verdicts.Stale b p store f id r e h w = refl
passes_by verdicts.Merging b p store f id r e h w = refl
passes_by (verdicts.Outside place) b p store f id r e h w = ap (λ x. Went (passes_to (with_region f id (passed r)) id r (verdicts.Outside place) x)) h
passes_by (verdicts.BadSplit place) b p store f id r e h w = refl
passes_by verdicts.BadPeer b p store f id r e h w = refl
passes_by verdicts.BadRollback b p store f id r e h w = absurd cc

-- a step of a region whose next entry leaves it as it is
pub step_passes : (store : Store) (f : ByRegion) (id : ℕ) (r : Made) (e : Entry) → f id ≡ Some r → next store (bare f) id r ≡ Some e → passes (verdict r.state e) e.body ≡ true
    → step store (bare f) id ≡ Went (passes_to (with_region f id (passed r)) id r (verdict r.state e) e.body)
step_passes store f id r e here next p = step_known store f id r e here next ∙ passes_by (verdict r.state e) e.body p store f id r e refl refl

-- an entry that is no commit has no merge
pub no_merge_of : (s : RegionState) (e : Entry) → None ≡ merge_in e.body → None ≡ merge_of s (Some e)
no_merge_of s e h = go (is_accept (verdict s e)) refl where
  go : (b : Bool) → is_accept (verdict s e) ≡ b → None ≡ merge_of s (Some e)
  go true q = rw q h
  go false q = rw q refl
