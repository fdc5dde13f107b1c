-- One store that applies its logs, one entry at a time.
use Rattle.std.specs.Prelude.{ℕ, zero, suc, ◌+◌, ◌-◌, ◌==◌, ltb, leb, Bool, true, false, not, ◌&&◌, List, [], ◌∷◌, ◌++◌, map, Option, Some, None, if◌then◌else◌, slice_get, length, drop}
use Rattle.std.specs.List.{list_any, find, flat_map, sum_by}
use Rattle.rs_key.specs.Ranges.{is_next_to}
use Rattle.rs_key.specs.Epochs.{fits}
use Rattle.rs_key.specs.declared.epoch.Epoch.{Epoch}
use Rattle.rs_entry.specs.declared.entry.Op.{Op}
use Rattle.rs_entry.specs.declared.entry.Op.TheVariants as op
use Rattle.rs_entry.specs.declared.entry.Change.{Change}
use Rattle.rs_entry.specs.declared.entry.Body.{Body}
use Rattle.rs_entry.specs.declared.entry.Body.TheVariants as body
use Rattle.rs_entry.specs.declared.entry.Entry.{Entry}
use Rattle.rs_entry.specs.declared.entry.Carried.{Carried}
use Rattle.rs_entry.specs.declared.input.Log.{Log}
use Rattle.rs_entry.specs.declared.input.Store.{Store}
use Rattle.rs_entry.specs.declared.outcome.Mode.{Mode}
use Rattle.rs_entry.specs.declared.outcome.Mode.TheVariants as mode
use Rattle.rs_entry.specs.declared.outcome.Reply.{Reply}
use Rattle.rs_entry.specs.declared.outcome.Reply.TheVariants as reply
use Rattle.rs_entry.specs.Entries.{key_of, entry_of, carried_of}
pub use Rattle.rs_region.specs.Actions.{is_removal_of}
use Rattle.rs_region.specs.Verdicts.{kind_of, verdict}
use Rattle.rs_region.specs.Reshapings.{boot, split_kept, split_new, prepared, rolled_back, committed, merged_into, reconfigured, removed}
use Rattle.rs_region.specs.declared.state.RegionState.{RegionState}
use Rattle.rs_region.specs.declared.verdict.Verdict.{Verdict}
use Rattle.rs_region.specs.declared.verdict.Verdict.TheVariants as verdicts
use Rattle.rs_store.specs.declared.regions.Made.{Made}
use Rattle.rs_store.specs.declared.regions.Origin.{Origin}
use Rattle.rs_store.specs.declared.regions.Origin.TheVariants as origins
use Rattle.rs_store.specs.declared.fault.StepFault.{StepFault}
use Rattle.rs_store.specs.declared.fault.StepFault.TheVariants as faults

-- ---- logs

-- the entries of the log; none if there is no log
abbrev pub entries_of : Option Log → List Entry
entries_of None = []
entries_of (Some log) = log.entries

-- a store's own entries of a region
abbrev pub own : Store → ℕ → List Entry
own store region = entries_of (find (λ log. log.region == region) store.logs)

-- the ids of the new regions that the body makes
abbrev pub ids_in : Body → List ℕ
ids_in (body.Split side ids keys) = ids
ids_in b = []

-- a list of numbers in rising order, each once
abbrev pub insert_id : ℕ → List ℕ → List ℕ
insert_id x [] = x ∷ []
insert_id x (y ∷ ys) = if x == y then y ∷ ys else (if ltb x y then x ∷ y ∷ ys else y ∷ insert_id x ys)

-- the ascending ids with more of them inserted
abbrev pub add_all : List ℕ → List ℕ → List ℕ
add_all done [] = done
add_all done (x ∷ xs) = add_all (insert_id x done) xs

-- the ids of the new regions that the log's splits make
abbrev pub ids_in_log : Log → List ℕ
ids_in_log log = flat_map (λ e. ids_in e.body) log.entries

-- the regions that a store may have: its bootstrap regions and those that a split of its logs names
abbrev pub ids_of : Store → List ℕ
ids_of store = add_all (add_all [] (map (λ b. b.region) store.regions)) (flat_map ids_in_log store.logs)

-- ---- regions

-- the regions made, by id
abbrev pub ByRegion : Type 0
ByRegion = ℕ → Option Made

-- an accepted write: the entry of the region, the key, and its value; none where the key was deleted
pub record Wrote : Type 0 where
  pub region : ℕ
  pub index : ℕ
  pub key : List ℕ
  pub value : Option (List ℕ)

-- a reply to the entry of the region at the index
pub record Replied : Type 0 where
  pub region : ℕ
  pub index : ℕ
  pub reply : Reply

-- the regions made, by id, and the accepted writes and the replies of the whole store
pub record Applied : Type 0 where
  pub region : ByRegion
  pub writes : List Wrote
  pub replies : List Replied

-- the regions with another state of this one
abbrev pub with_region : ByRegion → ℕ → Made → ByRegion
with_region f id r x = if x == id then Some r else f x

-- the regions without this one
abbrev pub without : ByRegion → ℕ → ByRegion
without f id x = if x == id then None else f x

-- no region was made
abbrev pub no_regions : ByRegion
no_regions x = None

-- a region that has applied nothing yet
abbrev pub born : RegionState → Origin → Made
born s origin = record { state = s; applied = 5; origin = origin; reshapings = [] }

-- the regions with new ones of this origin
abbrev pub with_regions : ByRegion → List RegionState → Origin → ByRegion
with_regions f [] origin = f
with_regions f (s ∷ ss) origin =
    with_region (with_regions f ss origin) s.region (born s origin)

-- the store before its first step: its boot regions alone
abbrev pub opening : Store → Applied
opening store =
    record { region = with_regions no_regions (map (λ b. boot b.region b.range b.peers) store.regions) origins.Boot; writes = []; replies = [] }

-- ---- merges that wait

-- a rollback of the prepare at commit, past it, that the region's epoch lets through
abbrev pub is_rollback_of : ℕ → Body → Bool
is_rollback_of commit (body.Rollback c) = c == commit
is_rollback_of commit b = false

-- the entry lies behind the prepare, rolls it back and fits the epoch
abbrev pub is_fitting : ℕ → Epoch → Entry → Bool
is_fitting commit epoch e = ltb commit e.index && (is_rollback_of commit e.body && fits (kind_of e.body) epoch e.epoch)

-- a region that is Merging goes on only where its own log on this store holds a fitting rollback past the commit
abbrev pub is_paused_in : List Entry → Epoch → Mode → Bool
is_paused_in log epoch (mode.Merging target commit) = not (list_any (is_fitting commit epoch) (drop (commit - 5) log))
is_paused_in log epoch m = false

-- the region has prepared a merge, and its log has no fitting rollback
abbrev pub is_paused : List Entry → RegionState → Bool
is_paused log s = is_paused_in log s.epoch s.mode

-- its range is still its own
abbrev pub is_unmerged : Mode → Bool
is_unmerged (mode.Merged target) = false
is_unmerged m = true

-- neither merged nor removed
abbrev pub is_live : Mode → Bool
is_live (mode.Merged target) = false
is_live mode.Removed = false
is_live m = true

-- live, and not paused
abbrev pub goes_on : List Entry → RegionState → Bool
goes_on log s = is_live s.mode && not (is_paused log s)

-- the merge that a region stands before, with the entries that its commit carries
pub record Merge : Type 0 where
  pub source : ℕ
  pub commit : ℕ
  pub carried : List Carried

-- the merge that the body commits
abbrev pub merge_in : Body → Option Merge
merge_in (body.Commit source commit carried) = Some (record { source = source; commit = commit; carried = carried })
merge_in b = None

-- the entry is accepted
abbrev pub is_accept : Verdict → Bool
is_accept verdicts.Accept = true
is_accept v = false

-- the merge of an accepted commit
abbrev pub merge_of : RegionState → Option Entry → Option Merge
merge_of s None = None
merge_of s (Some e) = if is_accept (verdict s e) then merge_in e.body else None

-- the entry of a log that follows the applied index
abbrev pub own_next : List Entry → ℕ → Option Entry
own_next log applied = slice_get log (applied - 5)

-- the merge at which the region stands next, by its own log
abbrev pub stands_in : List Entry → Option Made → Option Merge
stands_in log None = None
stands_in log (Some r) = if goes_on log r.state then merge_of r.state (own_next log r.applied) else None

-- the merge that a region stands before. Only an entry of the store's own log can be a commit
abbrev pub stands : Store → Applied → ℕ → Option Merge
stands store g id = stands_in (own store id) (g.region id)

-- the carried entry as an entry, if there is one
abbrev pub entry_at : Option Carried → Option Entry
entry_at None = None
entry_at (Some c) = Some (entry_of c)

-- an entry that a merge carries for a region at an index
abbrev pub carried_at : ℕ → ℕ → Option Merge → Option Entry
carried_at id index None = None
carried_at id index (Some m) =
    if m.source == id then entry_at (find (λ c. c.index == index) m.carried) else None

-- the first of the two that is there
abbrev pub first_some : {A : Type 0} → Option A → Option A → Option A
first_some None b = b
first_some (Some a) b = Some a

-- the entry that the first merge that is stood before carries for a region at an index
abbrev pub carried_next : Store → Applied → List ℕ → ℕ → ℕ → Option Entry
carried_next store g [] id index = None
carried_next store g (t ∷ ts) id index =
    first_some (carried_at id index (stands store g t)) (carried_next store g ts id index)

-- a region's next entry, if it has one: that of the store's own log, else one that is carried
abbrev pub next : Store → Applied → ℕ → Made → Option Entry
next store g id r =
    first_some (own_next (own store id) r.applied) (carried_next store g (ids_of store) id (r.applied + 1))

-- ---- ready

-- the region was made and has applied the commit's index
abbrev pub has_applied : ℕ → Option Made → Bool
has_applied commit None = false
has_applied commit (Some r) = leb commit r.applied

-- the source of the merge has applied the entries that the commit needs
abbrev pub source_is_there : Applied → Option Merge → Bool
source_is_there g None = true
source_is_there g (Some m) = has_applied m.commit (g.region m.source)

-- the region has a next entry, and the source that it needs is there
abbrev pub ready_with : Applied → RegionState → Option Entry → Bool
ready_with g s None = false
ready_with g s (Some e) = source_is_there g (merge_of s (Some e))

-- the region was made, goes on and has its next entry ready
abbrev pub ready_in : Store → Applied → ℕ → Option Made → Bool
ready_in store g id None = false
ready_in store g id (Some r) = goes_on (own store id) r.state && ready_with g r.state (next store g id r)

-- the region can take its next step
abbrev pub is_ready : Store → Applied → ℕ → Bool
is_ready store g id = ready_in store g id (g.region id)

-- ---- one step

-- what a step gives: the store after it, or the fault of the law that it breaks
pub data Stepped : Type 0 where
  Went : Applied → Stepped
  Broke : StepFault → Stepped

-- what the operation at the region and the index wrote
abbrev pub wrote : ℕ → ℕ → Op → Wrote
wrote region index (op.Put k v) = record { region = region; index = index; key = k; value = Some v }
wrote region index (op.Delete k) = record { region = region; index = index; key = k; value = None }

-- the operations of a write
abbrev pub ops_in : Body → List Op
ops_in (body.Write ops) = ops
ops_in b = []

-- the reply to an operation whose key is outside the region's range
abbrev pub keys_at : Option Op → List Reply
keys_at None = []
keys_at (Some o) = reply.Outside (key_of o) ∷ []

-- the target of a prepared merge, 0 in another mode
abbrev pub target_in : Mode → ℕ
target_in (mode.Merging target commit) = target
target_in m = 0

-- the reply to an entry by its verdict, where the state is that after the entry
abbrev pub reply_to : Verdict → Body → RegionState → List Reply
reply_to verdicts.Empty b s = reply.Empty ∷ []
reply_to verdicts.Stale b s = reply.Stale s.epoch ∷ []
reply_to verdicts.Merging b s = reply.Merging (target_in s.mode) ∷ []
reply_to (verdicts.Outside place) b s = keys_at (slice_get (ops_in b) (place - 1))
reply_to (verdicts.BadSplit place) b s = reply.BadSplit place ∷ []
reply_to verdicts.BadPeer b s = reply.BadPeer ∷ []
reply_to verdicts.BadRollback b s = []
reply_to verdicts.Accept b s = reply.Done s.epoch.version ∷ []

-- the replies of the entry, each with its region and index
abbrev pub replied : ℕ → ℕ → List Reply → List Replied
replied region index replies = map (λ y. record { region = region; index = index; reply = y }) replies

-- the body of an entry that, where it is accepted, changes its region's state
abbrev pub is_reshaping : Body → Bool
is_reshaping body.Empty = false
is_reshaping (body.Write ops) = false
is_reshaping (body.Split side ids keys) = true
is_reshaping (body.Prepare target) = true
is_reshaping (body.Commit source commit carried) = true
is_reshaping (body.Rollback commit) = true
is_reshaping (body.Conf c) = true

-- a region that has applied one entry more, its state as it was
abbrev pub passed : Made → Made
passed r = record { state = r.state; applied = r.applied + 1; origin = r.origin; reshapings = r.reshapings }

-- a region that has applied one entry more, which left it in this state
abbrev pub reshaped : Made → RegionState → Made
reshaped r s = record { state = s; applied = r.applied + 1; origin = r.origin; reshapings = r.reshapings ++ (r.applied + 1) ∷ [] }

-- the region is now so, after an entry with this body and verdict, which wrote these
abbrev pub moved : Applied → ℕ → Made → Verdict → Body → List Wrote → Applied
moved g id r v b new = record {
  region = with_region g.region id r;
  writes = g.writes ++ new;
  replies = g.replies ++ replied id r.applied (reply_to v b r.state);
}

-- the store with new regions of this origin
abbrev pub with_new : Applied → List RegionState → Origin → Applied
with_new g new origin = record { region = with_regions g.region new origin; writes = g.writes; replies = g.replies }

-- the mode is that of a source that prepared this merge
abbrev pub is_prepared_for : ℕ → ℕ → Mode → Bool
is_prepared_for target commit (mode.Merging t c) = (t == target) && (c == commit)
is_prepared_for target commit m = false

-- the source after it was merged into the target
abbrev pub as_merged : Made → ℕ → Made
as_merged q target = record { state = merged_into q.state target; applied = q.applied; origin = q.origin; reshapings = q.reshapings }

-- the store after the source was merged into the target
abbrev pub with_merged : Applied → ℕ → Made → ℕ → Applied
with_merged g source q target = record { region = with_region g.region source (as_merged q target); writes = g.writes; replies = g.replies }

-- a commit needs a source that is paused since this prepare for this target, and next to it
abbrev pub commit_with : Store → Applied → ℕ → Made → Body → ℕ → ℕ → Option Made → Stepped
commit_with store g id r b source commit None = Broke (faults.NotPrepared id (r.applied + 1) source commit)
commit_with store g id r b source commit (Some q) =
    if is_prepared_for id commit q.state.mode && is_paused (own store source) q.state
    then (if is_next_to r.state.range q.state.range
    then Went (moved (with_merged g source q id) id (reshaped r (committed r.state q.state)) verdicts.Accept b [])
    else Broke (faults.NotNext id (r.applied + 1) source commit r.state.range q.state.range))
    else Broke (faults.NotPrepared id (r.applied + 1) source commit)

-- the state on a store after a change of peers
abbrev pub conf_changed : ℕ → RegionState → Change → RegionState
conf_changed store s c = if is_removal_of store c then removed (reconfigured s c) else reconfigured s c

-- the step of an entry that is accepted
abbrev pub accept : Store → Applied → ℕ → Made → Body → Stepped
accept store g id r body.Empty = Went (moved g id (passed r) verdicts.Empty body.Empty [])
accept store g id r (body.Write ops) = Went (moved g id (passed r) verdicts.Accept (body.Write ops) (map (wrote id (r.applied + 1)) ops))
accept store g id r (body.Split side ids keys) =
    Went (with_new (moved g id (reshaped r (split_kept r.state side keys)) verdicts.Accept (body.Split side ids keys) [])
    (split_new r.state side ids keys) (origins.Split id (r.applied + 1)))
accept store g id r (body.Prepare target) =
    Went (moved g id (reshaped r (prepared r.state target (r.applied + 1))) verdicts.Accept (body.Prepare target) [])
accept store g id r (body.Commit source commit carried) = commit_with store g id r (body.Commit source commit carried) source commit (g.region source)
accept store g id r (body.Rollback commit) = Went (moved g id (reshaped r (rolled_back r.state)) verdicts.Accept (body.Rollback commit) [])
accept store g id r (body.Conf c) = Went (moved g id (reshaped r (conf_changed store.id r.state c)) verdicts.Accept (body.Conf c) [])

-- the index of the prepare that the body rolls back
abbrev pub commit_in : Body → ℕ
commit_in (body.Rollback c) = c
commit_in b = 0

-- the step of an entry by its verdict
abbrev pub step_by : Verdict → Store → Applied → ℕ → Made → Entry → Stepped
step_by verdicts.Accept store g id r e = accept store g id r e.body
step_by verdicts.BadRollback store g id r e = Broke (faults.BadRollback id (r.applied + 1) (commit_in e.body) r.state.mode)
step_by v store g id r e = Went (moved g id (passed r) v e.body [])

-- the step of the region with its next entry; none if it has no next entry
abbrev pub step_with : Store → Applied → ℕ → Made → Option Entry → Stepped
step_with store g id r None = Went g
step_with store g id r (Some e) = step_by (verdict r.state e) store g id r e

-- the step of the region, if it was made
abbrev pub step_in : Store → Applied → ℕ → Option Made → Stepped
step_in store g id None = Went g
step_in store g id (Some r) = step_with store g id r (next store g id r)

-- a region's next entry, applied. Of a region that isn't ready nothing is said
abbrev pub step : Store → Applied → ℕ → Stepped
step store g id = step_in store g id (g.region id)

-- ---- orders

-- the least region that is ready
abbrev pub least_ready : Store → Applied → Option ℕ
least_ready store g = find (is_ready store g) (ids_of store)

-- the step of the region, if there is one that is ready
abbrev pub advance_by : Store → Applied → Option ℕ → Stepped
advance_by store g None = Went g
advance_by store g (Some id) = step store g id

-- the least region that is ready takes its next entry; where none is, nothing changes
abbrev pub advance : Store → Applied → Stepped
advance store g = advance_by store g (least_ready store g)

-- one step more after a step that broke no law
abbrev pub then_advance : Store → Stepped → Stepped
then_advance store (Went g) = advance store g
then_advance store (Broke fault) = Broke fault

-- the canonical order's first n steps
abbrev pub after : Store → ℕ → Stepped
after store zero = Went (opening store)
after store (suc n) = then_advance store (after store n)

-- how many entries a body carries
abbrev pub carried_in : Body → ℕ
carried_in b = length (carried_of b)

-- how many entries the store's logs hold, the carried ones too: no order has more steps
abbrev pub entries_in : Store → ℕ
entries_in store = sum_by (λ log. sum_by (λ e. 1 + carried_in e.body) log.entries) store.logs

-- the end of the canonical order
abbrev pub last : Store → Stepped
last store = after store (entries_in store)
