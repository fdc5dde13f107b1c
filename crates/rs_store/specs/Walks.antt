-- A walk through the orders of a store.
use Rattle.std.specs.Prelude.{ℕ, List, [], ◌∷◌, ◌+◌, ◌*◌, ◌<◌, ◌≡◌, false, map, length, slice_index, Some, None, Result, Ok, Err, option_to_list}
use Rattle.rs_entry.specs.declared.input.Store.{Store}
use Rattle.rs_entry.specs.declared.outcome.Reply.TheVariants as reply
use Rattle.rs_entry.specs.declared.entry.Body.{Body}
use Rattle.rs_entry.specs.declared.entry.Op.{Op}
use Rattle.rs_region.specs.Verdicts.{verdict}
use Rattle.rs_region.specs.declared.verdict.Verdict.{Verdict}
use Rattle.rs_region.specs.declared.verdict.Verdict.TheVariants as verdicts
use Rattle.rs_store.specs.declared.regions.Made.{Made}
use Rattle.rs_store.specs.declared.next_entry.NextEntry.{NextEntry}
use Rattle.rs_store.specs.declared.effect.Effect.{Effect}
use Rattle.rs_store.specs.declared.fault.StepFault.{StepFault}
use Rattle.rs_store.specs.declared.walk.Walk.{Walk}
use Rattle.rs_store.specs.declared.walk.Advance.{Advance}
use Rattle.rs_store.specs.declared.walk.Advance.TheVariants as advances
use Rattle.rs_store.specs.Stores.{ByRegion, Applied, Stepped, Went, Broke, ids_of, ops_in, reply_to, wrote, replied, next, is_ready, least_ready, advance}
use Rattle.rs_store.specs.Runs.{seen, bare, line_entry, IsFormed, IsWithin}
use Rattle.rs_store.specs.Places.{known}
use Rattle.rs_store.specs.Carriers.{carriers, standing_for}
use Rattle.rs_store.specs.Cursor.{HasMerges}
use Rattle.rs_store.specs.Formed.{IsFormedOne}

-- ---- what an entry does beside the regions

-- these regions, with what the entry wrote and its reply, and nothing before
abbrev pub gained : ByRegion → Effect → Applied
gained f t = record { region = f; writes = map (wrote t.region t.index) t.ops.now; replies = replied t.region t.index (option_to_list t.reply) }

-- these regions, with the reply to an accepted entry that wrote nothing, and nothing before
abbrev pub done : ByRegion → ℕ → ℕ → ℕ → Applied
done f region index version = record { region = f; writes = []; replies = replied region index (reply.Done version ∷ []) }

-- what an entry with this verdict writes
abbrev pub written : Verdict → Body → List Op
written verdicts.Accept b = ops_in b
written v b = []

-- these regions, with what an entry of r writes that leaves the region as it is, and its reply
abbrev pub passes_to : ByRegion → ℕ → Made → Verdict → Body → Applied
passes_to f id r v b = record { region = f; writes = map (wrote id (r.applied + 1)) (written v b); replies = replied id (r.applied + 1) (reply_to v b r.state) }

-- what a step came to: these regions with the effect, or the fault
abbrev pub came : ByRegion → Result Effect StepFault → Stepped
came f (Ok t) = Went (gained f t)
came f (Err fault) = Broke fault

-- the entry that the region applies next, and what becomes of it
pub record IsNextEntry (store : Store) (f : ByRegion) (id : ℕ) (c : NextEntry) : Type 0 where
  pub made : Made
  pub here : f id ≡ Some made
  pub next : next store (bare f) id made ≡ Some (line_entry c.line)
  pub verdict : c.verdict ≡ verdict made.state (line_entry c.line)
  pub formed : IsFormed (line_entry c.line).body

-- ---- the walk

-- the store that is walked
abbrev pub store_of : Walk → Store
store_of w = w.indexed

-- the regions that were made so far
abbrev pub made_by : Walk → ByRegion
made_by w = seen w.regions

-- how many steps were taken
abbrev pub taken : Walk → ℕ
taken w = w.steps

-- what a walk keeps: its store is formed, its numbers are small, none before the cursor is ready, and who stands before a merge is known
pub record IsWalk (w : Walk) : Type 0 where
  pub formed : IsFormedOne (store_of w)
  pub low : IsWithin (5 + 64 * w.steps) (made_by w)
  pub before : (k : ℕ) → k < w.cursor → k < length (ids_of (store_of w)) → is_ready (store_of w) (bare (made_by w)) (slice_index (ids_of (store_of w)) k) ≡ false
  pub standing : carriers w.standing ≡ standing_for (store_of w) (bare (made_by w)) (ids_of (store_of w))
  pub awaited : HasMerges (store_of w) (known w.awaited)

-- the walk after an advance that took a step
pub record IsOneOn (old new : Walk) : Type 0 where
  pub walk : IsWalk new
  pub store : store_of new ≡ store_of old
  pub taken : taken new ≡ taken old + 1

-- the walk after an advance; after a fault no more is known of it than its store
abbrev pub Keeps : Walk → Walk → Advance → Type 0
Keeps old new (advances.Took t) = IsOneOn old new
Keeps old new advances.Rests = new ≡ old
Keeps old new (advances.Broke fault) = store_of new ≡ store_of old

-- what a step leads to
abbrev pub Goes : Stepped → ByRegion → Advance → Type 0
Goes step new (advances.Took t) = step ≡ Went (gained new t)
Goes step new advances.Rests = ⊥
Goes step new (advances.Broke fault) = step ≡ Broke fault

-- what an advance over these regions leads to
abbrev pub Leads : Store → ByRegion → ByRegion → Advance → Type 0
Leads store old new advances.Rests = least_ready store (bare old) ≡ None
Leads store old new a = Goes (advance store (bare old)) new a
