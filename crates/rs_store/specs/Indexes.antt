-- What is kept beside a store that is run.
use Rattle.std.specs.Prelude.{◌≡◌, ℕ, ◌<◌, List, map, length, slice_index}
use Rattle.rs_entry.specs.declared.input.Log.{Log}
use Rattle.rs_entry.specs.declared.input.Store.{Store}
use Rattle.rs_store.specs.Stores.{ids_of}
use Rattle.rs_store.specs.Joiners.{joiners_of}
use Rattle.rs_store.specs.Rollbacks.{Answers, AreTrue}

-- each number is above all before it
abbrev pub AreRising : List ℕ → Type 0
AreRising xs = (j k : ℕ) → j < k → k < length xs → slice_index xs j < slice_index xs k

-- the regions of the logs, in their order
abbrev pub regions_of : List Log → List ℕ
regions_of logs = map (λ log. log.region) logs

-- the regions of the store's logs
abbrev pub log_ids : Store → List ℕ
log_ids store = regions_of store.logs

-- the ids that the store may make, and those that may join others; the regions of its logs rise; the answers about its
-- rollbacks are true
pub record IsIndexed (store : Store) (ids joiners : List ℕ) (found : Answers) : Type 0 where
  pub all_ids : ids ≡ ids_of store
  pub all_joiners : joiners ≡ joiners_of store
  pub rising : AreRising (log_ids store)
  pub answered : AreTrue store found
