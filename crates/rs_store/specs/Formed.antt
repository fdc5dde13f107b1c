-- What the check needs of an input that is well formed.
use Rattle.std.specs.Prelude.{ℕ, ◌+◌, ◌<◌, ◌^◌, List}
use Rattle.std.specs.List.{sum_by, All}
use Rattle.rs_entry.specs.declared.entry.Entry.{Entry}
use Rattle.rs_entry.specs.declared.input.Log.{Log}
use Rattle.rs_entry.specs.declared.input.Store.{Store}
use Rattle.rs_entry.specs.declared.input.Input.{Input}
use Rattle.rs_store.specs.Indexes.{AreRising, log_ids}
use Rattle.rs_store.specs.Runs.{IsFormed}
use Rattle.rs_store.specs.Stores.{carried_in, entries_in}

-- how many entries an entry holds, with those that it carries
abbrev pub steps_of : Entry → ℕ
steps_of e = 1 + carried_in e.body

-- how many steps the entries of a log take at most
abbrev pub steps_in : Log → ℕ
steps_in log = sum_by steps_of log.entries

-- each split has as many ids as keys, and at most 64
abbrev pub IsFormedLog : Log → Type 0
IsFormedLog log = All (λ e. IsFormed e.body) log.entries

-- a store whose entries are well formed, whose logs ascend, and whose entries are fewer than 2^50
pub record IsFormedOne (store : Store) : Type 0 where
  pub logs : All IsFormedLog store.logs
  pub rising : AreRising (log_ids store)
  pub few : entries_in store < 2 ^ 50

-- each of the stores is formed
abbrev pub IsFormedStores : List Store → Type 0
IsFormedStores stores = All IsFormedOne stores

-- each store of the input is formed
abbrev pub IsFormedInput : Input → Type 0
IsFormedInput input = IsFormedStores input.stores
