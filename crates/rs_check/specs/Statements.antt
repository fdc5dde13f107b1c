-- What an input states, and the first statement that differs from an earlier one about the same.
use Rattle.std.specs.Prelude.{ℕ, ◌==◌, ◌&&◌, Bool, false, List, [], ◌∷◌, ◌++◌, map, Option, Some, None, if◌then◌else◌, slice_get}
use Rattle.std.specs.List.{find, flat_map}
use Rattle.rs_entry.specs.declared.entry.Body.{Body}
use Rattle.rs_entry.specs.declared.entry.Body.TheVariants as body
use Rattle.rs_entry.specs.declared.entry.Carried.{Carried}
use Rattle.rs_entry.specs.declared.entry.Entry.{Entry}
use Rattle.rs_entry.specs.declared.input.Boot.{Boot}
use Rattle.rs_entry.specs.declared.input.Log.{Log}
use Rattle.rs_entry.specs.declared.input.Store.{Store}
use Rattle.rs_entry.specs.declared.input.Input.{Input}
use Rattle.rs_entry.specs.declared.law_fault.Statement.{Statement}
use Rattle.rs_entry.specs.declared.law_fault.Statement.TheVariants as said
use Rattle.rs_entry.specs.Entries.{entry_of}
use Rattle.rs_entry.specs.Equality.{same_entries, same_carried, same_boots}
use Rattle.rs_store.specs.Stores.{first_some}
use Rattle.rs_check.specs.declared.statements.What.{What}
use Rattle.rs_check.specs.declared.statements.What.TheVariants as whats
use Rattle.rs_check.specs.declared.differ.Differing.{Differing}

-- what a store says of a region, or of an entry of its log; the index is 0 where it is said of the region
pub record Stated : Type 0 where
  pub store : ℕ
  pub region : ℕ
  pub index : ℕ
  pub what : Statement

-- the same is said of the same
abbrev pub same_statements : Statement → Statement → Bool
same_statements (said.Boot a) (said.Boot b) = same_boots a b
same_statements (said.Entry a) (said.Entry b) = same_entries a b
same_statements (said.Entry a) (said.Carried b) = same_entries (entry_of b) a
same_statements (said.Carried a) (said.Entry b) = same_entries (entry_of a) b
same_statements (said.Carried a) (said.Carried b) = same_carried a b
same_statements _ _ = false

-- the statement is about the region and the index
abbrev pub is_about : ℕ → ℕ → Stated → Bool
is_about region index s = (s.region == region) && (s.index == index)

-- the two statements, if they differ
abbrev pub differ_from : Option Stated → Stated → Option (Stated × Stated)
differ_from None s = None
differ_from (Some t) s = if same_statements t.what s.what then None else Some (t, s)

-- the first statement that differs from the first earlier one about the same
abbrev pub first_differ : List Stated → List Stated → Option (Stated × Stated)
first_differ before [] = None
first_differ before (s ∷ rest) =
    first_some (differ_from (find (is_about s.region s.index) before) s) (first_differ (before ++ s ∷ []) rest)

-- ---- the statements of an input

-- what the borrowed statement says
abbrev pub said_of : What → Statement
said_of (whats.Boot b) = said.Boot b.now
said_of (whats.Own e) = said.Entry e.now
said_of (whats.Carried c) = said.Carried c.now

-- the statement of a boot region, at index 0
abbrev pub of_boot : ℕ → Boot → Stated
of_boot store b = record { store = store; region = b.region; index = 0; what = said.Boot b }

-- the statement of a carried entry, about its source
abbrev pub of_carried : ℕ → ℕ → Carried → Stated
of_carried store source c = record { store = store; region = source; index = c.index; what = said.Carried c }

-- the statements of the entries that the body carries
abbrev pub carried_stated : ℕ → Body → List Stated
carried_stated store (body.Commit source commit carried) = map (of_carried store source) carried
carried_stated store _ = []

-- the statement of an entry, and those of the entries that it carries
abbrev pub entry_stated : ℕ → ℕ → Entry → List Stated
entry_stated store region e = record { store = store; region = region; index = e.index; what = said.Entry e } ∷ carried_stated store e.body

-- the statements of a log
abbrev pub log_stated : ℕ → Log → List Stated
log_stated store log = flat_map (entry_stated store log.region) log.entries

-- the statements of a store: its boot regions, then its logs
abbrev pub store_stated : Store → List Stated
store_stated s = map (of_boot s.id) s.regions ++ flat_map (log_stated s.id) s.logs

-- what an input states, store by store: its regions, then its logs, after each commit what it carries
abbrev pub stated : Input → List Stated
stated input = flat_map store_stated input.stores

-- ---- places of statements

-- the statement at the place
abbrev pub at_place : List Stated → Option ℕ → Option Stated
at_place xs None = None
at_place xs (Some k) = slice_get xs k

-- both statements, if both are there
abbrev pub pair_of : Option Stated → Option Stated → Option (Stated × Stated)
pair_of None b = None
pair_of (Some a) None = None
pair_of (Some a) (Some b) = Some (a, b)

-- the two statements whose places were found to differ
abbrev pub told_pair : List Stated → Option Differing → Option (Stated × Stated)
told_pair xs None = None
told_pair xs (Some d) = pair_of (slice_get xs d.first) (slice_get xs d.second)
