-- The script of a lawful input tells each of its stores, and each begins as it says.
use Rattle.std.proofs.Common.{◌≡◌, ℕ, ◌+◌, ◌≤◌, [], Some, None}
use Rattle.rs_entry.specs.declared.entry.Entry.{Entry}
use Rattle.rs_entry.specs.declared.input.Store.{Store}
use Rattle.rs_entry.specs.declared.input.Input.{Input}
use Rattle.rs_entry.specs.WellFormed.{WellFormed}
use Rattle.rs_store.specs.Stores.{first_some}
use Rattle.rs_part.specs.Counting.{IsAmong}
use Rattle.rs_part.specs.Telling.{Tells, Begins}
use Rattle.rs_check.specs.Laws.{check, boots, differ_fault, differ_law, overlap_fault, first_overlap, overlap_law, reused_law, first_in_stores}
use Rattle.rs_check.specs.Lines.{line_at}
use Rattle.rs_check.specs.Statements.{stated, first_differ}
use Rattle.rs_check.specs.Scripts.{script_of}
use Rattle.rs_check.proofs.Finding.{both_none, map_none}
use Rattle.rs_check.proofs.Splitting.{tells_of}
use Rattle.rs_check.proofs.Beginning.{begins_of}
use Rattle.rs_check.proofs.ScriptLines.{line_told}

-- no statement of the input breaks a law
pub record FaultFree (input : Input) : Type 0 where
  pub differ : first_differ [] (stated input) ≡ None
  pub overlap : first_overlap (boots input) ≡ None
  pub reused : reused_law input ≡ None

pub fault_free : (input : Input) → check input ≡ None → FaultFree input
unfolding check
fault_free input lawful =
    let a = both_none (differ_law input) (first_some (overlap_law input) (first_some (reused_law input) (first_in_stores input.stores))) lawful in
    let b = both_none (overlap_law input) (first_some (reused_law input) (first_in_stores input.stores)) a.1 in
    let c = both_none (reused_law input) (first_in_stores input.stores) b.1 in
    record { differ = map_none differ_fault (first_differ [] (stated input)) a.0; overlap = map_none overlap_fault (first_overlap (boots input)) b.0; reused = c.0 }

-- each entry that a store may take is the script's, and each split's new regions are split off by it alone
pub tells_lawful : (input : Input) → WellFormed input → check input ≡ None → (store : Store) → IsAmong store input.stores → Tells (script_of input) store
tells_lawful input well lawful store i = let f = fault_free input lawful in tells_of input well f.differ f.reused store i

-- a store's bootstrap regions begin as the script says, in ranges that share no key
pub begins_lawful : (input : Input) → WellFormed input → check input ≡ None → (store : Store) → IsAmong store input.stores → Begins (script_of input) store
begins_lawful input well lawful store i = let f = fault_free input lawful in begins_of input well f.differ f.overlap store i

-- the entry that the input has for a region of a store is the script's
pub line_lawful : (input : Input) → WellFormed input → check input ≡ None → (address : ℕ × ℕ) (i : ℕ) (e : Entry) → 5 ≤ i → line_at input address (i + 1) ≡ Some e
    → (script_of input).line address.1 (i + 1) ≡ Some e
line_lawful input well lawful = line_told input well (fault_free input lawful).differ
