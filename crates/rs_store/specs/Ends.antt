-- What is wrong at the end of a store's order.
use Rattle.std.specs.Prelude.{ℕ, ◌+◌, Bool, true, false, List, [], ◌∷◌, Option, Some, None, if◌then◌else◌}
use Rattle.rs_entry.specs.declared.entry.Entry.{Entry}
use Rattle.rs_entry.specs.declared.input.Log.{Log}
use Rattle.rs_entry.specs.declared.input.Store.{Store}
use Rattle.rs_store.specs.declared.regions.Made.{Made}
use Rattle.rs_store.specs.declared.fault.StoreFault.{StoreFault}
use Rattle.rs_store.specs.declared.fault.StoreFault.TheVariants as faults
use Rattle.rs_store.specs.Stores.{Applied, Merge, Stepped, Went, Broke, first_some, stands, ids_of}
use Rattle.rs_store.specs.Runs.{Run, Moved, Failed, bare}

-- the first that is there
abbrev pub first_of : {X : Type 0} → (ℕ → Option X) → List ℕ → Option X
first_of p [] = None
first_of p (x ∷ xs) = first_some (p x) (first_of p xs)

-- the index that the region has applied; 0 if it wasn't made
abbrev pub applied_of : Option Made → ℕ
applied_of None = 0
applied_of (Some r) = r.applied

-- the fault of a region that waits for a merge's source
abbrev pub waits_with : ℕ → Option Made → Option Merge → Option StoreFault
waits_with id r None = None
waits_with id r (Some m) = Some (faults.Waits id (applied_of r + 1) m.source m.commit)

-- the fault of the region if it waits for a merge's source at the end
abbrev pub waits : Store → Applied → ℕ → Option StoreFault
waits store g id = waits_with id (g.region id) (stands store g id)

-- the log has entries, and its region wasn't made
abbrev pub is_unborn : List Entry → Option Made → Bool
is_unborn (e ∷ es) None = true
is_unborn es r = false

-- logs stand in the order of their regions
abbrev pub first_unborn : Applied → List Log → Option StoreFault
first_unborn g [] = None
first_unborn g (log ∷ logs) =
    if is_unborn log.entries (g.region log.region) then Some (faults.Unborn log.region) else first_unborn g logs

-- the fault of the order: that of the step, or the first of those at its end
abbrev pub fault_at_end : Store → Stepped → Option StoreFault
fault_at_end store (Broke fault) = Some (faults.Step fault)
fault_at_end store (Went g) = first_some (first_of (waits store g) (ids_of store)) (first_unborn g store.logs)

-- the fault of the run: that of its step, or the first of those at its end
abbrev pub fault_of : Store → Run → Option StoreFault
fault_of store (Failed fault) = Some (faults.Step fault)
fault_of store (Moved f) = first_some (first_of (waits store (bare f)) (ids_of store)) (first_unborn (bare f) store.logs)
