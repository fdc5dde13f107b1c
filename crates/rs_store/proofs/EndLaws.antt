-- The end of a run, seen by its regions alone.
use Rattle.std.proofs.Common.{◌≡◌, ℕ, refl, ap, ◌∙◌, List, [], ◌∷◌}
use Rattle.std.specs.Prelude.{Option, Some, None, if◌then◌else◌}
use Rattle.rs_entry.specs.declared.input.Log.{Log}
use Rattle.rs_entry.specs.declared.input.Store.{Store}
use Rattle.rs_store.specs.declared.fault.StoreFault.TheVariants as faults
use Rattle.rs_store.specs.Stores.{ByRegion, Applied, Stepped, Went, Broke, first_some, ids_of}
use Rattle.rs_store.specs.Runs.{bare, forget, told, Moved}
use Rattle.rs_store.specs.declared.fault.StepFault.{StepFault}
use Rattle.rs_store.specs.Ends.{first_of, waits, is_unborn, first_unborn, fault_at_end, fault_of}

waits_same : (store : Store) (g : Applied) (ids : List ℕ) → first_of (waits store g) ids ≡ first_of (waits store (bare g.region)) ids
waits_same store g [] = refl
waits_same store g (x ∷ xs) = ap (first_some (waits store g x)) (waits_same store g xs)

unborn_same : (g : Applied) (logs : List Log) → first_unborn g logs ≡ first_unborn (bare g.region) logs
unborn_same g [] = refl
unborn_same g (log ∷ logs) = ap (λ r. if is_unborn log.entries (g.region log.region) then Some (faults.Unborn log.region) else r) (unborn_same g logs)

pub end_same : (store : Store) (s : Stepped) → fault_at_end store s ≡ fault_of store (forget s)
end_same store (Broke fault) = refl
end_same store (Went g) = ap (λ o. first_some o (first_unborn g store.logs)) (waits_same store g (ids_of store)) ∙ ap (first_some (first_of (waits store (bare g.region)) (ids_of store))) (unborn_same g store.logs)

-- an order that ended without a fault left these regions
pub end_moved : (store : Store) (fault : Option StepFault) (f : ByRegion) → fault_of store (told fault f) ≡ None → told fault f ≡ Moved f
end_moved store None f h = refl
end_moved store (Some x) f h = absurd cc
