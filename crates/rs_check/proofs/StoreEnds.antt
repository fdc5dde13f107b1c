-- The end of the canonical order of each store of a lawful input.
use Rattle.std.proofs.Common.{◌≡◌, List, [], ◌∷◌, None, refl}
use Rattle.std.specs.List.{AllByRecursion}
use Rattle.std.proofs.lemmas.List.Elements.{recursion_from_All}
use Rattle.rs_entry.specs.declared.input.Input.{Input}
use Rattle.rs_entry.specs.declared.input.Store.{Store}
use Rattle.rs_entry.specs.WellFormed.{WellFormed}
use Rattle.rs_store.specs.Ends.{fault_at_end}
use Rattle.rs_store.specs.Formed.{IsFormedOne}
use Rattle.rs_store.specs.Stores.{Applied, Broke, Stepped, Went, entries_in, first_some, last}
use Rattle.rs_part.specs.Counting.{IsAmong}
use Rattle.rs_part.specs.Telling.{Begins, Tells}
use Rattle.rs_part.specs.Whole.{Invariant}
use Rattle.rs_part.proofs.Canonical.{after_invariant}
use Rattle.rs_part.proofs.Members.{among_all}
use Rattle.rs_check.specs.Laws.{check, differ_law, first_in_stores, law_of, overlap_law, reused_law, store_law}
use Rattle.rs_check.specs.Scripts.{script_of}
use Rattle.rs_check.proofs.Finding.{both_none, map_none}
use Rattle.rs_check.proofs.LawfulScripts.{begins_lawful, tells_lawful}
use Rattle.rs_check.proofs.Wellness.{formed_input}

store_ends_well : (store : Store) → store_law store ≡ None → fault_at_end store (last store) ≡ None
unfolding store_law
store_ends_well store h = map_none (law_of store.id) (fault_at_end store (last store)) h

all_end_well : (stores : List Store) → first_in_stores stores ≡ None → AllByRecursion (λ s. fault_at_end s (last s) ≡ None) stores
all_end_well [] h = tt
all_end_well (s ∷ ss) h = (let w = both_none (store_law s) (first_in_stores ss) h in (store_ends_well s w.0, all_end_well ss w.1))

-- no store of a lawful input has a fault at its end
pub lawful_ends : (input : Input) → check input ≡ None → AllByRecursion (λ s. fault_at_end s (last s) ≡ None) input.stores
unfolding check
lawful_ends input h =
    let a = both_none (differ_law input) (first_some (overlap_law input) (first_some (reused_law input) (first_in_stores input.stores))) h in
    let b = both_none (overlap_law input) (first_some (reused_law input) (first_in_stores input.stores)) a.1 in
    all_end_well input.stores (both_none (reused_law input) (first_in_stores input.stores) b.1).1

went : (store : Store) (s : Stepped) → fault_at_end store s ≡ None → (g : Applied) × (s ≡ Went g)
went store (Went g) h = (g, refl)
went store (Broke fault) h = absurd cc

-- what is known of a store of a lawful input, with its regions at the end of its canonical order
pub record Ending (input : Input) (store : Store) : Type 0 where
  pub among : IsAmong store input.stores
  pub formed : IsFormedOne store
  pub tells : Tells (script_of input) store
  pub begins : Begins (script_of input) store
  pub g : Applied
  pub ends : last store ≡ Went g
  pub invariant : Invariant (script_of input) store g

-- each store has such an end
pub ending : (input : Input) → WellFormed input → check input ≡ None → (store : Store) → IsAmong store input.stores → Ending input store
ending input well lawful store among =
    let tells = tells_lawful input well lawful store among in
    let begins = begins_lawful input well lawful store among in
    let end = went store (last store) (among_all (λ s. fault_at_end s (last s) ≡ None) store input.stores (lawful_ends input lawful) among) in
    record {
      among = among;
      formed = among_all IsFormedOne store input.stores (recursion_from_All IsFormedOne input.stores (formed_input input well)) among;
      tells = tells;
      begins = begins;
      g = end.0;
      ends = end.1;
      invariant = after_invariant (script_of input) store tells begins (entries_in store) end.0 end.1;
    }
