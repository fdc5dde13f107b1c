-- What holds of a store of a lawful input.
use Rattle.std.proofs.Common.{◌≡◌, Bool, Some, None}
use Rattle.std.specs.List.{find}
use Rattle.std.proofs.lemmas.List.Elements.{recursion_from_All}
use Rattle.rs_entry.specs.WellFormed.{WellFormed}
use Rattle.rs_entry.specs.declared.input.Input.{Input}
use Rattle.rs_entry.specs.declared.input.Store.{Store}
use Rattle.rs_store.specs.Formed.{IsFormedOne}
use Rattle.rs_part.proofs.Members.{among_all, among_find}
use Rattle.rs_check.specs.Laws.{check}
use Rattle.rs_check.specs.Scripts.{script_of}
use Rattle.rs_check.proofs.LawfulScripts.{begins_lawful, tells_lawful}
use Rattle.rs_fold.specs.Ends.{IsLawful}
use Rattle.rs_fold.specs.Ordered.{IsScripted}
use Rattle.rs_fold.proofs.Lawful.{formed_stores, lawful_stores}

module _ (input : Input) (well : WellFormed input) (lawful : check input ≡ None) (test : Store → Bool) (store : Store) (found : find test input.stores ≡ Some store) where
  pub found_formed : IsFormedOne store
  found_formed = among_all IsFormedOne store input.stores (recursion_from_All IsFormedOne input.stores (formed_stores input well)) (among_find test input.stores store found).0

  pub found_lawful : IsLawful store
  found_lawful = among_all IsLawful store input.stores (recursion_from_All IsLawful input.stores (lawful_stores input lawful)) (among_find test input.stores store found).0

  pub found_scripted : IsScripted store
  found_scripted = record {
    script = script_of input;
    tells = tells_lawful input well lawful store (among_find test input.stores store found).0;
    begins = begins_lawful input well lawful store (among_find test input.stores store found).0;
  }
