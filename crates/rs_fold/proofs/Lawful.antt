-- What a lawful input says of its stores.
use Rattle.std.proofs.Common.{◌≡◌, None}
use Rattle.std.proofs.lemmas.List.Elements.{All-from_recursion}
use Rattle.rs_entry.specs.declared.input.Input.{Input}
use Rattle.rs_entry.specs.WellFormed.{WellFormed}
use Rattle.rs_store.specs.Formed.{IsFormedStores}
use Rattle.rs_check.specs.Laws.{check}
use Rattle.rs_check.proofs.StoreEnds.{lawful_ends}
use Rattle.rs_check.proofs.Wellness.{formed_input}
use Rattle.rs_fold.specs.Ends.{IsLawful, AreLawful}

pub formed_stores : (input : Input) → WellFormed input → IsFormedStores input.stores
formed_stores input w = formed_input input w

pub lawful_stores : (input : Input) → check input ≡ None → AreLawful input.stores
lawful_stores input h = All-from_recursion IsLawful input.stores (lawful_ends input h)
