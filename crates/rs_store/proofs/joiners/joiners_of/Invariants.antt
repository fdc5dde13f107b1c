use Rattle.std.proofs.Common.{◌≡◌, take}
use Rattle.std.specs.Prelude.{filter}
use Rattle.rs_store.specs.Joiners.{has_commit}
use Rattle.rs_store.proofs.joiners.joiners_of.Given as goal

abbrev pub invariant-loop-id : goal.invariant-loop-id
invariant-loop-id l = l.joiners.items ≡ filter (has_commit l.store) (take l.id-index l.ids)
