use Rattle.std.proofs.Common.{◌≡◌, take}
use Rattle.rs_store.specs.Runs.{seen, bare}
use Rattle.rs_store.specs.Carriers.{carriers, standing_for}
use Rattle.rs_store.proofs.carriers.all_of.Given as goal

abbrev pub invariant-loop-id : goal.invariant-loop-id
invariant-loop-id l = carriers l.all ≡ standing_for l.indexed (bare (seen l.regions)) (take l.id-index l.ids)
