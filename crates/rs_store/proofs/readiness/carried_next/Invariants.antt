use Rattle.std.proofs.Common.{◌≡◌, drop}
use Rattle.rs_store.specs.Stores.{carried_next}
use Rattle.rs_store.specs.Runs.{seen, bare}
use Rattle.rs_store.proofs.readiness.carried_next.Given as goal

abbrev pub invariant-loop-t : goal.invariant-loop-t
invariant-loop-t l =
    carried_next l.indexed (bare (seen l.regions)) l.ids l.id l.index ≡ carried_next l.indexed (bare (seen l.regions)) (drop l.t-index l.ids) l.id l.index
