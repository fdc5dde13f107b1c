use Rattle.std.proofs.Common.{◌∙◌}
use Rattle.rs_store.specs.Stores.{ids_of}
use Rattle.rs_store.specs.Runs.{seen, bare}
use Rattle.rs_store.specs.Carriers.{carriers}
use Rattle.rs_store.proofs.CarrierSteps.{carried_for}
use Rattle.rs_store.proofs.readiness.carried_for.Goals as goal

pub returns : goal.returns
returns c =
    c.carried_next.ensures
    ∙ carried_for c.args.indexed.now (bare (seen c.args.regions.now)) (ids_of c.args.indexed.now) c.get.result.now (carriers c.args.standing.now) c.args.id c.args.index c.get.ensures c.requires
