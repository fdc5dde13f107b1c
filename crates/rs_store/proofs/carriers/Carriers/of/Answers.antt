use Rattle.std.proofs.Common.{◌∙◌, ap}
use Rattle.rs_store.specs.Runs.{seen, bare}
use Rattle.rs_store.specs.Carriers.{standing_for}
use Rattle.rs_store.proofs.JoinerLaws.{standing_joiners}
use Rattle.rs_store.proofs.carriers.Carriers.of.Goals as goal

pub returns : goal.returns
returns c =
    c.in_ok-all_of.ensures ∙ (ap (standing_for c.args.indexed.now (bare (seen c.args.regions.now))) c.joiners.ensures ∙ standing_joiners c.args.indexed.now (bare (seen c.args.regions.now)))
