use Rattle.rs_region.proofs.SplitShares.{split_shares}
use Rattle.rs_region.proofs.laws.split_laws.Goals as goal

pub returns : goal.returns
returns c = split_shares
