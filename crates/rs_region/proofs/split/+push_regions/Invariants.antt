use Rattle.std.proofs.Common.{length}
use Rattle.rs_region.proofs.split.+push_regions.Given as goal

abbrev pub decreases-push_regions : goal.decreases-push_regions
decreases-push_regions l = length l.ids.now
