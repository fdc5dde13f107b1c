use Rattle.std.proofs.Common.{length}
use Rattle.rs_msg.proofs.map.+cut_into.Given as goal

-- proposed from what the function passes where it calls itself
abbrev pub decreases-cut_into : goal.decreases-cut_into
decreases-cut_into l = length l.keys.now
