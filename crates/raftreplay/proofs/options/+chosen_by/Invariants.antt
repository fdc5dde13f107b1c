use Rattle.std.proofs.Common.{length}
use Rattle.raftreplay.proofs.options.+chosen_by.Given as goal

abbrev pub decreases-chosen_by : goal.decreases-chosen_by
decreases-chosen_by l = length l.words.now
