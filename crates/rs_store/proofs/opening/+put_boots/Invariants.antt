use Rattle.std.proofs.Common.{length}
use Rattle.rs_store.proofs.opening.+put_boots.Given as goal

abbrev pub decreases-put_boots : goal.decreases-put_boots
decreases-put_boots l = length l.boots.now
