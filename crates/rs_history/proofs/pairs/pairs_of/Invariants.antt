use Rattle.std.proofs.Common.{◌≡◌, take}
use Rattle.rs_history.specs.Histories.{pairs_of}
use Rattle.rs_history.proofs.pairs.pairs_of.Given as goal

abbrev pub invariant-loop-history : goal.invariant-loop-history
invariant-loop-history l = l.pairs ≡ pairs_of (take l.history-index l.history-items)
