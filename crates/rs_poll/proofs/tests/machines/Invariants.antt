use Rattle.std.proofs.Common.{◌≡◌, length}
use Rattle.rs_poll.proofs.tests.machines.Given as goal

abbrev pub invariant-loop-k : goal.invariant-loop-k
invariant-loop-k l = length l.list ≡ l.k
