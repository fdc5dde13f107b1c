use Rattle.std.proofs.Common.{◌≡◌, ◌+◌, ◌-◌}
use Rattle.rs_text.specs.Bodies.{many_at, pair_at}
use Rattle.rs_text.proofs.Repeats.{with_front}
use Rattle.rs_text.proofs.bodies.pairs.Given as goal

abbrev pub invariant-loop-count : goal.invariant-loop-count
invariant-loop-count l = with_front l.pairs (many_at pair_at 4096 (64 - l.count) (l.boots + l.count) l.fields) ≡ many_at pair_at 4096 64 l.boots l.fn.fields
