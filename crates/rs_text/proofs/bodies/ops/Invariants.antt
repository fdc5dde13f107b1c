use Rattle.std.proofs.Common.{◌≡◌, ◌+◌, ◌-◌}
use Rattle.rs_text.specs.Bodies.{many_at, op_at}
use Rattle.rs_text.proofs.Repeats.{with_front}
use Rattle.rs_text.proofs.bodies.ops.Given as goal

abbrev pub invariant-loop-count : goal.invariant-loop-count
invariant-loop-count l = with_front l.ops (many_at op_at 1048576 (1024 - l.count) (l.total + l.count) l.fields) ≡ many_at op_at 1048576 1024 l.total l.fn.fields
