use Rattle.std.proofs.Common.{◌≡◌, ◌-◌}
use Rattle.rs_text.specs.Bodies.{peers_at}
use Rattle.rs_text.proofs.Repeats.{with_front}
use Rattle.rs_text.proofs.bodies.peers.Given as goal

abbrev pub invariant-loop-count : goal.invariant-loop-count
invariant-loop-count l = with_front l.ids (peers_at (64 - l.count) l.before l.fields) ≡ peers_at 64 0 l.fn.fields
