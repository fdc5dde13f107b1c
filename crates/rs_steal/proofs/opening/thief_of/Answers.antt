use Rattle.std.proofs.Common.{arith}
use Rattle.rs_steal.proofs.OfTickets.{joining_tickets}
use Rattle.rs_steal.proofs.opening.thief_of.Goals as goal

pub another-pass-requires : goal.another-pass-requires
another-pass-requires c = let o = c.requires.own in joining_tickets _ _ o.0 o.2 (omega (arith, o.4, o.5, c.requires.place))
