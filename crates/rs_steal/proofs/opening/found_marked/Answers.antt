use Rattle.std.proofs.Common.{rules, arith}
use Rattle.rs_steal.proofs.Shares.{begins}
use Rattle.rs_steal.proofs.OfTickets.{founding_tickets}
use Rattle.rs_steal.proofs.opening.found_marked.Goals as goal

pub fifo_as-requires : goal.fifo_as-requires
fifo_as-requires g c = begins

pub another-requires : goal.another-requires
another-requires g c = founding_tickets _ _ _ _ (search rules) (search rules) (omega (arith, c.requires.count))
