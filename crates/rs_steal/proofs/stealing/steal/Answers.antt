use Rattle.std.proofs.Common.{rules}
use Rattle.rs_steal.proofs.OfTickets.{taking_tickets, finding_few_tickets}
use Rattle.rs_steal.proofs.stealing.steal.Goals as goal

pub steal_as-requires-clause-takes : goal.steal_as-requires-clause-takes
steal_as-requires-clause-takes g c = taking_tickets _ _

pub steal_as-requires-clause-empty : goal.steal_as-requires-clause-empty
steal_as-requires-clause-empty g c = finding_few_tickets _ _ _ (search rules)
