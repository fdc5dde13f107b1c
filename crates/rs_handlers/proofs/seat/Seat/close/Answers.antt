use Rattle.std.proofs.Common.{rules}
use Rattle.rs_handlers.proofs.seat.Seat.close.Goals as goal

pub returns-clause-name : goal.returns-clause-name
returns-clause-name g c = c.close.ensures.name c.args.self.now.plan.now (λ b. c.args.self.now.named c.args.address b (search rules))
