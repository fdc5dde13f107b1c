use Rattle.std.proofs.Common.{rules}
use Rattle.rs_apply.specs.Machines.{IsAdvance}
use Rattle.rs_apply.proofs.Fitted.{advance_fits}
use Rattle.rs_apply.proofs.machine.ApplyFsm.advance.Goals as goal

pub returns-in_ok-life-in-Born-clause-fits : goal.returns-in_ok-life-in-Born-clause-fits
returns-in_ok-life-in-Born-clause-fits c =
    let self = c.args.self.now in
    let then = c.advance.new in
    let came = c.in_ok-life-in-Born in
    let done : IsAdvance self.plan self.address self.named self.caught c.args.budget self.life self.closed.items self.asked c.args.out.now came.progress came.life then.closed.items then.asked then.out = search rules in
    advance_fits self.plan self.address self.below self.named self.caught c.args.budget self.closed.items then.closed.items self.asked then.asked c.args.out.now then.out came.progress self.life came.life done
