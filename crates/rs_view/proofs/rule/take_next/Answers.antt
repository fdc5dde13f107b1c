use Rattle.rs_view.proofs.Taking.{stayed, took}
use Rattle.rs_view.proofs.rule.take_next.Goals as goal

pub returns-in-Ok-clause-cut : goal.returns-in-Ok-clause-cut
returns-in-Ok-clause-cut c = took c.args.table.now c.step.new.self c.step.ensures.plan c.step.ensures.place c.args.step c.requires.grows c.in-Ok.ensures.ok

pub returns-in-Err-clause-cut : goal.returns-in-Err-clause-cut
returns-in-Err-clause-cut c = stayed c.args.table.now c.step.new.self c.step.ensures.plan c.step.ensures.place c.in-Err.ensures.err
