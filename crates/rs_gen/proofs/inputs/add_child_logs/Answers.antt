use Rattle.rs_gen.specs.Inputs.{child_log, kept}
use Rattle.rs_gen.proofs.Ranges.{more_rounds}
use Rattle.rs_gen.proofs.inputs.add_child_logs.Goals as goal

pub loop-nth-preserved : goal.loop-nth-preserved
loop-nth-preserved c =
    more_rounds (λ t. child_log c.args.n t (kept c.args.share c.args.n t)) c.loop-nth.nth c.args.logs.now c.loop-nth.logs c.add_child_log.new.logs c.loop-nth.invariant c.in_ok-add_child_log.ensures
