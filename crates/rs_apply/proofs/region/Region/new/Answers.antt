use Rattle.std.proofs.Common.{sym, ◌∙◌}
use Rattle.rs_apply.proofs.Reading.{no_replies}
use Rattle.rs_apply.proofs.region.Region.new.Goals as goal

pub invariant_of-result-clause-answered : goal.invariant_of-result-clause-answered
invariant_of-result-clause-answered c = c.new.ensures ∙ sym (no_replies c.args.plan.now c.args.address)

pub invariant_of-result-clause-counted : goal.invariant_of-result-clause-counted
invariant_of-result-clause-counted c = sym (c.requires.laws.unshaped c.args.address c.requires.below)
