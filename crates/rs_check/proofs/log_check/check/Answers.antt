use Rattle.rs_check.proofs.Wellness.{formed_input}
use Rattle.rs_check.proofs.log_check.check.Goals as goal

pub law_fault-requires-clause-formed : goal.law_fault-requires-clause-formed
law_fault-requires-clause-formed c = formed_input c.args.input c.requires
