use Rattle.rs_history.specs.Outcomes.{outcome_of}
use Rattle.rs_gen.specs.Inputs.{made_of}
use Rattle.raftreplay.specs.Expected.{counts_text}
use Rattle.raftreplay.proofs.commands.selftest_command.Goals as goal

pub returns-clause-wrote : goal.returns-clause-wrote
returns-clause-wrote g c = c.finish.ensures.wrote (counts_text c.args.n (outcome_of (made_of c.args.n))) c.self_tested.ensures
