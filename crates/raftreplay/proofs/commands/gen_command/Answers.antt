use Rattle.rs_text.specs.Logs.{text_of}
use Rattle.rs_gen.specs.Inputs.{made_of}
use Rattle.raftreplay.proofs.commands.gen_command.Goals as goal

pub returns-clause-wrote : goal.returns-clause-wrote
returns-clause-wrote g c = c.finish.ensures.wrote (text_of (made_of c.args.n)) c.generated.ensures
