use Rattle.std.proofs.Common.{refl}
use Rattle.rs_text.specs.Outcomes.{outcome_text}
use Rattle.rs_history.specs.Outcomes.{outcome_of}
use Rattle.rs_entry.specs.declared.input.Input.{Input}
use Rattle.raftreplay.specs.Expected.{reading_of}
use Rattle.raftreplay.specs.declared.words.Command.TheVariants as commands
use Rattle.raftreplay.proofs.Obeying.{given_obeyed}
use Rattle.raftreplay.proofs.commands.run_command.Goals as goal

pub returns-in-Ok : goal.returns-in-Ok
returns-in-Ok g c =
    given_obeyed g.S.Source.left g.S.Source.faults g.K.Sink.taken g.K.Sink.faults (commands.Run c.args.options) reading_of (λ (x : Input). outcome_text (outcome_of x)) (λ _. refl) refl
    c.finish.result c.args.source.now c.lawful_logs.new.source c.args.sink.now c.finish.new.sink
    c.in-Ok.plan c.in-Ok.ensures c.finish.ensures.unread (c.finish.ensures.wrote ((λ (x : Input). outcome_text (outcome_of x)) c.in-Ok.plan) c.made_by_pollers.ensures)
