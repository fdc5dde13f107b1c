use Rattle.std.proofs.Common.{refl}
use Rattle.raftreplay.specs.Expected.{lawful_text, reading_of}
use Rattle.raftreplay.specs.declared.words.Command.TheVariants as commands
use Rattle.raftreplay.proofs.Obeying.{given_obeyed}
use Rattle.raftreplay.proofs.commands.check_command.Goals as goal

pub returns-in-Ok : goal.returns-in-Ok
returns-in-Ok g c =
    given_obeyed g.S.Source.left g.S.Source.faults g.K.Sink.taken g.K.Sink.faults commands.Check reading_of lawful_text (λ _. refl) refl
    c.finish.result c.args.source.now c.lawful_logs.new.source c.args.sink.now c.finish.new.sink
    c.in-Ok.plan c.in-Ok.ensures c.finish.ensures.unread (c.finish.ensures.wrote (lawful_text c.in-Ok.plan) c.write_lawful.ensures)
