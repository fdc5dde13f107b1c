use Rattle.std.proofs.Common.{refl}
use Rattle.rs_bin.specs.Forms.{form_of}
use Rattle.raftreplay.specs.Expected.{text_reading}
use Rattle.raftreplay.specs.declared.words.Command.TheVariants as commands
use Rattle.raftreplay.proofs.Obeying.{given_obeyed}
use Rattle.raftreplay.proofs.commands.pack_command.Goals as goal

pub returns-in-Ok : goal.returns-in-Ok
returns-in-Ok g c =
    given_obeyed g.S.Source.left g.S.Source.faults g.K.Sink.taken g.K.Sink.faults commands.Pack text_reading form_of (λ _. refl) refl
    c.finish.result c.args.source.now c.text_logs.new.source c.args.sink.now c.finish.new.sink
    c.in-Ok.input c.in-Ok.ensures.read c.finish.ensures.unread (c.finish.ensures.wrote (form_of c.in-Ok.input) c.write_binary.ensures.form)
