use Rattle.std.proofs.Common.{rules}
use Rattle.raftreplay.specs.Words.{bytes_of}
use Rattle.raftreplay.proofs.Obeying.{kept_by_words}
use Rattle.raftreplay.proofs.commands.command.Goals.{in-History-1, in-Check-1}
use Rattle.raftreplay.proofs.commands.command.Goals as goal

pub returns-in-Ok-Some-clause-kept : goal.returns-in-Ok-Some-clause-kept
returns-in-Ok-Some-clause-kept g c =
    elim c.match-command.branch [
      | in-History-1 w ↦ kept_by_words (bytes_of c.args.words.now) c.in-Ok-Some.command c.in-Ok-Some.field-0 (g.S.Source.left c.args.source.now)
          c.obey.result (g.K.Sink.taken c.args.sink.now) (g.K.Sink.taken c.obey.new.sink) (search rules) c.in-Ok-Some.ensures.ok c.obey.ensures.kept
      | in-Check-1 w ↦ kept_by_words (bytes_of c.args.words.now) c.in-Ok-Some.command c.in-Ok-Some.field-0 (g.S.Source.left c.args.source.now)
          c.obey.result (g.K.Sink.taken c.args.sink.now) (g.K.Sink.taken c.obey.new.sink) (search rules) c.in-Ok-Some.ensures.ok c.obey.ensures.kept
    ]
