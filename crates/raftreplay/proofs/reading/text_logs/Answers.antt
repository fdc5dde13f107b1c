use Rattle.std.proofs.Common.{rules}
use Rattle.raftreplay.specs.Expected.{text_reading}
use Rattle.raftreplay.proofs.Readings.{long_text, whole_read}
use Rattle.raftreplay.proofs.reading.text_logs.Goals as goal

pub returns-in-Err-clause-read : goal.returns-in-Err-clause-read
returns-in-Err-clause-read g c = c.in-Err.ensures.refused text_reading long_text

pub returns-in-Ok-logs_of_text-clause-read : goal.returns-in-Ok-logs_of_text-clause-read
returns-in-Ok-logs_of_text-clause-read g c =
    whole_read g.S.Source.left g.S.Source.faults text_reading c.in-Ok.bytes.items c.in-Ok-logs_of_text.reading c.args.source.now c.all_bytes.new.source
    (search rules) (search rules) (search rules) (search rules) c.all_bytes.ensures.kept_faults
