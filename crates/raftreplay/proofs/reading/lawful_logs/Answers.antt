use Rattle.std.proofs.Common.{rules}
use Rattle.raftreplay.specs.Expected.{reading_of}
use Rattle.raftreplay.proofs.Readings.{long_logs, whole_read}
use Rattle.raftreplay.proofs.reading.lawful_logs.Goals as goal

pub returns-in-Err : goal.returns-in-Err
returns-in-Err g c = c.in-Err.ensures.refused reading_of long_logs

pub returns-in-Ok-lawful_logs_of_text : goal.returns-in-Ok-lawful_logs_of_text
returns-in-Ok-lawful_logs_of_text g c =
    whole_read g.S.Source.left g.S.Source.faults reading_of c.in-Ok.bytes.items c.in-Ok-lawful_logs_of_text.reading c.args.source.now c.all_bytes.new.source
    (search rules) (search rules) (search rules) (search rules) c.all_bytes.ensures.kept_faults
