use Rattle.std.proofs.Common.{rules}
use Rattle.raftreplay.specs.Expected.{binary_reading}
use Rattle.raftreplay.proofs.Readings.{long_binary, whole_read}
use Rattle.raftreplay.proofs.reading.binary_logs.Goals as goal

pub returns-in-Err : goal.returns-in-Err
returns-in-Err g c = c.in-Err.ensures.refused binary_reading long_binary

pub returns-in-Ok-logs_of_binary : goal.returns-in-Ok-logs_of_binary
returns-in-Ok-logs_of_binary g c =
    whole_read g.S.Source.left g.S.Source.faults binary_reading c.in-Ok.bytes.items c.in-Ok-logs_of_binary.reading c.args.source.now c.all_bytes.new.source
    (search rules) (search rules) (search rules) (search rules) c.all_bytes.ensures.kept_faults
