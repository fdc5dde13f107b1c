-- Each reshaping raises the epoch, and by little.
use Rattle.std.proofs.Common.{refl, arith}
use Rattle.rs_region.specs.Laws.{SplitRaises, PrepareRaises, RollbackRaises, CommitRaises, ConfRaises}

pub split_raises : SplitRaises
split_raises e n some = record { conf_ver = omega arith; version = omega arith; above = omega arith; conf_ver_near = omega arith; version_near = omega arith }

pub prepare_raises : PrepareRaises
prepare_raises e = record { conf_ver = omega arith; version = omega arith; above = omega arith; conf_ver_near = omega arith; version_near = omega arith }

pub rollback_raises : RollbackRaises
rollback_raises e = record { conf_ver = omega arith; version = omega arith; above = omega arith; conf_ver_near = omega arith; version_near = omega arith }

pub conf_raises : ConfRaises
conf_raises e = record { conf_ver = omega arith; version = omega arith; above = omega arith; conf_ver_near = omega arith; version_near = omega arith }

pub commit_raises : CommitRaises
commit_raises t s = record { conf_ver = refl; above_target = omega arith; above_source = omega arith; near = λ bound a b. omega arith }
