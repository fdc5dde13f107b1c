use Rattle.std.proofs.Common.{◌≡◌, take, drop, []}
use Rattle.rs_check.specs.Namings.{namings, reused_by}
use Rattle.rs_check.proofs.reused_ids.reused_id.Given as goal

abbrev pub invariant-loop-place : goal.invariant-loop-place
invariant-loop-place l = reused_by (namings l.boots) (namings l.names) l.region l.index [] l.ids ≡ reused_by (namings l.boots) (namings l.names) l.region l.index (take l.place l.ids) (drop l.place l.ids)
