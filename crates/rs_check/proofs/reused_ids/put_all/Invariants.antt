use Rattle.std.proofs.Common.{◌≡◌, drop}
use Rattle.rs_check.specs.Namings.{namings, with_namings}
use Rattle.rs_check.proofs.reused_ids.put_all.Given as goal

abbrev pub invariant-loop-id : goal.invariant-loop-id
invariant-loop-id l = with_namings (namings l.names) l.region l.index (drop l.id-index l.ids) ≡ with_namings (namings l.fn.names) l.region l.index l.ids
