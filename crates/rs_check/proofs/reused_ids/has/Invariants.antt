use Rattle.std.proofs.Common.{◌≡◌, drop}
use Rattle.std.specs.List.{list_any}
use Rattle.rs_check.specs.Laws.{is_id}
use Rattle.rs_check.proofs.reused_ids.has.Given as goal

abbrev pub invariant-loop-one : goal.invariant-loop-one
invariant-loop-one l = list_any (is_id l.id) l.ids ≡ list_any (is_id l.id) (drop l.one-index l.ids)
