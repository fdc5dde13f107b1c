use Rattle.std.proofs.Common.{◌≡◌, false, take}
use Rattle.std.specs.List.{list_any}
use Rattle.rs_apply.specs.Machines.{is_merge}
use Rattle.rs_apply.proofs.catch_up.has_merge.Given as goal

abbrev pub invariant-loop-one : goal.invariant-loop-one
invariant-loop-one l = list_any (is_merge l.merge) (take l.one-index l.merges) ≡ false
