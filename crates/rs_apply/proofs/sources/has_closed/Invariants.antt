use Rattle.std.proofs.Common.{◌≡◌, false, take}
use Rattle.std.specs.List.{list_any}
use Rattle.rs_apply.specs.Merges.{is_of}
use Rattle.rs_apply.proofs.sources.has_closed.Given as goal

abbrev pub invariant-loop-one : goal.invariant-loop-one
invariant-loop-one l = list_any (is_of l.address l.commit) (take l.one-index l.closed) ≡ false
