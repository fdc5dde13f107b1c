use Rattle.std.proofs.Common.{◌≡◌, false, take}
use Rattle.std.specs.List.{list_any}
use Rattle.rs_apply.specs.Merges.{is_of}
use Rattle.rs_apply.proofs.sources.take_closed.Given as goal

abbrev pub invariant-loop-place : goal.invariant-loop-place
invariant-loop-place l = (l.closed ≡ l.initial.closed) × (list_any (is_of l.address l.commit) (take l.place l.closed.items) ≡ false)
