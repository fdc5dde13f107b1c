use Rattle.std.proofs.Common.{◌≡◌, [], take, drop}
use Rattle.rs_store.specs.Places.{known}
use Rattle.rs_check.specs.Statements.{first_differ}
use Rattle.rs_check.proofs.DifferSteps.{Placed}
use Rattle.rs_check.proofs.differ.first_differ.Given as goal

abbrev pub invariant-loop-place : goal.invariant-loop-place
invariant-loop-place l = record {
  placed : Placed l.all (known l.firsts) l.place;
  so_far : first_differ [] l.all ≡ first_differ (take l.place l.all) (drop l.place l.all);
}
