use Rattle.std.proofs.Common.{◌≡◌, take, drop}
use Rattle.rs_rows.specs.Lists.{same_lists}
use Rattle.rs_rows.proofs.equality.RowsSame.is_same.Given as goal

abbrev pub invariant-loop-i : goal.invariant-loop-i
invariant-loop-i g l = record {
  so_far : take l.i l.a ≡ take l.i l.b;
  rest : same_lists g.T.Same.equals l.a l.b ≡ same_lists g.T.Same.equals (drop l.i l.a) (drop l.i l.b);
}
