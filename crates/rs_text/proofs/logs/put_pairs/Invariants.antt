use Rattle.std.proofs.Common.{◌≡◌, ◌++◌, drop}
use Rattle.rs_field.specs.Forms.{more_text}
use Rattle.rs_text.specs.Logs.{pair_forms}
use Rattle.rs_text.proofs.logs.put_pairs.Given as goal

abbrev pub invariant-loop-i : goal.invariant-loop-i
invariant-loop-i l = l.out.items ++ more_text (pair_forms (drop l.i l.ids) (drop l.i l.keys)) ≡ l.fn.out.items ++ more_text (pair_forms l.ids l.keys)
