use Rattle.std.proofs.Common.{◌≡◌, ◌++◌, map, take}
use Rattle.rs_field.specs.Forms.{more_text, number}
use Rattle.rs_field.proofs.text.put_numbers.Given as goal

abbrev pub invariant-loop-n : goal.invariant-loop-n
invariant-loop-n l = l.out.items ≡ l.fn.out.items ++ more_text (map number (take l.n-index l.numbers))
