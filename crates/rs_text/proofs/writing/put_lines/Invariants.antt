use Rattle.std.proofs.Common.{◌≡◌, ◌++◌, map, take}
use Rattle.rs_field.specs.Forms.{lines_text}
use Rattle.rs_text.proofs.writing.put_lines.Given as goal

abbrev pub invariant-loop-row : goal.invariant-loop-row
invariant-loop-row g l = l.out.items ≡ l.fn.out.items ++ lines_text (map g.T.Line.line (take l.row-index l.row-items))
