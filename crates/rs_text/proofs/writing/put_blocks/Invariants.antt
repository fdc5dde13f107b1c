use Rattle.std.proofs.Common.{◌≡◌, ◌++◌, take}
use Rattle.std.specs.List.{flat_map}
use Rattle.rs_field.specs.Forms.{lines_text}
use Rattle.rs_text.proofs.writing.put_blocks.Given as goal

abbrev pub invariant-loop-row : goal.invariant-loop-row
invariant-loop-row g l = l.out.items ≡ l.fn.out.items ++ lines_text (flat_map g.T.Block.lines (take l.row-index l.row-items))
