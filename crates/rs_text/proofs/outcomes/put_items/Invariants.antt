use Rattle.std.proofs.Common.{◌≡◌, ◌++◌, map, take}
use Rattle.rs_field.specs.Forms.{more_text}
use Rattle.rs_text.specs.Outcomes.{item}
use Rattle.rs_text.proofs.outcomes.put_items.Given as goal

abbrev pub invariant-loop-item : goal.invariant-loop-item
invariant-loop-item l = l.out.items ≡ l.fn.out.items ++ more_text (map item (take l.item-index l.items))
