use Rattle.std.proofs.Common.{◌≡◌, ◌++◌, take}
use Rattle.std.specs.List.{flat_map}
use Rattle.rs_field.specs.Forms.{more_text}
use Rattle.rs_text.specs.Logs.{op_forms}
use Rattle.rs_text.proofs.logs.put_ops.Given as goal

abbrev pub invariant-loop-op : goal.invariant-loop-op
invariant-loop-op l = l.out.items ≡ l.fn.out.items ++ more_text (flat_map op_forms (take l.op-index l.ops))
