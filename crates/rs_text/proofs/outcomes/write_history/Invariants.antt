use Rattle.std.proofs.Common.{◌≡◌, take}
use Rattle.std.specs.List.{flat_map}
use Rattle.rs_field.specs.Forms.{lines_text}
use Rattle.rs_text.specs.Outcomes.{key_lines}
use Rattle.rs_text.proofs.outcomes.write_history.Given as goal

abbrev pub invariant-loop-store : goal.invariant-loop-store
invariant-loop-store l = l.out.items ≡ lines_text (flat_map (key_lines l.key) (take l.store-index l.store-items))
