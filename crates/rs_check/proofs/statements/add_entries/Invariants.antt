use Rattle.std.proofs.Common.{◌≡◌, take, ◌++◌}
use Rattle.std.specs.List.{flat_map}
use Rattle.rs_check.specs.Statements.{entry_stated}
use Rattle.rs_check.proofs.statements.add_entries.Given as goal

abbrev pub invariant-loop-entry : goal.invariant-loop-entry
invariant-loop-entry l = l.all.items ≡ l.fn.all.items ++ flat_map (entry_stated l.store l.region) (take l.entry-index l.entries)
