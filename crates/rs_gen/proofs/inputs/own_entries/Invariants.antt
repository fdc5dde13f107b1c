use Rattle.std.proofs.Common.{◌≡◌, map, take}
use Rattle.rs_entry.specs.Entries.{entry_of}
use Rattle.rs_gen.proofs.inputs.own_entries.Given as goal

abbrev pub invariant-loop-entry : goal.invariant-loop-entry
invariant-loop-entry l = l.entries ≡ map entry_of (take l.entry-index l.carried)
