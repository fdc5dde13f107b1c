use Rattle.std.proofs.Common.{◌≡◌, drop}
use Rattle.rs_check.specs.Lines.{carried_in}
use Rattle.rs_check.proofs.entry_scan.carried_in.Given as goal

abbrev pub invariant-loop-entry : goal.invariant-loop-entry
invariant-loop-entry l = carried_in l.region l.index l.entries ≡ carried_in l.region l.index (drop l.entry-index l.entries)
