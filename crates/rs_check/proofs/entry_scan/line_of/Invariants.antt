use Rattle.std.proofs.Common.{◌≡◌, drop}
use Rattle.rs_check.specs.Lines.{line_in}
use Rattle.rs_check.proofs.entry_scan.line_of.Given as goal

abbrev pub invariant-loop-one : goal.invariant-loop-one
invariant-loop-one l = line_in l.store l.region l.index l.stores ≡ line_in l.store l.region l.index (drop l.one-index l.stores)
