use Rattle.std.proofs.Common.{◌≡◌, ◌++◌, drop, ◌+◌}
use Rattle.std.specs.Prelude.{None, true}
use Rattle.rs_key.specs.Ranges.{is_range, bad_cut_from, cut_from, cut}
use Rattle.rs_key.proofs.range.cut_at.Given as goal

abbrev pub invariant-loop-key : goal.invariant-loop-key
invariant-loop-key l = record {
  good : bad_cut_from (l.key-index + 1) l.start l.range.end (drop l.key-index l.keys) ≡ None;
  made : l.ranges ++ cut_from l.start l.range.end (drop l.key-index l.keys) ≡ cut l.range l.keys;
  open_range : is_range l.start l.range.end ≡ true;
}
