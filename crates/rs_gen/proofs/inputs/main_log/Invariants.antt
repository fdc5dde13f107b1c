use Rattle.std.proofs.Common.{◌≡◌}
use Rattle.std.specs.List.{flat_map, range_with_len}
use Rattle.rs_gen.specs.Rounds.{main_entries}
use Rattle.rs_gen.proofs.inputs.main_log.Given as goal

abbrev pub invariant-loop-nth : goal.invariant-loop-nth
invariant-loop-nth l = l.entries ≡ flat_map (main_entries l.n) (range_with_len 0 l.nth)
