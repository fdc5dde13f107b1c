use Rattle.std.proofs.Common.{◌≡◌, ◌++◌, map, take}
use Rattle.rs_store.specs.Stores.{wrote}
use Rattle.rs_history.proofs.writes.Writes.record.Given as goal

abbrev pub invariant-loop-op : goal.invariant-loop-op
invariant-loop-op l = l.self ≡ l.fn.self ++ map (wrote l.region l.index) (take l.op-index l.ops)
