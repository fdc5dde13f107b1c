use Rattle.std.proofs.Common.{map, take}
use Rattle.rs_store.specs.Stores.{wrote}
use Rattle.rs_msg.specs.Maps.{HasItems, items_at, with_writes}
use Rattle.rs_msg.proofs.map.Map.note.Given as goal

abbrev pub invariant-loop-op : goal.invariant-loop-op
invariant-loop-op l = HasItems l.self (with_writes (items_at l.fn.self) (map (wrote l.region l.index) (take l.op-index l.ops)))
