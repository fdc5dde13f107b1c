-- Numbers that are chosen within their limits.
use Rattle.std.specs.Prelude.{IfSome}
use Rattle.rs_engine.specs.Limits.{IsUpTo}
use Rattle.raftreplay.specs.declared.options.Chosen.{Chosen}

-- each number that is chosen is one that its setting may have
pub record IsLimited (chosen : Chosen) : Type 0 where
  pub raft_pollers : IfSome chosen.raft_pollers (IsUpTo 16)
  pub apply_pollers : IfSome chosen.apply_pollers (IsUpTo 16)
  pub batch : IfSome chosen.batch (IsUpTo 256)
  pub chunk : IfSome chosen.chunk (IsUpTo 65536)
