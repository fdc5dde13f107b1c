-- What others can tell of an apply machine.
use Rattle.std.specs.Prelude.{◌≡◌, ◌≤◌, ℕ, Bool, List, map}
use Rattle.rs_entry.specs.declared.input.Input.{Input}
use Rattle.rs_msg.specs.declared.closed.Closed.{Closed}
use Rattle.rs_apply.specs.declared.machine.ApplyFsm.{ApplyFsm}
use Rattle.rs_apply.specs.declared.progress.Life.{Life}
use Rattle.rs_apply.specs.declared.progress.Life.TheVariants as life

-- what its region is: not made yet, at the index of the last entry that it has applied, or ended
pub data Stage : Type 0 where
  Unborn : Stage
  At : (index : ℕ) → Stage
  Over : Stage

pub record Applying : Type 0 where
  pub stage : Stage
  -- the greatest index that a Task has named; 5 at first
  pub named : ℕ
  -- the CatchUpLogs came of the merge by which the region ends
  pub caught : Bool
  -- the sources that have handed over, by address and index of the prepare
  pub closed : List (ℕ × ℕ)
  -- the merges that were asked for, by id of the source and index of the prepare
  pub asked : List (ℕ × ℕ)

abbrev pub stage_of : Life → Stage
stage_of life.Unborn = Unborn
stage_of (life.Born r) = At r.index
stage_of (life.Over merged) = Over

abbrev pub pair_of : Closed → ℕ × ℕ
pair_of x = (x.address, x.commit)

abbrev pub applying : ApplyFsm → Applying
applying m = record { stage = stage_of m.life; named = m.named; caught = m.caught; closed = map pair_of m.closed.items; asked = m.asked }

-- the plan's input
abbrev pub input_of : ApplyFsm → Input
input_of m = m.plan.now

-- the address of its region
abbrev pub address_of : ApplyFsm → ℕ
address_of m = m.address

-- a region that is made is at index 5 or beyond
abbrev pub IsSince : Stage → Type 0
IsSince stage = (i : ℕ) → stage ≡ At i → 5 ≤ i
