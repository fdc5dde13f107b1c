-- The reading pass and a sending pass of a queue that has this name, before any push and pop.
use Rattle.std.specs.Prelude.{◌≡◌, [], Option, Some}
use Rattle.atomic_blocks.specs.declared.web.Seat.{Seat}
use Rattle.crossbeam_queue.specs.declared.seg_queue.Going.{Going}
use Rattle.crossbeam_queue.specs.SegTies.{SegId, IsSegPassOf}
use Rattle.rs_mailbox.specs.declared.trail.Trail.{Trail}

module _ {N M A : Type 0} where
  -- the pass is the reader's of this queue, under this name, and has taken nothing
  abbrev pub IsReader : SegId A → N → Seat (Option M) (Going M (Trail N M)) A → Type 0
  IsReader q n p = IsSegPassOf q p × (p.id ≡ 0) × (p.me.view.client.name ≡ Some n) × (p.me.view.client.got ≡ [])

  -- the pass is a sender's of this queue, under this name, and has sent nothing
  abbrev pub IsSender : SegId A → N → Seat (Option M) (Going M (Trail N M)) A → Type 0
  IsSender q n p = IsSegPassOf q p × (p.me.view.client.name ≡ Some n) × (p.me.view.client.sent ≡ [])
