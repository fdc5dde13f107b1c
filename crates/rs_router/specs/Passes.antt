-- The passes of a new scheduler.
use Rattle.std.specs.Prelude.{◌≡◌, ℕ, Option}
use Rattle.std.specs.declared.alloc.Global.{Global}
use Rattle.atomic_blocks.specs.declared.web.Seat.{Seat}
use Rattle.crossbeam_queue.specs.declared.seg_queue.Going.{Going}
use Rattle.crossbeam_queue.specs.SegTies.{SegId, IsSegPassOf}
use Rattle.rs_router.specs.declared.queue_rule.Line.{Line}
use Rattle.rs_router.specs.declared.queue_scheduler.SchedulerPass.{SchedulerPass}
use Rattle.rs_router.specs.Lines.{member}

module _ {M A : Type 0} where
  -- the queue's pass, through which nothing was pushed or popped
  abbrev pub IsMember : SegId A → ℕ → Seat (Option M) (Going M Line) A → Type 0
  IsMember q b p = IsSegPassOf q p × (p.me.view.client ≡ member b)

-- the scheduler's Id, and the one that the pass has
abbrev pub id_with : SegId Global → ℕ → SegId Global × ℕ
id_with queue addresses = (queue, addresses)

-- the id of a scheduler's pass: its queue and its addresses
abbrev pub id_of : SchedulerPass → SegId Global × ℕ
id_of p = (record { web = p.pass.web; heap = p.pass.heap }, p.addresses)

-- it is of this queue, and nothing was pushed or popped through it
abbrev pub IsNewPass : SegId Global → ℕ → SchedulerPass → Type 0
IsNewPass q b p = (id_with q b ≡ id_of p) × (p.pass.me.view.client ≡ member b) × (p.empties ≡ 0)
