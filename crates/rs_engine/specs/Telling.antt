-- What the main thread tells the peer machines.
use Rattle.std.specs.Prelude.{◌≡◌, ℕ, Bool, true, false, List, Some, None}
use Rattle.std.specs.Borrow.{Bor}
use Rattle.rs_check.specs.declared.plan.Plan.{Plan}
use Rattle.rs_entry.specs.declared.input.Input.{Input}
use Rattle.rs_msg.specs.declared.messages.PeerMsg.{PeerMsg}
use Rattle.rs_poll.specs.Handing.{Hands, Known}
use Rattle.rs_handlers.specs.Delivering.{IsNext}
use Rattle.rs_handlers.specs.declared.delivery.Told.{Told}
use Rattle.rs_router.specs.Desks.{ChangesAt}

-- the first address that waits is told by its station; or none waits, and nothing is told
abbrev pub TellsNext : Bor Plan → ℕ → Bool → List Told → List (Known Input PeerMsg) → List Told → List (Known Input PeerMsg) → Type 0
TellsNext plan chunk true waiting ps waiting_after qs = (next : ℕ × PeerMsg) × IsNext plan chunk waiting (Some next) waiting_after × ChangesAt next.0 (Hands next.1) ps qs
TellsNext plan chunk false waiting ps waiting_after qs = IsNext plan chunk waiting None waiting_after × (qs ≡ ps)
