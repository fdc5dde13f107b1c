-- An outbox that fits a plan: its messages are of the plan, and go to machines that the plan has.
use Rattle.std.specs.Prelude.{◌≡◌, ℕ, ◌<◌, length}
use Rattle.std.specs.List.{All}
use Rattle.rs_entry.specs.declared.input.Input.{Input}
use Rattle.rs_check.specs.Values.{count_of}
use Rattle.rs_msg.specs.Names.{name_of_apply, name_of_peer, name_of_store}
use Rattle.rs_msg.specs.declared.messages.ApplyMsg.{ApplyMsg}
use Rattle.rs_msg.specs.declared.messages.PeerMsg.{PeerMsg}
use Rattle.rs_msg.specs.declared.messages.StoreMsg.{StoreMsg}
use Rattle.rs_msg.specs.declared.outbox.Outbox.{Outbox}

-- the message goes to the address of a region of the plan, and is of the same input
abbrev pub FitsPeer : Input → ℕ × PeerMsg → Type 0
FitsPeer input p = (p.0 < count_of input) × (name_of_peer p.1 ≡ input)

-- the message goes to the address of a region of the plan, and is of the same input
abbrev pub FitsApply : Input → ℕ × ApplyMsg → Type 0
FitsApply input p = (p.0 < count_of input) × (name_of_apply p.1 ≡ input)

-- the message goes to a store of the plan, and is of the same input
abbrev pub FitsStore : Input → ℕ × StoreMsg → Type 0
FitsStore input p = (p.0 < length input.stores) × (name_of_store p.1 ≡ input)

-- each message of the outbox has an address of the plan and is of the same input
pub record Fits (input : Input) (out : Outbox) : Type 0 where
  pub peers : All (FitsPeer input) out.peers
  pub applies : All (FitsApply input) out.applies
  pub stores : All (FitsStore input) out.stores
