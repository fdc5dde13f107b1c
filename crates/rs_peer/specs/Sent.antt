-- What a peer machine sends.
use Rattle.std.specs.Prelude.{◌≡◌, ◌<◌, ℕ, List, [], ◌∷◌, ◌++◌, map, length, take}
use Rattle.rs_entry.specs.declared.input.Input.{Input}
use Rattle.rs_check.specs.Values.{count_of}
use Rattle.rs_msg.specs.Names.{name_of_apply}
use Rattle.rs_msg.specs.declared.messages.ApplyMsg.{ApplyMsg}
use Rattle.rs_msg.specs.declared.messages.ApplyMsg.TheVariants as apply
use Rattle.rs_msg.specs.declared.messages.PeerMsg.{PeerMsg}
use Rattle.rs_msg.specs.declared.messages.PeerMsg.TheVariants as peer

-- what its apply machine is told for a message
abbrev pub tasks_of : PeerMsg → List ApplyMsg
tasks_of (peer.Deliver plan upto) = apply.Task plan upto ∷ []
tasks_of (peer.CatchUp plan target commit) = apply.Task plan commit ∷ apply.CatchUpLogs plan target commit ∷ []
tasks_of msg = []

-- the messages that this one leads to, each with the address that it goes to
abbrev pub sent_for : ℕ → PeerMsg → List (ℕ × ApplyMsg)
sent_for address msg = map (λ task. (address, task)) (tasks_of msg)

-- a front of what was to be sent was added, and not all of it
pub record AddsFront (before : List (ℕ × ApplyMsg)) (sent : List (ℕ × ApplyMsg)) (after : List (ℕ × ApplyMsg)) : Type 0 where
  pub count : ℕ
  pub not_all : count < length sent
  pub added : after ≡ before ++ take count sent

-- it goes to an address of the plan, and is of that plan
abbrev pub IsOfPlan : Input → ℕ × ApplyMsg → Type 0
IsOfPlan input sent = (sent.0 < count_of input) × (name_of_apply sent.1 ≡ input)
