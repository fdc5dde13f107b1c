-- Messages that a router takes.
use Rattle.std.specs.Prelude.{◌≡◌, ℕ, ◌<◌, List, length, Result}
use Rattle.std.specs.declared.result.Result.TheVariants.{Ok, Err}
use Rattle.rs_mailcore.specs.declared.named.Named.{Ghosts}
use Rattle.rs_mailbox.specs.declared.mailbox.Mailbox.{Mailbox}
use Rattle.rs_router.specs.Desks.{AllNamed}
use Rattle.rs_router.specs.declared.route_error.RouteError.{RouteError}
use Rattle.rs_router.specs.declared.route_error.RouteError.TheVariants.{Closed, NoMemory, Spent}

-- the address is one of the mailboxes', and all of these have the message's name
abbrev pub Reaches : {F M P : Type 0} {k : Ghosts M P} → (F → P) → (M → P) → List (Mailbox F M P k) → ℕ × M → Type 0
Reaches name_of message_name mailboxes sent = (sent.0 < length mailboxes) × AllNamed name_of (message_name sent.1) mailboxes

-- the address is below the count, and the message has the name
abbrev pub IsFor : {M P : Type 0} → (M → P) → ℕ → P → ℕ × M → Type 0
IsFor message_name count name sent = (sent.0 < count) × (message_name sent.1 ≡ name)

-- the router's answer isn't want of memory
abbrev pub HadMemory : {M : Type 0} → Result (Unit {0}) (RouteError M) → Type 0
HadMemory (Ok _) = Unit {0}
HadMemory (Err (Closed y)) = Unit {0}
HadMemory (Err (NoMemory y)) = ⊥
HadMemory (Err (Spent y)) = Unit {0}
