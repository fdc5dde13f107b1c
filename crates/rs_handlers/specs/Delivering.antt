-- What the peer machines are told of their logs.
use Rattle.std.specs.Prelude.{◌≡◌, ℕ, ◌+◌, min, ltb, List, [], ◌∷◌, ◌++◌, Option, Some, None, if◌then◌else◌}
use Rattle.std.specs.Borrow.{Bor}
use Rattle.rs_entry.specs.declared.input.Input.{Input}
use Rattle.rs_check.specs.declared.plan.Plan.{Plan}
use Rattle.rs_check.specs.Plans.{own_of}
use Rattle.rs_msg.specs.declared.messages.PeerMsg.{PeerMsg}
use Rattle.rs_msg.specs.declared.messages.PeerMsg.TheVariants as peer
use Rattle.rs_handlers.specs.declared.delivery.Told.{Told}

-- the index of the last entry of the address's own log, 5 where it has none; as far as 64 bits hold it
abbrev pub last_own : Input → ℕ → ℕ
last_own input a = min (own_of input a + 5) 18446744073709551615

-- the index that is told next: a chunk more, up to the last
abbrev pub next_upto : Input → ℕ → Told → ℕ
next_upto input chunk told = min (told.upto + chunk) (last_own input told.address)

-- the address waits again where more of its log is left
abbrev pub again : Input → ℕ → Told → List Told
again input chunk told = if ltb (next_upto input chunk told) (last_own input told.address) then record { address = told.address; upto = next_upto input chunk told } ∷ [] else []

-- the first that waits is told, and waits again behind the others; where none waits there is no message
abbrev pub IsNext : Bor Plan → ℕ → List Told → Option (ℕ × PeerMsg) → List Told → Type 0
IsNext plan chunk [] None after = after ≡ []
IsNext plan chunk [] (Some next) after = ⊥
IsNext plan chunk (told ∷ rest) None after = ⊥
IsNext plan chunk (told ∷ rest) (Some next) after = (next ≡ (told.address, peer.Deliver plan (next_upto plan.now chunk told))) × (after ≡ rest ++ again plan.now chunk told)

-- nothing was told yet
abbrev pub opening : ℕ → Told
opening address = record { address = address; upto = 5 }
