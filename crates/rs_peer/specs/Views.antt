-- What others can tell of a peer machine.
use Rattle.std.specs.Prelude.{ℕ}
use Rattle.rs_entry.specs.declared.input.Input.{Input}
use Rattle.rs_peer.specs.declared.machine.PeerFsm.{PeerFsm}

-- the plan's input
abbrev pub input_of : PeerFsm → Input
input_of m = m.plan.now

-- the address of its region
abbrev pub address_of : PeerFsm → ℕ
address_of m = m.address
