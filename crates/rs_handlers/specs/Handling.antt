-- What handlers let their machines do, and which messages they send.
use Rattle.std.specs.Prelude.{◌≡◌, ℕ, ◌||◌, ◌++◌, ◌∷◌, Bool, true, false, List, []}
use Rattle.rs_apply.specs.Handling.{merges_so_far, named_after, tells_merge, IsBornBy}
use Rattle.rs_apply.specs.Handling as apply
use Rattle.rs_apply.specs.Machines.{is_more, IsAdvance}
use Rattle.rs_apply.specs.declared.machine.ApplyFsm.{ApplyFsm}
use Rattle.rs_apply.specs.declared.progress.Progress.{Progress}
use Rattle.rs_check.specs.Plans.{ends_of}
use Rattle.rs_entry.specs.declared.input.Input.{Input}
use Rattle.rs_entry.specs.declared.outcome.Mode.{Mode}
use Rattle.rs_entry.specs.declared.outcome.Mode.TheVariants as mode
use Rattle.rs_meta.specs.Machines.{held_by, told_after}
use Rattle.rs_meta.specs.Machines as meta
use Rattle.rs_meta.specs.declared.machine.StoreFsm.{StoreFsm}
use Rattle.rs_msg.specs.declared.messages.ApplyMsg.{ApplyMsg}
use Rattle.rs_msg.specs.declared.messages.PeerMsg.{PeerMsg}
use Rattle.rs_msg.specs.declared.messages.StoreMsg.{StoreMsg}
use Rattle.rs_msg.specs.declared.messages.StoreMsg.TheVariants as store
use Rattle.rs_msg.specs.declared.outbox.Outbox.{Outbox}
use Rattle.rs_peer.specs.Kept.{applied_after, tombstone_after}
use Rattle.rs_peer.specs.Sent.{sent_for}
use Rattle.rs_peer.specs.declared.machine.PeerFsm.{PeerFsm}
use Rattle.rs_poll.specs.Handing.{HandsAll, Known}
use Rattle.rs_poll.specs.declared.handler.More.{More}
use Rattle.rs_poll.specs.declared.handler.More.TheVariants.{No, Yes}
use Rattle.rs_handlers.specs.declared.control_handler.ControlOut.{ControlOut}
use Rattle.rs_handlers.specs.Stores.{IsComplete}
use Rattle.rs_table.specs.Views.{told_of}

-- ---- peer machines

-- the machine was told the message, and put out what its apply machine has to know
pub record TellsPeer (x : PeerFsm) (msg : PeerMsg) (out : Outbox) (y : PeerFsm) (out_after : Outbox) : Type 0 where
  pub address : y.address ≡ x.address
  pub applied : y.applied ≡ applied_after msg x.applied
  pub tombstone : y.tombstone ≡ tombstone_after msg x.tombstone
  pub applies : out_after.applies ≡ out.applies ++ sent_for x.address msg
  pub peers : out_after.peers ≡ out.peers
  pub stores : out_after.stores ≡ out.stores

-- what was put out for apply machines was sent, by the stations that the handler has of them
pub record SendsTasks (out : Outbox) (applies applies_after : List (Known Input ApplyMsg)) (out_after : Outbox) : Type 0 where
  pub sent : HandsAll out.applies applies applies_after
  pub left : (out_after.applies ≡ []) × (out_after.peers ≡ out.peers) × (out_after.stores ≡ out.stores)

-- ---- apply machines

-- the machine was told the message, and put out nothing
pub record TellsApply (x : ApplyFsm) (msg : ApplyMsg) (out : Outbox) (y : ApplyFsm) (out_after : Outbox) : Type 0 where
  pub address : y.address ≡ x.address
  pub named : y.named ≡ named_after x.named msg
  pub caught : y.caught ≡ (x.caught || tells_merge x.plan.now x.address msg)
  pub born : IsBornBy x.address msg x.life y.life
  pub closed : y.closed.items ≡ apply.held_after x.plan.now x.address x.closed.items (merges_so_far x.plan.now x.address x.life) msg
  pub asked : y.asked ≡ x.asked
  pub nothing_out : out_after ≡ out

-- the machine has more to do
abbrev pub is_yes : More → Bool
is_yes Yes = true
is_yes No = false

-- the machine went on, and asks for more exactly where its budget is used up
pub record Advances (x : ApplyFsm) (budget : ℕ) (out : Outbox) (more : More) (y : ApplyFsm) (out_after : Outbox) : Type 0 where
  pub progress : Progress
  pub asks : is_yes more ≡ is_more progress
  pub address : y.address ≡ x.address
  pub named : y.named ≡ x.named
  pub caught : y.caught ≡ x.caught
  pub advance : IsAdvance x.plan x.address x.named x.caught budget x.life x.closed.items x.asked out progress y.life y.closed.items y.asked out_after

-- all that was put out was sent: to the peer machines and to the control machines by the stations that the handler has of them, and to the apply machines by those that it was lent
pub record SendsAll (out : Outbox) (peers peers_after : List (Known Input PeerMsg)) (stores stores_after : List (Known Input StoreMsg)) (applies applies_after : List (Known Input ApplyMsg)) (out_after : Outbox) : Type 0 where
  pub to_peers : HandsAll out.peers peers peers_after
  pub to_stores : HandsAll out.stores stores stores_after
  pub to_applies : HandsAll out.applies applies applies_after
  pub left : (out_after.peers ≡ []) × (out_after.stores ≡ []) × (out_after.applies ≡ [])

-- ---- control machines

-- the address, where the region ended removed
abbrev pub if_removed : ℕ → Mode → List ℕ
if_removed a mode.Removed = a ∷ []
if_removed a mode.Normal = []
if_removed a (mode.Merging target commit) = []
if_removed a (mode.Merged target) = []

-- the address of a region that the message says to have ended removed
abbrev pub removed_by : Input → StoreMsg → List ℕ
removed_by input (store.Reshaped plan address nth) = []
removed_by input (store.Ended ending) = if_removed ending.value.address (ends_of input ending.value.address)

-- the machine was told the message, and the address of a region that ended removed was put out
pub record TellsStore (x : StoreFsm) (msg : StoreMsg) (out : ControlOut) (y : StoreFsm) (out_after : ControlOut) : Type 0 where
  pub place : y.place ≡ x.place
  pub held : (a : ℕ) → held_by y.endings a ≡ meta.held_after x.plan.now x.place msg (held_by x.endings) a
  pub told : (a n : ℕ) → told_of y.table a n ≡ told_after x.plan.now x.place msg (told_of x.table) a n
  pub removed : out_after.removed ≡ out.removed ++ removed_by x.plan.now msg
  pub complete : out_after.complete ≡ out.complete

-- the machine stays, and its store's place is put out exactly where it is complete
pub record NamesStore (x : StoreFsm) (out : ControlOut) (y : StoreFsm) (out_after : ControlOut) : Type 0 where
  pub machine : y ≡ x
  pub named : IsComplete x → out_after.complete ≡ out.complete ++ x.place ∷ []
  pub unnamed : ¬ IsComplete x → out_after.complete ≡ out.complete
  pub removed : out_after.removed ≡ out.removed
