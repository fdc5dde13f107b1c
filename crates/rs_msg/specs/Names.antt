-- The plan that a message is of.
use Rattle.rs_entry.specs.declared.input.Input.{Input}
use Rattle.rs_msg.specs.declared.messages.ApplyMsg.{ApplyMsg}
use Rattle.rs_msg.specs.declared.messages.ApplyMsg.TheVariants as apply
use Rattle.rs_msg.specs.declared.messages.PeerMsg.{PeerMsg}
use Rattle.rs_msg.specs.declared.messages.PeerMsg.TheVariants as peer
use Rattle.rs_msg.specs.declared.messages.StoreMsg.{StoreMsg}
use Rattle.rs_msg.specs.declared.messages.StoreMsg.TheVariants as store

-- the plan of a message to an apply machine
abbrev pub name_of_apply : ApplyMsg → Input
name_of_apply (apply.Task plan upto) = plan.now
name_of_apply (apply.Birth piece) = piece.value.plan.now
name_of_apply (apply.CatchUpLogs plan target commit) = plan.now
name_of_apply (apply.SourceDone closed) = closed.value.plan.now
name_of_apply (apply.Noop plan) = plan.now

-- the plan of a message to a peer machine
abbrev pub name_of_peer : PeerMsg → Input
name_of_peer (peer.Deliver plan upto) = plan.now
name_of_peer (peer.CatchUp plan target commit) = plan.now
name_of_peer (peer.Applied plan upto) = plan.now
name_of_peer (peer.MergeResult plan target) = plan.now

-- the plan of a message to a control machine
abbrev pub name_of_store : StoreMsg → Input
name_of_store (store.Reshaped plan address nth) = plan.now
name_of_store (store.Ended ending) = ending.value.plan.now
