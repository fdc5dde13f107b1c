-- The steps of a station but those of sending: what it took, gave back and closed.
use Rattle.std.specs.Prelude.{Bool, true, false, List, map, filter}
use Rattle.rs_mailcore.specs.declared.named.Named.{Ghosts}
use Rattle.rs_mailcore.specs.declared.named.Fsm as fsm
use Rattle.rs_mailbox.specs.declared.view.Kind.{Kind}
use Rattle.rs_mailbox.specs.declared.view.Kind.TheVariants.{Announce, Notify, Take, Release, Recheck, Retake, Close, Look, Reschedule}
use Rattle.rs_mailbox.specs.declared.view.Deed.{Deed}
use Rattle.rs_mailbox.specs.declared.station.Station.{Station}
use Rattle.rs_mailbox.specs.Stations.{view}

-- a send makes these steps alone: it looks, announces and notifies
abbrev pub is_turning : Kind → Bool
is_turning Announce = false
is_turning Notify = false
is_turning Look = false
is_turning Take = true
is_turning Release = true
is_turning Recheck = true
is_turning Retake = true
is_turning Close = true
is_turning Reschedule = true

-- the steps that turn the machine's word
abbrev pub turning : List Deed → List Deed
turning deeds = filter (λ d. is_turning d.kind) deeds

module _ {F M P : Type 0} {d : fsm.Ghosts F M P} {n : Ghosts F P} {k : Ghosts M P} where
  -- the turning steps of each station, in the order of the addresses
  abbrev pub turn_steps : List (Station F M P d n k) → List (List Deed)
  turn_steps ss = map (λ s. turning (view s).deeds) ss
