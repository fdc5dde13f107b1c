-- A turn whose machine was changed, and kept its name, is still its station's.
use Rattle.std.proofs.Common.{◌≡◌, ◌∙◌}
use Rattle.rs_mailcore.specs.declared.named.Named.{Ghosts}
use Rattle.rs_mailcore.specs.declared.named.Fsm as fsm
use Rattle.rs_mailbox.specs.declared.mailbox.Mailbox.{Mailbox}
use Rattle.rs_mailbox.specs.declared.station.Station.{Station}
use Rattle.rs_mailbox.specs.declared.turn.Turn.{Turn}
use Rattle.rs_mailbox.specs.Stations.{machine_of, reader_of, IsTurnOf}

abbrev pub with_machine : {F M P : Type 0} {k : Ghosts M P} → Turn F M P k → F → Turn F M P k
with_machine t x = record t { held = record t.held { stored = record t.held.stored { value = record t.held.stored.value { machine = x } } } }

module _ {F M P : Type 0} {d : fsm.Ghosts F M P} {n : Ghosts F P} {k : Ghosts M P} where
  pub lent_back : (name_of : F → P) (b : Mailbox F M P k) (s : Station F M P d n k) (t : Turn F M P k) (x : F) → IsTurnOf name_of b s t → name_of x ≡ name_of (machine_of t) → IsTurnOf name_of b s (with_machine t x)
  lent_back name_of b s t x h e = (h.0, h.1, h.2, (λ i. record { name = e i; posted = (reader_of t).name; queue = record { web = t.held.stored.value.reader.pass.web; heap = t.held.stored.value.reader.pass.heap } }) ∙ h.3, h.4)
