-- A turn lends its machine.
use Rattle.std.specs.Borrow.{Lends, MutBor, Fml}
use denote.RattleType.{RattleType}
use Rattle.rs_mailcore.specs.declared.named.Named.{Ghosts}
use Rattle.rs_mailbox.specs.declared.turn.Turn.{Turn}
use Rattle.rs_mailbox.specs.contracts.turn.Turn.{the_row}

module _ (F M P : RattleType) (m : Ghosts M.Denot P.Denot) where
  -- the turn with another machine
  abbrev pub with_machine : Turn F.Denot M.Denot P.Denot m → F.Denot → Turn F.Denot M.Denot P.Denot m
  with_machine t x = record t { held = record t.held { stored = record t.held.stored { value = record t.held.stored.value { machine = x } } } }

  -- the turn lends its machine, and has what the borrower left when the borrow ends
  abbrev pub LendsMachine : MutBor (Turn F.Denot M.Denot P.Denot m) → MutBor F.Denot → Fml
  LendsMachine s r = Lends (the_row F M P m) F s r (with_machine s.now)
