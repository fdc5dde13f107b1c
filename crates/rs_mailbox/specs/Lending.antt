-- A Held lends its value, and keeps its handled count.
use Rattle.std.specs.Borrow.{Lends, MutBor, Fml}
use denote.RattleType.{RattleType}
use Rattle.rs_mailbox.specs.declared.held.Held.{Held}
use Rattle.rs_mailbox.specs.contracts.held.Held.{the_row}

-- the held cell with another value
abbrev pub with_value : {T : Type 0} → Held T → T → Held T
with_value h x = record h { stored = record h.stored { value = x } }

-- the held cell lends its value, and has what the borrower left when the borrow ends
abbrev pub LendsValue : (R : RattleType) → MutBor (Held R.Denot) → MutBor R.Denot → Fml
LendsValue R s r = Lends (the_row R) R s r (with_value s.now)
