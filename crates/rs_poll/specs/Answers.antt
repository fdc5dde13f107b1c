-- What a clause says of the answer of a turn.
use Rattle.std.specs.Prelude.{ℕ}
use Rattle.rs_mailbox.specs.declared.ticket.Ticket.{Ticket}
use Rattle.rs_poll.specs.declared.given.Given.{Given}
use Rattle.rs_poll.specs.declared.given.Given.TheVariants.{Home, Again, Dropped}
use Rattle.rs_poll.specs.declared.worked.Visited.{Visited}
use Rattle.rs_poll.specs.declared.worked.Visited.TheVariants as visited
use Rattle.rs_poll.specs.declared.worked.Worked.{Worked}
use Rattle.rs_poll.specs.declared.worked.Worked.TheVariants.{Turned, Gone, Nothing}

-- what holds after a machine was handled, after one was found gone, or after nothing was done
abbrev pub MatchWorked : Worked → (ℕ → Type 0) → (ℕ → Type 0) → Type 0 → Type 0
MatchWorked (Turned a) T G N = T a
MatchWorked (Gone a) T G N = G a
MatchWorked Nothing T G N = N

-- what holds where a visit was a turn
abbrev pub OnTurned : Visited → Type 0 → Type 0
OnTurned visited.Turned T = T
OnTurned visited.Gone T = Unit {0}

-- what holds of the ticket where the machine is to run again
abbrev pub OnAgain : Given → (Ticket → Type 0) → Type 0
OnAgain Home T = Unit {0}
OnAgain (Again t) T = T t
OnAgain Dropped T = Unit {0}
