use Rattle.std.proofs.Common.{Some}
use Rattle.rs_mailbox.proofs.naming.open_queue.Given as goal

abbrev pub ghosts-open_named : goal.ghosts-open_named
ghosts-open_named g a = record { picked = Some (g.F.Named.name a.machine.now) }
