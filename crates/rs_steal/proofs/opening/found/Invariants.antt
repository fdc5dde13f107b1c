use Rattle.std.proofs.Common.{◌+◌}
use Rattle.rs_steal.proofs.opening.found.Given as goal

abbrev pub ghosts-found_marked : goal.ghosts-found_marked
ghosts-found_marked a = record { bound = a.addresses; count = a.passes + 2 }
