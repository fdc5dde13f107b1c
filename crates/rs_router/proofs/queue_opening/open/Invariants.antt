use Rattle.rs_router.proofs.queue_opening.open.Given as goal

abbrev pub ghosts-open_bounded : goal.ghosts-open_bounded
ghosts-open_bounded a = record { bound = a.addresses }
