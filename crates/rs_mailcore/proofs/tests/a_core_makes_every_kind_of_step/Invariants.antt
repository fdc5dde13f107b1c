use Rattle.rs_mailcore.specs.Keeping.{moment, IsSound}
use Rattle.rs_mailcore.proofs.tests.a_core_makes_every_kind_of_step.Given as goal

abbrev pub invariant-steps : goal.invariant-steps
invariant-steps g l = IsSound (moment l.core.ledger)
