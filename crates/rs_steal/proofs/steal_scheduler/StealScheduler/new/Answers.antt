use Rattle.std.proofs.Common.{All, get_or, sym, subst}
use Rattle.rs_steal.specs.Deques.{AreInRound}
use Rattle.rs_steal.specs.Opening.{IsNew}
use Rattle.rs_steal.proofs.Rounds.{fresh_is_new}
use Rattle.rs_steal.proofs.steal_scheduler.StealScheduler.new.Goals as goal

pub returns-clause-passes : goal.returns-clause-passes
returns-clause-passes c = subst (All (IsNew c.args.addresses)) (sym c.from_vec.ensures) (λ k d less. fresh_is_new c.args.addresses c.args.passes c.args.passes (get_or c.in_ok-list.list.items k d) (c.in_ok-list.ensures.fresh k d less))

pub returns-clause-round : goal.returns-clause-round
returns-clause-round c = subst AreInRound (sym c.from_vec.ensures) c.in_ok-list.ensures.round
