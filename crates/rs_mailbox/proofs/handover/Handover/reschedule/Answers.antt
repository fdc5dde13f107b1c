use Rattle.std.proofs.Common.{rules, Some, ap, sym, ◌∙◌, ◌∷◌}
use Rattle.atomic_table.specs.Table.{rest}
use Rattle.rs_mailbox.proofs.Steps.{carries, reschedules_at}
use Rattle.rs_mailbox.proofs.handover.Handover.reschedule.Goals as goal

pub compare_exchange-found-requires : goal.compare_exchange-found-requires
compare_exchange-found-requires g c = (search rules, search rules, reschedules_at g.T.Named.name g.T.HasCount.count c.args.self.now.table.shared.key _ _ _ _ _ _ c.exchange.ensures.3 c.requires.held.2 (c.requires.held.3 ∙ sym c.requires.hand.1, c.requires.held.4) c.requires.held.0)

pub exchange-requires-then-found-ne-HELD : goal.exchange-requires-then-found-ne-HELD
exchange-requires-then-found-ne-HELD g c = let t = c.compare_exchange-found.ensures.2.1 c.if-found-ne-HELD.true in
    (c.compare_exchange-found.ensures.0 ∙ c.exchange.ensures.0 ∙ c.requires.hand.0, (Some c.args.held.stored, t.2 ∙ carries g.T.Named.name g.T.HasCount.count c.args.self.now.table.shared.key _ _ _ _ c.exchange.ensures.3 ∙ ap (λ l. (0, Some c.args.held.stored) ∷ rest l) (sym t.2)))
