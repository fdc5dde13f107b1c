use Rattle.std.proofs.Common.{rules, Some, ap, sym, ◌∙◌, ◌∷◌}
use Rattle.atomic_table.specs.Table.{rest}
use Rattle.rs_mailbox.proofs.Steps.{takings}
use Rattle.rs_mailbox.proofs.handover.Handover.take.Goals as goal

pub compare_exchange-found-requires : goal.compare_exchange-found-requires
compare_exchange-found-requires g c = (search rules, search rules, takings g.T.Named.name g.T.HasCount.count c.args.self.now.table.shared.key _ _ _ c.requires.calm)

pub exchange-requires : goal.exchange-requires
exchange-requires g c = let t = c.compare_exchange-found.ensures.2.0 c.if-found-ne-NOTIFIED.false in
    (c.compare_exchange-found.ensures.0 ∙ c.requires.hand.0, (Some t.0, t.2 ∙ ap (λ l. (0, Some t.0) ∷ rest l) (sym t.2)))
