use Rattle.std.proofs.Common.{rules, Some, ap, sym, ◌∙◌, ◌∷◌}
use Rattle.atomic_table.specs.Table.{rest}
use Rattle.rs_mailbox.proofs.Steps.{shuttings}
use Rattle.rs_mailbox.proofs.handover.Handover.close.Goals as goal

pub swap-found-requires : goal.swap-found-requires
swap-found-requires g c = (search rules, search rules, shuttings g.T.Named.name g.T.HasCount.count c.args.self.now.table.shared.key _ _ _ c.requires.calm)

pub exchange-requires : goal.exchange-requires
exchange-requires g c = let t = (c.swap-found.ensures.2.0 c.if-found-eq-DROPPED.false c.if-found-eq-HELD.false).1 in
    (c.swap-found.ensures.0 ∙ c.requires.hand.0, (Some t.0, t.2 ∙ ap (λ l. (0, Some t.0) ∷ rest l) (sym t.2)))
