use Rattle.std.proofs.Common.{rules, Some, ap, sym, ◌∙◌, ◌∷◌, ◌<◌, arith}
use Rattle.atomic_table.specs.Table.{rest}
use Rattle.rs_mailbox.specs.Steps.{brought}
use Rattle.rs_mailbox.proofs.Steps.{carries, releases_at, rechecks, retakes}
use Rattle.rs_mailbox.proofs.handover.Handover.release.Goals as goal

pub compare_exchange-found-requires : goal.compare_exchange-found-requires
compare_exchange-found-requires g c = (search rules, search rules, releases_at g.T.Named.name g.T.HasCount.count c.args.self.now.table.shared.key _ _ _ _ _ _ c.exchange.ensures.3 c.requires.held.2 (c.requires.held.3 ∙ sym c.requires.hand.1, c.requires.held.4) c.requires.held.0)

pub exchange-requires-then-found-ne-HELD : goal.exchange-requires-then-found-ne-HELD
exchange-requires-then-found-ne-HELD g c = let t = c.compare_exchange-found.ensures.2.1 c.if-found-ne-HELD.true in
    (c.compare_exchange-found.ensures.0 ∙ c.exchange.ensures.0 ∙ c.requires.hand.0, (Some c.args.held.stored, t.2 ∙ carries g.T.Named.name g.T.HasCount.count c.args.self.now.table.shared.key _ _ _ _ c.exchange.ensures.3 ∙ ap (λ l. (0, Some c.args.held.stored) ∷ rest l) (sym t.2)))

pub load-announced-requires : goal.load-announced-requires
load-announced-requires g c = let t = c.compare_exchange-found.ensures.2.0 c.if-found-ne-HELD.false in
    (c.compare_exchange-found.ensures.0 ∙ c.exchange.ensures.0 ∙ c.requires.hand.0, search rules, rechecks g.T.Named.name g.T.HasCount.count c.args.self.now.table.shared.key _ _ _ (ap (λ v. v.stance.phase) t.0))

pub compare_exchange-found-requires-2 : goal.compare_exchange-found-requires-2
compare_exchange-found-requires-2 g c = let t = c.compare_exchange-found.ensures.2.0 c.if-found-ne-HELD.false in
    let h = ap brought (ap (λ m. m.1) c.exchange.ensures.3) in let r = ap (λ v. v.stance.remembered) t.0 in
    let more : c.compare_exchange-found.new.seat.me.0.stance.remembered < c.load-announced.result = omega (arith, h, r, c.if-announced-handled.false) in
    let u = c.load-announced.ensures.2.1 more in
    (c.load-announced.ensures.0 ∙ c.compare_exchange-found.ensures.0 ∙ c.exchange.ensures.0 ∙ c.requires.hand.0, search rules, retakes g.T.Named.name g.T.HasCount.count c.args.self.now.table.shared.key _ _ _ (ap (λ v. v.stance.phase) u))

pub exchange-requires-2 : goal.exchange-requires-2
exchange-requires-2 g c = let t = c.compare_exchange-found-2.ensures.2.0 c.if-found-ne-IDLE.false in
    (c.compare_exchange-found-2.ensures.0 ∙ c.load-announced.ensures.0 ∙ c.compare_exchange-found.ensures.0 ∙ c.exchange.ensures.0 ∙ c.requires.hand.0, (Some t.0, t.2 ∙ ap (λ l. (0, Some t.0) ∷ rest l) (sym t.2)))
