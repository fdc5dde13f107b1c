use Rattle.std.proofs.Common.{◌∷◌, [], length, All, sym, subst, ap, arith}
use Rattle.std.proofs.lemmas.List.Elements.{All-push}
use Rattle.std.proofs.lemmas.List.{length-append}
use Rattle.rs_mailbox.specs.declared.hand.Hand.{Hand}
use Rattle.rs_mailbox.specs.Making.{IsNewHand}
use Rattle.rs_mailbox.proofs.handover.Handover.new.Goals as goal

pub loop-k-preserved : goal.loop-k-preserved
loop-k-preserved g c = let i = c.loop-k.invariant in let p = c.push_reserved.ensures in let n = c.next_hand.ensures in let x = c.next_hand.result in
    let P = λ (h : Hand g.row.T.Denot g.row.T-Name.Denot). IsNewHand c.in_ok-handover.handover.table.shared.table_id (g.T.Named.name c.in_ok-handover.handover.table.shared.key) h.seat in (
      n.first.0,
      n.first.1,
      omega (arith, n.first.2, i.2),
      omega (arith, p.len, i.3),
      omega (arith, p.len, i.4, ap length p.items, length-append c.loop-k.list.items (x ∷ [])),
      omega (arith, p.capacity, i.5),
      subst (All P) (sym p.items) (All-push P c.loop-k.list.items x i.6 n.hand.0),
    )
