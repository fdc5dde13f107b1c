use Rattle.std.proofs.Common.{[], ◌∷◌, length, Some, sym, ap, ◌∙◌, subst, arith}
use Rattle.std.specs.Option.{option_to_list}
use Rattle.std.proofs.lemmas.List.{length-append}
use Rattle.rs_mailbox.specs.ContentsNames.{contents_name}
use Rattle.rs_mailbox.specs.Hands.{IsFresh}
use Rattle.rs_mailbox.specs.Passes.{IsSender}
use Rattle.rs_mailbox.specs.Stations.{IsNewStation}
use Rattle.rs_mailbox.proofs.Pops.{paired, shorter}
use Rattle.rs_mailbox.proofs.mailbox.Mailbox.new.Goals as goal

pub loop-k-preserved : goal.loop-k-preserved
loop-k-preserved g c = let i = c.loop-k.invariant in let hp = c.pop.ensures in let sp = c.pop-in-loop-k.ensures in let lp = c.push_reserved.ensures in let x = c.station_of.result in
    let b = c.in_ok-mailbox.mailbox in let is = c.in_ok-mailbox.ensures.name in let made = c.station_of.ensures in
    let hl = shorter _ _ _ c.unwrap-hand.result hp.items c.unwrap-hand.ensures in let sl = shorter _ _ _ c.unwrap-sender.result sp.items c.unwrap-sender.ensures in
    let all = paired _ _ _ c.unwrap-hand.result _ _ _ c.unwrap-sender.result c.loop-k.list.items _ x hp.items c.unwrap-hand.ensures sp.items c.unwrap-sender.ensures lp.items
    (IsFresh (contents_name g.F.Named.name) b.handover) (IsSender b.queue (g.F.Named.name c.args.machine)) (IsNewStation g.F.Named.name b) i.7 i.8 i.9
    (λ p q. let h = subst (λ y. IsFresh (contents_name g.F.Named.name) b.handover y) (sym made.0) p in let s = subst (λ y. IsSender b.queue (g.F.Named.name c.args.machine) y) (sym made.1) q in
    ((h.0, s.0, s.1 ∙ ap Some (sym is.0), is.1 ∙ ap Some (sym is.0)), h.2, h.3, h.4, s.2)) in (
      omega (arith, hp.len, ap (λ z. length (option_to_list z)) c.unwrap-hand.ensures, i.0),
      omega (arith, hl, i.1),
      omega (arith, sp.len, ap (λ z. length (option_to_list z)) c.unwrap-sender.ensures, i.2),
      omega (arith, sl, i.3),
      omega (arith, lp.len, i.4),
      omega (arith, i.5, ap length lp.items, length-append c.loop-k.list.items (x ∷ [])),
      omega (arith, lp.capacity, i.6),
      all.0,
      all.1,
      all.2,
    )
