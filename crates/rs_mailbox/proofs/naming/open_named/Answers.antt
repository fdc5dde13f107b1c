use Rattle.std.proofs.Common.{[], ◌∷◌, All, length, sym, ap, ◌∙◌, subst, inl, inr, arith}
use Rattle.std.proofs.lemmas.List.Elements.{All-push}
use Rattle.std.proofs.lemmas.List.{length-append}
use Rattle.crossbeam_queue.specs.Fifo.{Forks}
use Rattle.rs_mailbox.specs.InOrder.{IsInOrder, founder, member}
use Rattle.rs_mailbox.specs.Passes.{IsSender}
use Rattle.rs_mailbox.proofs.Orders.{begins, founds}
use Rattle.rs_mailbox.proofs.naming.open_named.Goals as goal

pub with_rule-requires : goal.with_rule-requires
with_rule-requires g c = begins {N = g.row.F-Name.Denot} g.F.Message.Named.name

pub another-requires-clause-rule : goal.another-requires-clause-rule
another-requires-clause-rule g c = let e = c.in_ok-queue.ensures in let v = c.in_ok-queue.reader.me.view.client in
    subst (λ o. Forks (IsInOrder g.F.Message.Named.name) c.in_ok-queue.reader.id v (founder o v) (member o v)) (sym c.requires.picked)
    (founds g.F.Message.Named.name c.in_ok-queue.reader.id v (g.F.Named.name c.args.machine.now) e.1 (let m = ap (λ t. t.made) e.2 in omega arith) (inl (ap (λ t. t.name) e.2)))

pub another-requires-in-loop-k-clause-rule : goal.another-requires-in-loop-k-clause-rule
another-requires-in-loop-k-clause-rule g c = let i = c.loop-k.invariant.0 in let v = c.loop-k.reader.me.view.client in
    subst (λ o. Forks (IsInOrder g.F.Message.Named.name) c.loop-k.reader.id v (founder o v) (member o v)) (sym c.requires.picked)
    (founds g.F.Message.Named.name c.loop-k.reader.id v (g.F.Named.name c.args.machine.now) i.1 (let m = c.loop-k.invariant.5 in omega arith) (inr i.2))

pub loop-k-preserved : goal.loop-k-preserved
loop-k-preserved g c = let i = c.loop-k.invariant in let p = c.push_reserved-in-loop-k.ensures in let n = c.another-in-loop-k.ensures in let x = c.another-in-loop-k.result in (
  (n.queue.0, n.queue.1 ∙ i.0.1, ap (λ t. t.name) n.rule.0 ∙ c.requires.picked, ap (λ t. t.got) n.rule.0 ∙ i.0.3),
  omega (arith, p.len, i.1),
  omega (arith, i.2, ap length p.items, length-append c.loop-k.list.items (x ∷ [])),
  omega (arith, p.capacity, i.3),
  subst (All (IsSender c.in_ok-queue.queue (g.F.Named.name c.args.machine.now))) (sym p.items)
      (All-push (IsSender c.in_ok-queue.queue (g.F.Named.name c.args.machine.now)) c.loop-k.list.items x i.4 (n.queue.2, ap (λ t. t.name) n.rule.1 ∙ c.requires.picked, ap (λ t. t.sent) n.rule.1)),
  (let m = ap (λ t. t.made) n.rule.0 in let k = i.5 in omega arith),
)
