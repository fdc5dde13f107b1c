use Rattle.std.proofs.Common.{[], ◌∷◌, All, length, sym, ap, ◌∙◌, subst, inr, arith}
use Rattle.std.proofs.lemmas.List.Elements.{All-push}
use Rattle.std.proofs.lemmas.List.{length-append}
use Rattle.crossbeam_queue.specs.Fifo.{Forks}
use Rattle.rs_router.specs.Lines.{IsBounded, founder, member}
use Rattle.rs_router.specs.Passes.{IsMember}
use Rattle.rs_router.proofs.Bounds.{founds}
use Rattle.rs_router.proofs.queue_opening.open_bounded.Goals as goal

pub another-requires-clause-rule : goal.another-requires-clause-rule
another-requires-clause-rule g c = let i = c.loop-k.invariant in let v = c.loop-k.first.me.view.client in
    subst (λ b. Forks IsBounded c.loop-k.first.id v (founder b v) (member b)) (sym c.requires.bound) (founds c.loop-k.first.id v c.args.addresses i.1 i.2)

pub loop-k-preserved : goal.loop-k-preserved
loop-k-preserved g c = let i = c.loop-k.invariant in let p = c.push_reserved.ensures in let n = c.another.ensures in let x = c.another.result in (
  n.queue.0,
  n.queue.1 ∙ i.1,
  inr (ap (λ t. t.bound) n.rule.0 ∙ c.requires.bound),
  omega (arith, p.len, i.3),
  omega (arith, i.4, ap length p.items, length-append c.loop-k.list.items (x ∷ [])),
  omega (arith, p.capacity, i.5),
  subst (All (IsMember c.in_ok-queue.queue c.args.addresses)) (sym p.items)
      (All-push (IsMember c.in_ok-queue.queue c.args.addresses) c.loop-k.list.items x i.6 (n.queue.2, n.rule.1 ∙ ap member c.requires.bound)),
)
