use Rattle.std.proofs.Common.{rules, arith, ◌∙◌, subst, ap, ◌≡◌, inr, ◌+◌, ◌≤◌}
use Rattle.std.specs.List.{All}
use Rattle.rs_apply.specs.Runs.{HasDone}
use Rattle.rs_apply.proofs.Running.{run_more}
use Rattle.rs_apply.proofs.region.Region.run.Goals as goal

pub loop-step-preserved : goal.loop-step-preserved
loop-step-preserved c =
    let i = c.loop-step.invariant in
    let self = c.args.self in
    let now = c.loop-step.region in
    let e = c.in_ok-region.ensures in
    let index : c.in_ok-region.region.index ≡ self.index + (c.loop-step.step + 1) = omega (arith, e.index, i.2) in
    let last : c.in_ok-region.region.index ≤ c.args.last = search rules in
    let here = subst (λ z. HasDone z now.address now.index c.loop-step.closed.items c.loop-step.out c.step.new.closed.items c.step.new.out) i.0 e.done in
    let done = subst (λ z. HasDone self.plan z now.index c.loop-step.closed.items c.loop-step.out c.step.new.closed.items c.step.new.out) i.1 here in (
      e.plan ∙ i.0,
      e.address ∙ i.1,
      index,
      inr last,
      subst (λ z. All (λ x. x.plan.now ≡ z) c.step.new.closed.items) (ap (λ z. z.now) i.0) e.plans,
      run_more self.plan self.address self.index c.loop-step.step now.index c.args.closed.now.items c.loop-step.closed.items c.step.new.closed.items c.args.out.now c.loop-step.out c.step.new.out i.5 i.2 done,
    )
