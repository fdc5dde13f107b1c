use Rattle.std.proofs.Common.{◌≡◌, ◌∙◌, ap, sym, subst, false, ℕ}
use Rattle.rs_entry.specs.declared.input.Input.{Input}
use Rattle.rs_check.specs.Values.{count_of}
use Rattle.rs_table.specs.Cuts.{AllTold, Cut, IsGreatest, Telling}
use Rattle.rs_table.specs.CutViews.{cut_of, input_of, place_of}
use Rattle.rs_table.specs.Moves.{nothing_covered}
use Rattle.rs_table.specs.Tellings.{AllWait, has, may_grow, open_below, waiters}
use Rattle.rs_table.proofs.Cutting.{nothing_cut, nothing_told}
use Rattle.rs_table.proofs.cut.Growing.new.Goals as goal

pub invariant_of-result-clause-known : goal.invariant_of-result-clause-known
invariant_of-result-clause-known c a nth e = absurd (let t : has c.new-2.result a nth ≡ false = ap (λ (f : Telling). f a nth) c.new-2.ensures in cc (e, t))

pub invariant_of-result-clause-waiting : goal.invariant_of-result-clause-waiting
invariant_of-result-clause-waiting c =
    subst (λ (i : Input). AllWait i (place_of c.in_ok-cut.cut) (waiters c.in_ok-waits.waits)) (sym c.in_ok-cut.ensures.plan)
    (subst (λ (k : ℕ). AllWait c.args.plan.now k (waiters c.in_ok-waits.waits)) (sym c.in_ok-cut.ensures.place) c.in_ok-waits.ensures)

pub invariant_of-result-clause-counted : goal.invariant_of-result-clause-counted
invariant_of-result-clause-counted c =
    c.unfinished.ensures
    ∙ (ap (λ (n : Cut). open_below c.args.plan.now c.args.place n (count_of c.args.plan.now)) (sym c.in_ok-cut.ensures.none)
    ∙ (ap (λ (k : ℕ). open_below c.args.plan.now k (cut_of c.in_ok-cut.cut) (count_of c.args.plan.now)) (sym c.in_ok-cut.ensures.place)
    ∙ ap (λ (i : Input). open_below i (place_of c.in_ok-cut.cut) (cut_of c.in_ok-cut.cut) (count_of i)) (sym c.in_ok-cut.ensures.plan)))

pub invariant_of-result-clause-told_all : goal.invariant_of-result-clause-told_all
invariant_of-result-clause-told_all c = subst (λ (n : Cut). AllTold (has c.new-2.result) n) (sym c.in_ok-cut.ensures.none) (nothing_told (has c.new-2.result))

pub returns-clause-greatest : goal.returns-clause-greatest
returns-clause-greatest c =
    subst (λ (i : Input). IsGreatest i (place_of c.in_ok-cut.cut) (has c.new-2.result) (cut_of c.in_ok-cut.cut)) (sym c.in_ok-cut.ensures.plan)
    (subst (λ (k : ℕ). IsGreatest c.args.plan.now k (has c.new-2.result) (cut_of c.in_ok-cut.cut)) (sym c.in_ok-cut.ensures.place)
    (subst (λ (n : Cut). IsGreatest c.args.plan.now c.args.place (has c.new-2.result) n) (sym c.in_ok-cut.ensures.none)
    (c.moves.ensures.greatest (has c.new-2.result) nothing_covered
    (λ a nth e. absurd (let t : has c.new-2.result a nth ≡ false = ap (λ (f : Telling). f a nth) c.new-2.ensures in cc (e, t)))
    (nothing_cut c.args.plan.now c.args.place) (nothing_told (has c.new-2.result))
    (λ a. ap (λ (f : Telling). may_grow c.args.plan.now f nothing_covered a) c.new-2.ensures))))
