use Rattle.std.proofs.Common.{◌≡◌, ◌≤◌, ◌<◌, ◌+◌, ◌-◌, ◌/◌, length, Some, arith, subst}
use Rattle.std.specs.Prelude.{slice_get}
use Rattle.rs_check.specs.Plans.{reshapings_of}
use Rattle.rs_check.specs.Values.{reshaped_by}
use Rattle.rs_table.proofs.PlanReshapings.{number_at, number_before, numbers_grow}
use Rattle.rs_table.proofs.needs.number_at.Goals as goal

pub search-preserved-then-reshaping-index : goal.search-preserved-then-reshaping-index
search-preserved-then-reshaping-index c =
    let xs = reshapings_of c.args.plan.now c.args.a in
    let k = c.search.low + (c.search.high - c.search.low) / 2 in
    let i = c.reshaping.result in
    let same : k + 1 - 1 ≡ k = omega arith in
    let got : slice_get xs k ≡ Some i = subst (λ n. slice_get xs n ≡ Some i) same c.reshaping.ensures in
    let at : reshaped_by c.args.plan.now c.args.a i ≡ k + 1 = number_at c.args.plan.now c.input.ensures.formed c.input.ensures.lawful c.args.a c.requires k i got in
    let more : reshaped_by c.args.plan.now c.args.a i ≤ reshaped_by c.args.plan.now c.args.a c.args.index = numbers_grow c.args.plan.now c.args.a i c.args.index c.if-reshaping-index.true in
    (omega (arith, at, more), c.search.invariant.1, c.search.invariant.2)

pub search-preserved : goal.search-preserved
search-preserved c =
    let xs = reshapings_of c.args.plan.now c.args.a in
    let k = c.search.low + (c.search.high - c.search.low) / 2 in
    let i = c.reshaping.result in
    let same : k + 1 - 1 ≡ k = omega arith in
    let got : slice_get xs k ≡ Some i = subst (λ n. slice_get xs n ≡ Some i) same c.reshaping.ensures in
    let top : c.search.high ≤ length xs = c.search.invariant.2 in
    let some : c.search.low < c.search.high = c.search-test.true in
    (c.search.invariant.0, number_before c.args.plan.now c.input.ensures.formed c.input.ensures.lawful c.args.a c.requires k i c.args.index got c.if-reshaping-index.false, omega (arith, top, some))
