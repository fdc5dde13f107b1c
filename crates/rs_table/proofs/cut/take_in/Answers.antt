use Rattle.std.proofs.Common.{arith, ◌≡◌, ◌+◌, ◌∙◌, ap, sym}
use Rattle.rs_check.specs.Plans.{reshapings_of}
use Rattle.rs_check.specs.Values.{count_of}
use Rattle.rs_table.specs.Cuts.{Cut}
use Rattle.rs_table.specs.CutViews.{cut_of, input_of, place_of}
use Rattle.rs_table.specs.Moves.{raised}
use Rattle.rs_table.specs.Tellings.{open_below}
use Rattle.rs_table.proofs.Cutting.{cut_more, finished_by, unfinished_by}
use Rattle.rs_table.proofs.cut.take_in.Goals as goal

pub overflow_sub-unfinished : goal.overflow_sub-unfinished
overflow_sub-unfinished c =
    let p = c.args.cut.now in
    let q = c.step.new.self in
    let fewer = finished_by (input_of p) (place_of p) (cut_of p) (input_of q) (place_of q) (cut_of q) c.args.a c.requires.next (ap (λ r. r.now) c.step.ensures.plan) c.step.ensures.place c.in_ok-step.ensures.ok
    (let x = c.covered.ensures in let y = c.reshapings.ensures in let t = c.if-covered-reshapings.true in omega (arith, x, y, t)) in
    let u = c.requires.counted in
    omega (arith, fewer, u)

pub returns-then-covered-reshapings-clause-counted : goal.returns-then-covered-reshapings-clause-counted
returns-then-covered-reshapings-clause-counted c =
    let p = c.args.cut.now in
    let q = c.step.new.self in
    let fewer = finished_by (input_of p) (place_of p) (cut_of p) (input_of q) (place_of q) (cut_of q) c.args.a c.requires.next (ap (λ r. r.now) c.step.ensures.plan) c.step.ensures.place c.in_ok-step.ensures.ok
    (let x = c.covered.ensures in let y = c.reshapings.ensures in let t = c.if-covered-reshapings.true in omega (arith, x, y, t)) in
    let u = c.requires.counted in
    omega (arith, fewer, u)

pub returns-else-covered-reshapings-clause-counted : goal.returns-else-covered-reshapings-clause-counted
returns-else-covered-reshapings-clause-counted c =
    let p = c.args.cut.now in
    let q = c.step.new.self in
    let same = unfinished_by (input_of p) (place_of p) (cut_of p) (input_of q) (place_of q) (cut_of q) c.args.a c.requires.next (ap (λ r. r.now) c.step.ensures.plan) c.step.ensures.place c.in_ok-step.ensures.ok
    (λ e. c.if-covered-reshapings.false (c.covered.ensures ∙ (e ∙ sym c.reshapings.ensures))) in
    let u = c.requires.counted in
    omega (arith, same, u)

pub step-requires : goal.step-requires
step-requires c = record { grows = cut_more (input_of c.args.cut.now) (place_of c.args.cut.now) (cut_of c.args.cut.now) c.args.a c.requires.next }
