use Rattle.std.proofs.Common.{◌+◌, ◌-◌}
use Rattle.std.proofs.lemmas.Result.{err_from_is_err_and}
use Rattle.rs_text.specs.Bodies.{pair_at, pairs_at}
use Rattle.rs_text.proofs.Repeats.{goes_on, stops, is_done, is_full, stops_full}
use Rattle.rs_text.proofs.bodies.pairs.Goals as goal

pub returns-in_default : goal.returns-in_default
returns-in_default c =
    is_done pair_at 4096 (64 - c.loop-count.count) (c.args.boots + c.loop-count.count) c.loop-count.pairs (pairs_at c.args.boots c.args.fields.now) (rw c.in_default.ensures.0 at c.loop-count.invariant)

pub returns-in_default-next_field : goal.returns-in_default-next_field
returns-in_default-next_field c =
    is_done pair_at 4096 (64 - c.loop-count.count) (c.args.boots + c.loop-count.count) c.loop-count.pairs (pairs_at c.args.boots c.args.fields.now) (rw c.in_default-next_field.ensures.0 at c.loop-count.invariant)

pub returns-in_err-pair : goal.returns-in_err-pair
returns-in_err-pair c =
    let p = err_from_is_err_and c.from_residual-in_err-pair.result c.from_residual-in_err-pair.ensures.1 in
    rw (p.1, p.2) (stops_full pair_at 4096 64 c.loop-count.count c.args.boots c.in-Some-next_field.field.now c.next_field-2.new.self c.loop-count.pairs c.in_err-pair.field-0.0 (pairs_at c.args.boots c.args.fields.now) c.loop-count-test.false c.in_err-pair.ensures (rw c.in-Some-next_field.ensures at c.loop-count.invariant))

pub returns-in_err-next : goal.returns-in_err-next
returns-in_err-next c =
    let p = err_from_is_err_and c.from_residual.result c.from_residual.ensures.1 in
    rw (p.1, p.2) (stops pair_at 4096 64 c.loop-count.count c.args.boots c.in-Some.field.now c.next_field.new.self c.loop-count.pairs c.in_err-next.field-0.0 (pairs_at c.args.boots c.args.fields.now) c.loop-count-test.true c.in_err-next.ensures (rw c.in-Some.ensures at c.loop-count.invariant))

pub loop-count-preserved : goal.loop-count-preserved
loop-count-preserved c =
    rw c.in_ok-push.ensures.ok (goes_on pair_at 4096 64 c.loop-count.count c.args.boots c.in-Some.field.now c.next_field.new.self c.loop-count.pairs c.in_ok-next.next c.pair.new.fields (pairs_at c.args.boots c.args.fields.now) c.loop-count-test.true c.in_ok-next.ensures (rw c.in-Some.ensures at c.loop-count.invariant))

pub returns : goal.returns
returns c =
    is_full pair_at 4096 64 c.loop-count.count c.args.boots c.in-Some-next_field.field.now c.next_field-2.new.self c.loop-count.pairs (c.in_ok-pair.field-0, c.pair-2.new.fields) (pairs_at c.args.boots c.args.fields.now) c.loop-count-test.false c.in_ok-pair.ensures (rw c.in-Some-next_field.ensures at c.loop-count.invariant)
