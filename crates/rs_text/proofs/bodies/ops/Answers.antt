use Rattle.std.proofs.Common.{◌+◌, ◌-◌}
use Rattle.std.proofs.lemmas.Result.{err_from_is_err_and}
use Rattle.rs_text.specs.Bodies.{op_at, ops_at}
use Rattle.rs_text.proofs.Repeats.{goes_on, stops, is_done, is_full, stops_full}
use Rattle.rs_text.proofs.bodies.ops.Goals as goal

pub returns-in_default : goal.returns-in_default
returns-in_default c =
    is_done op_at 1048576 (1024 - c.loop-count.count) (c.args.total + c.loop-count.count) c.loop-count.ops (ops_at c.args.total c.args.fields.now) (rw c.in_default.ensures.0 at c.loop-count.invariant)

pub returns-in_default-next_field : goal.returns-in_default-next_field
returns-in_default-next_field c =
    is_done op_at 1048576 (1024 - c.loop-count.count) (c.args.total + c.loop-count.count) c.loop-count.ops (ops_at c.args.total c.args.fields.now) (rw c.in_default-next_field.ensures.0 at c.loop-count.invariant)

pub returns-in_err-op : goal.returns-in_err-op
returns-in_err-op c =
    let p = err_from_is_err_and c.from_residual-in_err-op.result c.from_residual-in_err-op.ensures.1 in
    rw (p.1, p.2) (stops_full op_at 1048576 1024 c.loop-count.count c.args.total c.in-Some-next_field.word.now c.next_field-2.new.self c.loop-count.ops c.in_err-op.field-0.0 (ops_at c.args.total c.args.fields.now) c.loop-count-test.false c.in_err-op.ensures (rw c.in-Some-next_field.ensures at c.loop-count.invariant))

pub returns-in_err-next : goal.returns-in_err-next
returns-in_err-next c =
    let p = err_from_is_err_and c.from_residual.result c.from_residual.ensures.1 in
    rw (p.1, p.2) (stops op_at 1048576 1024 c.loop-count.count c.args.total c.in-Some.word.now c.next_field.new.self c.loop-count.ops c.in_err-next.field-0.0 (ops_at c.args.total c.args.fields.now) c.loop-count-test.true c.in_err-next.ensures (rw c.in-Some.ensures at c.loop-count.invariant))

pub loop-count-preserved : goal.loop-count-preserved
loop-count-preserved c =
    rw c.in_ok-push.ensures.ok (goes_on op_at 1048576 1024 c.loop-count.count c.args.total c.in-Some.word.now c.next_field.new.self c.loop-count.ops c.in_ok-next.next c.op.new.fields (ops_at c.args.total c.args.fields.now) c.loop-count-test.true c.in_ok-next.ensures (rw c.in-Some.ensures at c.loop-count.invariant))

pub returns : goal.returns
returns c =
    is_full op_at 1048576 1024 c.loop-count.count c.args.total c.in-Some-next_field.word.now c.next_field-2.new.self c.loop-count.ops (c.in_ok-op.field-0, c.op-2.new.fields) (ops_at c.args.total c.args.fields.now) c.loop-count-test.false c.in_ok-op.ensures (rw c.in-Some-next_field.ensures at c.loop-count.invariant)
