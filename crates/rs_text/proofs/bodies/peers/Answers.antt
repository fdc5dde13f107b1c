use Rattle.std.proofs.Common.{◌-◌, sym, ◌∙◌, arith}
use Rattle.rs_text.specs.Bodies.{peers_at}
use Rattle.rs_text.proofs.Repeats.{peer_goes_on, peer_stops, peer_below, peers_done, peer_full}
use Rattle.rs_text.proofs.bodies.peers.Goals as goal

pub returns-in_default : goal.returns-in_default
returns-in_default c = peers_done (64 - c.loop-count.count) c.loop-count.before c.loop-count.ids (peers_at 64 0 c.args.fields.now) (rw c.in_default.ensures.0 at c.loop-count.invariant)

pub returns-in_default-next_field : goal.returns-in_default-next_field
returns-in_default-next_field c = peers_done (64 - c.loop-count.count) c.loop-count.before c.loop-count.ids (peers_at 64 0 c.args.fields.now) (rw c.in_default-next_field.ensures.0 at c.loop-count.invariant)

pub returns-in-Err : goal.returns-in-Err
returns-in-Err c = peer_stops c.loop-count.count c.loop-count.before c.in-Some.field.now c.next_field.new.self c.loop-count.ids c.in-Err.kind (peers_at 64 0 c.args.fields.now) (sym c.id_of.ensures ∙ c.in-Err.is) (rw c.in-Some.ensures at c.loop-count.invariant)

pub returns-then-id-before : goal.returns-then-id-before
returns-then-id-before c = peer_below c.loop-count.count c.loop-count.before c.in-Some.field.now c.next_field.new.self c.loop-count.ids c.in-Ok.id (peers_at 64 0 c.args.fields.now) c.loop-count-test.true (sym c.id_of.ensures ∙ c.in-Ok.is) c.if-id-before.true (rw c.in-Some.ensures at c.loop-count.invariant)

pub loop-count-preserved : goal.loop-count-preserved
loop-count-preserved c = rw c.in_ok-push.ensures.ok (peer_goes_on c.loop-count.count c.loop-count.before c.in-Some.field.now c.next_field.new.self c.loop-count.ids c.in-Ok.id (peers_at 64 0 c.args.fields.now) c.loop-count-test.true (sym c.id_of.ensures ∙ c.in-Ok.is) (omega (arith, c.if-id-before.false)) (rw c.in-Some.ensures at c.loop-count.invariant))

pub returns-in-Ok-id_of : goal.returns-in-Ok-id_of
returns-in-Ok-id_of c = peer_full c.loop-count.count c.loop-count.before c.in-Some-next_field.field.now c.next_field-2.new.self c.loop-count.ids c.in-Ok-id_of.field-0 (peers_at 64 0 c.args.fields.now) c.loop-count-test.false (sym c.id_of-2.ensures ∙ c.in-Ok-id_of.is) (rw c.in-Some-next_field.ensures at c.loop-count.invariant)

pub returns : goal.returns
returns c = peer_stops c.loop-count.count c.loop-count.before c.in-Some-next_field.field.now c.next_field-2.new.self c.loop-count.ids c.in-Err-id_of.kind (peers_at 64 0 c.args.fields.now) (sym c.id_of-2.ensures ∙ c.in-Err-id_of.is) (rw c.in-Some-next_field.ensures at c.loop-count.invariant)
