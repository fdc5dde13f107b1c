use Rattle.std.proofs.Common.{ap, arith, ltb}
use Rattle.std.proofs.lemmas.Bool.{le-ltb, lt-ltb}
use Rattle.rs_meta.proofs.StorePlaces.{one_fails, one_passes}
use Rattle.rs_meta.proofs.store_addresses.count_below.Goals as goal

pub loop-address-preserved-then-store-id : goal.loop-address-preserved-then-store-id
loop-address-preserved-then-store-id c =
    one_fails (λ store. ltb store c.args.id) c.args.plan.now c.loop-address.address (omega (arith, c.loop-address-test.true, c.count-address-end.ensures)) c.address-store.result.0 (ap (λ p. p.0) c.address-store.ensures)
    c.loop-address.count c.loop-address.invariant (le-ltb c.address-store.result.0 c.args.id c.if-store-id.true)

pub loop-address-preserved : goal.loop-address-preserved
loop-address-preserved c =
    one_passes (λ store. ltb store c.args.id) c.args.plan.now c.loop-address.address (omega (arith, c.loop-address-test.true, c.count-address-end.ensures)) c.address-store.result.0 (ap (λ p. p.0) c.address-store.ensures)
    c.loop-address.count c.loop-address.invariant (lt-ltb c.address-store.result.0 c.args.id c.if-store-id.false)
