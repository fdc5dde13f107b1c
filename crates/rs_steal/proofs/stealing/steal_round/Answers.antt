use Rattle.std.proofs.Common.{rules, ap}
use Rattle.rs_steal.specs.Thieves.{deque_of}
use Rattle.rs_steal.proofs.Rounds.{kept, stole_at, emptied}
use Rattle.rs_steal.proofs.stealing.steal_round.Goals as goal

pub returns-in-Some-clause-deques : goal.returns-in-Some-clause-deques
returns-in-Some-clause-deques g c = kept deque_of c.loop-k.thieves.items c.args.thieves.now.items c.loop-k.k c.index_mut.result.now c.steal.new.thief c.loop-k.invariant.0 c.index_mut.ensures.value (ap (λ d. d.0.0) c.steal.ensures.deque)

pub returns-in-Some-clause-rule : goal.returns-in-Some-clause-rule
returns-in-Some-clause-rule g c = stole_at c.in-Some.ticket.address c.loop-k.thieves.items c.args.thieves.now.items c.loop-k.k c.index_mut.result.now c.steal.new.thief c.loop-k.invariant.1 (search rules) c.index_mut.ensures.value c.in-Some.ensures.rule c.loop-k.invariant.2

pub loop-k-preserved : goal.loop-k-preserved
loop-k-preserved g c = let i = c.loop-k.invariant in let r = c.in_default.ensures.rule in (
  kept deque_of c.loop-k.thieves.items c.args.thieves.now.items c.loop-k.k c.index_mut.result.now c.steal.new.thief i.0 c.index_mut.ensures.value (ap (λ d. d.0.0) c.steal.ensures.deque),
  kept _ c.loop-k.thieves.items c.args.thieves.now.items c.loop-k.k c.index_mut.result.now c.steal.new.thief i.1 c.index_mut.ensures.value r.0,
  emptied c.loop-k.thieves.items c.args.thieves.now.items c.loop-k.k c.index_mut.result.now i.1 (search rules) c.index_mut.ensures.value r.1 i.2,
)
