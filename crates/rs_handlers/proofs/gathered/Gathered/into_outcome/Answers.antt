use Rattle.std.proofs.Common.{sym, ◌∙◌}
use Rattle.std.proofs.lemmas.List.{map-id}
use Rattle.std.proofs.lemmas.Iterator.Adapters.{YieldsList-from_vec}
use Rattle.std.proofs.lemmas.Iterator.Consumers.{YieldsList-end}
use Rattle.rs_handlers.proofs.WholeOutcomes.{whole_outcome}
use Rattle.rs_handlers.proofs.gathered.Gathered.into_outcome.Goals as goal

pub returns : goal.returns
returns c =
    let self = c.args.self in
    let seen = YieldsList-end (YieldsList-from_vec self.outcomes.items (cc) (cc)) c.loop-outcome.yielded c.loop-outcome.outcome-iterator c.loop-outcome.yielded_by c.next.result c.next.new.self c.in-None.is c.next.ensures.steps in
    whole_outcome self.plan.now c.loop-outcome.stores self.outcomes.items self.right self.sized (c.loop-outcome.invariant ∙ sym (map-id c.loop-outcome.yielded) ∙ seen.0)
