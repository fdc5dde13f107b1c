-- What the application of several entries takes out and sends.
use Rattle.std.specs.Prelude.{◌≡◌, ℕ, ◌+◌, List, ◌++◌}
use Rattle.std.specs.Borrow.{Bor}
use Rattle.rs_check.specs.declared.plan.Plan.{Plan}
use Rattle.rs_check.specs.Values.{reshaped_by}
use Rattle.rs_msg.specs.declared.closed.Closed.{Closed}
use Rattle.rs_msg.specs.declared.outbox.Outbox.{Outbox}
use Rattle.rs_apply.specs.Births.{AddsBirths, made_at, made_from}
use Rattle.rs_apply.specs.Merges.{IsWithout, IsWithoutAll, merge_at, merge_results, results_from}
use Rattle.rs_apply.specs.Reshapings.{reshaped_if, reshapes_at, reshapings_from}

-- the entry after the index is done: what was handed over for its merge is taken out, and the result of its
-- merge, the births of its regions and its reshaping are in the outbox
pub record HasDone (plan : Bor Plan) (a i : ℕ) (held : List Closed) (out : Outbox) (held_after : List Closed) (out_after : Outbox) : Type 0 where
  pub closed : IsWithout plan.now a (merge_at plan.now a i) held held_after
  pub peers : out_after.peers ≡ out.peers ++ merge_results plan a (merge_at plan.now a i)
  pub births : AddsBirths plan.now a (made_at plan.now a i) out.applies out_after.applies
  pub stores : out_after.stores ≡ out.stores ++ reshaped_if plan a (reshaped_by plan.now a (i + 1)) (reshapes_at plan.now a i)

-- the n entries after the index are done: what was handed over for their merges is taken out, and for each
-- there are the results of its merge, the births of its regions and its reshaping in the outbox, in their order
pub record HasRun (plan : Bor Plan) (a i n : ℕ) (held : List Closed) (out : Outbox) (held_after : List Closed) (out_after : Outbox) : Type 0 where
  pub closed : IsWithoutAll plan.now a i n held held_after
  pub peers : out_after.peers ≡ out.peers ++ results_from plan a i n
  pub births : AddsBirths plan.now a (made_from plan.now a i n) out.applies out_after.applies
  pub stores : out_after.stores ≡ out.stores ++ reshapings_from plan a i n
