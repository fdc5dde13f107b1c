-- What an order of a store comes to.
use Rattle.std.specs.Prelude.{◌≡◌, ℕ, List, Option, Some, None, map, Result, Ok, Err}
use Rattle.rs_entry.specs.declared.input.Store.{Store}
use Rattle.rs_entry.specs.declared.outcome.StoreOutcome.{StoreOutcome}
use Rattle.rs_store.specs.declared.fault.StepFault.{StepFault}
use Rattle.rs_entry.specs.declared.outcome.ReplyLine.{ReplyLine}
use Rattle.rs_store.specs.Runs.{bare, seen}
use Rattle.rs_store.specs.Stores.{Applied, ByRegion, Wrote, least_ready, opening}
use Rattle.rs_part.specs.Orders.{Followed, End, NotReady, Faulty, follow}
use Rattle.rs_part.specs.Scripts.{Script}
use Rattle.rs_part.specs.Telling.{Begins, Tells}
use Rattle.rs_fold.specs.declared.fold_error.FoldError.{FoldError}
use Rattle.rs_fold.specs.declared.fold_error.FoldError.TheVariants as errors
use Rattle.rs_fold.specs.declared.run.End.{End as Reached}
use Rattle.rs_history.specs.Outcomes.{outcome_at, reply_line, store_outcome}

-- what an order leads to: the outcome, if it ends with no region ready; the place, counted from 1, whose region is
-- not ready yet; a region that is still ready at its end; or a fault
pub data Ordered : Type 0 where
  Gave : StoreOutcome → Ordered
  TooSoon : (place : ℕ) → Ordered
  Unfinished : (region : ℕ) → Ordered
  Broken : StepFault → Ordered

-- what the end of an order leads to, by the region that is still ready, if any is
abbrev pub ended : Store → Applied → Option ℕ → Ordered
ended store g None = Gave (outcome_at store g)
ended store g (Some region) = Unfinished region

abbrev pub ordered_by : Store → Followed → Ordered
ordered_by store (End g) = ended store g (least_ready store g)
ordered_by store (NotReady place) = TooSoon place
ordered_by store (Faulty fault) = Broken fault

-- what the order comes to from the store's start
unfoldable pub in_order_of : Store → List ℕ → Ordered
in_order_of store order = ordered_by store (follow store 1 order (opening store))

-- ---- what a call answers of an order

-- it gives the store's own outcome, or says where the order fails
abbrev pub IsFoldOf : Store → List ℕ → Result StoreOutcome FoldError → Type 0
IsFoldOf store order (Ok outcome) = (in_order_of store order ≡ Gave outcome) × (outcome ≡ store_outcome store)
IsFoldOf store order (Err (errors.NotReady place)) = in_order_of store order ≡ TooSoon place
IsFoldOf store order (Err (errors.Unfinished region)) = in_order_of store order ≡ Unfinished region
IsFoldOf store order (Err errors.NoMemory) = Unit {0}

-- the order came to these regions, writes and replies
abbrev pub EndsSo : Followed → ByRegion → List Wrote → List ReplyLine → Type 0
EndsSo (End g) f ws ys = (g.region ≡ f) × (g.writes ≡ ws) × (map reply_line g.replies ≡ ys)
EndsSo (NotReady place) f ws ys = ⊥
EndsSo (Faulty fault) f ws ys = ⊥

-- it ended with no region ready, or says where the order fails
abbrev pub EndsAs : Store → List ℕ → Result Reached FoldError → Type 0
EndsAs store order (Ok end) =
    EndsSo (follow store 1 order (opening store)) (seen end.arrived.regions) end.writes end.replies.items × (least_ready store (bare (seen end.arrived.regions)) ≡ None)
EndsAs store order (Err (errors.NotReady place)) = in_order_of store order ≡ TooSoon place
EndsAs store order (Err (errors.Unfinished region)) = in_order_of store order ≡ Unfinished region
EndsAs store order (Err errors.NoMemory) = Unit {0}

-- the store's logs and opening regions are those of one script
pub record IsScripted (store : Store) : Type 0 where
  pub script : Script
  pub tells : Tells script store
  pub begins : Begins script store
