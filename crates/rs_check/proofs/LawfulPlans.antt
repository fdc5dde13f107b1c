-- What holds of the regions of each lawful plan.
use Rattle.std.proofs.Common.{◌≡◌, None, ap}
use Rattle.std.specs.Prelude.{is_some}
use Rattle.rs_entry.specs.declared.input.Input.{Input}
use Rattle.rs_entry.specs.WellFormed.{WellFormed}
use Rattle.rs_check.specs.Laws.{check}
use Rattle.rs_check.specs.Lawfulness.{PlanLaws, StoresAgree}
use Rattle.rs_check.proofs.Addresses.{home}
use Rattle.rs_check.proofs.BirthLaws.{births_at, even_at, opens_at}
use Rattle.rs_check.proofs.MergeLaws.{last_at, merged_at, merges_at}
use Rattle.rs_check.proofs.PartLaws.{ends_at, entry_there, inside_at, live_at, parts_agree, reached_at, small_at, starts_at}
use Rattle.rs_check.proofs.ReshapingLaws.{reshapes_at, unshaped_at}
use Rattle.rs_check.proofs.StepLaws.{steps_at}

-- the laws of a plan
pub plan_laws : (input : Input) → WellFormed input → check input ≡ None → PlanLaws input
plan_laws input well lawful = record {
  starts = λ a w. starts_at input well lawful a (home input well lawful a w);
  ends_below = λ a w. ends_at input well lawful a (home input well lawful a w);
  reached = λ a i w five le. ap is_some (reached_at input well lawful a (home input well lawful a w) i five le).1;
  entries = λ a i w five lt. ap is_some (entry_there input well lawful a (home input well lawful a w) i five lt).1;
  steps = λ a i v e w five lt part entry. steps_at input well lawful a (home input well lawful a w) i v e five lt part entry;
  named = λ a i v w part. (live_at input well lawful a (home input well lawful a w) i v part).named;
  live = λ a i v w part. (live_at input well lawful a (home input well lawful a w) i v part).live;
  small = λ a i v w part. small_at input well lawful a (home input well lawful a w) i v part;
  inside = λ a i v key w part out. inside_at input well lawful a (home input well lawful a w) i v key part out;
  opens = λ a w maker. opens_at input well lawful a (home input well lawful a w) maker;
  even = λ a i e side ids keys w entry is. even_at input well lawful a (home input well lawful a w) i e side ids keys entry is;
  births = λ a i v e side ids keys w acc is. births_at input well lawful a (home input well lawful a w) i v e side ids keys acc is;
  merges = λ a i v e source commit carried w acc is. merges_at input well lawful a (home input well lawful a w) i v e source commit carried acc is;
  merged = λ a target w ends. merged_at input well lawful a (home input well lawful a w) target ends;
  last = λ a v w part other. last_at input well lawful a (home input well lawful a w) v part other;
  reshapes = λ a i v e w five lt part entry. reshapes_at input well lawful a (home input well lawful a w) i v e five lt part entry;
  unshaped = λ a w. unshaped_at input well lawful a (home input well lawful a w);
}

-- stores agree
pub stores_agree : (input : Input) → WellFormed input → check input ≡ None → StoresAgree input
stores_agree input well lawful = parts_agree input well lawful
