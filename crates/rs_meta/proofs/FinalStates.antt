-- The states that the plan ends a store's regions with, by the endings that they leave.
use Rattle.std.proofs.Common.{◌≡◌, ◌∙◌, refl, ap, subst, ℕ, zero, suc, ◌+◌, ◌<◌, List, [], ◌∷◌, length, Option, Some, None, arith}
use Rattle.std.specs.Prelude.{All, slice_get, slice_index_or}
use Rattle.std.proofs.lemmas.Bool.{and_from, le-leb, lt-ltb}
use Rattle.rs_entry.specs.WellFormed.{WellFormed}
use Rattle.rs_entry.specs.declared.input.Input.{Input}
use Rattle.rs_region.specs.declared.state.RegionState.{RegionState}
use Rattle.rs_part.specs.Parts.{Part}
use Rattle.rs_check.specs.Plans.{ends_of, stop_of}
use Rattle.rs_check.specs.Values.{part_at}
use Rattle.rs_msg.specs.Held.{IsEnding, state_in}
use Rattle.rs_msg.specs.declared.ending.Ending.{Ending}
use Rattle.rs_table.specs.Cuts.{is_on}
use Rattle.rs_table.specs.Rows.{ended, final_state, with_mode}
use Rattle.rs_meta.specs.Addresses.{count_on, first_of}
use Rattle.rs_meta.specs.Readings.{AreEndings, IsEndingOn}
use Rattle.rs_meta.proofs.StorePlaces.{follow_on}

-- that of an address is the state in its ending, with the mode that the plan ends it with
pub final_is : (input : Input) (e : Ending) → e.plan.now ≡ input → final_state input e.address ≡ Some (with_mode (ends_of input e.address) e.state)
final_is input e plan = go (part_at input e.address (stop_of input e.address)) refl ending.state
  where
    ending : IsEnding input e.address e.state e.replies e.map
    ending = subst (λ i. IsEnding i e.address e.state e.replies e.map) plan e.ending

    go : (o : Option Part) → part_at input e.address (stop_of input e.address) ≡ o → state_in o ≡ Some e.state → final_state input e.address ≡ Some (with_mode (ends_of input e.address) e.state)
    go None part state = absurd cc
    go (Some v) part state = ap (ended (ends_of input e.address)) part ∙ ap (λ o. state_with o) state
      where
        state_with : Option RegionState → Option RegionState
        state_with None = None
        state_with (Some s) = Some (with_mode (ends_of input e.address) s)

-- the endings of a store's addresses
pub endings_on : (input : Input) → WellFormed input → (place : ℕ) → place < length input.stores → (es : List Ending) → AreEndings input place es → All (IsEndingOn input place) es
endings_on input well place within es are k d lt = record {
  plan = are.plans k (slice_index_or es k d) (here es k d lt);
  on = ap (is_on input place) (are.addresses k (slice_index_or es k d) (here es k d lt))
      ∙ follow_on input well place within (first_of input place + k)
      ∙ and_from _ _ (le-leb (first_of input place) (first_of input place + k) (omega arith))
      (lt-ltb (first_of input place + k) (first_of input place + count_on input place) (omega (arith, lt, are.count)));
}
  where
    here : (xs : List Ending) (k : ℕ) (d : Ending) → k < length xs → slice_get xs k ≡ Some (slice_index_or xs k d)
    here [] k d lt = absurd (omega (arith, lt))
    here (x ∷ xs) zero d lt = refl
    here (x ∷ xs) (suc k) d lt = here xs k d (omega (arith, lt))
