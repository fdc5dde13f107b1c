-- Worked cases: rows of cuts of small inputs.
use Rattle.std.specs.Prelude.{◌≡◌, ℕ, zero, suc, List, [], ◌∷◌, Option, Some, None, refl}
use Rattle.rs_entry.specs.declared.entry.Body.{Body}
use Rattle.rs_entry.specs.declared.entry.Body.TheVariants as body
use Rattle.rs_entry.specs.declared.entry.Change.TheVariants as change
use Rattle.rs_entry.specs.declared.entry.Entry.{Entry}
use Rattle.rs_entry.specs.declared.input.Input.{Input}
use Rattle.rs_entry.specs.declared.outcome.Mode.{Mode}
use Rattle.rs_entry.specs.declared.outcome.Mode.TheVariants as mode
use Rattle.rs_region.specs.declared.state.RegionState.{RegionState}
use Rattle.rs_part.specs.Parts.{at}
use Rattle.rs_check.specs.Plans.{rows_of, store_rows}
use Rattle.rs_check.specs.Values.{part_on}
use Rattle.rs_table.specs.Cuts.{Cut, birth_of, index_after, is_on, prepare_of}
use Rattle.rs_table.specs.Inputs.{boot, log, merge, one_store, split}
use Rattle.rs_table.specs.Moves.{nothing_covered}
use Rattle.rs_table.specs.Rows.{address_in, final_state, is_removed, row_at, row_of, taker}

abbrev some_key : ℕ → Option (List ℕ)
some_key b = Some (b ∷ [])

abbrev no_key : Option (List ℕ)
no_key = None

abbrev state : ℕ → ℕ → ℕ → Option (List ℕ) → Option (List ℕ) → List ℕ → Mode → RegionState
state region conf_ver version start end peers m =
    record { region = region; epoch = record { conf_ver = conf_ver; version = version }; range = record { start = start; end = end }; peers = peers; mode = m }

-- so many reshapings of the first two addresses
abbrev first : ℕ → ℕ → Cut
first m n zero = m
first m n (suc zero) = n
first m n (suc (suc a)) = 0

-- ---- a split

a_child_needs_its_split : birth_of split 2 ≡ Some (0, 1)
unfolding birth_of rows_of store_rows
a_child_needs_its_split = refl

no_child_before_its_split : row_of split 0 nothing_covered 3 ≡ None
unfolding row_at address_in birth_of rows_of store_rows
no_child_before_its_split = refl

a_child_after_its_split : row_of split 0 (first 1 0) 3 ≡ Some (state 3 1 4 (some_key 0x67) (some_key 0x6d) [] mode.Normal)
unfolding row_at address_in birth_of rows_of store_rows index_after is_on taker is_removed part_on at
a_child_after_its_split = refl

what_a_split_region_keeps : row_of split 0 (first 1 0) 1 ≡ Some (state 1 1 4 (some_key 0x74) no_key [] mode.Normal)
unfolding row_at address_in birth_of rows_of store_rows index_after is_on taker is_removed part_on at
what_a_split_region_keeps = refl

-- ---- a merge

a_commit_needs_the_prepare : prepare_of merge 1 1 ≡ Some (0, 1)
unfolding prepare_of index_after rows_of store_rows
a_commit_needs_the_prepare = refl

a_prepared_source : row_of merge 0 (first 1 0) 1 ≡ Some (state 1 2 2 no_key (some_key 0x6d) [] (mode.Merging 2 6))
unfolding row_at address_in birth_of rows_of store_rows index_after is_on taker is_removed part_on at
a_prepared_source = refl

a_merged_source : row_of merge 0 (first 1 1) 1 ≡ Some (state 1 2 2 no_key (some_key 0x6d) [] (mode.Merged 2))
unfolding row_at address_in birth_of rows_of store_rows index_after is_on taker is_removed part_on at
a_merged_source = refl

a_target : row_of merge 0 (first 1 1) 2 ≡ Some (state 2 1 3 no_key no_key [] mode.Normal)
unfolding row_at address_in birth_of rows_of store_rows index_after is_on taker is_removed part_on at
a_target = refl

-- ---- changes of peers, and a merge that is called off

abbrev at_epoch : ℕ → ℕ → ℕ → Body → Entry
at_epoch index conf_ver version b = record { index = index; epoch = record { conf_ver = conf_ver; version = version }; body = b }

abbrev leaving : Input
leaving = record {
  version = 2;
  stores = record {
    id = 1;
    regions = record { region = 1; range = record { start = None; end = None }; peers = 1 ∷ 2 ∷ [] } ∷ [];
    logs = log 1 (at_epoch 6 1 1 (body.Conf (change.Add 3)) ∷ at_epoch 7 2 1 (body.Conf (change.Remove 1)) ∷ []) ∷ [];
  } ∷ [];
}

a_peer_more : row_of leaving 0 (first 1 0) 1 ≡ Some (state 1 2 1 no_key no_key (1 ∷ 2 ∷ 3 ∷ []) mode.Normal)
unfolding row_at address_in birth_of rows_of store_rows index_after is_on taker is_removed part_on at
a_peer_more = refl

a_removed_region : row_of leaving 0 (first 2 0) 1 ≡ Some (state 1 3 1 no_key no_key (2 ∷ 3 ∷ []) mode.Removed)
unfolding row_at address_in birth_of rows_of store_rows index_after is_on taker is_removed part_on at
a_removed_region = refl

its_final_state : final_state leaving 0 ≡ Some (state 1 3 1 no_key no_key (2 ∷ 3 ∷ []) mode.Removed)
unfolding rows_of store_rows part_on at
its_final_state = refl

abbrev called_off : Input
called_off = one_store (boot 1 None (some_key 0x6d) ∷ boot 2 (some_key 0x6d) None ∷ []) (log 1 (at_epoch 6 1 1 (body.Prepare 2) ∷ at_epoch 7 2 2 (body.Rollback 6) ∷ []) ∷ [])

after_a_rollback : row_of called_off 0 (first 2 0) 1 ≡ Some (state 1 2 3 no_key (some_key 0x6d) [] mode.Normal)
unfolding row_at address_in birth_of rows_of store_rows index_after is_on taker is_removed part_on at
after_a_rollback = refl
