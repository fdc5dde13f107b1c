-- The table of a cut: the states of the regions that it has.
use Rattle.std.specs.Prelude.{◌≡◌, ℕ, zero, suc, ◌==◌, Bool, true, false, ◌&&◌, ◌||◌, List, [], ◌++◌, map, Option, Some, None, if◌then◌else◌, find, position, slice_get}
use Rattle.std.specs.Option.{option_map, option_to_list}
use Rattle.rs_entry.specs.declared.entry.Body.{Body}
use Rattle.rs_entry.specs.declared.entry.Body.TheVariants as body
use Rattle.rs_entry.specs.declared.entry.Entry.{Entry}
use Rattle.rs_entry.specs.declared.input.Input.{Input}
use Rattle.rs_entry.specs.declared.input.Store.{Store}
use Rattle.rs_entry.specs.declared.outcome.Mode.{Mode}
use Rattle.rs_region.specs.Reshapings.{merged_into, removed}
use Rattle.rs_region.specs.declared.state.RegionState.{RegionState}
use Rattle.rs_store.specs.Indexes.{AreRising}
use Rattle.rs_store.specs.Stores.{is_removal_of}
use Rattle.rs_part.specs.Parts.{Part}
use Rattle.rs_check.specs.Plans.{rows_of, is_at, address_of, ends_of, stop_of}
use Rattle.rs_check.specs.Values.{count_of, region_of, part_at}
use Rattle.rs_table.specs.Cuts.{Cut, is_on, index_after, entry_of_nth, birth_of, covers}

-- one of the address's first reshapings has such an entry
abbrev pub some_of : (Option Entry → Bool) → Input → ℕ → ℕ → Bool
some_of test input a zero = false
some_of test input a (suc n) = test (entry_of_nth input a (suc n)) || some_of test input a n

-- the body commits the merge of the region
abbrev pub is_commit_of : ℕ → Body → Bool
is_commit_of region (body.Commit source commit carried) = source == region
is_commit_of region b = false

-- the entry commits the merge of the region
abbrev pub commits : ℕ → Option Entry → Bool
commits region None = false
commits region (Some e) = is_commit_of region e.body

-- the body is a conf change that removes the store's peer
abbrev pub is_removal : ℕ → Body → Bool
is_removal store (body.Conf change) = is_removal_of store change
is_removal store b = false

-- the entry is a conf change that removes the store's peer
abbrev pub removes : ℕ → Option Entry → Bool
removes store None = false
removes store (Some e) = is_removal store e.body

-- the last of the first addresses that has a covered commit of the region
abbrev pub taker_below : Input → ℕ → Cut → ℕ → ℕ → Option ℕ
taker_below input place n region zero = None
taker_below input place n region (suc b) =
    if is_on input place b && some_of (commits region) input b (n b) then Some b else taker_below input place n region b

-- the address into which the cut has merged the region
unfoldable pub taker : Input → ℕ → Cut → ℕ → Option ℕ
taker input place n region = taker_below input place n region (count_of input)

-- the cut covers the removal of the store's own peer
unfoldable pub is_removed : Input → Cut → ℕ → Bool
is_removed input n a = some_of (removes (address_of input a).0) input a (n a)

-- a region that is merged into another, or removed, or neither
abbrev pub marked : Option ℕ → Bool → RegionState → RegionState
marked (Some target) gone s = merged_into s target
marked None true s = removed s
marked None false s = s

-- the part's state, with the mode that its mark says
abbrev pub marked_part : Option ℕ → Bool → Option Part → Option RegionState
marked_part target gone None = None
marked_part target gone (Some v) = Some (marked target gone v.state)

-- the address's state after its covered reshapings, where its region is there from the start or its split is covered
abbrev pub row_if : Bool → Input → ℕ → Cut → ℕ → Option RegionState
row_if false input place n a = None
row_if true input place n a =
    marked_part (option_map (region_of input) (taker input place n (region_of input a))) (is_removed input n a) (part_at input a (index_after input a (n a)))

-- the row of the address after the cut, if its region was made by then
unfoldable pub row_at : Input → ℕ → Cut → ℕ → Option RegionState
row_at input place n a = row_if (covers n (birth_of input a)) input place n a

-- the address of the region on the store
abbrev pub address_on : Input → Option Store → ℕ → Option ℕ
address_on input None region = None
address_on input (Some store) region = position (is_at store.id region) (rows_of input)

-- the address of a region on the store at a place
unfoldable pub address_in : Input → ℕ → ℕ → Option ℕ
address_in input place region = address_on input (slice_get input.stores place) region

-- the row of the region at the address, after the cut
abbrev pub row_by : Input → ℕ → Cut → Option ℕ → Option RegionState
row_by input place n None = None
row_by input place n (Some a) = row_at input place n a

-- what the table of the cut says of a region
abbrev pub row_of : Input → ℕ → Cut → ℕ → Option RegionState
row_of input place n region = row_by input place n (address_in input place region)

-- each id is above all before it
abbrev pub IdsRise : List RegionState → Type 0
IdsRise rows = AreRising (map (λ s. s.region) rows)

-- the state of a region among some
abbrev pub state_of : List RegionState → ℕ → Option RegionState
state_of rows region = find (λ s. s.region == region) rows

-- the table of the cut: by id, and each region as the cut has it
pub record IsTable (input : Input) (place : ℕ) (n : Cut) (rows : List RegionState) : Type 0 where
  pub rise : IdsRise rows
  pub states : (region : ℕ) → state_of rows region ≡ row_of input place n region

-- the rows of the store's first addresses
abbrev pub rows_below : Input → ℕ → Cut → ℕ → List RegionState
rows_below input place n zero = []
rows_below input place n (suc a) = rows_below input place n a ++ (if is_on input place a then option_to_list (row_at input place n a) else [])

-- the table of the cut, row by row in the order of the addresses, which on a store is that of the regions' ids
abbrev pub table_of : Input → ℕ → Cut → List RegionState
table_of input place n = rows_below input place n (count_of input)

-- ---- the end

-- the state in another mode
abbrev pub with_mode : Mode → RegionState → RegionState
with_mode m s = record { region = s.region; epoch = s.epoch; range = s.range; peers = s.peers; mode = m }

-- the part's state in the mode in which it ended
abbrev pub ended : Mode → Option Part → Option RegionState
ended m None = None
ended m (Some v) = Some (with_mode m v.state)

-- the state that the plan ends the address with
abbrev pub final_state : Input → ℕ → Option RegionState
final_state input a = ended (ends_of input a) (part_at input a (stop_of input a))

-- the final states of the store's first addresses
abbrev pub finals_below : Input → ℕ → ℕ → List RegionState
finals_below input place zero = []
finals_below input place (suc a) = finals_below input place a ++ (if is_on input place a then option_to_list (final_state input a) else [])

-- the states that the plan ends the store's regions with, in the order of the addresses
abbrev pub final_rows : Input → ℕ → List RegionState
final_rows input place = finals_below input place (count_of input)
