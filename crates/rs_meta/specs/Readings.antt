-- What the endings of a store's addresses say of its outcome.
use Rattle.std.specs.Prelude.{◌≡◌, ℕ, ◌+◌, ◌-◌, true, List, [], map, length, Some, slice_get, unwrap_or}
use Rattle.std.specs.List.{flat_map}
use Rattle.rs_entry.specs.declared.input.Input.{Input}
use Rattle.rs_entry.specs.declared.outcome.RegionLine.{RegionLine}
use Rattle.rs_entry.specs.declared.outcome.StoreOutcome.{StoreOutcome}
use Rattle.rs_part.specs.Items.{Items}
use Rattle.rs_msg.specs.Maps.{Writes, items_at}
use Rattle.rs_check.specs.Plans.{ends_of, own_of, stop_of}
use Rattle.rs_msg.specs.declared.ending.Ending.{Ending}
use Rattle.rs_history.specs.Histories.{histories_of, pairs_of}
use Rattle.rs_table.specs.Cuts.{is_on}
use Rattle.rs_meta.specs.Addresses.{count_on, first_of}

-- these are the endings of all addresses of the store at a place, in their order
pub record AreEndings (input : Input) (place : ℕ) (endings : List Ending) : Type 0 where
  pub count : length endings ≡ count_on input place
  pub plans : (k : ℕ) (e : Ending) → slice_get endings k ≡ Some e → e.plan.now ≡ input
  pub addresses : (k : ℕ) (e : Ending) → slice_get endings k ≡ Some e → e.address ≡ first_of input place + k

-- it is the ending of an address of the store at the place
pub record IsEndingOn (input : Input) (place : ℕ) (e : Ending) : Type 0 where
  pub plan : e.plan.now ≡ input
  pub on : is_on input place e.address ≡ true

-- the line of the region that has left the ending: as its state, by the mode that the plan ends the address with
abbrev pub line_of : Input → Ending → RegionLine
line_of input e = record {
  region = e.state.region;
  epoch = e.state.epoch;
  range = e.state.range;
  mode = ends_of input e.address;
  applied = stop_of input e.address;
  left = own_of input e.address - (stop_of input e.address - 5);
  peers = e.state.peers;
}

-- the writes that it leaves, and their items
abbrev pub writes_left : Ending → Writes
writes_left e = unwrap_or e.map []

-- the writes that an ending leaves, as histories of the keys
abbrev pub items_left : Ending → Items
items_left e = items_at (writes_left e)

-- those that all leave
abbrev pub items_of_all : List Ending → Items
items_of_all endings key = flat_map (λ e. items_left e key) endings

-- the outcome has what the endings say: their lines, their replies one after another, and the histories of their writes
pub record IsReadOff (input : Input) (endings : List Ending) (o : StoreOutcome) : Type 0 where
  pub regions : o.regions ≡ map (line_of input) endings
  pub replies : o.replies ≡ flat_map (λ e. e.replies) endings
  pub histories : o.histories ≡ histories_of (flat_map writes_left endings)
  pub pairs : o.pairs ≡ pairs_of o.histories
