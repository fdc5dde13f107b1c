-- What a region is at an index, read off the committed entries alone: no store, no order and no clock is in it.
use Rattle.std.specs.Prelude.{◌≡◌, ℕ, zero, suc, ◌-◌, ◌==◌, leb, Bool, true, false, ◌&&◌, List, ◌++◌, map, Option, Some, None, if◌then◌else◌}
use Rattle.std.specs.List.{find}
use Rattle.rs_key.specs.Ranges.{Bounds, is_next_to}
use Rattle.rs_entry.specs.declared.entry.Body.{Body}
use Rattle.rs_entry.specs.declared.entry.Body.TheVariants as body
use Rattle.rs_entry.specs.declared.entry.Entry.{Entry}
use Rattle.rs_region.specs.Verdicts.{verdict}
use Rattle.rs_region.specs.Reshapings.{boot, split_kept, split_new, prepared, rolled_back, committed, reconfigured}
use Rattle.rs_region.specs.declared.state.RegionState.{RegionState}
use Rattle.rs_region.specs.declared.verdict.Verdict.{Verdict}
use Rattle.rs_region.specs.declared.verdict.Verdict.TheVariants as verdicts
use Rattle.rs_store.specs.Stores.{wrote, is_accept, is_prepared_for}
use Rattle.rs_part.specs.Items.{history_of, no_items, kept_items}
use Rattle.rs_part.specs.Parts.{Part}

-- how a region begins: not at all, with a range and peers, or split off by the parent's entry at the index
pub data Birth : Type 0 where
  Never : Birth
  Opened : (range : Bounds) (peers : List ℕ) → Birth
  SplitOff : (parent index : ℕ) → Birth

-- the entry of each region at each index, and how each region begins
pub record Script : Type 0 where
  pub line : ℕ → ℕ → Option Entry
  pub birth : ℕ → Birth

-- the parts found so far, by region and index
abbrev pub Found : Type 0
Found = ℕ → ℕ → Option Part

-- ---- births

-- the part of a child: its state, and those of the parent's items that are in its range
abbrev pub child_with : Part → Option RegionState → Option Part
child_with v None = None
child_with v (Some s) = Some (record { state = s; items = kept_items s.range v.items })

-- the new region of this id that a split makes of a part
abbrev pub child_in : ℕ → Part → Body → Option Part
child_in id v (body.Split side ids keys) = child_with v (find (λ s. s.region == id) (split_new v.state side ids keys))
child_in id v b = None

-- the child's part, if the parent accepts the split
abbrev pub child_by : ℕ → Part → Body → Bool → Option Part
child_by id v b true = child_in id v b
child_by id v b false = None

-- the part of the child that the entry at the parent makes, if it makes it
abbrev pub child_of : ℕ → Option Entry → Option Part → Option Part
child_of id None v = None
child_of id (Some e) None = None
child_of id (Some e) (Some v) = child_by id v e.body (is_accept (verdict v.state e))

-- the part with which a region begins: from boot, off a split, or none
abbrev pub begun : Script → Found → ℕ → Birth → Option Part
begun script found id Never = None
begun script found id (Opened range peers) = Some (record { state = boot id range peers; items = no_items })
begun script found id (SplitOff parent index) = child_of id (script.line parent index) (found parent (index - 1))

-- ---- entries

-- the part of a target with its source's range and items
abbrev pub joined_part : Part → Part → Part
joined_part v u = record { state = committed v.state u.state; items = λ k. v.items k ++ u.items k }

-- the source is prepared for this merge, and the ranges are next to each other
abbrev pub may_join : ℕ → ℕ → Part → Part → Bool
may_join id commit v u = is_prepared_for id commit u.state.mode && is_next_to v.state.range u.state.range

-- the target joined with its source, if they may be joined
abbrev pub with_source : ℕ → ℕ → Part → Option Part → Option Part
with_source id commit v None = None
with_source id commit v (Some u) = if may_join id commit v u then Some (joined_part v u) else None

-- the part after an accepted entry at the index; a commit takes over the source's part at its prepare
abbrev pub accepted : Found → ℕ → ℕ → Part → Body → Option Part
accepted found id index v body.Empty = Some v
accepted found id index v (body.Write ops) = Some (record { state = v.state; items = λ k. v.items k ++ history_of (map (wrote id index) ops) k })
accepted found id index v (body.Split side ids keys) =
    Some (record { state = split_kept v.state side keys; items = kept_items (split_kept v.state side keys).range v.items })
accepted found id index v (body.Prepare target) = Some (record { state = prepared v.state target index; items = v.items })
accepted found id index v (body.Commit source commit carried) = with_source id commit v (found source commit)
accepted found id index v (body.Rollback commit) = Some (record { state = rolled_back v.state; items = v.items })
accepted found id index v (body.Conf c) = Some (record { state = reconfigured v.state c; items = v.items })

-- the part after an entry with this verdict
abbrev pub after_by : Verdict → Found → ℕ → ℕ → Part → Body → Option Part
after_by verdicts.Accept found id index v b = accepted found id index v b
after_by verdicts.BadRollback found id index v b = None
after_by _ found id index v b = Some v

-- the part after its next entry, if both are there
abbrev pub after_line : Found → ℕ → ℕ → Option Entry → Option Part → Option Part
after_line found id index None v = None
after_line found id index (Some e) None = None
after_line found id index (Some e) (Some v) = after_by (verdict v.state e) found id index v e.body

-- ---- descent

-- the part at the index: the region's beginning, or the part before it after one more entry
abbrev pub grow_by : Bool → Script → Found → ℕ → ℕ → Option Part
grow_by true script found id index = begun script found id (script.birth id)
grow_by false script found id index = after_line found id index (script.line id index) (found id (index - 1))

-- one part more of each line of descent
abbrev pub grow : Script → Found → Found
grow script found id index = grow_by (leb index 5) script found id index

-- the parts that n steps of descent find
abbrev pub found : Script → ℕ → Found
found script zero id index = None
found script (suc n) id index = grow script (found script n) id index

-- what the region is after it applied the index; at 5, when it begins
abbrev pub IsPart : Script → ℕ → ℕ → Part → Type 0
IsPart script id index v = (n : ℕ) × (found script n id index ≡ Some v)
