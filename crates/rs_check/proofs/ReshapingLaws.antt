-- Which entries of a lawful input change their regions.
use Rattle.std.proofs.Common.{◌≡◌, ℕ, ◌+◌, ◌≤◌, ◌<◌, ◌&&◌, Some, None, ap, sym, ◌∙◌, arith}
use Rattle.rs_entry.specs.WellFormed.{WellFormed}
use Rattle.rs_entry.specs.declared.entry.Entry.{Entry}
use Rattle.rs_entry.specs.declared.input.Input.{Input}
use Rattle.rs_region.specs.Verdicts.{verdict}
use Rattle.rs_store.specs.Stores.{is_accept, is_reshaping}
use Rattle.rs_part.specs.Parts.{Part}
use Rattle.rs_part.proofs.Reshapings.{AreCounted, count_none, count_to, counted_by, last_counted}
use Rattle.rs_check.specs.Laws.{check}
use Rattle.rs_check.specs.Plans.{stop_of}
use Rattle.rs_check.specs.Scripts.{script_of}
use Rattle.rs_check.specs.Values.{entry_at, part_at, region_of, reshaped_by}
use Rattle.rs_check.proofs.Addresses.{Home, reshapes, stops}
use Rattle.rs_check.proofs.PartLaws.{is_part, line_here}

module _ (input : Input) (well : WellFormed input) (lawful : check input ≡ None) (a : ℕ) (h : Home input a) where
  count : AreCounted (script_of input) (region_of input a) h.r
  count = last_counted (script_of input) h.store h.end.tells h.end.begins h.end.g h.end.ends (region_of input a) h.r h.made

  counts : (index : ℕ) → reshaped_by input a index ≡ count_to index h.r.reshapings
  counts index = ap (count_to index) (reshapes input a h)

  -- those that are accepted, and no others
  pub reshapes_at : (i : ℕ) (v : Part) (e : Entry) → 5 ≤ i → i < stop_of input a → part_at input a i ≡ Some v → entry_at input a (i + 1) ≡ Some e
      → reshaped_by input a (i + 1) ≡ counted_by (is_accept (verdict v.state e) && is_reshaping e.body) (reshaped_by input a i)
  reshapes_at i v e five lt part entry =
      let top : stop_of input a ≡ h.r.applied = stops input a h in
      counts (i + 1)
      ∙ (count.counted i v e five (omega arith) (is_part input well lawful a h i v part) (line_here input well lawful a h i e five entry)
      ∙ ap (counted_by (is_accept (verdict v.state e) && is_reshaping e.body)) (sym (counts i)))

  pub unshaped_at : reshaped_by input a 5 ≡ 0
  unshaped_at = counts 5 ∙ count_none 5 h.r.reshapings count.past
