-- A region of a lawful input has a part at each index from 5 to its stop, and each entry up to there makes the next one.
use Rattle.std.proofs.Common.{◌≡◌, ℕ, ◌+◌, ◌*◌, ◌≤◌, ◌<◌, ◌^◌, false, List, Some, None, ap, sym, ◌∙◌, arith, subst}
use Rattle.rs_key.specs.Ranges.{holds}
use Rattle.rs_entry.specs.WellFormed.{WellFormed}
use Rattle.rs_entry.specs.declared.entry.Entry.{Entry}
use Rattle.rs_entry.specs.declared.input.Input.{Input}
use Rattle.rs_store.specs.Stores.{entries_in}
use Rattle.rs_store.proofs.FormLaws.{formed_store}
use Rattle.rs_part.specs.Items.{no_items}
use Rattle.rs_part.specs.Parts.{Part, at}
use Rattle.rs_part.specs.Scripts.{IsPart}
use Rattle.rs_part.proofs.Insides.{at_inside}
use Rattle.rs_part.proofs.LiveParts.{IsLivePart, part_live}
use Rattle.rs_part.proofs.Moments.{at_is_part}
use Rattle.rs_part.proofs.Parts.{one_part}
use Rattle.rs_part.proofs.Reached.{reached_is_at}
use Rattle.rs_part.proofs.SmallParts.{at_small, last_within}
use Rattle.rs_check.specs.Laws.{check}
use Rattle.rs_check.specs.Lawfulness.{StoresAgree}
use Rattle.rs_check.specs.Plans.{address_of, stop_of}
use Rattle.rs_check.specs.Scripts.{script_of}
use Rattle.rs_check.specs.Values.{entry_at, part_at, region_of}
use Rattle.rs_check.proofs.Addresses.{Home, entry_here, home, part_here, stops}
use Rattle.rs_check.proofs.EntryLines.{last_lines}
use Rattle.rs_check.proofs.LawfulScripts.{line_lawful}

module _ (input : Input) (well : WellFormed input) (lawful : check input ≡ None) where
  module _ (a : ℕ) (h : Home input a) where
    -- its entries begin behind index 5
    pub starts_at : 5 ≤ stop_of input a
    starts_at = subst (λ n. 5 ≤ n) (sym (stops input a h)) (h.end.invariant.sound.since (region_of input a) h.r h.made)

    -- and end far below 2 ^ 64
    pub ends_at : stop_of input a < 2 ^ 62
    ends_at =
        let near = last_within h.store (formed_store h.store h.end.formed) h.end.g h.end.ends (region_of input a) h.r h.made in
        let low : h.r.applied ≤ 5 + 64 * entries_in h.store = near.applied in
        let few : entries_in h.store < 2 ^ 50 = h.end.formed.few in
        let at : stop_of input a ≡ h.r.applied = stops input a h in
        omega arith

    -- each index that it comes to has a part on its store
    part_there : (i : ℕ) → 5 ≤ i → i ≤ stop_of input a → (v : Part) × (at h.store (region_of input a) i ≡ Some v)
    part_there i five le =
        reached_is_at (script_of input) h.store h.end.tells h.end.begins h.end.g h.end.ends (region_of input a) h.r h.made i five (subst (λ n. i ≤ n) (stops input a h) le)

    -- its part at an index is that of the script
    pub is_part : (i : ℕ) (v : Part) → part_at input a i ≡ Some v → IsPart (script_of input) (region_of input a) i v
    is_part i v e = at_is_part (script_of input) h.store h.end.tells h.end.begins (region_of input a) i v (sym (part_here input a h i) ∙ e)

    -- each index that it comes to has a part
    pub reached_at : (i : ℕ) → 5 ≤ i → i ≤ stop_of input a → (v : Part) × (part_at input a i ≡ Some v)
    reached_at i five le = let w = part_there i five le in (w.0, part_here input a h i ∙ w.1)

    -- and each next entry up to there is there
    pub entry_there : (i : ℕ) → 5 ≤ i → i < stop_of input a → (e : Entry) × (entry_at input a (i + 1) ≡ Some e)
    entry_there i five lt =
        let at : stop_of input a ≡ h.r.applied = stops input a h in
        let w = last_lines (script_of input) h.store h.end.tells h.end.begins h.end.g h.end.ends (region_of input a) h.r h.made i five (omega arith) in
        (w.0, entry_here input a h (i + 1) ∙ w.1)

    -- its part is its own, and live
    pub live_at : (i : ℕ) (v : Part) → part_at input a i ≡ Some v → IsLivePart (region_of input a) v
    live_at i v e = part_live (script_of input) (region_of input a) i v (is_part i v e)

    -- with small numbers
    pub small_at : (i : ℕ) (v : Part) → part_at input a i ≡ Some v → (v.state.epoch.version < 2 ^ 62) × (v.state.epoch.conf_ver < 2 ^ 62)
    small_at i v e =
        let low = at_small h.store (formed_store h.store h.end.formed) (region_of input a) i v (sym (part_here input a h i) ∙ e) in
        let version : v.state.epoch.version ≤ 5 + 64 * entries_in h.store = low.version in
        let conf_ver : v.state.epoch.conf_ver ≤ 5 + 64 * entries_in h.store = low.conf_ver in
        let few : entries_in h.store < 2 ^ 50 = h.end.formed.few in
        (omega arith, omega arith)

    -- and keys of its range alone
    pub inside_at : (i : ℕ) (v : Part) (key : List ℕ) → part_at input a i ≡ Some v → holds v.state.range key ≡ false → v.items key ≡ no_items key
    inside_at i v key e out = at_inside h.store (region_of input a) i v (sym (part_here input a h i) ∙ e) key out

    -- what the script has for the region at an index that it comes to is its part
    pub the_part : (i : ℕ) (v : Part) → 5 ≤ i → i ≤ stop_of input a → IsPart (script_of input) (region_of input a) i v → part_at input a i ≡ Some v
    the_part i v five le part =
        let w = reached_at i five le in
        w.1 ∙ ap Some (one_part (script_of input) (region_of input a) i w.0 v (is_part i w.0 w.1) part)

    -- an entry is the script's
    pub line_here : (i : ℕ) (e : Entry) → 5 ≤ i → entry_at input a (i + 1) ≡ Some e → (script_of input).line (region_of input a) (i + 1) ≡ Some e
    line_here i e five e_at = line_lawful input well lawful (address_of input a) i e five e_at

    -- what the script has as its next entry is the entry there
    pub the_entry : (i : ℕ) (e : Entry) → 5 ≤ i → i < stop_of input a → (script_of input).line (region_of input a) (i + 1) ≡ Some e → entry_at input a (i + 1) ≡ Some e
    the_entry i e five lt line =
        let w = entry_there i five lt in
        let same : w.0 ≡ e = cc (line_here i w.0 five w.1, line) in
        w.1 ∙ ap Some same

  -- two addresses of one region have the same parts
  pub parts_agree : StoresAgree input
  parts_agree a b i wa wb same five la lb =
      let ha = home input well lawful a wa in
      let w = reached_at a ha i five la in
      let part = subst (λ x. IsPart (script_of input) x i w.0) same (is_part a ha i w.0 w.1) in
      w.1 ∙ sym (the_part b (home input well lawful b wb) i w.0 five lb part)
