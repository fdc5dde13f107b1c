-- Each entry of a region of a lawful input makes the next part of the part before it.
use Rattle.std.proofs.Common.{◌≡◌, ℕ, ◌+◌, ◌≤◌, ◌<◌, List, Some, None, refl, ap, sym, ◌∙◌, arith}
use Rattle.std.specs.Prelude.{is_some}
use Rattle.rs_entry.specs.WellFormed.{WellFormed}
use Rattle.rs_entry.specs.declared.entry.Body.{Body}
use Rattle.rs_entry.specs.declared.entry.Body.TheVariants as body
use Rattle.rs_entry.specs.declared.entry.Carried.{Carried}
use Rattle.rs_entry.specs.declared.entry.Entry.{Entry}
use Rattle.rs_entry.specs.declared.input.Input.{Input}
use Rattle.rs_entry.specs.declared.outcome.Mode.TheVariants as mode
use Rattle.rs_region.specs.Verdicts.{verdict}
use Rattle.rs_region.specs.declared.verdict.Verdict.TheVariants as verdicts
use Rattle.rs_store.specs.declared.regions.Made.{Made}
use Rattle.rs_part.specs.Parts.{Part}
use Rattle.rs_part.specs.Scripts.{after_by}
use Rattle.rs_part.specs.Settled.{Commits}
use Rattle.rs_part.proofs.Laws.{HasSource, at_next}
use Rattle.rs_part.proofs.Reached.{reached_is_at}
use Rattle.rs_check.specs.Laws.{check}
use Rattle.rs_check.specs.Plans.{stop_of}
use Rattle.rs_check.specs.Scripts.{script_of}
use Rattle.rs_check.specs.Values.{entry_at, part_at, part_on, region_of}
use Rattle.rs_check.proofs.Addresses.{Home, part_here, parts_on, stops}
use Rattle.rs_check.proofs.PartLaws.{is_part, line_here, reached_at}

module _ (input : Input) (well : WellFormed input) (lawful : check input ≡ None) (a : ℕ) (h : Home input a) where
  -- the source of an accepted commit, at the end of the store's order
  pub record Merged (q c : ℕ) : Type 0 where
    pub n : Made
    pub here : h.end.g.region q ≡ Some n
    pub applied : n.applied ≡ c
    pub mode : n.state.mode ≡ mode.Merged (region_of input a)

  pub merged_source : (i : ℕ) (v : Part) (e : Entry) (q c : ℕ) (l : List Carried) → 5 ≤ i → i < stop_of input a → part_at input a i ≡ Some v → entry_at input a (i + 1) ≡ Some e
      → e.body ≡ body.Commit q c l → verdict v.state e ≡ verdicts.Accept → Merged q c
  merged_source i v e q c l five lt part entry is ok =
      let commits : Commits (script_of input) (region_of input a) i q c = record {
        past = five;
        part = v;
        entry = e;
        carried = l;
        is_part = is_part input well lawful a h i v part;
        line = line_here input well lawful a h i e five entry;
        body = is;
        accepted = ok;
      } in
      let top : stop_of input a ≡ h.r.applied = stops input a h in
      let w = h.end.invariant.settled.merged (region_of input a) h.r i q c h.made (omega arith) commits in
      record { n = w.0; here = w.1; applied = w.2; mode = w.3 }

  -- the next part, by the entry and the part before it
  pub steps_at : (i : ℕ) (v : Part) (e : Entry) → 5 ≤ i → i < stop_of input a → part_at input a i ≡ Some v → entry_at input a (i + 1) ≡ Some e
      → after_by (verdict v.state e) (part_on input a) (region_of input a) (i + 1) v e.body ≡ part_at input a (i + 1)
  steps_at i v e five lt part entry =
      let w = reached_at input well lawful a h (i + 1) (omega arith) (omega arith) in
      ap (λ f. after_by (verdict v.state e) f (region_of input a) (i + 1) v e.body) (parts_on input a h)
      ∙ (at_next (script_of input) h.store h.end.tells h.end.begins (region_of input a) i e v w.0 five (sym (part_here input a h i) ∙ part) (line_here input well lawful a h i e five entry)
      (sym (part_here input a h (i + 1)) ∙ w.1) (λ ok. has_source e.body refl ok)
      ∙ sym w.1) where
        has_source : (b : Body) → e.body ≡ b → verdict v.state e ≡ verdicts.Accept → HasSource (script_of input) h.store h.end.tells h.end.begins b
        has_source (body.Commit q c l) is ok =
            let m = merged_source i v e q c l five lt part entry is ok in
            let at : m.n.applied ≡ c = m.applied in
            let since : 5 ≤ m.n.applied = h.end.invariant.sound.since q m.n m.here in
            ap is_some (reached_is_at (script_of input) h.store h.end.tells h.end.begins h.end.g h.end.ends q m.n m.here c (omega arith) (omega arith)).1
        has_source body.Empty is ok = tt
        has_source (body.Write ops) is ok = tt
        has_source (body.Split side ids keys) is ok = tt
        has_source (body.Prepare target) is ok = tt
        has_source (body.Rollback commit) is ok = tt
        has_source (body.Conf change) is ok = tt
