-- How regions of a lawful input end.
use Rattle.std.proofs.Common.{◌≡◌, ℕ, ◌+◌, ◌≤◌, true, List, Some, None, refl, ap, sym, ◌∙◌, arith, subst}
use Rattle.rs_entry.specs.WellFormed.{WellFormed}
use Rattle.rs_entry.specs.declared.entry.Body.TheVariants as body
use Rattle.rs_entry.specs.declared.entry.Carried.{Carried}
use Rattle.rs_entry.specs.declared.entry.Entry.{Entry}
use Rattle.rs_entry.specs.declared.input.Input.{Input}
use Rattle.rs_entry.specs.declared.outcome.Mode.{Mode}
use Rattle.rs_entry.specs.declared.outcome.Mode.TheVariants as mode
use Rattle.rs_store.specs.Stores.{is_unmerged}
use Rattle.rs_part.specs.Parts.{Part, mode_before, part_of}
use Rattle.rs_part.specs.Scripts.{IsPart}
use Rattle.rs_part.proofs.Parts.{one_part}
use Rattle.rs_check.specs.Laws.{check}
use Rattle.rs_check.specs.Lawfulness.{Accepted, Source, Target}
use Rattle.rs_check.specs.Plans.{ends_in, ends_of, stop_in, stop_of}
use Rattle.rs_check.specs.Scripts.{script_of}
use Rattle.rs_check.specs.Values.{part_at, region_of}
use Rattle.rs_check.proofs.Addresses.{Home, beside, ends, home, stops}
use Rattle.rs_check.proofs.PartLaws.{is_part, the_entry, the_part}
use Rattle.rs_check.proofs.StepLaws.{merged_source}

module _ (input : Input) (well : WellFormed input) (lawful : check input ≡ None) (a : ℕ) (h : Home input a) where
  -- an accepted commit's source rested at its prepare for this target, and ends merged into it
  pub merges_at : (i : ℕ) (v : Part) (e : Entry) (q c : ℕ) (l : List Carried) → Accepted input a i v e → e.body ≡ body.Commit q c l → Source input a q c
  merges_at i v e q c l acc is =
      let m = merged_source input well lawful a h i v e q c l acc.from acc.to acc.part acc.entry is acc.accepted in
      let at : m.n.applied ≡ c = m.applied in
      let ended = h.end.invariant.settled.ended q m.n (region_of input a) m.here m.mode in
      let since : 5 ≤ m.n.applied = h.end.invariant.sound.since q m.n m.here in
      let y = beside input well a h q m.n m.here in
      let stop : stop_of input y.b ≡ m.n.applied = ap stop_in y.row in
      let region : region_of input y.b ≡ q = ap (λ p. p.1) y.placed.address in
      record {
        b = y.b;
        placed = y.placed;
        stop = stop ∙ at;
        ends = ap ends_in y.row ∙ m.mode;
        part = ended.part;
        is_part = subst (λ i. part_at input y.b i ≡ Some ended.part) at
            (the_part input well lawful y.b (home input well lawful y.b y.placed.within) m.n.applied ended.part since (omega arith)
            (subst (λ x. IsPart (script_of input) x m.n.applied ended.part) (sym region) ended.is_part));
        merging = ended.merging ∙ ap (mode.Merging (region_of input a)) at;
      }

  -- a region that ends merged has a target, with an accepted commit of it
  pub merged_at : (target : ℕ) → ends_of input a ≡ mode.Merged target → Target input a target
  merged_at target e =
      let m = h.end.invariant.settled.merger (region_of input a) h.r target h.made (sym (ends input a h) ∙ e) in
      let y = beside input well a h target m.r m.here in
      let at = home input well lawful y.b y.placed.within in
      let stop : stop_of input y.b ≡ m.r.applied = ap stop_in y.row in
      let below : m.k + 1 ≤ m.r.applied = m.below in
      let five : 5 ≤ m.k = m.commits.past in
      let region : region_of input y.b ≡ target = ap (λ p. p.1) y.placed.address in
      record {
        b = y.b;
        placed = y.placed;
        i = m.k;
        part = m.commits.part;
        entry = m.commits.entry;
        carried = m.commits.carried;
        accepted = record {
          from = five;
          to = omega arith;
          part = the_part input well lawful y.b at m.k m.commits.part five (omega arith) (subst (λ x. IsPart (script_of input) x m.k m.commits.part) (sym region) m.commits.is_part);
          entry = the_entry input well lawful y.b at m.k m.commits.entry five (omega arith) (ap (λ x. (script_of input).line x (m.k + 1)) region ∙ m.commits.line);
          accepted = m.commits.accepted;
        };
        body = m.commits.body ∙ ap (λ n. body.Commit (region_of input a) n m.commits.carried) (sym (stops input a h));
      }

  unmerged : (m : Mode) → ((target : ℕ) → m ≡ mode.Merged target → ⊥) → is_unmerged m ≡ true
  unmerged mode.Normal f = refl
  unmerged (mode.Merging target commit) f = refl
  unmerged (mode.Merged target) f = absurd (f target refl)
  unmerged mode.Removed f = refl

  -- any other ends in the mode of its last part
  pub last_at : (v : Part) → part_at input a (stop_of input a) ≡ Some v → ((target : ℕ) → ends_of input a ≡ mode.Merged target → ⊥) → v.state.mode ≡ mode_before (ends_of input a)
  last_at v e other =
      let own = h.end.invariant.sound.parts (region_of input a) h.r h.made (unmerged h.r.state.mode (λ target m. other target (ends input a h ∙ m))) in
      let part = subst (λ i. IsPart (script_of input) (region_of input a) i v) (stops input a h) (is_part input well lawful a h (stop_of input a) v e) in
      ap (λ w. w.state.mode) (one_part (script_of input) (region_of input a) h.r.applied v (part_of h.end.g h.r) part own) ∙ ap mode_before (sym (ends input a h))
