-- The cut of all reshapings has each region as the plan ends it.
use Rattle.std.proofs.Common.{◌≡◌, ℕ, suc, ◌+◌, ◌<◌, Bool, true, false, cond, length, Option, Some, None, refl, ap, sym, ◌∙◌, arith, subst, inl, inr}
use Rattle.std.specs.Prelude.{◌&&◌}
use Rattle.std.specs.Option.{option_map}
use Rattle.std.proofs.lemmas.Bool.{cases_lt, eq-eqb, le-leb}
use Rattle.rs_entry.specs.WellFormed.{WellFormed}
use Rattle.rs_entry.specs.declared.entry.Entry.{Entry}
use Rattle.rs_entry.specs.declared.input.Input.{Input}
use Rattle.rs_entry.specs.declared.outcome.Mode.{Mode}
use Rattle.rs_entry.specs.declared.outcome.Mode.TheVariants as mode
use Rattle.rs_region.specs.Verdicts.{verdict}
use Rattle.rs_region.specs.declared.state.RegionState.{RegionState}
use Rattle.rs_store.specs.Stores.{is_accept, is_removal_of, is_reshaping}
use Rattle.rs_part.specs.Parts.{Part, mode_before}
use Rattle.rs_check.specs.declared.plan.Maker.{Maker}
use Rattle.rs_check.specs.declared.plan.Maker.TheVariants as makers
use Rattle.rs_check.specs.Laws.{check}
use Rattle.rs_check.specs.Lawfulness.{Accepted}
use Rattle.rs_check.specs.Plans.{address_of, ends_of, maker_of, reshapings_of, stop_of}
use Rattle.rs_check.specs.Values.{count_of, entry_at, part_at, region_of, reshaped_by}
use Rattle.rs_check.proofs.Addresses.{ends, home, stored, stops}
use Rattle.rs_check.proofs.PartLaws.{the_entry, the_part}
use Rattle.rs_table.specs.Cuts.{Cut, IsCut, IsFull, birth_in, birth_of, covers, entry_of_nth, index_after, is_on}
use Rattle.rs_table.specs.Rows.{commits, ended, final_state, is_commit_of, is_removal, is_removed, marked, removes, row_at, taker, with_mode}
use Rattle.rs_table.proofs.Addressing.{on_beside}
use Rattle.rs_table.proofs.Between.{Base, base, last_state, laws, part_there}
use Rattle.rs_table.proofs.Births.{child, get_below}
use Rattle.rs_table.proofs.CutRows.{gone, removed_all, removed_is, row_is, some_taker, there_some}
use Rattle.rs_table.proofs.Greatest.{birth_unfold}
use Rattle.rs_table.proofs.NeedLists.{on_below}
use Rattle.rs_table.proofs.PlanReshapings.{index_there, nth_index, number_at, numbers_grow}

module _ (input : Input) (well : WellFormed input) (lawful : check input ≡ None) where
  -- an accepted entry that changes its region is one of its reshapings
  pub record IsNth (a i : ℕ) (e : Entry) : Type 0 where
    pub k : ℕ
    pub more : k < length (reshapings_of input a)
    pub entry : entry_of_nth input a (k + 1) ≡ Some e

  pub is_nth : (a : ℕ) → a < count_of input → (i : ℕ) (v : Part) (e : Entry) → Accepted input a i v e → is_reshaping e.body ≡ true → IsNth a i e
  is_nth a below i v e acc re =
      let r = (laws input well lawful).reshapes a i v e below acc.from acc.to acc.part acc.entry in
      let yes : (is_accept (verdict v.state e) && is_reshaping e.body) ≡ true = ap (λ x. is_accept x && is_reshaping e.body) acc.accepted ∙ re in
      let up : reshaped_by input a (i + 1) ≡ reshaped_by input a i + 1 = r ∙ ap (λ b. cond b (reshaped_by input a i + 1) (reshaped_by input a i)) yes in
      let w = index_there input well lawful a below (reshaped_by input a i) (i + 1) (omega (arith, up)) in
      let num = number_at input well lawful a below (reshaped_by input a i) w.0 w.1 in
      let le = w.2 in
      let at : w.0 ≡ i + 1 = elim (cases_lt i w.0) [
        | inl lt ↦ omega (arith, lt, le)
        | inr back ↦ absurd (let g = numbers_grow input a w.0 i back in omega (arith, g, num))
      ] in
      let s : reshaped_by input a i + 1 ≡ suc (reshaped_by input a i) = omega arith in
      record {
        k = reshaped_by input a i;
        more = get_below (reshapings_of input a) (reshaped_by input a i) w.0 w.1;
        entry = ap (λ x. entry_of_nth input a x) s ∙ (ap (entry_at input a) (nth_index input a (reshaped_by input a i) w.0 w.1 ∙ at) ∙ acc.entry);
      }

  module _ (place : ℕ) (n : Cut) (cut : IsCut input place n) (full : IsFull input place n) (a : ℕ) (on : is_on input place a ≡ true) where
    below : a < count_of input
    below = on_below input place a on

    born : covers n (birth_of input a) ≡ true
    born = go (maker_of input a) refl where
      go : (m : Maker) → maker_of input a ≡ m → covers n (birth_of input a) ≡ true
      go makers.Boot e = ap (covers n) (birth_unfold input a ∙ ap (birth_in input) e)
      go (makers.Split p index) e =
          let w = part_there input well lawful a below 5 (omega arith) ((laws input well lawful).starts a below) in
          let c = child input well lawful a below p index w.0 e w.1 in
          let on_p = on_beside input place a p on c.below c.same in
          let num : reshaped_by input p index ≡ c.k + 1 = ap (reshaped_by input p) (sym c.at) ∙ c.reshaping.number in
          let all = full p on_p in
          let more = c.more in
          ap (covers n) (birth_unfold input a ∙ ap (birth_in input) e) ∙ le-leb (reshaped_by input p index) (n p) (omega (arith, num, all, more))

    last : (v : Part) × (part_at input a (stop_of input a) ≡ Some v)
    last = part_there input well lawful a below (stop_of input a) ((laws input well lawful).starts a below) (omega arith)

    bs : Base input well lawful a below (n a)
    bs = base input well lawful a below (n a) (cut.within a)

    state_last : last.0.state ≡ bs.part.state
    state_last =
        let whole : Base input well lawful a below (length (reshapings_of input a)) = subst (Base input well lawful a below) (full a on) bs in
        let there : part_at input a (index_after input a (n a)) ≡ Some whole.part = ap (λ z. part_at input a (index_after input a z)) (full a on) ∙ whole.is_part in
        let one : whole.part ≡ bs.part = cc (there, bs.is_part) in
        last_state input well lawful a below whole last.0 last.1 ∙ ap (λ (p : Part). p.state) one

    -- a region that ends merged is taken by its target
    taker_there : (target : ℕ) → ends_of input a ≡ mode.Merged target → option_map (region_of input) (taker input place n (region_of input a)) ≡ Some target
    taker_there target e =
        let t = (laws input well lawful).merged a target below e in
        let on_b = on_beside input place a t.b on t.placed.within (ap (λ p. p.0) t.placed.address) in
        let k = is_nth t.b t.placed.within t.i t.part t.entry t.accepted (ap is_reshaping t.body) in
        let taken_here : commits (region_of input a) (entry_of_nth input t.b (k.k + 1)) ≡ true =
        ap (commits (region_of input a)) k.entry ∙ (ap (is_commit_of (region_of input a)) t.body ∙ eq-eqb (region_of input a) (region_of input a) refl) in
        let all = full t.b on_b in
        let more = k.more in
        let some = some_taker input place n (region_of input a) t.b on_b (there_some (commits (region_of input a)) input t.b (n t.b) k.k (omega (arith, all, more)) taken_here) in
        let g = gone input well lawful place n cut a some.0 on some.1 in
        let same : region_of input some.0 ≡ target = cc (g.ends, e) in
        ap (option_map (region_of input)) some.1 ∙ ap Some same

    -- and a region that ends otherwise isn't
    taker_none : ((target : ℕ) → ends_of input a ≡ mode.Merged target → ⊥) → taker input place n (region_of input a) ≡ None
    taker_none f = go (taker input place n (region_of input a)) refl where
      go : (o : Option ℕ) → taker input place n (region_of input a) ≡ o → taker input place n (region_of input a) ≡ None
      go None e = e
      go (Some t) e = absurd (f (region_of input t) (gone input well lawful place n cut a t on e).ends)

    -- a region that ends removed was
    removed_there : ends_of input a ≡ mode.Removed → is_removed input n a ≡ true
    removed_there e =
        let h = home input well lawful a below in
        let m = h.end.invariant.sound.marked (region_of input a) h.r h.made (sym (ends input a h) ∙ e) in
        let d = m.2 in
        let top = stops input a h in
        let at = m.1 in
        let past = d.past in
        let acc : Accepted input a m.0 d.part d.entry = record {
          from = past;
          to = omega (arith, top, at);
          part = the_part input well lawful a h m.0 d.part past (omega (arith, top, at)) d.is_part;
          entry = the_entry input well lawful a h m.0 d.entry past (omega (arith, top, at)) d.line;
          accepted = d.accepted;
        } in
        let k = is_nth a below m.0 d.part d.entry acc (ap is_reshaping d.body) in
        let own : is_removal_of (address_of input a).0 d.change ≡ true = ap (λ z. is_removal_of z d.change) (stored input a h) ∙ d.own_peer in
        let gone_here : removes (address_of input a).0 (entry_of_nth input a (k.k + 1)) ≡ true = ap (removes (address_of input a).0) k.entry ∙ (ap (is_removal (address_of input a).0) d.body ∙ own) in
        let all = full a on in
        let more = k.more in
        removed_is input n a ∙ there_some (removes (address_of input a).0) input a (n a) k.k (omega (arith, all, more)) gone_here

    removed_none : (ends_of input a ≡ mode.Removed → ⊥) → is_removed input n a ≡ false
    removed_none f = go (is_removed input n a) refl where
      go : (b : Bool) → is_removed input n a ≡ b → is_removed input n a ≡ false
      go false e = e
      go true e = absurd (f (removed_all input well lawful place n cut a on e).1)

    -- so its row is its last state, in the mode that the plan ends it with
    row_marked : (t : Option ℕ) (b : Bool) → option_map (region_of input) (taker input place n (region_of input a)) ≡ t → is_removed input n a ≡ b → row_at input place n a ≡ Some (marked t b last.0.state)
    row_marked t b te be = row_is input well lawful place n a below bs t b born te be ∙ ap (λ (s : RegionState). Some (marked t b s)) (sym state_last)

    live_end : (m : Mode) → ends_of input a ≡ m → ((target : ℕ) → m ≡ mode.Merged target → ⊥) → (m ≡ mode.Removed → ⊥) → mode_before m ≡ m → row_at input place n a ≡ Some (with_mode m last.0.state)
    live_end m e unmerged present same =
        let mode : last.0.state.mode ≡ m = (laws input well lawful).last a last.0 below last.1 (λ target f. unmerged target (sym e ∙ f)) ∙ (ap mode_before e ∙ same) in
        row_marked None false (ap (option_map (region_of input)) (taker_none (λ target f. unmerged target (sym e ∙ f)))) (removed_none (λ f. present (sym e ∙ f)))
        ∙ ap (λ (x : Mode). Some (with_mode x last.0.state)) mode

    by_ends : (m : Mode) → ends_of input a ≡ m → row_at input place n a ≡ Some (with_mode m last.0.state)
    by_ends (mode.Merged target) e = row_marked (Some target) (is_removed input n a) (taker_there target e) refl
    by_ends mode.Removed e = row_marked None true (ap (option_map (region_of input)) (taker_none (λ target f. cc (e, f)))) (removed_there e)
    by_ends mode.Normal e = live_end mode.Normal e (λ target f. cc f) (λ f. cc f) refl
    by_ends (mode.Merging target commit) e = live_end (mode.Merging target commit) e (λ x f. cc f) (λ f. cc f) refl

    pub full_row : row_at input place n a ≡ final_state input a
    full_row = by_ends (ends_of input a) refl ∙ sym (ap (ended (ends_of input a)) last.1)
