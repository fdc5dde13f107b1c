-- A step that merges a region keeps what is sound.
use Rattle.std.proofs.Common.{◌≡◌, ℕ, ◌+◌, Bool, true, ◌||◌, cond, List, [], ◌++◌, Some, None, refl, ap, sym, ◌∙◌, arith, subst, inl, inr, append-nil}
use mathlib.Core.Path.{fun_ext}
use Rattle.std.proofs.lemmas.Bool.{and_from, both_ways, or_cases}
use Rattle.rs_key.specs.Ranges.{holds, is_next_to, join}
use Rattle.rs_entry.specs.declared.entry.Body.TheVariants as body
use Rattle.rs_entry.specs.declared.entry.Carried.{Carried}
use Rattle.rs_entry.specs.declared.entry.Entry.{Entry}
use Rattle.rs_entry.specs.declared.input.Store.{Store}
use Rattle.rs_entry.specs.declared.outcome.Mode.TheVariants as mode
use Rattle.rs_region.specs.Reshapings.{committed}
use Rattle.rs_region.specs.Verdicts.{verdict}
use Rattle.rs_region.specs.declared.state.RegionState.{RegionState}
use Rattle.rs_region.specs.declared.verdict.Verdict.TheVariants as verdicts
use Rattle.rs_region.proofs.JoinKeys.{join_holds, join_rises}
use Rattle.rs_store.specs.Stores.{Applied, Wrote, as_merged, is_live, is_paused, is_prepared_for, is_unmerged, moved, own, reshaped, with_merged, with_region}
use Rattle.rs_store.specs.declared.regions.Made.{Made}
use Rattle.rs_part.specs.Items.{items_in}
use Rattle.rs_part.specs.Parts.{Part}
use Rattle.rs_part.specs.Ranges.{Apart}
use Rattle.rs_part.specs.Scripts.{IsPart, Script, found, joined_part, with_source}
use Rattle.rs_part.specs.Sound.{Sound}
use Rattle.rs_part.proofs.Items.{items_joined}
use Rattle.rs_part.proofs.Modes.{live_unmarked, prepared_mode}
use Rattle.rs_part.proofs.Parts.{found_later}
use Rattle.rs_part.proofs.Regions.{same_region, with_region_cases, with_region_other}
use Rattle.rs_part.proofs.Sound.{sound_merged, sound_moved}
use Rattle.rs_part.proofs.Steps.{Turn, awake, no_removal, others, part_before, part_by, unmerged, was_part}

module _ (script : Script) (store : Store) (g : Applied) (id : ℕ) (r : Made) (e : Entry) (turn : Turn script store g id r e)
    (source commit : ℕ) (carried : List Carried) (is : e.body ≡ body.Commit source commit carried) (ok : verdict r.state e ≡ verdicts.Accept)
    (q : Made) (there : g.region source ≡ Some q) (ready : is_prepared_for id commit q.state.mode ≡ true)
    (waits : is_paused (own store source) q.state ≡ true) (near : is_next_to r.state.range q.state.range ≡ true) where
  merging : q.state.mode ≡ mode.Merging id commit
  merging = prepared_mode id commit q.state.mode ready

  source_unmerged : is_unmerged q.state.mode ≡ true
  source_unmerged = ap is_unmerged merging

  not_self : id ≡ source → ⊥
  not_self p =
      let one : r ≡ q = same_region (g.region id) (g.region source) r q turn.here (ap g.region p) there in
      both_ways (is_paused (own store id) r.state) (awake script store g id r e turn)
      (ap (λ (z : Made). is_paused (own store id) z.state) one ∙ (ap (λ (y : ℕ). is_paused (own store y) q.state) p ∙ waits))

  both : (key : List ℕ) → holds (join r.state.range q.state.range) key ≡ (holds r.state.range key || holds q.state.range key)
  both key = join_holds r.state.range q.state.range (turn.sound.shaped id r turn.here) (turn.sound.shaped source q there) near key

  apart : Apart r.state.range q.state.range
  apart = turn.sound.apart id source r q not_self turn.here there (unmerged script store g id r e turn) source_unmerged

  abbrev mine : Part
  mine = part_before script store g id r e turn

  abbrev theirs : Part
  theirs = record { state = q.state; items = items_in q.state.range g.writes }

  -- the source rests at its prepare, with its part there
  their_part : IsPart script source commit theirs
  their_part =
      subst (λ (i : ℕ). IsPart script source i theirs) (turn.sound.rests source q id commit there merging waits)
      (subst (λ (s : RegionState). IsPart script source q.applied (record { state = s; items = items_in q.state.range g.writes })) (live_unmarked q.state (ap is_live merging)) (turn.sound.parts source q there source_unmerged))

  my_part : IsPart script id r.applied mine
  my_part = was_part script store g id r e turn

  mine_found : found script (my_part.0 + their_part.0) id r.applied ≡ Some mine
  mine_found =
      let s : my_part.0 + their_part.0 ≡ their_part.0 + my_part.0 = omega arith in
      ap (λ (n : ℕ). found script n id r.applied) s ∙ found_later script my_part.0 their_part.0 id r.applied mine my_part.1

  theirs_found : found script (my_part.0 + their_part.0) source commit ≡ Some theirs
  theirs_found = found_later script their_part.0 my_part.0 source commit theirs their_part.1

  -- the ranges are joined, and so is what was written in them
  joined_items : (λ (k : List ℕ). items_in r.state.range g.writes k ++ items_in q.state.range g.writes k) ≡ items_in (join r.state.range q.state.range) (g.writes ++ [])
  joined_items =
      fun_ext (λ k. sym (items_joined r.state.range q.state.range (join r.state.range q.state.range) g.writes both apart k)
      ∙ ap (λ (ws : List Wrote). items_in (join r.state.range q.state.range) ws k) (sym (append-nil g.writes)))

  new_part : IsPart script id (r.applied + 1) (record { state = committed r.state q.state; items = items_in (join r.state.range q.state.range) (g.writes ++ []) })
  new_part =
      subst (λ (f : List ℕ → List _). IsPart script id (r.applied + 1) (record { state = committed r.state q.state; items = f })) joined_items
      (part_by script store g id r e turn (my_part.0 + their_part.0) mine_found (body.Commit source commit carried) is verdicts.Accept ok (joined_part mine theirs)
      (ap (with_source id commit mine) theirs_found
      ∙ ap (λ (b : Bool). cond b (Some (joined_part mine theirs)) None) (and_from (is_prepared_for id commit q.state.mode) (is_next_to r.state.range q.state.range) ready near)))

  apart_of_both : (b : ℕ) (t : Made) → (b ≡ id → ⊥) → with_region g.region source (as_merged q id) b ≡ Some t → is_unmerged t.state.mode ≡ true → Apart (join r.state.range q.state.range) t.state.range
  apart_of_both b t ne h l key x y = elim (with_region_cases g.region source (as_merged q id) b t h) [
    | inl p ↦ both_ways (is_unmerged t.state.mode) (ap (λ (z : Made). is_unmerged z.state.mode) (sym p.1)) l
    | inr p ↦ elim (or_cases (holds r.state.range key) (holds q.state.range key) (sym (both key) ∙ x)) [
      | inl m ↦ others script store g id r e turn b t ne p.1 l key m y
      | inr m ↦ turn.sound.apart source b q t (λ z. p.0 (sym z)) there p.1 source_unmerged l key m y
    ]
  ]

  -- a commit whose source is prepared for it, paused and next to it
  pub by_commit : Sound script store (moved (with_merged g source q id) id (reshaped r (committed r.state q.state)) verdicts.Accept (body.Commit source commit carried) [])
  by_commit =
      sound_moved script store (with_merged g source q id) (sound_merged script store g turn.sound source id q there) id r (reshaped r (committed r.state q.state)) verdicts.Accept (body.Commit source commit carried) []
      (record {
        here = with_region_other g.region source (as_merged q id) id not_self ∙ turn.here;
        unmerged = unmerged script store g id r e turn;
        next = refl;
        named = turn.sound.named id r turn.here;
        shaped = join_rises r.state.range q.state.range (turn.sound.shaped id r turn.here) (turn.sound.shaped source q there) near;
        within = tt;
        others = apart_of_both;
        part = new_part;
        marked = λ m. absurd (cc m);
        no_mark = λ l. no_removal script store g id r e turn (λ c other a. cc (is, other));
        rests = λ t c m paused. absurd (cc m);
      })
