-- A step that splits a region keeps what is sound.
use Rattle.std.proofs.Common.{◌≡◌, ℕ, suc, ◌+◌, ◌-◌, ◌≤◌, ◌==◌, true, List, [], ◌∷◌, ◌++◌, length, Option, Some, refl, ap, sym, ◌∙◌, arith, subst, inl, inr, append-nil}
use mathlib.Core.Path.{fun_ext}
use Rattle.std.specs.List.{AllByRecursion, find}
use Rattle.rs_key.specs.Epochs.{after_split}
use Rattle.rs_key.specs.Ranges.{Bounds, cut, holds, is_range}
use Rattle.rs_key.specs.declared.epoch.Epoch.{Epoch}
use Rattle.rs_entry.specs.declared.entry.Body.TheVariants as body
use Rattle.rs_entry.specs.declared.entry.Entry.{Entry}
use Rattle.rs_entry.specs.declared.entry.Side.{Side}
use Rattle.rs_entry.specs.declared.input.Store.{Store}
use Rattle.rs_entry.specs.declared.outcome.Mode.TheVariants as mode
use Rattle.rs_region.specs.Laws.{IsShared, ranges_of}
use Rattle.rs_region.specs.Reshapings.{new_ranges, shares, split_kept, split_new}
use Rattle.rs_region.specs.Verdicts.{verdict, verdict_on}
use Rattle.rs_region.specs.declared.state.RegionState.{RegionState}
use Rattle.rs_region.specs.declared.verdict.Verdict.{Verdict}
use Rattle.rs_region.specs.declared.verdict.Verdict.TheVariants as verdicts
use Rattle.rs_region.proofs.SplitShares.{split_shares}
use Rattle.rs_store.specs.Stores.{Applied, Wrote, is_accept, moved, reshaped, with_new}
use Rattle.rs_store.specs.declared.regions.Made.{Made}
use Rattle.rs_store.specs.declared.regions.Origin.TheVariants as origins
use Rattle.rs_store.proofs.Verdicts.{split_good}
use Rattle.rs_part.specs.Items.{items_in, kept_items}
use Rattle.rs_part.specs.Ranges.{Apart, EachId, Inside}
use Rattle.rs_part.specs.Scripts.{IsPart, Script, SplitOff, begun, child_by, child_in, child_of, child_with, found}
use Rattle.rs_part.specs.Sound.{Sound}
use Rattle.rs_part.specs.Telling.{Tells}
use Rattle.rs_part.proofs.Children.{children_born, unmade}
use Rattle.rs_part.proofs.Cutting.{all_normal, all_ranges, each_id, find_each, states_apart}
use Rattle.rs_part.proofs.Items.{items_inside}
use Rattle.rs_part.proofs.Regions.{with_region_cases, with_region_other, with_region_same}
use Rattle.rs_part.proofs.Sound.{New, sound_moved, sound_new}
use Rattle.rs_part.proofs.Steps.{Turn, no_removal, others, part_before, part_by, unmerged, was_part}

module _ (script : Script) (store : Store) (tells : Tells script store) (g : Applied) (id : ℕ) (r : Made) (e : Entry) (turn : Turn script store g id r e)
    (side : Side) (ids : List ℕ) (keys : List (List ℕ)) (is : e.body ≡ body.Split side ids keys) (ok : verdict r.state e ≡ verdicts.Accept) where
  abbrev epoch : Epoch
  epoch = after_split r.state.epoch (length keys)

  abbrev news : List (ℕ × Bounds)
  news = shares side ids (cut r.state.range keys)

  abbrev kept : RegionState
  kept = split_kept r.state side keys

  -- the store with the split region alone
  abbrev split : Applied
  split = moved g id (reshaped r (split_kept r.state side keys)) verdicts.Accept (body.Split side ids keys) []

  shared : IsShared r.state.range kept.range (ranges_of news)
  shared = split_shares side ids r.state.range keys (turn.sound.shaped id r turn.here)
      (split_good r.state e.epoch side ids keys (ap (verdict_on r.state e.epoch) (sym is) ∙ ok))
      (tells.lengths id (r.applied + 1) e side ids keys turn.told is)

  -- what was written in a part of the range
  inside_items : (range : Bounds) → Inside range r.state.range → kept_items range (items_in r.state.range g.writes) ≡ items_in range (g.writes ++ [])
  inside_items range inside =
      fun_ext (λ k. items_inside range r.state.range g.writes inside k ∙ ap (λ (ws : List Wrote). items_in range ws k) (sym (append-nil g.writes)))

  split_sound : Sound script store split
  split_sound = sound_moved script store g turn.sound id r (reshaped r kept) verdicts.Accept (body.Split side ids keys) [] (record {
    here = turn.here;
    unmerged = unmerged script store g id r e turn;
    next = refl;
    named = turn.sound.named id r turn.here;
    shaped = shared.kept_rises;
    within = tt;
    others = λ b t ne h l key x y. others script store g id r e turn b t ne h l key (shared.kept_inside key x) y;
    part = subst (λ (f : List ℕ → List _). IsPart script id (r.applied + 1) (record { state = kept; items = f })) (inside_items kept.range shared.kept_inside)
        (part_by script store g id r e turn (was_part script store g id r e turn).0 (was_part script store g id r e turn).1 (body.Split side ids keys) is verdicts.Accept ok
        (record { state = kept; items = kept_items kept.range (items_in r.state.range g.writes) }) refl);
    marked = λ m. absurd (cc m);
    no_mark = λ l. no_removal script store g id r e turn (λ c other a. cc (is, other));
    rests = λ t c m paused. absurd (cc m);
  })

  each_once : EachId (split_new r.state side ids keys)
  each_once = each_id epoch r.state.peers ids (new_ranges side (cut r.state.range keys)) (tells.distinct id (r.applied + 1) e side ids keys turn.told is)

  -- a new region's part when it begins
  child_part : (s : RegionState) → Inside s.range r.state.range → script.birth s.region ≡ SplitOff id (r.applied + 1) → find (λ t. t.region == s.region) (split_new r.state side ids keys) ≡ Some s
      → IsPart script s.region 5 (record { state = s; items = items_in s.range (g.writes ++ []) })
  child_part s inside birth at =
      let was : IsPart script id r.applied (part_before script store g id r e turn) = was_part script store g id r e turn in
      let back : (r.applied + 1) - 1 ≡ r.applied = omega arith in
      subst (λ (f : List ℕ → List _). IsPart script s.region 5 (record { state = s; items = f })) (inside_items s.range inside) (
        suc was.0,
        ap (begun script (found script was.0) s.region) birth
            ∙ (ap (λ (l : Option Entry). child_of s.region l (found script was.0 id ((r.applied + 1) - 1))) turn.told
            ∙ (ap (child_of s.region (Some e)) (ap (found script was.0 id) back ∙ was.1)
            ∙ (ap (λ (v : Verdict). child_by s.region (part_before script store g id r e turn) e.body (is_accept v)) ok
            ∙ (ap (child_in s.region (part_before script store g id r e turn)) is
            ∙ ap (child_with (part_before script store g id r e turn)) at)))),
      )

  not_self : (x : ℕ) → script.birth x ≡ SplitOff id (r.applied + 1) → x ≡ id → ⊥
  not_self x birth p = cc (unmade script store g turn.sound id r turn.here x birth, turn.here, ap g.region p)

  maker : (parent index : ℕ) → SplitOff parent index ≡ SplitOff id (r.applied + 1) → (t : Made) × (split.region parent ≡ Some t) × (index ≤ t.applied)
  maker parent index same =
      let p : parent ≡ id = cc same in
      let i : index ≡ r.applied + 1 = cc same in
      (reshaped r kept, ap split.region p ∙ with_region_same g.region id (reshaped r kept), omega (arith, i))

  new : (s : RegionState) → script.birth s.region ≡ SplitOff id (r.applied + 1) → Inside s.range r.state.range → is_range s.range.start s.range.end ≡ true → s.mode ≡ mode.Normal → Apart kept.range s.range
      → find (λ t. t.region == s.region) (split_new r.state side ids keys) ≡ Some s → New script split s
  new s birth inside shape normal apart at = record {
    fresh = with_region_other g.region id (reshaped r kept) s.region (not_self s.region birth) ∙ unmade script store g turn.sound id r turn.here s.region birth;
    normal = normal;
    shaped = shape;
    others = λ b t h l key x y. elim (with_region_cases g.region id (reshaped r kept) b t h) [
      | inl q ↦ apart key (subst (λ (z : Made). holds z.state.range key ≡ true) (sym q.1) y) x
      | inr q ↦ others script store g id r e turn b t q.0 q.1 l key (inside key x) y
    ];
    part = child_part s inside birth at;
    makers = λ parent index other. maker parent index (sym other ∙ birth);
  }

  all_new : (ss : List RegionState) → AllByRecursion (λ s. script.birth s.region ≡ SplitOff id (r.applied + 1)) ss → AllByRecursion (λ s. Inside s.range r.state.range) ss
      → AllByRecursion (λ s. is_range s.range.start s.range.end ≡ true) ss → AllByRecursion (λ s. s.mode ≡ mode.Normal) ss → AllByRecursion (λ s. Apart kept.range s.range) ss
      → AllByRecursion (λ s. find (λ t. t.region == s.region) (split_new r.state side ids keys) ≡ Some s) ss → AllByRecursion (New script split) ss
  all_new [] a b c d f h = tt
  all_new (s ∷ ss) a b c d f h = (new s a.0 b.0 c.0 d.0 f.0 h.0, all_new ss a.1 b.1 c.1 d.1 f.1 h.1)

  -- an accepted split
  pub by_split : Sound script store (with_new (moved g id (reshaped r (split_kept r.state side keys)) verdicts.Accept (body.Split side ids keys) []) (split_new r.state side ids keys) (origins.Split id (r.applied + 1)))
  by_split = sound_new script store split split_sound (origins.Split id (r.applied + 1)) (split_new r.state side ids keys)
      (all_new (split_new r.state side ids keys)
      (children_born script store tells id (r.applied + 1) e turn.told r.state side ids keys is)
      (all_ranges (λ x. Inside x r.state.range) epoch r.state.peers news shared.inside)
      (all_ranges (λ x. is_range x.start x.end ≡ true) epoch r.state.peers news shared.rise)
      (all_normal epoch r.state.peers news)
      (all_ranges (Apart kept.range) epoch r.state.peers news shared.kept_apart)
      (find_each (split_new r.state side ids keys) each_once))
      each_once (states_apart epoch r.state.peers news shared.apart)
