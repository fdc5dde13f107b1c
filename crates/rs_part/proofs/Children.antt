-- What an entry is to split off isn't made before it.
use Rattle.std.proofs.Common.{◌≡◌, ℕ, ◌+◌, ◌≤◌, List, length, Option, Some, None, refl, sym, arith, subst}
use Rattle.std.specs.List.{AllByRecursion}
use Rattle.rs_key.specs.Epochs.{after_split}
use Rattle.rs_key.specs.Ranges.{cut}
use Rattle.rs_entry.specs.declared.entry.Body.TheVariants as body
use Rattle.rs_entry.specs.declared.entry.Entry.{Entry}
use Rattle.rs_entry.specs.declared.entry.Side.{Side}
use Rattle.rs_entry.specs.declared.input.Store.{Store}
use Rattle.rs_region.specs.Reshapings.{new_ranges, split_new}
use Rattle.rs_region.specs.declared.state.RegionState.{RegionState}
use Rattle.rs_region.proofs.CutParts.{all_map}
use Rattle.rs_store.specs.declared.regions.Made.{Made}
use Rattle.rs_store.specs.Stores.{Applied}
use Rattle.rs_part.specs.Scripts.{Script, SplitOff}
use Rattle.rs_part.specs.Sound.{Sound}
use Rattle.rs_part.specs.Telling.{Tells}
use Rattle.rs_part.proofs.Cutting.{all_ids}
use Rattle.rs_part.proofs.Regions.{same_region}

-- the new regions of a split begin as split off by it
pub children_born : (script : Script) (store : Store) → Tells script store → (id index : ℕ) (e : Entry) → script.line id index ≡ Some e
    → (s : RegionState) (side : Side) (ids : List ℕ) (keys : List (List ℕ)) → e.body ≡ body.Split side ids keys
    → AllByRecursion (λ c. script.birth c.region ≡ SplitOff id index) (split_new s side ids keys)
children_born script store tells id index e told s side ids keys is =
    all_ids (λ y. script.birth y ≡ SplitOff id index) (after_split s.epoch (length keys)) s.peers ids (new_ranges side (cut s.range keys)) (tells.parents id index e side ids keys told is)

module _ (script : Script) (store : Store) (g : Applied) (sound : Sound script store g) (id : ℕ) (r : Made) (here : g.region id ≡ Some r) where
  -- a region whose next entry is to split off x has not done so
  pub unmade : (x : ℕ) → script.birth x ≡ SplitOff id (r.applied + 1) → g.region x ≡ None
  unmade x birth = go (g.region x) refl
    where
      go : (o : Option Made) → g.region x ≡ o → g.region x ≡ None
      go None h = h
      go (Some t) h =
          let w = sound.makers x t id (r.applied + 1) h birth in
          let same : r ≡ w.0 = same_region (g.region id) (g.region id) r w.0 here refl w.1 in
          let le : r.applied + 1 ≤ r.applied = subst (λ (z : Made). r.applied + 1 ≤ z.applied) (sym same) w.2 in
          absurd (omega arith)

  -- so none of the new regions is made
  pub all_unmade : (ss : List RegionState) → AllByRecursion (λ s. script.birth s.region ≡ SplitOff id (r.applied + 1)) ss → AllByRecursion (λ s. g.region s.region ≡ None) ss
  all_unmade ss born = all_map (λ s. script.birth s.region ≡ SplitOff id (r.applied + 1)) (λ s. g.region s.region ≡ None) (λ s. unmade s.region) ss born
