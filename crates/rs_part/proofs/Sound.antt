-- What keeps a store's regions sound: a region that has applied one entry more, one that is merged, and new ones.
use Rattle.std.proofs.Common.{◌≡◌, ℕ, ◌+◌, ◌≤◌, true, List, [], ◌∷◌, ◌++◌, Some, None, refl, ap, sym, ◌∙◌, arith, ◌⊎◌, subst, inl, inr}
use mathlib.Core.Path.{fun_ext}
use Rattle.std.specs.List.{AllByRecursion}
use Rattle.rs_key.specs.Ranges.{is_range}
use Rattle.rs_entry.specs.declared.entry.Body.{Body}
use Rattle.rs_entry.specs.declared.input.Store.{Store}
use Rattle.rs_entry.specs.declared.outcome.Mode.TheVariants as mode
use Rattle.rs_region.specs.declared.state.RegionState.{RegionState}
use Rattle.rs_region.specs.declared.verdict.Verdict.{Verdict}
use Rattle.rs_region.proofs.CutParts.{all_map}
use Rattle.rs_store.specs.Stores.{Applied, Wrote, as_merged, born, is_live, is_paused, is_unmerged, moved, own, with_merged, with_new, with_region}
use Rattle.rs_store.specs.declared.regions.Made.{Made}
use Rattle.rs_store.specs.declared.regions.Origin.{Origin}
use Rattle.rs_part.specs.Items.{items_in}
use Rattle.rs_part.specs.Parts.{Part, part_of, unmarked}
use Rattle.rs_part.specs.Ranges.{AllIn, Apart, EachId, StatesApart}
use Rattle.rs_part.specs.Scripts.{IsPart, Script, SplitOff}
use Rattle.rs_part.specs.Sound.{Removal, Sound}
use Rattle.rs_part.proofs.Items.{items_elsewhere}
use Rattle.rs_part.proofs.Modes.{live_unmarked}
use Rattle.rs_part.proofs.Regions.{regions_all, regions_other, with_region_cases, with_region_each, with_region_keeps, with_region_other}

-- region id, which was r, has applied one entry more and is n now; the entry wrote these in its range
pub record Move (script : Script) (store : Store) (g : Applied) (id : ℕ) (r n : Made) (new : List Wrote) : Type 0 where
  pub here : g.region id ≡ Some r
  pub unmerged : is_unmerged r.state.mode ≡ true
  pub next : n.applied ≡ r.applied + 1
  pub named : n.state.region ≡ id
  pub shaped : is_range n.state.range.start n.state.range.end ≡ true
  pub within : AllIn r.state.range new
  pub others : (b : ℕ) (t : Made) → (b ≡ id → ⊥) → g.region b ≡ Some t → is_unmerged t.state.mode ≡ true → Apart n.state.range t.state.range
  pub part : IsPart script id (r.applied + 1) (record { state = unmarked n.state; items = items_in n.state.range (g.writes ++ new) })
  pub marked : n.state.mode ≡ mode.Removed → Removal script store.id id r.applied
  pub no_mark : is_live n.state.mode ≡ true → Removal script store.id id r.applied → ⊥
  pub rests : (target commit : ℕ) → n.state.mode ≡ mode.Merging target commit → is_paused (own store id) n.state ≡ true → r.applied + 1 ≡ commit

-- the parent of what was split off, where region id has come further
makers_kept : (script : Script) (store : Store) (g : Applied) → Sound script store g → (id : ℕ) (r n : Made) → g.region id ≡ Some r → r.applied ≤ n.applied
    → (x : ℕ) (t : Made) (parent index : ℕ) → with_region g.region id n x ≡ Some t → script.birth x ≡ SplitOff parent index
    → (u : Made) × (with_region g.region id n parent ≡ Some u) × (index ≤ u.applied)
makers_kept script store g sound id r n here le x t parent index e o = elim (with_region_cases g.region id n x t e) [
  | inl p ↦ lift (sound.makers x r parent index (ap g.region p.0 ∙ here) o)
  | inr p ↦ lift (sound.makers x t parent index p.1 o)
]
  where
    lift : (u : Made) × (g.region parent ≡ Some u) × (index ≤ u.applied) → (u : Made) × (with_region g.region id n parent ≡ Some u) × (index ≤ u.applied)
    lift w =
        let k : (u : Made) × (with_region g.region id n parent ≡ Some u) × (w.0.applied ≤ u.applied) = with_region_keeps g.region id r n parent w.0 here le w.1 in
        let a : w.0.applied ≤ k.0.applied = k.2 in
        let b : index ≤ w.0.applied = w.2 in
        (k.0, k.1, omega arith)

-- a region that is marked as removed was removed by its last entry
abbrev IsMarked : Script → Store → ℕ → Made → Type 0
IsMarked script store x t = t.state.mode ≡ mode.Removed → (k : ℕ) × (t.applied ≡ k + 1) × Removal script store.id x k

-- one that isn't wasn't
abbrev IsUnmarked : Script → Store → ℕ → Made → Type 0
IsUnmarked script store x t = (k : ℕ) → is_live t.state.mode ≡ true → t.applied ≡ k + 1 → Removal script store.id x k → ⊥

-- a region that is paused rests at its commit
abbrev IsResting : Store → ℕ → Made → Type 0
IsResting store x t = (target commit : ℕ) → t.state.mode ≡ mode.Merging target commit → is_paused (own store x) t.state ≡ true → t.applied ≡ commit

abbrev IsShaped : ℕ → Made → Type 0
IsShaped x t = is_range t.state.range.start t.state.range.end ≡ true

-- an unmerged region has its part of the script
abbrev HasPart : Script → Applied → ℕ → Made → Type 0
HasPart script g x t = is_unmerged t.state.mode ≡ true → IsPart script x t.applied (part_of g t)

module _ (script : Script) (store : Store) (g : Applied) (sound : Sound script store g) (id : ℕ) (r n : Made) (v : Verdict) (b : Body) (new : List Wrote)
    (move : Move script store g id r n new) where
  each : (Q : ℕ → Made → Type 0) → Q id n → ((x : ℕ) (t : Made) → (x ≡ id → ⊥) → g.region x ≡ Some t → Q x t) → (x : ℕ) (t : Made) → with_region g.region id n x ≡ Some t → Q x t
  each = with_region_each g.region id n

  cases : (x : ℕ) (t : Made) → with_region g.region id n x ≡ Some t → ((x ≡ id) × (n ≡ t)) ⊎ ((x ≡ id → ⊥) × (g.region x ≡ Some t))
  cases = with_region_cases g.region id n

  apart_all : (x y : ℕ) (t u : Made) → (x ≡ y → ⊥) → with_region g.region id n x ≡ Some t → with_region g.region id n y ≡ Some u
      → is_unmerged t.state.mode ≡ true → is_unmerged u.state.mode ≡ true → Apart t.state.range u.state.range
  apart_all x y t u ne e f lt lu = elim (cases x t e) [
    | inl p ↦ elim (cases y u f) [
      | inl q ↦ absurd (ne (p.0 ∙ sym q.0))
      | inr q ↦ subst (λ (z : Made). Apart z.state.range u.state.range) p.1 (move.others y u q.0 q.1 lu)
    ]
    | inr p ↦ elim (cases y u f) [
      | inl q ↦ subst (λ (z : Made). Apart t.state.range z.state.range) q.1 (λ k a c. move.others x t p.0 p.1 lt k c a)
      | inr q ↦ sound.apart x y t u ne p.1 q.1 lt lu
    ]
  ]

  -- the part of a region that the new writes lie outside of
  elsewhere : (x : ℕ) (t : Made) → (x ≡ id → ⊥) → g.region x ≡ Some t → is_unmerged t.state.mode ≡ true → part_of g t ≡ part_of (moved g id n v b new) t
  elsewhere x t ne e live =
      let apart : Apart r.state.range t.state.range = sound.apart id x r t (λ q. ne (sym q)) move.here e move.unmerged live in
      ap (λ (f : List ℕ → List _). record { state = unmarked t.state; items = f }) (fun_ext (λ k. sym (items_elsewhere r.state.range t.state.range g.writes new move.within apart k)))

  part_now : IsPart script id n.applied (part_of (moved g id n v b new) n)
  part_now = subst (λ (i : ℕ). IsPart script id i (part_of (moved g id n v b new) n)) (sym move.next) move.part

  since_now : 5 ≤ n.applied
  since_now =
      let h : 5 ≤ r.applied = sound.since id r move.here in
      let k : n.applied ≡ r.applied + 1 = move.next in
      omega arith

  unmarked_now : IsUnmarked script store id n
  unmarked_now k live top removal = move.no_mark live (subst (λ (i : ℕ). Removal script store.id id i) (omega (arith, top, move.next)) removal)

  -- a step of one region keeps what is sound
  pub sound_moved : Sound script store (moved g id n v b new)
  sound_moved = record {
    since = each (λ x t. 5 ≤ t.applied) since_now (λ x t ne e. sound.since x t e);
    named = each (λ x t. t.state.region ≡ x) move.named (λ x t ne e. sound.named x t e);
    shaped = each IsShaped move.shaped (λ x t ne e. sound.shaped x t e);
    apart = apart_all;
    parts = each (HasPart script (moved g id n v b new)) (λ live. part_now)
        (λ x t ne e live. subst (λ (w : Part). IsPart script x t.applied w) (elsewhere x t ne e live) (sound.parts x t e live));
    marked = each (IsMarked script store) (λ m. (r.applied, move.next, move.marked m)) (λ x t ne e. sound.marked x t e);
    unmarked = λ x k t e. each (IsUnmarked script store) unmarked_now (λ x t ne e k. sound.unmarked x k t e) x t e k;
    rests = λ x t target commit e. each (IsResting store) (λ target commit m paused. move.next ∙ move.rests target commit m paused)
        (λ x t ne e target commit. sound.rests x t target commit e) x t e target commit;
    makers = makers_kept script store g sound id r n move.here (omega (arith, move.next));
  }

-- a region that is merged owes nothing more
pub sound_merged : (script : Script) (store : Store) (g : Applied) → Sound script store g → (id target : ℕ) (q : Made) → g.region id ≡ Some q
    → Sound script store (with_merged g id q target)
sound_merged script store g sound id target q here = record {
  since = each (λ x t. 5 ≤ t.applied) (sound.since id q here) (λ x t ne e. sound.since x t e);
  named = each (λ x t. t.state.region ≡ x) (sound.named id q here) (λ x t ne e. sound.named x t e);
  shaped = each IsShaped (sound.shaped id q here) (λ x t ne e. sound.shaped x t e);
  apart = λ x y t u ne e f lt lu. sound.apart x y t u ne (was x t e lt) (was y u f lu) lt lu;
  parts = λ x t e lt. sound.parts x t (was x t e lt) lt;
  marked = each (IsMarked script store) (λ m. absurd (cc m)) (λ x t ne e. sound.marked x t e);
  unmarked = λ x k t e. each (IsUnmarked script store) (λ k live. absurd (cc live)) (λ x t ne e k. sound.unmarked x k t e) x t e k;
  rests = λ x t to commit e. each (IsResting store) (λ to commit m. absurd (cc m)) (λ x t ne e to commit. sound.rests x t to commit e) x t e to commit;
  makers = makers_kept script store g sound id q (as_merged q target) here (omega arith);
}
  where
    each : (Q : ℕ → Made → Type 0) → Q id (as_merged q target) → ((x : ℕ) (t : Made) → (x ≡ id → ⊥) → g.region x ≡ Some t → Q x t)
        → (x : ℕ) (t : Made) → with_region g.region id (as_merged q target) x ≡ Some t → Q x t
    each = with_region_each g.region id (as_merged q target)

    -- a region that is unmerged was there
    was : (x : ℕ) (t : Made) → with_region g.region id (as_merged q target) x ≡ Some t → is_unmerged t.state.mode ≡ true → g.region x ≡ Some t
    was = each (λ x t. is_unmerged t.state.mode ≡ true → g.region x ≡ Some t) (λ live. absurd (cc live)) (λ x t ne e live. e)

-- a new region that a store may take
pub record New (script : Script) (g : Applied) (s : RegionState) : Type 0 where
  pub fresh : g.region s.region ≡ None
  pub normal : s.mode ≡ mode.Normal
  pub shaped : is_range s.range.start s.range.end ≡ true
  pub others : (b : ℕ) (t : Made) → g.region b ≡ Some t → is_unmerged t.state.mode ≡ true → Apart s.range t.state.range
  pub part : IsPart script s.region 5 (record { state = s; items = items_in s.range g.writes })
  pub makers : (parent index : ℕ) → script.birth s.region ≡ SplitOff parent index → (t : Made) × (g.region parent ≡ Some t) × (index ≤ t.applied)

module _ (script : Script) (store : Store) (g : Applied) (sound : Sound script store g) (s : RegionState) (origin : Origin) (new : New script g s) where
  each_born : (Q : ℕ → Made → Type 0) → Q s.region (born s origin) → ((x : ℕ) (t : Made) → (x ≡ s.region → ⊥) → g.region x ≡ Some t → Q x t)
      → (x : ℕ) (t : Made) → with_region g.region s.region (born s origin) x ≡ Some t → Q x t
  each_born = with_region_each g.region s.region (born s origin)

  apart_born : (x y : ℕ) (t u : Made) → (x ≡ y → ⊥) → with_region g.region s.region (born s origin) x ≡ Some t → with_region g.region s.region (born s origin) y ≡ Some u
      → is_unmerged t.state.mode ≡ true → is_unmerged u.state.mode ≡ true → Apart t.state.range u.state.range
  apart_born x y t u ne e f lt lu = elim (with_region_cases g.region s.region (born s origin) x t e) [
    | inl p ↦ elim (with_region_cases g.region s.region (born s origin) y u f) [
      | inl q ↦ absurd (ne (p.0 ∙ sym q.0))
      | inr q ↦ subst (λ (z : Made). Apart z.state.range u.state.range) p.1 (new.others y u q.1 lu)
    ]
    | inr p ↦ elim (with_region_cases g.region s.region (born s origin) y u f) [
      | inl q ↦ subst (λ (z : Made). Apart t.state.range z.state.range) q.1 (λ k a c. new.others x t p.1 lt k c a)
      | inr q ↦ sound.apart x y t u ne p.1 q.1 lt lu
    ]
  ]

  part_born : IsPart script s.region 5 (part_of g (born s origin))
  part_born =
      subst (λ (z : RegionState). IsPart script s.region 5 (record { state = z; items = items_in s.range g.writes })) (sym (live_unmarked s (ap is_live new.normal))) new.part

  -- a parent that was there is another region
  parent_kept : (parent index : ℕ) → (t : Made) × (g.region parent ≡ Some t) × (index ≤ t.applied)
      → (t : Made) × (with_region g.region s.region (born s origin) parent ≡ Some t) × (index ≤ t.applied)
  parent_kept parent index w =
      (w.0, with_region_other g.region s.region (born s origin) parent (λ p. cc (w.1, new.fresh, ap g.region p)) ∙ w.1, w.2)

  -- a new region keeps what is sound
  pub sound_born : Sound script store (record { region = with_region g.region s.region (born s origin); writes = g.writes; replies = g.replies })
  sound_born = record {
    since = each_born (λ x t. 5 ≤ t.applied) (omega arith) (λ x t ne e. sound.since x t e);
    named = each_born (λ x t. t.state.region ≡ x) refl (λ x t ne e. sound.named x t e);
    shaped = each_born IsShaped new.shaped (λ x t ne e. sound.shaped x t e);
    apart = apart_born;
    parts = each_born (HasPart script g) (λ live. part_born) (λ x t ne e. sound.parts x t e);
    marked = each_born (IsMarked script store) (λ m. absurd (cc (m, new.normal))) (λ x t ne e. sound.marked x t e);
    unmarked = λ x k t e. each_born (IsUnmarked script store) (λ k live top removal. omega (arith, top, removal.past)) (λ x t ne e k. sound.unmarked x k t e) x t e k;
    rests = λ x t target commit e. each_born (IsResting store) (λ target commit m paused. absurd (cc (m, new.normal)))
        (λ x t ne e target commit. sound.rests x t target commit e) x t e target commit;
    makers = λ x t parent index e birth. parent_kept parent index
        (each_born (λ x t. script.birth x ≡ SplitOff parent index → (u : Made) × (g.region parent ≡ Some u) × (index ≤ u.applied)) (new.makers parent index) (λ x t ne e. sound.makers x t parent index e) x t e birth);
  }

-- several new regions, each once, that share no key
pub sound_new : (script : Script) (store : Store) (g : Applied) → Sound script store g → (origin : Origin) (ss : List RegionState)
    → AllByRecursion (New script g) ss → EachId ss → StatesApart ss → Sound script store (with_new g ss origin)
sound_new script store g sound origin [] new ids apart = sound
sound_new script store g sound origin (s ∷ ss) new ids apart =
    sound_born script store (with_new g ss origin) (sound_new script store g sound origin ss new.1 ids.1 apart.1) s origin (record {
      fresh = regions_other g.region origin ss s.region ids.0 ∙ new.0.fresh;
      normal = new.0.normal;
      shaped = new.0.shaped;
      others = regions_all (λ y z. is_unmerged z.state.mode ≡ true → Apart s.range z.state.range) g.region origin ss
          (all_map (λ t. Apart s.range t.range) (λ t. is_unmerged t.mode ≡ true → Apart s.range t.range) (λ t h m. h) ss apart.0) new.0.others;
      part = new.0.part;
      makers = λ parent index o. made parent index (new.0.makers parent index o);
    })
  where
    made : (parent index : ℕ) → (t : Made) × (g.region parent ≡ Some t) × (index ≤ t.applied) → (t : Made) × ((with_new g ss origin).region parent ≡ Some t) × (index ≤ t.applied)
    made parent index w =
        (w.0, regions_other g.region origin ss parent (all_map (New script g) (λ t. parent ≡ t.region → ⊥) (λ t n z. cc (n.fresh, w.1, ap g.region z)) ss new.1) ∙ w.1, w.2)
