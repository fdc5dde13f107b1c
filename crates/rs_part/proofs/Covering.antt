-- The ranges of the unmerged regions hold the same keys after each step.
use Rattle.std.proofs.Common.{◌≡◌, ℕ, true, ◌||◌, List, [], ◌∷◌, map, length, None, Some, refl, ap, sym, ◌∙◌, inl, inr}
use Rattle.std.specs.List.{AllByRecursion}
use Rattle.std.proofs.lemmas.Bool.{both_ways, cases_eq, or_cases, or_left, or_right}
use Rattle.rs_key.specs.Epochs.{after_split}
use Rattle.rs_key.specs.Ranges.{Bounds, cut, first_bad_cut, holds, is_next_to, is_range, join}
use Rattle.rs_key.specs.declared.epoch.Epoch.{Epoch}
use Rattle.rs_entry.specs.declared.entry.Body.{Body}
use Rattle.rs_entry.specs.declared.entry.Side.{Side}
use Rattle.rs_region.specs.Laws.{IsShared, ranges_of, some_holds}
use Rattle.rs_region.specs.Reshapings.{committed, kept_range, new_region, shares, split_kept, split_new}
use Rattle.rs_region.specs.declared.state.RegionState.{RegionState}
use Rattle.rs_region.specs.declared.verdict.Verdict.{Verdict}
use Rattle.rs_region.proofs.CutParts.{all_map}
use Rattle.rs_region.proofs.JoinKeys.{join_holds}
use Rattle.rs_region.proofs.SplitShares.{split_shares}
use Rattle.rs_store.specs.declared.regions.Made.{Made}
use Rattle.rs_store.specs.declared.regions.Origin.{Origin}
use Rattle.rs_store.specs.Stores.{Applied, ByRegion, Wrote, as_merged, born, is_unmerged, moved, reshaped, with_merged, with_new, with_region, with_regions}
use Rattle.rs_part.specs.Held.{Held, SameKeys}
use Rattle.rs_part.specs.Ranges.{EachId, Inside}
use Rattle.rs_part.proofs.Cutting.{all_both, all_ranges}
use Rattle.rs_part.proofs.Regions.{regions_all, regions_other, same_region, with_region_cases, with_region_other, with_region_same}

-- a step within one range
pub held_moved : (g : Applied) (id : ℕ) (r n : Made) (v : Verdict) (b : Body) (new : List Wrote) → g.region id ≡ Some r → is_unmerged r.state.mode ≡ true → is_unmerged n.state.mode ≡ true
    → n.state.range ≡ r.state.range → SameKeys g (moved g id n v b new)
held_moved g id r n v b new here unmerged stays same key = (forth, back)
  where
    forth : Held g key → Held (moved g id n v b new) key
    forth w = elim (cases_eq w.id id) [
      | inl p ↦ (let one : w.r ≡ r = same_region (g.region w.id) (g.region id) w.r r w.here (ap g.region p) here in
          record { id = id; r = n; here = with_region_same g.region id n; unmerged = stays; has = ap (λ x. holds x key) same ∙ (ap (λ z. holds z.state.range key) (sym one) ∙ w.has) })
      | inr ne ↦ record { id = w.id; r = w.r; here = with_region_other g.region id n w.id ne ∙ w.here; unmerged = w.unmerged; has = w.has }
    ]

    back : Held (moved g id n v b new) key → Held g key
    back w = elim (with_region_cases g.region id n w.id w.r w.here) [
      | inl p ↦ record { id = id; r = r; here = here; unmerged = unmerged; has = ap (λ x. holds x key) (sym same) ∙ (ap (λ z. holds z.state.range key) p.1 ∙ w.has) }
      | inr p ↦ record { id = w.id; r = w.r; here = p.1; unmerged = w.unmerged; has = w.has }
    ]

-- ---- a merge

module _ (g : Applied) (id source : ℕ) (r q : Made) (v : Verdict) (b : Body) (ne : id ≡ source → ⊥) (here : g.region id ≡ Some r) (there : g.region source ≡ Some q)
    (unmerged : is_unmerged r.state.mode ≡ true) (q_unmerged : is_unmerged q.state.mode ≡ true)
    (rs : is_range r.state.range.start r.state.range.end ≡ true) (qs : is_range q.state.range.start q.state.range.end ≡ true)
    (near : is_next_to r.state.range q.state.range ≡ true) where
  abbrev target : Made
  target = reshaped r (committed r.state q.state)

  abbrev joined : Applied
  joined = moved (with_merged g source q id) id target v b []

  both : (key : List ℕ) → holds (join r.state.range q.state.range) key ≡ (holds r.state.range key || holds q.state.range key)
  both key = join_holds r.state.range q.state.range rs qs near key

  by_target : (key : List ℕ) → holds (join r.state.range q.state.range) key ≡ true → Held joined key
  by_target key e = record { id = id; r = target; here = with_region_same (with_region g.region source (as_merged q id)) id target; unmerged = refl; has = e }

  into_joined : (key : List ℕ) → Held g key → Held joined key
  into_joined key w = elim (cases_eq w.id id) [
    | inl p ↦ by_target key (both key ∙ or_left (holds r.state.range key) (holds q.state.range key)
        (ap (λ z. holds z.state.range key) (same_region (g.region id) (g.region w.id) r w.r here (ap g.region (sym p)) w.here) ∙ w.has))
    | inr n ↦ elim (cases_eq w.id source) [
      | inl p ↦ by_target key (both key ∙ or_right (holds r.state.range key) (holds q.state.range key)
          (ap (λ z. holds z.state.range key) (same_region (g.region source) (g.region w.id) q w.r there (ap g.region (sym p)) w.here) ∙ w.has))
      | inr m ↦ record {
        id = w.id;
        r = w.r;
        unmerged = w.unmerged;
        has = w.has;
        here = with_region_other (with_region g.region source (as_merged q id)) id target w.id n ∙ (with_region_other g.region source (as_merged q id) w.id m ∙ w.here);
      }
    ]
  ]

  from_joined : (key : List ℕ) → Held joined key → Held g key
  from_joined key w = elim (with_region_cases (with_region g.region source (as_merged q id)) id target w.id w.r w.here) [
    | inl p ↦ elim (or_cases (holds r.state.range key) (holds q.state.range key) (sym (both key) ∙ (ap (λ z. holds z.state.range key) p.1 ∙ w.has))) [
      | inl e ↦ record { id = id; r = r; here = here; unmerged = unmerged; has = e }
      | inr e ↦ record { id = source; r = q; here = there; unmerged = q_unmerged; has = e }
    ]
    | inr p ↦ elim (with_region_cases g.region source (as_merged q id) w.id w.r p.1) [
      | inl m ↦ absurd (both_ways (is_unmerged w.r.state.mode) (ap (λ z. is_unmerged z.state.mode) (sym m.1)) w.unmerged)
      | inr m ↦ record { id = w.id; r = w.r; here = m.1; unmerged = w.unmerged; has = w.has }
    ]
  ]

  -- the target holds what both held
  pub held_commit : SameKeys g joined
  held_commit key = (into_joined key, from_joined key)

-- ---- a split

-- each new region is there as it was born
pub regions_exact : (f : ByRegion) (origin : Origin) (ss : List RegionState) → EachId ss → AllByRecursion (λ s. with_regions f ss origin s.region ≡ Some (born s origin)) ss
regions_exact f origin [] h = tt
regions_exact f origin (s ∷ ss) h = (
  with_region_same (with_regions f ss origin) s.region (born s origin),
  all_both (λ q. s.region ≡ q.region → ⊥) (λ q. with_regions f ss origin q.region ≡ Some (born q origin)) (λ q. with_regions f (s ∷ ss) origin q.region ≡ Some (born q origin))
      (λ q ne e. with_region_other (with_regions f ss origin) s.region (born s origin) q.region (λ z. ne (sym z)) ∙ e) ss h.0 (regions_exact f origin ss h.1),
)

-- a key of some new range is held by the new region
held_child : (h : Applied) (origin : Origin) (epoch : Epoch) (peers : List ℕ) (news : List (ℕ × Bounds)) (key : List ℕ)
    → AllByRecursion (λ s. h.region s.region ≡ Some (born s origin)) (map (new_region epoch peers) news) → some_holds (ranges_of news) key ≡ true → Held h key
held_child h origin epoch peers [] key all any = absurd cc
held_child h origin epoch peers (z ∷ news) key all any = elim (or_cases (holds z.1 key) (some_holds (ranges_of news) key) any) [
  | inl e ↦ record { id = z.0; r = born (new_region epoch peers z) origin; here = all.0; unmerged = refl; has = e }
  | inr e ↦ held_child h origin epoch peers news key all.1 e
]

module _ (g : Applied) (id : ℕ) (r : Made) (v : Verdict) (b : Body) (side : Side) (ids : List ℕ) (keys : List (List ℕ)) (origin : Origin)
    (here : g.region id ≡ Some r) (unmerged : is_unmerged r.state.mode ≡ true) (shaped : is_range r.state.range.start r.state.range.end ≡ true)
    (good : first_bad_cut r.state.range keys ≡ None) (len : length ids ≡ length keys) (distinct : EachId (split_new r.state side ids keys))
    (unmade : AllByRecursion (λ s. g.region s.region ≡ None) (split_new r.state side ids keys)) where
  abbrev kept : Made
  kept = reshaped r (split_kept r.state side keys)

  abbrev children : List RegionState
  children = split_new r.state side ids keys

  abbrev parted : Applied
  parted = with_new (moved g id kept v b []) children origin

  abbrev news : List (ℕ × Bounds)
  news = shares side ids (cut r.state.range keys)

  shared : IsShared r.state.range (kept_range side r.state.range (cut r.state.range keys)) (ranges_of news)
  shared = split_shares side ids r.state.range keys shaped good len

  insides : AllByRecursion (λ s. Inside s.range r.state.range) children
  insides = all_ranges (λ q. Inside q r.state.range) (after_split r.state.epoch (length keys)) r.state.peers news shared.inside

  not_child : (x : ℕ) (t : Made) → g.region x ≡ Some t → AllByRecursion (λ s. x ≡ s.region → ⊥) children
  not_child x t made = all_map (λ s. g.region s.region ≡ None) (λ s. x ≡ s.region → ⊥) (λ s n e. cc (n, made, ap g.region e)) children unmade

  into_parted : (key : List ℕ) → Held g key → Held parted key
  into_parted key w = elim (cases_eq w.id id) [
    | inl p ↦ (let one : w.r ≡ r = same_region (g.region w.id) (g.region id) w.r r w.here (ap g.region p) here in
        let has : holds r.state.range key ≡ true = ap (λ z. holds z.state.range key) (sym one) ∙ w.has in
        elim (or_cases (holds (split_kept r.state side keys).range key) (some_holds (ranges_of news) key) (sym (shared.none_lost key) ∙ has)) [
          | inl e ↦ record {
            id = id;
            r = kept;
            unmerged = refl;
            has = e;
            here = regions_other (with_region g.region id kept) origin children id (not_child id r here) ∙ with_region_same g.region id kept;
          }
          | inr e ↦ held_child parted origin (after_split r.state.epoch (length keys)) r.state.peers news key (regions_exact (with_region g.region id kept) origin children distinct) e
        ])
    | inr ne ↦ record {
      id = w.id;
      r = w.r;
      unmerged = w.unmerged;
      has = w.has;
      here = regions_other (with_region g.region id kept) origin children w.id (not_child w.id w.r w.here) ∙ (with_region_other g.region id kept w.id ne ∙ w.here);
    }
  ]

  abbrev WasHeld : List ℕ → Made → Type 0
  WasHeld key z = is_unmerged z.state.mode ≡ true → holds z.state.range key ≡ true → Held g key

  from_parted : (key : List ℕ) → Held parted key → Held g key
  from_parted key w = regions_all (λ y. WasHeld key) (with_region g.region id kept) origin children
      (all_map (λ s. Inside s.range r.state.range) (λ s. WasHeld key (born s origin)) (λ s f u e. record { id = id; r = r; here = here; unmerged = unmerged; has = f key e }) children insides)
      (λ y z made u e. elim (with_region_cases g.region id kept y z made) [
        | inl p ↦ record { id = id; r = r; here = here; unmerged = unmerged; has = shared.kept_inside key (ap (λ t. holds t.state.range key) p.1 ∙ e) }
        | inr p ↦ record { id = y; r = z; here = p.1; unmerged = u; has = e }
      ])
      w.id w.r w.here w.unmerged w.has

  -- what is kept and what is new hold what the region held
  pub held_split : SameKeys g parted
  held_split key = (into_parted key, from_parted key)
