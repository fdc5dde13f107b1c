-- What one step does to each region, by its entry.
use Rattle.std.proofs.Common.{◌≡◌, ℕ, ◌+◌, ◌≤◌, ◌==◌, Bool, true, false, cond, List, [], ◌∷◌, map, length, Option, Some, None, refl, ap, sym, ◌∙◌, arith, ◌⊎◌, subst, inl, inr}
use Rattle.std.specs.Prelude.{if◌then◌else◌}
use Rattle.std.specs.List.{AllByRecursion, zip}
use Rattle.std.proofs.lemmas.Bool.{both_ways, eq-eqb, eqb-true, eqb-false}
use Rattle.rs_key.specs.Ranges.{Bounds, cut, is_next_to}
use Rattle.rs_key.specs.Epochs.{after_split}
use Rattle.rs_key.specs.declared.epoch.Epoch.{Epoch}
use Rattle.rs_entry.specs.declared.entry.Body.{Body}
use Rattle.rs_entry.specs.declared.entry.Body.TheVariants as body
use Rattle.rs_entry.specs.declared.entry.Carried.{Carried}
use Rattle.rs_entry.specs.declared.entry.Change.{Change}
use Rattle.rs_entry.specs.declared.entry.Entry.{Entry}
use Rattle.rs_entry.specs.declared.entry.Side.{Side}
use Rattle.rs_entry.specs.declared.entry.Side.TheVariants as side
use Rattle.rs_entry.specs.declared.input.Store.{Store}
use Rattle.rs_entry.specs.declared.outcome.Mode.TheVariants as mode
use Rattle.rs_region.specs.Reshapings.{committed, new_ranges, new_region, prepared, reconfigured, removed, rolled_back, split_kept, split_new}
use Rattle.rs_region.specs.Verdicts.{verdict}
use Rattle.rs_region.specs.declared.state.RegionState.{RegionState}
use Rattle.rs_region.specs.declared.verdict.Verdict.{Verdict}
use Rattle.rs_region.specs.declared.verdict.Verdict.TheVariants as verdicts
use Rattle.rs_region.proofs.CutParts.{all_map, cut_counts}
use Rattle.rs_store.specs.declared.regions.Made.{Made}
use Rattle.rs_store.specs.declared.regions.Origin.{Origin}
use Rattle.rs_store.specs.declared.regions.Origin.TheVariants as origins
use Rattle.rs_store.specs.Stores.{Applied, ByRegion, Went, Wrote, accept, as_merged, born, commit_with, conf_changed, goes_on, is_live, is_paused, is_prepared_for, is_removal_of, is_unmerged, moved, next, own, passed, reshaped, step_by, with_merged, with_new, with_region, with_regions, wrote}
use Rattle.rs_part.specs.Effects.{Effect, Merges, SplitsOff}
use Rattle.rs_part.specs.Scripts.{Script, SplitOff}
use Rattle.rs_part.specs.Settled.{IsMade}
use Rattle.rs_part.specs.Sound.{Sound}
use Rattle.rs_part.specs.Telling.{Tells}
use Rattle.rs_part.proofs.Children.{children_born, unmade}
use Rattle.rs_part.proofs.Cutting.{all_both, all_normal}
use Rattle.rs_part.proofs.Modes.{goes_awake, goes_live, live_unmerged, prepared_mode}
use Rattle.rs_part.proofs.Regions.{regions_all, regions_other, same_region, with_region_cases, with_region_other, with_region_same}

abbrev NoMerge : Made → Entry → Type 0
NoMerge r e = (q c : ℕ) (l : List Carried) → e.body ≡ body.Commit q c l → verdict r.state e ≡ verdicts.Accept → ⊥

abbrev NoSplit : Made → Entry → Type 0
NoSplit r e = (side : Side) (ids : List ℕ) (keys : List (List ℕ)) → e.body ≡ body.Split side ids keys → verdict r.state e ≡ verdicts.Accept → ⊥

-- a step that neither merges nor splits
effect_alone : (store : Store) (g : Applied) (id : ℕ) (r : Made) (e : Entry) (n : Made) (v : Verdict) (b : Body) (new : List Wrote) → n.applied ≡ r.applied + 1
    → is_unmerged n.state.mode ≡ true → NoMerge r e → NoSplit r e → Effect store g id r e (moved g id n v b new)
effect_alone store g id r e n v b new up stays no_merge no_split = record {
  mine = (n, with_region_same g.region id n, up, stays);
  others = λ x t ne h. inl (with_region_other g.region id n x ne ∙ h);
  new = λ x t ne h none. absurd (cc (sym (with_region_other g.region id n x ne) ∙ h, none));
  merges = λ q c l is a. absurd (no_merge q c l is a);
  splits = λ side ids keys is a. absurd (no_split side ids keys is a);
}

-- ---- merges

module _ (script : Script) (store : Store) (g : Applied) (sound : Sound script store g) (id : ℕ) (r : Made) (here : g.region id ≡ Some r)
    (awake : is_paused (own store id) r.state ≡ false) (e : Entry) (source commit : ℕ) (carried : List Carried)
    (is : e.body ≡ body.Commit source commit carried) (v : verdict r.state e ≡ verdicts.Accept) (q : Made) (there : g.region source ≡ Some q)
    (ready : is_prepared_for id commit q.state.mode ≡ true) (waits : is_paused (own store source) q.state ≡ true) where
  abbrev target : Made
  target = reshaped r (committed r.state q.state)

  abbrev joined : Applied
  joined = moved (with_merged g source q id) id target verdicts.Accept (body.Commit source commit carried) []

  merging : q.state.mode ≡ mode.Merging id commit
  merging = prepared_mode id commit q.state.mode ready

  rests : q.applied ≡ commit
  rests = sound.rests source q id commit there merging waits

  not_self : source ≡ id → ⊥
  not_self p =
      let one : r ≡ q = same_region (g.region id) (g.region source) r q here (ap g.region (sym p)) there in
      both_ways (is_paused (own store id) r.state) awake
      (ap (λ z. is_paused (own store id) z.state) one ∙ (ap (λ y. is_paused (own store y) q.state) (sym p) ∙ waits))

  elsewhere : (x : ℕ) → (x ≡ id → ⊥) → joined.region x ≡ with_region g.region source (as_merged q id) x
  elsewhere x ne = with_region_other (with_region g.region source (as_merged q id)) id target x ne

  other : (x : ℕ) (t : Made) → (x ≡ id → ⊥) → g.region x ≡ Some t → (b : Bool) → (x == source) ≡ b
      → (joined.region x ≡ Some t) ⊎ ((n : Made) × (joined.region x ≡ Some n) × Merges store id r e x t n)
  other x t ne h true b =
      let same : x ≡ source = eqb-true x source b in
      let one : q ≡ t = same_region (g.region source) (g.region x) q t there (ap g.region (sym same)) h in
      let at : commit ≡ t.applied = sym rests ∙ ap (λ z. z.applied) one in
      inr (
        as_merged q id,
        elsewhere x ne ∙ ap (λ z. cond z (Some (as_merged q id)) (g.region x)) b,
        record {
          now = ap (λ z. as_merged z id) one;
          merging = ap (λ z. z.state.mode) (sym one) ∙ (merging ∙ ap (mode.Merging id) at);
          paused = ap (λ y. is_paused (own store y) t.state) same ∙ (ap (λ z. is_paused (own store source) z.state) (sym one) ∙ waits);
          carried = carried;
          body = is ∙ (ap (λ y. body.Commit y commit carried) (sym same) ∙ ap (λ y. body.Commit x y carried) at);
          accepted = v;
        },
      )
  other x t ne h false b = inl (elsewhere x ne ∙ (with_region_other g.region source (as_merged q id) x (eqb-false x source b) ∙ h))

  none_new : (x : ℕ) (t : Made) → (x ≡ id → ⊥) → joined.region x ≡ Some t → g.region x ≡ None → ⊥
  none_new x t ne h none = elim (with_region_cases g.region source (as_merged q id) x t (sym (elsewhere x ne) ∙ h)) [
    | inl p ↦ cc (there, none, ap g.region p.0)
    | inr p ↦ cc (p.1, none)
  ]

  merged_source : (p c : ℕ) (l : List Carried) → e.body ≡ body.Commit p c l
      → (n : Made) × (joined.region p ≡ Some n) × (n.applied ≡ c) × (n.state.mode ≡ mode.Merged id) × ((t : Made) × (g.region p ≡ Some t) × (t.state.mode ≡ mode.Merging id c))
  merged_source p c l same =
      let one : p ≡ source = cc (is, same) in
      let two : commit ≡ c = cc (is, same) in (
        as_merged q id,
        elsewhere p (λ z. not_self (sym one ∙ z)) ∙ ap (λ b. cond b (Some (as_merged q id)) (g.region p)) (eq-eqb p source one),
        rests ∙ two,
        refl,
        (q, ap g.region one ∙ there, merging ∙ ap (mode.Merging id) two),
      )

  effect_commit : Effect store g id r e joined
  effect_commit = record {
    mine = (target, with_region_same (with_region g.region source (as_merged q id)) id target, refl, refl);
    others = λ x t ne h. other x t ne h (x == source) refl;
    new = λ x t ne h none. absurd (none_new x t ne h none);
    merges = λ p c l same a. merged_source p c l same;
    splits = λ side ids keys same a. absurd (cc (is, same));
  }

-- ---- splits

regions_kept : (f : ByRegion) (origin : Origin) (ss : List RegionState) (x : ℕ) → (t : Made) × (f x ≡ Some t) → (t : Made) × (with_regions f ss origin x ≡ Some t)
regions_kept f origin [] x h = h
regions_kept f origin (s ∷ ss) x h = go (x == s.region) refl (regions_kept f origin ss x h)
  where
    go : (b : Bool) → (x == s.region) ≡ b → (t : Made) × (with_regions f ss origin x ≡ Some t) → (t : Made) × (with_regions f (s ∷ ss) origin x ≡ Some t)
    go true b h = (born s origin, ap (λ z. cond z (Some (born s origin)) (with_regions f ss origin x)) b)
    go false b h = (h.0, ap (λ z. cond z (Some (born s origin)) (with_regions f ss origin x)) b ∙ h.1)

regions_each : (f : ByRegion) (origin : Origin) (ss : List RegionState) → AllByRecursion (λ s. (t : Made) × (with_regions f ss origin s.region ≡ Some t)) ss
regions_each f origin [] = tt
regions_each f origin (s ∷ ss) = (
  (born s origin, with_region_same (with_regions f ss origin) s.region (born s origin)),
  all_map (λ q. (t : Made) × (with_regions f ss origin q.region ≡ Some t)) (λ q. (t : Made) × (with_regions f (s ∷ ss) origin q.region ≡ Some t))
      (λ q h. regions_kept (with_regions f ss origin) origin (s ∷ []) q.region h) ss (regions_each f origin ss),
)

-- the id of a new region is one of the split's
among_each : (epoch : Epoch) (peers ids : List ℕ) (parts : List Bounds) → AllByRecursion (λ s. AllByRecursion (λ d. d ≡ s.region → ⊥) ids → ⊥) (map (new_region epoch peers) (zip ids parts))
among_each epoch peers [] parts = tt
among_each epoch peers (i ∷ ids) [] = tt
among_each epoch peers (i ∷ ids) (p ∷ parts) = (
  (λ h. h.0 refl),
  all_map (λ s. AllByRecursion (λ d. d ≡ s.region → ⊥) ids → ⊥) (λ s. AllByRecursion (λ d. d ≡ s.region → ⊥) (i ∷ ids) → ⊥) (λ s f h. f h.1)
      (map (new_region epoch peers) (zip ids parts)) (among_each epoch peers ids parts),
)

-- what holds of each new region's id holds of each of as many ids
ids_back : (P : ℕ → Type 0) (epoch : Epoch) (peers ids : List ℕ) (parts : List Bounds) → length ids ≤ length parts
    → AllByRecursion (λ s. P s.region) (map (new_region epoch peers) (zip ids parts)) → AllByRecursion P ids
ids_back P epoch peers [] parts le h = tt
ids_back P epoch peers (i ∷ ids) [] le h = absurd (omega arith)
ids_back P epoch peers (i ∷ ids) (p ∷ parts) le h = (h.0, ids_back P epoch peers ids parts (omega arith) h.1)

room_in : (side : Side) (parts : List Bounds) (n : ℕ) → length parts ≡ n + 1 → n ≤ length (new_ranges side parts)
room_in side.Right parts n e = omega arith
room_in side.Left [] n e = absurd (omega arith)
room_in side.Left (p ∷ parts) n e = omega arith

module _ (script : Script) (store : Store) (tells : Tells script store) (g : Applied) (sound : Sound script store g) (id : ℕ) (r : Made) (here : g.region id ≡ Some r)
    (e : Entry) (told : script.line id (r.applied + 1) ≡ Some e) (side : Side) (ids : List ℕ) (keys : List (List ℕ))
    (is : e.body ≡ body.Split side ids keys) (v : verdict r.state e ≡ verdicts.Accept) where
  abbrev kept : Made
  kept = reshaped r (split_kept r.state side keys)

  abbrev children : List RegionState
  children = split_new r.state side ids keys

  abbrev origin : Origin
  origin = origins.Split id (r.applied + 1)

  abbrev parted : Applied
  parted = with_new (moved g id kept verdicts.Accept (body.Split side ids keys) []) children origin

  born_here : AllByRecursion (λ s. script.birth s.region ≡ SplitOff id (r.applied + 1)) children
  born_here = children_born script store tells id (r.applied + 1) e told r.state side ids keys is

  -- what was made is none of the new regions
  not_child : (x : ℕ) (t : Made) → g.region x ≡ Some t → AllByRecursion (λ s. x ≡ s.region → ⊥) children
  not_child x t made = all_map (λ s. script.birth s.region ≡ SplitOff id (r.applied + 1)) (λ s. x ≡ s.region → ⊥)
      (λ s o z. cc (made, unmade script store g sound id r here s.region o, ap g.region z)) children born_here

  abbrev IsNew : ℕ → Made → Type 0
  IsNew y z = (y ≡ id → ⊥) → g.region y ≡ None → (z.applied ≡ 5) × (is_live z.state.mode ≡ true) × SplitsOff r e y

  all_new : AllByRecursion (λ s. IsNew s.region (born s origin)) children
  all_new = all_both (λ s. AllByRecursion (λ d. d ≡ s.region → ⊥) ids → ⊥) (λ s. s.mode ≡ mode.Normal) (λ s. IsNew s.region (born s origin))
      (λ s f n a b. (refl, ap is_live n, record { side = side; ids = ids; keys = keys; body = is; accepted = v; among = f })) children
      (among_each (after_split r.state.epoch (length keys)) r.state.peers ids (new_ranges side (cut r.state.range keys)))
      (all_normal (after_split r.state.epoch (length keys)) r.state.peers (zip ids (new_ranges side (cut r.state.range keys))))

  same_ids : (side' : Side) (ids' : List ℕ) (keys' : List (List ℕ)) → e.body ≡ body.Split side' ids' keys' → ids ≡ ids'
  same_ids side' ids' keys' same = cc (is, same)

  all_made : AllByRecursion (IsMade parted) ids
  all_made = ids_back (IsMade parted) (after_split r.state.epoch (length keys)) r.state.peers ids (new_ranges side (cut r.state.range keys))
      (let a : length ids ≡ length keys = tells.lengths id (r.applied + 1) e side ids keys told is in
      omega (arith, room_in side (cut r.state.range keys) (length keys) (cut_counts r.state.range keys)))
      (regions_each (with_region g.region id kept) origin children)

  effect_split : Effect store g id r e parted
  effect_split = record {
    mine = (kept, regions_other (with_region g.region id kept) origin children id (not_child id r here) ∙ with_region_same g.region id kept, refl, refl);
    others = λ x t ne h. inl (regions_other (with_region g.region id kept) origin children x (not_child x t h) ∙ (with_region_other g.region id kept x ne ∙ h));
    new = λ x t ne h none. regions_all IsNew (with_region g.region id kept) origin children all_new
        (λ y z h a b. absurd (cc (sym (with_region_other g.region id kept y a) ∙ h, b))) x t h ne none;
    merges = λ p c l same a. absurd (cc (is, same));
    splits = λ side' ids' keys' same a. subst (AllByRecursion (IsMade parted)) (same_ids side' ids' keys' same) all_made;
  }

-- ---- any step

conf_unmerged : (store : ℕ) (s : RegionState) (c : Change) → is_unmerged (conf_changed store s c).mode ≡ true
conf_unmerged store s c = go (is_removal_of store c)
  where
    go : (b : Bool) → is_unmerged (if b then removed (reconfigured s c) else reconfigured s c).mode ≡ true
    go true = refl
    go false = refl

same_effect : (store : Store) (g : Applied) (id : ℕ) (r : Made) (e : Entry) (h k : Applied) → Went h ≡ Went k → Effect store g id r e h → Effect store g id r e k
same_effect store g id r e h k p f = subst (Effect store g id r e) one f
  where
    one : h ≡ k
    one = cc

module _ (script : Script) (store : Store) (tells : Tells script store) (g : Applied) (sound : Sound script store g)
    (id : ℕ) (r : Made) (here : g.region id ≡ Some r) (goes : goes_on (own store id) r.state ≡ true)
    (e : Entry) (taken : next store g id r ≡ Some e) where
  unmerged : is_unmerged r.state.mode ≡ true
  unmerged = live_unmerged r.state.mode (goes_live (own store id) r.state goes)

  refusal : (v : Verdict) → verdict r.state e ≡ v → (v ≡ verdicts.Accept → ⊥) → Effect store g id r e (moved g id (passed r) v e.body [])
  refusal v is other = effect_alone store g id r e (passed r) v e.body [] refl unmerged (λ q c l b a. other (sym is ∙ a)) (λ side ids keys b a. other (sym is ∙ a))

  effect_source : (source commit : ℕ) (carried : List Carried) → e.body ≡ body.Commit source commit carried → verdict r.state e ≡ verdicts.Accept → (o : Option Made) → g.region source ≡ o
      → (h : Applied) → commit_with store g id r (body.Commit source commit carried) source commit o ≡ Went h → Effect store g id r e h
  effect_source source commit carried is v None there h st = absurd cc
  effect_source source commit carried is v (Some q) there h st =
      go (is_prepared_for id commit q.state.mode) refl (is_paused (own store source) q.state) refl (is_next_to r.state.range q.state.range) refl
    where
      go : (a : Bool) → is_prepared_for id commit q.state.mode ≡ a → (b : Bool) → is_paused (own store source) q.state ≡ b → (c : Bool) → is_next_to r.state.range q.state.range ≡ c
          → Effect store g id r e h
      go true a true b true c =
          subst (Effect store g id r e) (grind (arith, a, b, c, st))
          (effect_commit script store g sound id r here (goes_awake (own store id) r.state goes) e source commit carried is v q there a b)
      go true a true b false c = absurd (grind (arith, a, b, c, st))
      go true a false b c d = absurd (grind (arith, a, b, st))
      go false a b c d f = absurd (grind (arith, a, st))

  effect_body : (b : Body) → e.body ≡ b → verdict r.state e ≡ verdicts.Accept → (h : Applied) → accept store g id r b ≡ Went h → Effect store g id r e h
  effect_body body.Empty is v h st =
      same_effect store g id r e _ h st (effect_alone store g id r e (passed r) verdicts.Empty body.Empty [] refl unmerged (λ q c l b a. cc (is, b)) (λ side ids keys b a. cc (is, b)))
  effect_body (body.Write ops) is v h st =
      same_effect store g id r e _ h st (effect_alone store g id r e (passed r) verdicts.Accept (body.Write ops) (map (wrote id (r.applied + 1)) ops) refl unmerged
      (λ q c l b a. cc (is, b)) (λ side ids keys b a. cc (is, b)))
  effect_body (body.Split side ids keys) is v h st =
      same_effect store g id r e _ h st (effect_split script store tells g sound id r here e (tells.says g id r e (sound.since id r here) taken) side ids keys is v)
  effect_body (body.Prepare target) is v h st =
      same_effect store g id r e _ h st (effect_alone store g id r e (reshaped r (prepared r.state target (r.applied + 1))) verdicts.Accept (body.Prepare target) [] refl refl
      (λ q c l b a. cc (is, b)) (λ side ids keys b a. cc (is, b)))
  effect_body (body.Commit source commit carried) is v h st = effect_source source commit carried is v (g.region source) refl h st
  effect_body (body.Rollback commit) is v h st =
      same_effect store g id r e _ h st (effect_alone store g id r e (reshaped r (rolled_back r.state)) verdicts.Accept (body.Rollback commit) [] refl refl
      (λ q c l b a. cc (is, b)) (λ side ids keys b a. cc (is, b)))
  effect_body (body.Conf c) is v h st =
      same_effect store g id r e _ h st (effect_alone store g id r e (reshaped r (conf_changed store.id r.state c)) verdicts.Accept (body.Conf c) [] refl (conf_unmerged store.id r.state c)
      (λ q c l b a. cc (is, b)) (λ side ids keys b a. cc (is, b)))

  -- what a step of a region that goes on does
  pub effect_of : (v : Verdict) → verdict r.state e ≡ v → (h : Applied) → step_by v store g id r e ≡ Went h → Effect store g id r e h
  effect_of verdicts.Accept v h st = effect_body e.body refl v h st
  effect_of verdicts.BadRollback v h st = absurd cc
  effect_of verdicts.Empty v h st = same_effect store g id r e _ h st (refusal verdicts.Empty v (λ x. cc x))
  effect_of verdicts.Stale v h st = same_effect store g id r e _ h st (refusal verdicts.Stale v (λ x. cc x))
  effect_of verdicts.Merging v h st = same_effect store g id r e _ h st (refusal verdicts.Merging v (λ x. cc x))
  effect_of (verdicts.Outside place) v h st = same_effect store g id r e _ h st (refusal (verdicts.Outside place) v (λ x. cc x))
  effect_of (verdicts.BadSplit place) v h st = same_effect store g id r e _ h st (refusal (verdicts.BadSplit place) v (λ x. cc x))
  effect_of verdicts.BadPeer v h st = same_effect store g id r e _ h st (refusal verdicts.BadPeer v (λ x. cc x))
