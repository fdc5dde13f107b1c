-- What one step does to the keys that are held, to the writes and to the replies.
use Rattle.std.proofs.Common.{◌≡◌, ℕ, ◌+◌, Bool, true, false, List, [], ◌++◌, map, length, Option, Some, None, refl, ap, sym, ◌∙◌, arith, subst}
use Rattle.std.specs.Prelude.{if◌then◌else◌}
use Rattle.std.specs.List.{AllByRecursion}
use Rattle.std.proofs.lemmas.Bool.{both_ways}
use Rattle.rs_key.specs.Epochs.{after_split}
use Rattle.rs_key.specs.Ranges.{cut, is_next_to}
use Rattle.rs_entry.specs.declared.entry.Body.{Body}
use Rattle.rs_entry.specs.declared.entry.Body.TheVariants as body
use Rattle.rs_entry.specs.declared.entry.Carried.{Carried}
use Rattle.rs_entry.specs.declared.entry.Change.{Change}
use Rattle.rs_entry.specs.declared.entry.Entry.{Entry}
use Rattle.rs_entry.specs.declared.entry.Side.{Side}
use Rattle.rs_entry.specs.declared.input.Store.{Store}
use Rattle.rs_region.specs.Reshapings.{committed, new_ranges, prepared, reconfigured, removed, rolled_back, split_kept, split_new}
use Rattle.rs_region.specs.Verdicts.{verdict, verdict_on}
use Rattle.rs_region.specs.declared.state.RegionState.{RegionState}
use Rattle.rs_region.specs.declared.verdict.Verdict.{Verdict}
use Rattle.rs_region.specs.declared.verdict.Verdict.TheVariants as verdicts
use Rattle.rs_region.proofs.CutParts.{all_map}
use Rattle.rs_store.specs.declared.regions.Made.{Made}
use Rattle.rs_store.specs.declared.regions.Origin.{Origin}
use Rattle.rs_store.specs.declared.regions.Origin.TheVariants as origins
use Rattle.rs_store.specs.Stores.{Applied, Went, Wrote, accept, as_merged, commit_with, conf_changed, goes_on, is_paused, is_prepared_for, is_removal_of, is_unmerged, moved, own, passed, replied, reply_to, reshaped, step, step_by, step_in, step_with, with_merged, with_new, with_region, wrote}
use Rattle.rs_store.proofs.Verdicts.{split_good}
use Rattle.rs_part.specs.Effects.{Stepping}
use Rattle.rs_part.specs.Ranges.{AllIn, EachId}
use Rattle.rs_part.specs.Scripts.{Script}
use Rattle.rs_part.specs.Sound.{Sound}
use Rattle.rs_part.specs.Telling.{Tells}
use Rattle.rs_part.specs.Whole.{Leaves}
use Rattle.rs_part.proofs.Children.{all_unmade, children_born}
use Rattle.rs_part.proofs.Covering.{held_commit, held_moved, held_split}
use Rattle.rs_part.proofs.Cutting.{each_id}
use Rattle.rs_part.proofs.Modes.{goes_awake, goes_live, live_unmerged, prepared_mode}
use Rattle.rs_part.proofs.Regions.{regions_other, same_region, with_region_same}
use Rattle.rs_part.proofs.Steps.{write_inside}

same_leaves : (g : Applied) (id : ℕ) (r : Made) (e : Entry) (h k : Applied) → Went h ≡ Went k → Leaves g id r e h → Leaves g id r e k
same_leaves g id r e h k p f = subst (Leaves g id r e) one f
  where
    one : h ≡ k
    one = cc

-- a change of peers leaves the region unmerged, in its range
conf_kept : (store : ℕ) (s : RegionState) (c : Change) → (is_unmerged (conf_changed store s c).mode ≡ true) × ((conf_changed store s c).range ≡ s.range)
conf_kept store s c = go (is_removal_of store c)
  where
    go : (b : Bool)
        → (is_unmerged (if b then removed (reconfigured s c) else reconfigured s c).mode ≡ true) × ((if b then removed (reconfigured s c) else reconfigured s c).range ≡ s.range)
    go true = (refl, refl)
    go false = (refl, refl)

-- the replies as the verdict and the body say them
said : (g : Applied) (id : ℕ) (r : Made) (e : Entry) (v : Verdict) (b : Body) (n : Made) → verdict r.state e ≡ v → e.body ≡ b
    → g.replies ++ replied id n.applied (reply_to v b n.state) ≡ g.replies ++ replied id n.applied (reply_to (verdict r.state e) e.body n.state)
said g id r e v b n is same =
    ap (λ z. g.replies ++ replied id n.applied (reply_to z b n.state)) (sym is)
    ∙ ap (λ z. g.replies ++ replied id n.applied (reply_to (verdict r.state e) z n.state)) (sym same)

-- ---- a split

module _ (script : Script) (store : Store) (tells : Tells script store) (g : Applied) (sound : Sound script store g)
    (id : ℕ) (r : Made) (here : g.region id ≡ Some r) (unmerged : is_unmerged r.state.mode ≡ true) (e : Entry) (told : script.line id (r.applied + 1) ≡ Some e)
    (side : Side) (ids : List ℕ) (keys : List (List ℕ)) (is : e.body ≡ body.Split side ids keys) (v : verdict r.state e ≡ verdicts.Accept) where
  abbrev kept : Made
  kept = reshaped r (split_kept r.state side keys)

  abbrev children : List RegionState
  children = split_new r.state side ids keys

  abbrev origin : Origin
  origin = origins.Split id (r.applied + 1)

  none_made : AllByRecursion (λ s. g.region s.region ≡ None) children
  none_made = all_unmade script store g sound id r here children (children_born script store tells id (r.applied + 1) e told r.state side ids keys is)

  each_once : EachId children
  each_once = each_id (after_split r.state.epoch (length keys)) r.state.peers ids (new_ranges side (cut r.state.range keys)) (tells.distinct id (r.applied + 1) e side ids keys told is)

  leaves_split : Leaves g id r e (with_new (moved g id kept verdicts.Accept (body.Split side ids keys) []) children origin)
  leaves_split = record {
    keys = held_split g id r verdicts.Accept (body.Split side ids keys) side ids keys origin here unmerged (sound.shaped id r here)
        (split_good r.state e.epoch side ids keys (ap (verdict_on r.state e.epoch) (sym is) ∙ v)) (tells.lengths id (r.applied + 1) e side ids keys told is) each_once none_made;
    new = [];
    writes = refl;
    within = tt;
    n = kept;
    now = regions_other (with_region g.region id kept) origin children id
        (all_map (λ s. g.region s.region ≡ None) (λ s. id ≡ s.region → ⊥) (λ s none z. cc (none, here, ap g.region z)) children none_made)
        ∙ with_region_same g.region id kept;
    replies = said g id r e verdicts.Accept (body.Split side ids keys) kept v is;
  }

-- ---- any step

module _ (script : Script) (store : Store) (tells : Tells script store) (g : Applied) (sound : Sound script store g)
    (id : ℕ) (r : Made) (here : g.region id ≡ Some r) (goes : goes_on (own store id) r.state ≡ true)
    (e : Entry) (told : script.line id (r.applied + 1) ≡ Some e) where
  unmerged : is_unmerged r.state.mode ≡ true
  unmerged = live_unmerged r.state.mode (goes_live (own store id) r.state goes)

  leaves_moved : (v : Verdict) (b : Body) (n : Made) (new : List Wrote) → verdict r.state e ≡ v → e.body ≡ b → is_unmerged n.state.mode ≡ true → n.state.range ≡ r.state.range
      → AllIn r.state.range new → Leaves g id r e (moved g id n v b new)
  leaves_moved v b n new is same stays range all = record {
    keys = held_moved g id r n v b new here unmerged stays range;
    new = new;
    writes = refl;
    within = all;
    n = n;
    now = with_region_same g.region id n;
    replies = said g id r e v b n is same;
  }

  leaves_passed : (v : Verdict) → verdict r.state e ≡ v → Leaves g id r e (moved g id (passed r) v e.body [])
  leaves_passed v is = leaves_moved v e.body (passed r) [] is refl unmerged refl tt

  leaves_commit : (source commit : ℕ) (carried : List Carried) (q : Made) → e.body ≡ body.Commit source commit carried → verdict r.state e ≡ verdicts.Accept → g.region source ≡ Some q
      → is_prepared_for id commit q.state.mode ≡ true → is_paused (own store source) q.state ≡ true → is_next_to r.state.range q.state.range ≡ true
      → Leaves g id r e (moved (with_merged g source q id) id (reshaped r (committed r.state q.state)) verdicts.Accept (body.Commit source commit carried) [])
  leaves_commit source commit carried q is v there ready waits near = record {
    keys = held_commit g id source r q verdicts.Accept (body.Commit source commit carried) not_self here there unmerged (ap is_unmerged (prepared_mode id commit q.state.mode ready))
        (sound.shaped id r here) (sound.shaped source q there) near;
    new = [];
    writes = refl;
    within = tt;
    n = reshaped r (committed r.state q.state);
    now = with_region_same (with_region g.region source (as_merged q id)) id (reshaped r (committed r.state q.state));
    replies = said g id r e verdicts.Accept (body.Commit source commit carried) (reshaped r (committed r.state q.state)) v is;
  }
    where
      not_self : id ≡ source → ⊥
      not_self p =
          let one : r ≡ q = same_region (g.region id) (g.region source) r q here (ap g.region p) there in
          both_ways (is_paused (own store id) r.state) (goes_awake (own store id) r.state goes)
          (ap (λ z. is_paused (own store id) z.state) one ∙ (ap (λ y. is_paused (own store y) q.state) p ∙ waits))

  leaves_source : (source commit : ℕ) (carried : List Carried) → e.body ≡ body.Commit source commit carried → verdict r.state e ≡ verdicts.Accept → (o : Option Made)
      → g.region source ≡ o → (h : Applied)
      → commit_with store g id r (body.Commit source commit carried) source commit o ≡ Went h → Leaves g id r e h
  leaves_source source commit carried is v None there h st = absurd cc
  leaves_source source commit carried is v (Some q) there h st =
      go (is_prepared_for id commit q.state.mode) refl (is_paused (own store source) q.state) refl (is_next_to r.state.range q.state.range) refl
    where
      go : (a : Bool) → is_prepared_for id commit q.state.mode ≡ a → (b : Bool) → is_paused (own store source) q.state ≡ b → (c : Bool)
          → is_next_to r.state.range q.state.range ≡ c → Leaves g id r e h
      go true a true b true c = subst (Leaves g id r e) (grind (arith, a, b, c, st)) (leaves_commit source commit carried q is v there a b c)
      go true a true b false c = absurd (grind (arith, a, b, c, st))
      go true a false b c d = absurd (grind (arith, a, b, st))
      go false a b c d f = absurd (grind (arith, a, st))

  leaves_body : (b : Body) → e.body ≡ b → verdict r.state e ≡ verdicts.Accept → (h : Applied) → accept store g id r b ≡ Went h → Leaves g id r e h
  leaves_body body.Empty is v h st = absurd (cc (ap (verdict_on r.state e.epoch) is, v))
  leaves_body (body.Write ops) is v h st =
      same_leaves g id r e _ h st (leaves_moved verdicts.Accept (body.Write ops) (passed r) (map (wrote id (r.applied + 1)) ops) v is unmerged refl
      (write_inside r.state e.epoch ops id (r.applied + 1) (ap (verdict_on r.state e.epoch) (sym is) ∙ v)))
  leaves_body (body.Split side ids keys) is v h st = same_leaves g id r e _ h st (leaves_split script store tells g sound id r here unmerged e told side ids keys is v)
  leaves_body (body.Prepare target) is v h st =
      same_leaves g id r e _ h st (leaves_moved verdicts.Accept (body.Prepare target) (reshaped r (prepared r.state target (r.applied + 1))) [] v is refl refl tt)
  leaves_body (body.Commit source commit carried) is v h st = leaves_source source commit carried is v (g.region source) refl h st
  leaves_body (body.Rollback commit) is v h st = same_leaves g id r e _ h st (leaves_moved verdicts.Accept (body.Rollback commit) (reshaped r (rolled_back r.state)) [] v is refl refl tt)
  leaves_body (body.Conf c) is v h st =
      let kept = conf_kept store.id r.state c in
      same_leaves g id r e _ h st (leaves_moved verdicts.Accept (body.Conf c) (reshaped r (conf_changed store.id r.state c)) [] v is kept.0 kept.1 tt)

  leaves_of : (v : Verdict) → verdict r.state e ≡ v → (h : Applied) → step_by v store g id r e ≡ Went h → Leaves g id r e h
  leaves_of verdicts.Accept v h st = leaves_body e.body refl v h st
  leaves_of verdicts.BadRollback v h st = absurd cc
  leaves_of verdicts.Empty v h st = same_leaves g id r e _ h st (leaves_passed verdicts.Empty v)
  leaves_of verdicts.Stale v h st = same_leaves g id r e _ h st (leaves_passed verdicts.Stale v)
  leaves_of verdicts.Merging v h st = same_leaves g id r e _ h st (leaves_passed verdicts.Merging v)
  leaves_of (verdicts.Outside place) v h st = same_leaves g id r e _ h st (leaves_passed (verdicts.Outside place) v)
  leaves_of (verdicts.BadSplit place) v h st = same_leaves g id r e _ h st (leaves_passed (verdicts.BadSplit place) v)
  leaves_of verdicts.BadPeer v h st = same_leaves g id r e _ h st (leaves_passed verdicts.BadPeer v)

-- what a step of a region that is ready leaves
pub stepping_leaves : (script : Script) (store : Store) → Tells script store → (g k : Applied) → Sound script store g → (id : ℕ) (w : Stepping script store g id k)
    → step store g id ≡ Went k → Leaves g id w.r w.e k
stepping_leaves script store tells g k sound id w st =
    leaves_of script store tells g sound id w.r w.here w.goes w.e w.told (verdict w.r.state w.e) refl k
    (sym (ap (step_with store g id w.r) w.taken) ∙ (sym (ap (step_in store g id) w.here) ∙ st))
