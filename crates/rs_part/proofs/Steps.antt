-- Steps that neither merge nor split keep what is sound.
use Rattle.std.proofs.Common.{◌≡◌, ℕ, ◌+◌, ◌≤◌, Bool, true, false, not, cond, List, [], ◌∷◌, ◌++◌, map, length, Option, Some, None, refl, ap, sym, ◌∙◌, arith, subst, append-nil, nat_lt}
use mathlib.Core.Path.{fun_ext}
use Rattle.std.specs.Prelude.{if◌then◌else◌, position}
use Rattle.std.specs.List.{position_or_len}
use Rattle.std.proofs.lemmas.Bool.{both_ways, ltb-false}
use Rattle.rs_key.specs.Epochs.{fits}
use Rattle.rs_key.specs.Ranges.{Bounds, holds, is_range}
use Rattle.rs_key.specs.declared.epoch.Epoch.{Epoch}
use Rattle.rs_key.specs.declared.epoch.Kind.TheVariants as kind
use Rattle.rs_entry.specs.Entries.{key_of}
use Rattle.rs_entry.specs.declared.entry.Body.{Body}
use Rattle.rs_entry.specs.declared.entry.Body.TheVariants as body
use Rattle.rs_entry.specs.declared.entry.Change.{Change}
use Rattle.rs_entry.specs.declared.entry.Entry.{Entry}
use Rattle.rs_entry.specs.declared.entry.Op.{Op}
use Rattle.rs_entry.specs.declared.entry.Op.TheVariants as op
use Rattle.rs_entry.specs.declared.input.Store.{Store}
use Rattle.rs_entry.specs.declared.outcome.Mode.{Mode}
use Rattle.rs_entry.specs.declared.outcome.Mode.TheVariants as mode
use Rattle.rs_region.specs.Reshapings.{prepared, reconfigured, removed, rolled_back}
use Rattle.rs_region.specs.Verdicts.{fitting_verdict, is_outside, verdict, verdict_on, write_verdict}
use Rattle.rs_region.specs.declared.state.RegionState.{RegionState}
use Rattle.rs_region.specs.declared.verdict.Verdict.{Verdict}
use Rattle.rs_region.specs.declared.verdict.Verdict.TheVariants as verdicts
use Rattle.rs_store.specs.Runs.{is_bad}
use Rattle.rs_store.specs.Stores.{Applied, Wrote, conf_changed, goes_on, is_accept, is_live, is_paused, is_removal_of, is_unmerged, moved, own, passed, reshaped, wrote}
use Rattle.rs_store.specs.declared.regions.Made.{Made}
use Rattle.rs_part.specs.Items.{history_of, items_in}
use Rattle.rs_part.specs.Parts.{Part, unmarked}
use Rattle.rs_part.specs.Ranges.{AllIn, Apart}
use Rattle.rs_part.specs.Scripts.{Found, IsPart, Script, after_by, found}
use Rattle.rs_part.specs.Sound.{Removal, Sound}
use Rattle.rs_part.proofs.Items.{items_more}
use Rattle.rs_part.proofs.Modes.{goes_awake, goes_live, live_unmarked, live_unmerged}
use Rattle.rs_part.proofs.Parts.{next_part, one_part}
use Rattle.rs_part.proofs.Sound.{sound_moved}

none_outside : (place : Option ℕ) → write_verdict place ≡ verdicts.Accept → place ≡ None
none_outside None e = refl
none_outside (Some place) e = absurd cc

no_place : (b : Bool) (n : ℕ) → cond b (Some n) None ≡ None → b ≡ false
no_place true n e = absurd cc
no_place false n e = refl

key_wrote : (id index : ℕ) (o : Op) → (wrote id index o).key ≡ key_of o
key_wrote id index (op.Put k v) = refl
key_wrote id index (op.Delete k) = refl

all_inside : (range : Bounds) (ops : List Op) (id index : ℕ) → length ops ≤ position_or_len (is_outside range) ops → AllIn range (map (wrote id index) ops)
all_inside range [] id index e = tt
all_inside range (o ∷ ops) id index e = go (holds range (key_of o)) refl (all_inside range ops id index)
  where
    go : (b : Bool) → holds range (key_of o) ≡ b → (length ops ≤ position_or_len (is_outside range) ops → AllIn range (map (wrote id index) ops)) → AllIn range (map (wrote id index) (o ∷ ops))
    go true h rest =
        let top : position_or_len (is_outside range) (o ∷ ops) ≡ 1 + position_or_len (is_outside range) ops = ap (λ (b : Bool). cond (not (not b)) (1 + position_or_len (is_outside range) ops) 0) h in
        (ap (holds range) (key_wrote id index o) ∙ h, rest (omega arith))
    go false h rest =
        let top : position_or_len (is_outside range) (o ∷ ops) ≡ 0 = ap (λ (b : Bool). cond (not (not b)) (1 + position_or_len (is_outside range) ops) 0) h in
        absurd (omega arith)

write_open : (m : Mode) (range : Bounds) (peers : List ℕ) (ops : List Op) → fitting_verdict m range peers (body.Write ops) ≡ verdicts.Accept → position (is_outside range) ops ≡ None
write_open mode.Normal range peers ops e = none_outside (position (is_outside range) ops) e
write_open (mode.Merging target commit) range peers ops e = absurd cc
write_open (mode.Merged target) range peers ops e = none_outside (position (is_outside range) ops) e
write_open mode.Removed range peers ops e = none_outside (position (is_outside range) ops) e

-- an accepted write is of keys in the range
pub write_inside : (s : RegionState) (epoch : Epoch) (ops : List Op) (id index : ℕ) → verdict_on s epoch (body.Write ops) ≡ verdicts.Accept → AllIn s.range (map (wrote id index) ops)
write_inside s epoch ops id index e = go (fits kind.Write s.epoch epoch) e
  where
    first : ℕ
    first = position_or_len (is_outside s.range) ops

    go : (b : Bool) → (if b then fitting_verdict s.mode s.range s.peers (body.Write ops) else verdicts.Stale) ≡ verdicts.Accept → AllIn s.range (map (wrote id index) ops)
    go true h =
        let none : nat_lt first (length ops) ≡ false = no_place (nat_lt first (length ops)) first (write_open s.mode s.range s.peers ops h) in
        all_inside s.range ops id index (ltb-false first (length ops) none)
    go false h = absurd cc

-- an entry that is refused leaves the part as it was
after_refused : (v : Verdict) → is_accept v ≡ false → is_bad v ≡ false → (f : Found) (id index : ℕ) (w : Part) (b : Body) → after_by v f id index w b ≡ Some w
after_refused verdicts.Accept h k f id index w b = absurd cc
after_refused verdicts.BadRollback h k f id index w b = absurd cc
after_refused verdicts.Empty h k f id index w b = refl
after_refused verdicts.Stale h k f id index w b = refl
after_refused verdicts.Merging h k f id index w b = refl
after_refused (verdicts.Outside place) h k f id index w b = refl
after_refused (verdicts.BadSplit place) h k f id index w b = refl
after_refused verdicts.BadPeer h k f id index w b = refl

-- in a sound store region id goes on, and its next entry is the script's
pub record Turn (script : Script) (store : Store) (g : Applied) (id : ℕ) (r : Made) (e : Entry) : Type 0 where
  pub sound : Sound script store g
  pub here : g.region id ≡ Some r
  pub goes : goes_on (own store id) r.state ≡ true
  pub told : script.line id (r.applied + 1) ≡ Some e

module _ (script : Script) (store : Store) (g : Applied) (id : ℕ) (r : Made) (e : Entry) (turn : Turn script store g id r e) where
  live : is_live r.state.mode ≡ true
  live = goes_live (own store id) r.state turn.goes

  -- its range is its own
  pub unmerged : is_unmerged r.state.mode ≡ true
  unmerged = live_unmerged r.state.mode live

  -- it isn't paused
  pub awake : is_paused (own store id) r.state ≡ false
  awake = goes_awake (own store id) r.state turn.goes

  -- no other region shares a key with it
  pub others : (b : ℕ) (t : Made) → (b ≡ id → ⊥) → g.region b ≡ Some t → is_unmerged t.state.mode ≡ true → Apart r.state.range t.state.range
  others b t ne h l = turn.sound.apart id b r t (λ q. ne (sym q)) turn.here h unmerged l

  -- the region's part before the step
  abbrev pub part_before : Part
  part_before = record { state = r.state; items = items_in r.state.range g.writes }

  -- which is the script's
  pub was_part : IsPart script id r.applied part_before
  was_part = subst (λ (s : RegionState). IsPart script id r.applied (record { state = s; items = items_in r.state.range g.writes })) (live_unmarked r.state live) (turn.sound.parts id r turn.here unmerged)

  -- the part after it
  pub part_by : (n : ℕ) → found script n id r.applied ≡ Some part_before → (b : Body) → e.body ≡ b → (v : Verdict) → verdict r.state e ≡ v → (w : Part)
      → after_by v (found script n) id (r.applied + 1) part_before b ≡ Some w → IsPart script id (r.applied + 1) w
  part_by n at b is v ok w after =
      next_part script id r.applied n e part_before w (turn.sound.since id r turn.here) turn.told at
      (ap (λ (x : Verdict). after_by x (found script n) id (r.applied + 1) part_before e.body) ok
      ∙ (ap (λ (y : Body). after_by v (found script n) id (r.applied + 1) part_before y) is ∙ after))

  -- where the region's next entry removes this store's peer
  removal_here : Removal script store.id id r.applied → (c : Change) × (e.body ≡ body.Conf c) × (verdict r.state e ≡ verdicts.Accept) × (is_removal_of store.id c ≡ true)
  removal_here x =
      let p : x.part ≡ part_before = one_part script id r.applied x.part part_before x.is_part was_part in
      let q : x.entry ≡ e = cc (x.line, turn.told) in
      (x.change, ap (λ (z : Entry). z.body) (sym q) ∙ x.body, ap (λ (w : Part). verdict w.state e) (sym p) ∙ (ap (verdict x.part.state) (sym q) ∙ x.accepted), x.own_peer)

  -- no other entry does
  pub no_removal : ((c : Change) → e.body ≡ body.Conf c → verdict r.state e ≡ verdicts.Accept → ⊥) → Removal script store.id id r.applied → ⊥
  no_removal other x = let w = removal_here x in other w.0 w.1 w.2

  -- a step that leaves the range as it was
  in_range : (v : Verdict) (b : Body) (n : Made) (new : List Wrote) → n.applied ≡ r.applied + 1 → n.state.region ≡ r.state.region → n.state.range ≡ r.state.range → AllIn r.state.range new
      → IsPart script id (r.applied + 1) (record { state = unmarked n.state; items = items_in r.state.range (g.writes ++ new) })
      → (n.state.mode ≡ mode.Removed → Removal script store.id id r.applied) → (is_live n.state.mode ≡ true → Removal script store.id id r.applied → ⊥)
      → ((target commit : ℕ) → n.state.mode ≡ mode.Merging target commit → is_paused (own store id) n.state ≡ true → r.applied + 1 ≡ commit)
      → Sound script store (moved g id n v b new)
  in_range v b n new next named range within part marked no_mark rests = sound_moved script store g turn.sound id r n v b new (record {
    here = turn.here;
    unmerged = unmerged;
    next = next;
    named = named ∙ turn.sound.named id r turn.here;
    shaped = ap (λ (x : Bounds). is_range x.start x.end) range ∙ turn.sound.shaped id r turn.here;
    within = within;
    others = λ b t ne h l. subst (λ (x : Bounds). Apart x t.state.range) (sym range) (others b t ne h l);
    part = subst (λ (x : Bounds). IsPart script id (r.applied + 1) (record { state = unmarked n.state; items = items_in x (g.writes ++ new) })) (sym range) part;
    marked = marked;
    no_mark = no_mark;
    rests = rests;
  })

  -- a step that leaves the state as it was
  passes : (v : Verdict) (b : Body) (new : List Wrote) → AllIn r.state.range new → ((c : Change) → e.body ≡ body.Conf c → verdict r.state e ≡ verdicts.Accept → ⊥)
      → IsPart script id (r.applied + 1) (record { state = r.state; items = items_in r.state.range (g.writes ++ new) }) → Sound script store (moved g id (passed r) v b new)
  passes v b new within no_conf part = in_range v b (passed r) new refl refl refl within
      (subst (λ (s : RegionState). IsPart script id (r.applied + 1) (record { state = s; items = items_in r.state.range (g.writes ++ new) })) (sym (live_unmarked r.state live)) part)
      (λ m. absurd (both_ways (is_live r.state.mode) (ap is_live m) live)) (λ l. no_removal no_conf)
      (λ target commit m paused. absurd (both_ways (is_paused (own store id) r.state) awake paused))

  -- where nothing was written
  unwritten : (s : RegionState) → IsPart script id (r.applied + 1) (record { state = s; items = items_in r.state.range g.writes })
      → IsPart script id (r.applied + 1) (record { state = s; items = items_in r.state.range (g.writes ++ []) })
  unwritten s part = subst (λ (ws : List Wrote). IsPart script id (r.applied + 1) (record { state = s; items = items_in r.state.range ws })) (sym (append-nil g.writes)) part

  -- an entry that is refused
  pub by_refused : (v : Verdict) → is_accept v ≡ false → is_bad v ≡ false → verdict r.state e ≡ v → Sound script store (moved g id (passed r) v e.body [])
  by_refused v no_accept no_fault ok = passes v e.body [] tt (λ c is a. absurd (both_ways (is_accept v) no_accept (ap is_accept (sym ok ∙ a))))
      (unwritten r.state (part_by was_part.0 was_part.1 e.body refl v ok part_before (after_refused v no_accept no_fault (found script was_part.0) id (r.applied + 1) part_before e.body)))

  -- an empty entry
  pub by_empty : e.body ≡ body.Empty → verdict r.state e ≡ verdicts.Accept → Sound script store (moved g id (passed r) verdicts.Empty body.Empty [])
  by_empty is ok = passes verdicts.Empty body.Empty [] tt (λ c other a. absurd (cc (is, other)))
      (unwritten r.state (part_by was_part.0 was_part.1 body.Empty is verdicts.Accept ok part_before refl))

  -- a write in the range
  pub by_write : (ops : List Op) → e.body ≡ body.Write ops → verdict r.state e ≡ verdicts.Accept → Sound script store (moved g id (passed r) verdicts.Accept (body.Write ops) (map (wrote id (r.applied + 1)) ops))
  by_write ops is ok = passes verdicts.Accept (body.Write ops) new within (λ c other a. absurd (cc (is, other)))
      (subst (λ (f : List ℕ → List _). IsPart script id (r.applied + 1) (record { state = r.state; items = f })) (fun_ext (λ k. sym (items_more r.state.range g.writes new within k)))
      (part_by was_part.0 was_part.1 (body.Write ops) is verdicts.Accept ok (record { state = r.state; items = λ k. items_in r.state.range g.writes k ++ history_of new k }) refl))
    where
      new : List Wrote
      new = map (wrote id (r.applied + 1)) ops

      within : AllIn r.state.range (map (wrote id (r.applied + 1)) ops)
      within = write_inside r.state e.epoch ops id (r.applied + 1) (ap (verdict_on r.state e.epoch) (sym is) ∙ ok)

  -- a region that is paused by it rests at its index
  pub by_prepare : (target : ℕ) → e.body ≡ body.Prepare target → verdict r.state e ≡ verdicts.Accept
      → Sound script store (moved g id (reshaped r (prepared r.state target (r.applied + 1))) verdicts.Accept (body.Prepare target) [])
  by_prepare target is ok = in_range verdicts.Accept (body.Prepare target) (reshaped r (prepared r.state target (r.applied + 1))) [] refl refl refl tt
      (unwritten (prepared r.state target (r.applied + 1)) (part_by was_part.0 was_part.1 (body.Prepare target) is verdicts.Accept ok (record { state = prepared r.state target (r.applied + 1); items = part_before.items }) refl))
      (λ m. absurd (cc m)) (λ l. no_removal (λ c other a. cc (is, other))) (λ t c m paused. cc m)

  -- a merge that is rolled back
  pub by_rollback : (commit : ℕ) → e.body ≡ body.Rollback commit → verdict r.state e ≡ verdicts.Accept → Sound script store (moved g id (reshaped r (rolled_back r.state)) verdicts.Accept (body.Rollback commit) [])
  by_rollback commit is ok = in_range verdicts.Accept (body.Rollback commit) (reshaped r (rolled_back r.state)) [] refl refl refl tt
      (unwritten (rolled_back r.state) (part_by was_part.0 was_part.1 (body.Rollback commit) is verdicts.Accept ok (record { state = rolled_back r.state; items = part_before.items }) refl))
      (λ m. absurd (cc m)) (λ l. no_removal (λ c other a. cc (is, other))) (λ t c m paused. absurd (cc m))

  -- a change of peers: where it takes out this store's own the region is marked, which its part doesn't show
  pub by_conf : (c : Change) → e.body ≡ body.Conf c → verdict r.state e ≡ verdicts.Accept → Sound script store (moved g id (reshaped r (conf_changed store.id r.state c)) verdicts.Accept (body.Conf c) [])
  by_conf c is ok = go (is_removal_of store.id c) refl
    where
      part : IsPart script id (r.applied + 1) (record { state = reconfigured r.state c; items = items_in r.state.range (g.writes ++ []) })
      part = unwritten (reconfigured r.state c) (part_by was_part.0 was_part.1 (body.Conf c) is verdicts.Accept ok (record { state = reconfigured r.state c; items = part_before.items }) refl)

      go : (b : Bool) → is_removal_of store.id c ≡ b
          → Sound script store (moved g id (reshaped r (if b then removed (reconfigured r.state c) else reconfigured r.state c)) verdicts.Accept (body.Conf c) [])
      go true h = in_range verdicts.Accept (body.Conf c) (reshaped r (removed (reconfigured r.state c))) [] refl refl refl tt part
          (λ m. record { past = turn.sound.since id r turn.here; part = part_before; entry = e; change = c; is_part = was_part; line = turn.told; body = is; accepted = ok; own_peer = h })
          (λ l. absurd (cc l)) (λ t k m paused. absurd (cc m))
      go false h = in_range verdicts.Accept (body.Conf c) (reshaped r (reconfigured r.state c)) [] refl refl refl tt part
          (λ m. absurd (cc m)) (λ l x. kept (removal_here x)) (λ t k m paused. absurd (cc m))
        where
          kept : (d : Change) × (e.body ≡ body.Conf d) × (verdict r.state e ≡ verdicts.Accept) × (is_removal_of store.id d ≡ true) → ⊥
          kept w =
              let same : c ≡ w.0 = cc (is, w.1) in
              both_ways (is_removal_of store.id c) h (ap (is_removal_of store.id) same ∙ w.3)
