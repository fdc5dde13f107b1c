-- Where one order of a store ends without a fault, no order of it meets one.
use Rattle.std.proofs.Common.{◌≡◌, ℕ, zero, suc, ◌+◌, ◌-◌, ◌≤◌, ◌<◌, Bool, true, false, cond, List, Option, Some, None, refl, ap, sym, ◌∙◌, arith, ◌⊎◌, subst, inl, inr}
use Rattle.std.proofs.lemmas.Bool.{cases_lt, and_parts, leb-true, lt-leb}
use Rattle.rs_key.specs.Ranges.{is_next_to}
use Rattle.rs_entry.specs.declared.entry.Body.{Body}
use Rattle.rs_entry.specs.declared.entry.Body.TheVariants as body
use Rattle.rs_entry.specs.declared.entry.Carried.{Carried}
use Rattle.rs_entry.specs.declared.entry.Entry.{Entry}
use Rattle.rs_entry.specs.declared.input.Store.{Store}
use Rattle.rs_entry.specs.declared.outcome.Mode.{Mode}
use Rattle.rs_entry.specs.declared.outcome.Mode.TheVariants as mode
use Rattle.rs_region.specs.Verdicts.{verdict}
use Rattle.rs_region.specs.declared.verdict.Verdict.{Verdict}
use Rattle.rs_region.specs.declared.verdict.Verdict.TheVariants as verdicts
use Rattle.rs_store.specs.declared.fault.StepFault.{StepFault}
use Rattle.rs_store.specs.declared.regions.Made.{Made}
use Rattle.rs_store.specs.Stores.{Applied, Broke, accept, commit_with, goes_on, has_applied, is_live, is_paused, is_prepared_for, is_ready, is_unmerged, merge_of, next, own, ready_in, ready_with, source_is_there, step_by}
use Rattle.rs_part.specs.Effects.{Below}
use Rattle.rs_part.specs.Orders.{IsDone}
use Rattle.rs_part.specs.Parts.{Part, mode_before, part_of}
use Rattle.rs_part.specs.Scripts.{IsPart, Script, accepted, after_by, after_line, found, grow_by, joined_part, may_join, with_source}
use Rattle.rs_part.specs.Settled.{Commits, Settled}
use Rattle.rs_part.specs.Sound.{Sound}
use Rattle.rs_part.specs.Telling.{Tells}
use Rattle.rs_part.proofs.Meeting.{no_end}
use Rattle.rs_part.proofs.Modes.{goes_live, live_unmarked, live_unmerged, prepared_mode}
use Rattle.rs_part.proofs.Parts.{one_part}
use Rattle.rs_part.proofs.Regions.{same_region}

-- what the part before was, and the entry between
pub record Back (script : Script) (id index : ℕ) (w : Part) : Type 0 where
  pub n : ℕ
  pub part : Part
  pub entry : Entry
  pub before : found script n id index ≡ Some part
  pub line : script.line id (index + 1) ≡ Some entry
  pub after : after_by (verdict part.state entry) (found script n) id (index + 1) part entry.body ≡ Some w

-- a part past the beginning comes from the part before it, by the entry between
pub part_back : (script : Script) (id index : ℕ) (w : Part) → 5 ≤ index → IsPart script id (index + 1) w → Back script id index w
part_back script id index w five a = by_steps a.0 a.1
  where
    back : (index + 1) - 1 ≡ index
    back = omega arith

    by_part : (n : ℕ) (o : Option Entry) → script.line id (index + 1) ≡ o → (p : Option Part) → found script n id index ≡ p → after_line (found script n) id (index + 1) o p ≡ Some w
        → Back script id index w
    by_part n None l p f h = absurd cc
    by_part n (Some e) l None f h = absurd cc
    by_part n (Some e) l (Some v) f h = record { n = n; part = v; entry = e; before = f; line = l; after = h }

    by_steps : (n : ℕ) → found script n id (index + 1) ≡ Some w → Back script id index w
    by_steps zero h = absurd cc
    by_steps (suc n) h =
        by_part n (script.line id (index + 1)) refl (found script n id index) refl
        (ap (λ i. after_line (found script n) id (index + 1) (script.line id (index + 1)) (found script n id i)) (sym back)
        ∙ (ap (λ b. grow_by b script (found script n) id (index + 1)) (sym (lt-leb (index + 1) 5 (omega arith))) ∙ h))

part_down : (script : Script) (id j d : ℕ) (w : Part) → 5 ≤ j → IsPart script id (d + j) w → (v : Part) × IsPart script id j v
part_down script id j zero w five a = (let z : 0 + j ≡ j = omega arith in (w, subst (λ i. IsPart script id i w) z a))
part_down script id j (suc d) w five a =
    let z : suc d + j ≡ (d + j) + 1 = omega arith in
    let b = part_back script id (d + j) w (omega arith) (subst (λ i. IsPart script id i w) z a) in
    part_down script id j d b.part five (b.n, b.before)

-- each index that a region has applied has its part
pub part_at : (script : Script) (store : Store) (h : Applied) → Sound script store h → Settled script store h → (id : ℕ) (r : Made) → h.region id ≡ Some r → (j : ℕ) → 5 ≤ j → j ≤ r.applied
    → (v : Part) × IsPart script id j v
part_at script store h sound settled id r here j five le = go r.state.mode refl
  where
    down : (w : Part) → IsPart script id r.applied w → (v : Part) × IsPart script id j v
    down w a = (let z : r.applied ≡ (r.applied - j) + j = omega arith in part_down script id j (r.applied - j) w five (subst (λ i. IsPart script id i w) z a))

    go : (m : Mode) → r.state.mode ≡ m → (v : Part) × IsPart script id j v
    go mode.Normal m = down (part_of h r) (sound.parts id r here (ap is_unmerged m))
    go (mode.Merging t c) m = down (part_of h r) (sound.parts id r here (ap is_unmerged m))
    go mode.Removed m = down (part_of h r) (sound.parts id r here (ap is_unmerged m))
    go (mode.Merged t) m = (let w = settled.ended id r t here m in down w.part w.is_part)

module _ (script : Script) (store : Store) (tells : Tells script store)
    (g h : Applied) (sound : Sound script store g) (settled : Settled script store g) (sound_h : Sound script store h) (settled_h : Settled script store h)
    (done : IsDone store h) (below : Below g h) (id : ℕ) (s : Made) (here : g.region id ≡ Some s) (ready : is_ready store g id ≡ true)
    (e : Entry) (taken : next store g id s ≡ Some e) where
  both : (goes_on (own store id) s.state ≡ true) × (ready_with g s.state (next store g id s) ≡ true)
  both = and_parts (goes_on (own store id) s.state) (ready_with g s.state (next store g id s)) (sym (ap (ready_in store g id) here) ∙ ready)

  live : is_live s.state.mode ≡ true
  live = goes_live (own store id) s.state both.0

  five : 5 ≤ s.applied
  five = sound.since id s here

  mine : IsPart script id s.applied (part_of g s)
  mine = sound.parts id s here (live_unmerged s.state.mode live)

  told : script.line id (s.applied + 1) ≡ Some e
  told = tells.says g id s e five taken

  -- the step was taken in h too
  there : (r : Made) × (h.region id ≡ Some r) × (s.applied + 1 ≤ r.applied)
  there = (let b = below id s here in (b.0, b.1, further b.0 b.1 b.2 (cases_lt s.applied b.0.applied)))
    where
      further : (r : Made) → h.region id ≡ Some r → s.applied ≤ r.applied → (s.applied < r.applied) ⊎ (r.applied ≤ s.applied) → s.applied + 1 ≤ r.applied
      further r q le (inl lt) = omega arith
      further r q le (inr ge) = absurd (no_end script store tells g h sound sound_h settled_h done below id s r here q (omega arith) ready)

  after_mine : (n : ℕ) (v : Part) (x : Entry) (w : Part) → v ≡ part_of g s → x ≡ e → after_by (verdict v.state x) (found script n) id (s.applied + 1) v x.body ≡ Some w
      → after_by (verdict s.state e) (found script n) id (s.applied + 1) (part_of g s) e.body ≡ Some w
  after_mine n v x w one same h =
      ap (λ z. after_by (verdict z e) (found script n) id (s.applied + 1) (part_of g s) e.body) (sym (live_unmarked s.state live))
      ∙ (ap (λ z. after_by (verdict z.state e) (found script n) id (s.applied + 1) z e.body) (sym one)
      ∙ (ap (λ z. after_by (verdict v.state z) (found script n) id (s.applied + 1) v z.body) (sym same) ∙ h))

  -- so there is a part after it
  stepped : (w : Part) × (n : ℕ) × (after_by (verdict s.state e) (found script n) id (s.applied + 1) (part_of g s) e.body ≡ Some w)
  stepped =
      let a = part_at script store h sound_h settled_h id there.0 there.1 (s.applied + 1) (omega (arith, five)) there.2 in
      let b = part_back script id s.applied a.0 five a.1 in
      (a.0, b.n, after_mine b.n b.part b.entry a.0 (one_part script id s.applied b.part (part_of g s) (b.n, b.before) mine) (cc (b.line, told)) b.after)

  source_part : (q c : ℕ) (l : List Carried) → e.body ≡ body.Commit q c l → verdict s.state e ≡ verdicts.Accept → (u : Part) × (IsPart script q c u) × (may_join id c (part_of g s) u ≡ true)
  source_part q c l is v = go (found script stepped.1 q c) refl
    where
      joined : with_source id c (part_of g s) (found script stepped.1 q c) ≡ Some stepped.0
      joined =
          ap (λ b. accepted (found script stepped.1) id (s.applied + 1) (part_of g s) b) (sym is)
          ∙ (ap (λ x. after_by x (found script stepped.1) id (s.applied + 1) (part_of g s) e.body) (sym v) ∙ stepped.2)

      go : (o : Option Part) → found script stepped.1 q c ≡ o → (u : Part) × (IsPart script q c u) × (may_join id c (part_of g s) u ≡ true)
      go None f = absurd (cc (sym (ap (with_source id c (part_of g s)) f) ∙ joined))
      go (Some u) f = (u, (stepped.1, f), test (may_join id c (part_of g s) u) refl)
        where
          test : (b : Bool) → may_join id c (part_of g s) u ≡ b → may_join id c (part_of g s) u ≡ true
          test true b = b
          test false b = absurd (cc (sym (ap (λ z. cond z (Some (joined_part (part_of g s) u)) None) b) ∙ (sym (ap (with_source id c (part_of g s)) f) ∙ joined)))

  commits : (q c : ℕ) (l : List Carried) → e.body ≡ body.Commit q c l → verdict s.state e ≡ verdicts.Accept → Commits script id s.applied q c
  commits q c l is v = record {
    past = five;
    part = part_of g s;
    entry = e;
    carried = l;
    is_part = mine;
    line = told;
    body = is;
    accepted = ap (λ z. verdict z e) (live_unmarked s.state live) ∙ v;
  }

  module _ (q c : ℕ) (l : List Carried) (is : e.body ≡ body.Commit q c l) (v : verdict s.state e ≡ verdicts.Accept) (sq : Made) (made : g.region q ≡ Some sq) (reached : c ≤ sq.applied) where
    -- the source is merged in h, at the commit
    end : (n : Made) × (h.region q ≡ Some n) × (n.applied ≡ c) × (n.state.mode ≡ mode.Merged id)
    end = settled_h.merged id there.0 s.applied q c there.1 there.2 (commits q c l is v)

    no_further : sq.applied ≡ c
    no_further =
        let b = below q sq made in
        let one : b.0 ≡ end.0 = same_region (h.region q) (h.region q) b.0 end.0 b.1 refl end.1 in
        let le : sq.applied ≤ end.0.applied = subst (λ z. sq.applied ≤ z.applied) one b.2 in
        let at : end.0.applied ≡ c = end.2 in
        omega (arith, reached)

    u : (u : Part) × (IsPart script q c u) × (may_join id c (part_of g s) u ≡ true)
    u = source_part q c l is v

    tests : (is_prepared_for id c u.0.state.mode ≡ true) × (is_next_to s.state.range u.0.state.range ≡ true)
    tests = and_parts (is_prepared_for id c u.0.state.mode) (is_next_to s.state.range u.0.state.range) u.2

    same_part : is_unmerged sq.state.mode ≡ true → u.0 ≡ part_of g sq
    same_part unmerged = one_part script q c u.0 (part_of g sq) u.1 (subst (λ i. IsPart script q i (part_of g sq)) no_further (sound.parts q sq made unmerged))

    -- a live source is as its part says
    live_source : is_live sq.state.mode ≡ true → (f : StepFault) → commit_with store g id s (body.Commit q c l) q c (Some sq) ≡ Broke f → ⊥
    live_source alive f broke =
        let w = settled_h.ended q end.0 id end.1 end.3 in
        let one : u.0 ≡ part_of g sq = same_part (live_unmerged sq.state.mode alive) in
        let two : w.part ≡ u.0 = one_part script q c w.part u.0 (subst (λ i. IsPart script q i w.part) end.2 w.is_part) u.1 in
        let state : sq.state ≡ u.0.state = sym (ap (λ z. z.state) one ∙ live_unmarked sq.state alive) in
        let a : is_prepared_for id c sq.state.mode ≡ true = ap (λ z. is_prepared_for id c z.mode) state ∙ tests.0 in
        let b : is_paused (own store q) sq.state ≡ true = ap (is_paused (own store q)) (state ∙ ap (λ z. z.state) (sym two)) ∙ w.paused in
        let d : is_next_to s.state.range sq.state.range ≡ true = ap (λ z. is_next_to s.state.range z.range) state ∙ tests.1 in
        grind (arith, a, b, d, broke)

    prepared : u.0.state.mode ≡ mode.Merging id c
    prepared = prepared_mode id c u.0.state.mode tests.0

    -- a source that is merged already was so by this very commit
    merged_source : (t : ℕ) → sq.state.mode ≡ mode.Merged t → ⊥
    merged_source t m =
        let w = settled.ended q sq t made m in
        let one : w.part ≡ u.0 = one_part script q c w.part u.0 (subst (λ i. IsPart script q i w.part) no_further w.is_part) u.1 in
        let into : t ≡ id = cc (w.merging, ap (λ z. z.state.mode) one, prepared) in
        let z = settled.merger q sq t made m in
        let r_is : z.r ≡ s = same_region (g.region t) (g.region id) z.r s z.here (ap g.region into) here in
        let lower : z.k + 1 ≤ s.applied = subst (λ y. z.k + 1 ≤ y.applied) r_is z.below in
        let far : s.applied + 1 ≤ there.0.applied = there.2 in
        let old : Commits script id z.k q c = subst (λ y. Commits script y z.k q c) into (subst (λ i. Commits script t z.k q i) no_further z.commits) in
        let same : z.k ≡ s.applied = settled_h.once id there.0 q c z.k s.applied there.1 (omega arith) far old (commits q c l is v) in
        omega arith

    by_source : (f : StepFault) → commit_with store g id s (body.Commit q c l) q c (Some sq) ≡ Broke f → ⊥
    by_source f broke = by_mode sq.state.mode refl
      where
        by_mode : (m : Mode) → sq.state.mode ≡ m → ⊥
        by_mode mode.Normal m = live_source (ap is_live m) f broke
        by_mode (mode.Merging t k) m = live_source (ap is_live m) f broke
        by_mode mode.Removed m = cc (ap (λ z. z.state.mode) (same_part (ap is_unmerged m)), ap mode_before m, prepared)
        by_mode (mode.Merged t) m = merged_source t m

  by_body : (b : Body) → e.body ≡ b → verdict s.state e ≡ verdicts.Accept → (f : StepFault) → accept store g id s b ≡ Broke f → ⊥
  by_body body.Empty is v f h = cc h
  by_body (body.Write ops) is v f h = cc h
  by_body (body.Split side ids keys) is v f h = cc h
  by_body (body.Prepare t) is v f h = cc h
  by_body (body.Rollback c) is v f h = cc h
  by_body (body.Conf c) is v f h = cc h
  by_body (body.Commit q c l) is v f h = at_source (g.region q) refl h
    where
      merge : merge_of s.state (Some e) ≡ Some (record { source = q; commit = c; carried = l })
      merge = grind (arith, is, v)

      reached : has_applied c (g.region q) ≡ true
      reached = sym (ap (source_is_there g) merge) ∙ (sym (ap (ready_with g s.state) taken) ∙ both.1)

      at_source : (o : Option Made) → g.region q ≡ o → commit_with store g id s (body.Commit q c l) q c o ≡ Broke f → ⊥
      at_source None made w = cc (sym (ap (has_applied c) made) ∙ reached)
      at_source (Some sq) made w = by_source q c l is v sq made (leb-true c sq.applied (sym (ap (has_applied c) made) ∙ reached)) f w

  -- a step that is taken in h too meets no fault
  pub no_fault : (v : Verdict) → verdict s.state e ≡ v → (f : StepFault) → step_by v store g id s e ≡ Broke f → ⊥
  no_fault verdicts.Accept v f h = by_body e.body refl v f h
  no_fault verdicts.BadRollback v f h = cc (sym (ap (λ x. after_by x (found script stepped.1) id (s.applied + 1) (part_of g s) e.body) v) ∙ stepped.2)
  no_fault verdicts.Empty v f h = cc h
  no_fault verdicts.Stale v f h = cc h
  no_fault verdicts.Merging v f h = cc h
  no_fault (verdicts.Outside p) v f h = cc h
  no_fault (verdicts.BadSplit p) v f h = cc h
  no_fault verdicts.BadPeer v f h = cc h
