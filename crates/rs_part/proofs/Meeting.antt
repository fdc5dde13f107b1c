-- Two orders of one store that both run until nothing is ready bring each region to the same index.
use Rattle.std.proofs.Common.{◌≡◌, ℕ, ◌+◌, ◌≤◌, ◌<◌, ◌==◌, Bool, true, false, cond, List, [], ◌∷◌, Option, Some, None, refl, ap, sym, ◌∙◌, arith, ◌⊎◌, subst, inl, inr}
use Rattle.std.specs.List.{find}
use Rattle.std.proofs.lemmas.Bool.{both_ways, cases_eq, cases_lt, and_parts, and_from, leb-true, le-leb, eqb-true}
use Rattle.rs_entry.specs.Entries.{body_of, entry_of}
use Rattle.rs_entry.specs.declared.entry.Body.{Body}
use Rattle.rs_entry.specs.declared.entry.Body.TheVariants as body
use Rattle.rs_entry.specs.declared.entry.Carried.{Carried}
use Rattle.rs_entry.specs.declared.entry.CarriedBody.{CarriedBody}
use Rattle.rs_entry.specs.declared.entry.CarriedBody.TheVariants as carried
use Rattle.rs_entry.specs.declared.entry.Entry.{Entry}
use Rattle.rs_entry.specs.declared.input.Store.{Store}
use Rattle.rs_entry.specs.declared.outcome.Mode.{Mode}
use Rattle.rs_entry.specs.declared.outcome.Mode.TheVariants as mode
use Rattle.rs_region.specs.Verdicts.{verdict}
use Rattle.rs_region.specs.declared.state.RegionState.{RegionState}
use Rattle.rs_region.specs.declared.verdict.Verdict.TheVariants as verdicts
use Rattle.rs_region.proofs.CutParts.{all_map}
use Rattle.rs_store.specs.declared.regions.Made.{Made}
use Rattle.rs_store.specs.Stores.{Applied, Merge, Went, carried_at, carried_next, first_some, goes_on, has_applied, ids_of, is_accept, is_live, is_paused, is_ready, is_unmerged, merge_in, merge_of, next, own, own_next, ready_in, ready_with, source_is_there, stands, stands_in, step, step_in, step_with}
use Rattle.rs_store.proofs.Verdicts.{accept_is, no_merge_of}
use Rattle.rs_part.specs.Effects.{Below, Effect, SplitsOff, Stepping}
use Rattle.rs_part.specs.Orders.{End, IsDone, follow}
use Rattle.rs_part.specs.Parts.{part_of}
use Rattle.rs_part.specs.Scripts.{IsPart, Script}
use Rattle.rs_part.specs.Settled.{Commits, IsMade, Settled}
use Rattle.rs_part.specs.Sound.{Sound}
use Rattle.rs_part.specs.Telling.{Tells}
use Rattle.rs_part.proofs.Effects.{effect_of}
use Rattle.rs_part.proofs.Following.{Keeps, order_keeps}
use Rattle.rs_part.proofs.Modes.{goes_awake, goes_live, live_unmarked, live_unmerged}
use Rattle.rs_part.proofs.Orders.{states_agree, step_sound}
use Rattle.rs_part.proofs.Parts.{one_part}
use Rattle.rs_part.proofs.Regions.{same_region}
use Rattle.rs_part.proofs.Settled.{step_settled}

-- ---- a carried entry is no commit

carried_plain : (b : CarriedBody) → merge_in (body_of b) ≡ None
carried_plain carried.Empty = refl
carried_plain (carried.Write ops) = refl
carried_plain (carried.Prepare target) = refl

plain_at : (id index : ℕ) (o : Option Merge) (e : Entry) → carried_at id index o ≡ Some e → merge_in e.body ≡ None
plain_at id index None e h = absurd cc
plain_at id index (Some m) e h = go (m.source == id) refl (find (λ c. c.index == index) m.carried) refl
  where
    go : (b : Bool) → (m.source == id) ≡ b → (o : Option Carried) → find (λ c. c.index == index) m.carried ≡ o → merge_in e.body ≡ None
    go true b None o = absurd (grind (arith, b, o, h))
    go true b (Some c) o = (let one : entry_of c ≡ e = grind (arith, b, o, h) in subst (λ (x : Entry). merge_in x.body ≡ None) one (carried_plain c.body))
    go false b w o = absurd (grind (arith, b, h))

plain_next : (store : Store) (g : Applied) (ids : List ℕ) (id index : ℕ) (e : Entry) → carried_next store g ids id index ≡ Some e → merge_in e.body ≡ None
plain_next store g [] id index e h = absurd cc
plain_next store g (t ∷ ts) id index e h = go (carried_at id index (stands store g t)) refl (plain_next store g ts id index e)
  where
    go : (o : Option Entry) → carried_at id index (stands store g t) ≡ o → (carried_next store g ts id index ≡ Some e → merge_in e.body ≡ None) → merge_in e.body ≡ None
    go None o rest = rest (sym (ap (λ z. first_some z (carried_next store g ts id index)) o) ∙ h)
    go (Some z) o rest = plain_at id index (stands store g t) e (o ∙ (sym (ap (λ z. first_some z (carried_next store g ts id index)) o) ∙ h))

-- what is carried for a region is of a merge with that source
source_is : (id index : ℕ) (o : Option Merge) (e : Entry) → carried_at id index o ≡ Some e → (m : Merge) × (o ≡ Some m) × (m.source ≡ id)
source_is id index None e h = absurd cc
source_is id index (Some m) e h = go (m.source == id) refl
  where
    go : (b : Bool) → (m.source == id) ≡ b → (x : Merge) × (Some m ≡ Some x) × (x.source ≡ id)
    go true b = (m, refl, eqb-true m.source id b)
    go false b = absurd (grind (arith, b, h))

-- ---- the merge that a region stands before

commit_is : (b : Body) (m : Merge) → merge_in b ≡ Some m → b ≡ body.Commit m.source m.commit m.carried
commit_is (body.Commit q c l) m e = ap (λ z. body.Commit z.source z.commit z.carried) one
  where
    one : record { source = q; commit = c; carried = l } ≡ m
    one = cc
commit_is body.Empty m e = absurd cc
commit_is (body.Write ops) m e = absurd cc
commit_is (body.Split side ids keys) m e = absurd cc
commit_is (body.Prepare t) m e = absurd cc
commit_is (body.Rollback c) m e = absurd cc
commit_is (body.Conf c) m e = absurd cc

-- it is that of an accepted commit
pub merge_is : (s : RegionState) (o : Option Entry) (m : Merge) → merge_of s o ≡ Some m
    → (e : Entry) × (o ≡ Some e) × (verdict s e ≡ verdicts.Accept) × (e.body ≡ body.Commit m.source m.commit m.carried)
merge_is s None m h = absurd cc
merge_is s (Some e) m h = go (is_accept (verdict s e)) refl
  where
    go : (b : Bool) → is_accept (verdict s e) ≡ b → (x : Entry) × (Some e ≡ Some x) × (verdict s x ≡ verdicts.Accept) × (x.body ≡ body.Commit m.source m.commit m.carried)
    go true b = (e, refl, accept_is (verdict s e) b, commit_is e.body m (grind (arith, b, h)))
    go false b = absurd (grind (arith, b, h))

some_first : (a b : Option Entry) → (e : Entry) × (b ≡ Some e) → (e : Entry) × (first_some a b ≡ Some e)
some_first None b w = w
some_first (Some a) b w = (a, refl)

module _ (script : Script) (store : Store) (tells : Tells script store)
    (g h : Applied) (sound : Sound script store g) (sound_h : Sound script store h) (settled_h : Settled script store h)
    (done : IsDone store h) (below : Below g h) where
  own_part : (x : ℕ) (s : Made) → g.region x ≡ Some s → goes_on (own store x) s.state ≡ true → IsPart script x s.applied (part_of g s)
  own_part x s p goes = sound.parts x s p (live_unmerged s.state.mode (goes_live (own store x) s.state goes))

  -- a region that goes on in g, and has come no further in h, is the same there
  same_state : (x : ℕ) (s r : Made) → g.region x ≡ Some s → h.region x ≡ Some r → s.applied ≡ r.applied → goes_on (own store x) s.state ≡ true → r.state ≡ s.state
  same_state x s r p q at goes = go r.state.mode refl
    where
      live : is_live s.state.mode ≡ true
      live = goes_live (own store x) s.state goes

      both : is_unmerged r.state.mode ≡ true → r.state ≡ s.state
      both u = states_agree script store h g sound_h sound x r s q p u (live_unmerged s.state.mode live) (sym at)

      go : (m : Mode) → r.state.mode ≡ m → r.state ≡ s.state
      go mode.Normal m = both (ap is_unmerged m)
      go (mode.Merging t c) m = both (ap is_unmerged m)
      go mode.Removed m = both (ap is_unmerged m)
      go (mode.Merged t) m =
          let w = settled_h.ended x r t q m in
          let one : w.part ≡ part_of g s = one_part script x r.applied w.part (part_of g s) w.is_part (subst (λ i. IsPart script x i (part_of g s)) at (own_part x s p goes)) in
          let state : s.state ≡ w.part.state = sym (ap (λ v. v.state) one ∙ live_unmarked s.state live) in
          absurd (both_ways (is_paused (own store x) s.state) (goes_awake (own store x) s.state goes) (ap (is_paused (own store x)) state ∙ w.paused))

  -- a merge that waits in g for a region that has come no further in h waits for it there too
  stands_same : (id : ℕ) (s r : Made) → g.region id ≡ Some s → h.region id ≡ Some r → s.applied ≡ r.applied → goes_on (own store id) s.state ≡ true
      → (t : ℕ) (m : Merge) → stands store g t ≡ Some m → m.source ≡ id → stands store h t ≡ Some m
  stands_same id s r p q at goes t m st source = at_region (g.region t) refl st
    where
      at_region : (o : Option Made) → g.region t ≡ o → stands_in (own store t) o ≡ Some m → stands store h t ≡ Some m
      at_region None here st' = absurd cc
      at_region (Some u) here st' = by_goes (goes_on (own store t) u.state) refl
        where
          compared : (rt : Made) → h.region t ≡ Some rt → u.applied ≤ rt.applied → goes_on (own store t) u.state ≡ true → merge_of u.state (own_next (own store t) u.applied) ≡ Some m
              → (u.applied < rt.applied) ⊎ (rt.applied ≤ u.applied) → stands store h t ≡ Some m
          compared rt there le go_u mo (inr ge) =
              let eq : u.applied ≡ rt.applied = omega arith in
              let same : rt.state ≡ u.state = same_state t u rt here there eq go_u in
              ap (stands_in (own store t)) there
              ∙ (ap (λ b. cond b (merge_of rt.state (own_next (own store t) rt.applied)) None) (ap (goes_on (own store t)) same ∙ go_u)
              ∙ (ap (λ z. merge_of z (own_next (own store t) rt.applied)) same
              ∙ (ap (λ i. merge_of u.state (own_next (own store t) i)) (sym eq) ∙ mo)))
          compared rt there le go_u mo (inl lt) =
              let w = merge_is u.state (own_next (own store t) u.applied) m mo in
              let five : 5 ≤ u.applied = sound.since t u here in
              let told : script.line t (u.applied + 1) ≡ Some w.0 = tells.says g t u w.0 five (ap (λ o. first_some o (carried_next store g (ids_of store) t (u.applied + 1))) w.1) in
              let commits : Commits script t u.applied m.source m.commit = record {
                past = five;
                part = part_of g u;
                entry = w.0;
                carried = m.carried;
                is_part = own_part t u here go_u;
                line = told;
                body = w.3;
                accepted = ap (λ z. verdict z w.0) (live_unmarked u.state (goes_live (own store t) u.state go_u)) ∙ w.2;
              } in
              let n = settled_h.merged t rt u.applied m.source m.commit there (omega arith) commits in
              let one : r ≡ n.0 = same_region (h.region id) (h.region m.source) r n.0 q (ap h.region (sym source)) n.1 in
              absurd (both_ways (is_live r.state.mode) (ap (λ z. is_live z.state.mode) one ∙ ap is_live n.3)
              (ap (λ z. is_live z.mode) (same_state id s r p q at goes) ∙ goes_live (own store id) s.state goes))

          by_goes : (b : Bool) → goes_on (own store t) u.state ≡ b → stands store h t ≡ Some m
          by_goes true b = (let w = below t u here in compared w.0 w.1 w.2 b (grind (arith, b, st')) (cases_lt u.applied w.0.applied))
          by_goes false b = absurd (grind (arith, b, st'))

  -- what is carried for a region that has come no further in h is carried for it there too
  carried_there : (id : ℕ) (s r : Made) → g.region id ≡ Some s → h.region id ≡ Some r → s.applied ≡ r.applied → goes_on (own store id) s.state ≡ true
      → (ids : List ℕ) (e : Entry) → carried_next store g ids id (s.applied + 1) ≡ Some e → (f : Entry) × (carried_next store h ids id (r.applied + 1) ≡ Some f)
  carried_there id s r p q at goes [] e c = absurd cc
  carried_there id s r p q at goes (t ∷ ts) e c = go (carried_at id (s.applied + 1) (stands store g t)) refl (carried_there id s r p q at goes ts e)
    where
      go : (o : Option Entry) → carried_at id (s.applied + 1) (stands store g t) ≡ o
          → (carried_next store g ts id (s.applied + 1) ≡ Some e → (f : Entry) × (carried_next store h ts id (r.applied + 1) ≡ Some f))
          → (f : Entry) × (carried_next store h (t ∷ ts) id (r.applied + 1) ≡ Some f)
      go None o rest = some_first (carried_at id (r.applied + 1) (stands store h t)) (carried_next store h ts id (r.applied + 1))
          (rest (sym (ap (λ z. first_some z (carried_next store g ts id (s.applied + 1))) o) ∙ c))
      go (Some x) o rest =
          let m = source_is id (s.applied + 1) (stands store g t) x o in
          let same : stands store h t ≡ stands store g t = stands_same id s r p q at goes t m.0 m.1 m.2 ∙ sym m.1 in (
            x,
            ap (λ z. first_some z (carried_next store h ts id (r.applied + 1)))
                (ap (λ i. carried_at id (i + 1) (stands store h t)) (sym at) ∙ (ap (carried_at id (s.applied + 1)) same ∙ o)),
          )

  -- a merge that may go on in g may go on in h
  source_there : (o : Option Merge) → source_is_there g o ≡ true → source_is_there h o ≡ true
  source_there None e = refl
  source_there (Some m) e = at_source (g.region m.source) refl e
    where
      at_source : (o : Option Made) → g.region m.source ≡ o → has_applied m.commit o ≡ true → has_applied m.commit (h.region m.source) ≡ true
      at_source None there w = absurd cc
      at_source (Some q) there w =
          let b = below m.source q there in
          let le : m.commit ≤ q.applied = leb-true m.commit q.applied w in
          let more : q.applied ≤ b.0.applied = b.2 in
          ap (has_applied m.commit) b.1 ∙ le-leb m.commit b.0.applied (omega arith)

  -- so what is ready in g and has come no further in h would be ready in h
  pub no_end : (id : ℕ) (s r : Made) → g.region id ≡ Some s → h.region id ≡ Some r → s.applied ≡ r.applied → is_ready store g id ≡ true → ⊥
  no_end id s r p q at ready = by_entry (next store g id s) refl
    where
      both : (goes_on (own store id) s.state ≡ true) × (ready_with g s.state (next store g id s) ≡ true)
      both = and_parts (goes_on (own store id) s.state) (ready_with g s.state (next store g id s)) (sym (ap (ready_in store g id) p) ∙ ready)

      same : r.state ≡ s.state
      same = same_state id s r p q at both.0

      not_ready : ready_with h r.state (next store h id r) ≡ true → ⊥
      not_ready w = both_ways (is_ready store h id) (done id)
          (ap (ready_in store h id) q ∙ and_from (goes_on (own store id) r.state) (ready_with h r.state (next store h id r)) (ap (goes_on (own store id)) same ∙ both.0) w)

      by_own : (e : Entry) → next store g id s ≡ Some e → (o : Option Entry) → own_next (own store id) s.applied ≡ o → ⊥
      by_own e taken (Some x) mine =
          let n : next store h id r ≡ Some x = ap (λ o. first_some o (carried_next store h (ids_of store) id (r.applied + 1))) (ap (own_next (own store id)) (sym at) ∙ mine) in
          let n_g : next store g id s ≡ Some x = ap (λ o. first_some o (carried_next store g (ids_of store) id (s.applied + 1))) mine in
          not_ready (ap (ready_with h r.state) n
          ∙ source_there (merge_of r.state (Some x)) (ap (λ z. source_is_there g (merge_of z (Some x))) same ∙ (sym (ap (ready_with g s.state) n_g) ∙ both.1)))
      by_own e taken None mine =
          let c : carried_next store g (ids_of store) id (s.applied + 1) ≡ Some e = sym (ap (λ o. first_some o (carried_next store g (ids_of store) id (s.applied + 1))) mine) ∙ taken in
          let f = carried_there id s r p q at both.0 (ids_of store) e c in
          let n : next store h id r ≡ Some f.0 = ap (λ o. first_some o (carried_next store h (ids_of store) id (r.applied + 1))) (ap (own_next (own store id)) (sym at) ∙ mine) ∙ f.1 in
          let plain : None ≡ merge_of r.state (Some f.0) = no_merge_of r.state f.0 (sym (plain_next store h (ids_of store) id (r.applied + 1) f.0 f.1)) in
          not_ready (ap (ready_with h r.state) n ∙ ap (source_is_there h) (sym plain))

      by_entry : (o : Option Entry) → next store g id s ≡ o → ⊥
      by_entry None taken = absurd (cc (sym (ap (ready_with g s.state) taken) ∙ both.1))
      by_entry (Some e) taken = by_own e taken (own_next (own store id) s.applied) refl

  -- a step of g doesn't take it past h
  pub below_step : (id : ℕ) (s : Made) → g.region id ≡ Some s → is_ready store g id ≡ true → (e : Entry) → script.line id (s.applied + 1) ≡ Some e
      → (k : Applied) → Effect store g id s e k → Below k h
  below_step id s p ready e told k effect x n made = elim (cases_eq x id) [ inl w ↦ stepped w (below id s p) | inr ne ↦ other ne ]
    where
      goes : goes_on (own store id) s.state ≡ true
      goes = (and_parts (goes_on (own store id) s.state) (ready_with g s.state (next store g id s)) (sym (ap (ready_in store g id) p) ∙ ready)).0

      further : (r : Made) → h.region id ≡ Some r → s.applied ≤ r.applied → s.applied + 1 ≤ r.applied
      further r q le = elim (cases_lt s.applied r.applied) [ inl lt ↦ omega arith | inr ge ↦ absurd (no_end id s r p q (omega arith) ready) ]

      stepped : x ≡ id → (r : Made) × (h.region id ≡ Some r) × (s.applied ≤ r.applied) → (r : Made) × (h.region x ≡ Some r) × (n.applied ≤ r.applied)
      stepped w b =
          let top : n.applied ≡ s.applied + 1 = ap (λ z. z.applied) (same_region (k.region x) (k.region id) n effect.mine.0 made (ap k.region w) effect.mine.1) ∙ effect.mine.2 in
          let far : s.applied + 1 ≤ b.0.applied = further b.0 b.1 b.2 in
          (b.0, ap h.region w ∙ b.1, omega arith)

      -- a region that the step splits off is made in h, where the split was applied too
      born_there : (5 ≡ n.applied) → SplitsOff s e x → (o : Option Made) → h.region x ≡ o → (r : Made) × (h.region x ≡ Some r) × (n.applied ≤ r.applied)
      born_there five split (Some r) some = (r, some, (let since : 5 ≤ r.applied = sound_h.since x r some in omega (arith, five)))
      born_there five split None none =
          let b = below id s p in
          let all = settled_h.children id b.0 s.applied (part_of g s) e split.side split.ids split.keys b.1 (sound.since id s p) (further b.0 b.1 b.2) (own_part id s p goes) told split.body
          (ap (λ z. verdict z e) (live_unmarked s.state (goes_live (own store id) s.state goes)) ∙ split.accepted) in
          absurd (split.among (all_map (IsMade h) (λ d. d ≡ x → ⊥) (λ d m w. cc (m.1, none, ap h.region w)) split.ids all))

      other : (x ≡ id → ⊥) → (r : Made) × (h.region x ≡ Some r) × (n.applied ≤ r.applied)
      other ne = go (g.region x) refl
        where
          go : (o : Option Made) → g.region x ≡ o → (r : Made) × (h.region x ≡ Some r) × (n.applied ≤ r.applied)
          go (Some t) some =
              let b = below x t some in
              let same : n.applied ≡ t.applied = elim (effect.others x t ne some) [
                | inl w ↦ ap (λ z. z.applied) (same_region (k.region x) (k.region x) n t made refl w)
                | inr w ↦ ap (λ z. z.applied) (same_region (k.region x) (k.region x) n w.0 made refl w.1) ∙ ap (λ z. z.applied) w.2.now
              ] in
              let le : t.applied ≤ b.0.applied = b.2 in
              (b.0, b.1, omega arith)
          go None none = (let w = effect.new x n ne made none in born_there (sym w.0) w.2 (h.region x) refl)

-- what a step of a ready region is
pub stepping : (script : Script) (store : Store) → Tells script store → (g : Applied) → Sound script store g → (id : ℕ) (k : Applied) → is_ready store g id ≡ true → step store g id ≡ Went k
    → Stepping script store g id k
stepping script store tells g sound id k ready st = at_region (g.region id) refl ready st
  where
    at_region : (o : Option Made) → g.region id ≡ o → ready_in store g id o ≡ true → step_in store g id o ≡ Went k → Stepping script store g id k
    at_region None here w s = absurd cc
    at_region (Some r) here w s = at_entry (next store g id r) refl (and_parts (goes_on (own store id) r.state) (ready_with g r.state (next store g id r)) w) s
      where
        at_entry : (o : Option Entry) → next store g id r ≡ o → (goes_on (own store id) r.state ≡ true) × (ready_with g r.state (next store g id r) ≡ true) → step_with store g id r o ≡ Went k
            → Stepping script store g id k
        at_entry None taken w s = absurd (cc (sym (ap (ready_with g r.state) taken) ∙ w.1))
        at_entry (Some e) taken w s = record {
          r = r;
          e = e;
          here = here;
          live = goes_live (own store id) r.state w.0;
          goes = w.0;
          taken = taken;
          told = tells.says g id r e (sound.since id r here) taken;
          effect = effect_of script store tells g sound id r here w.0 e taken (verdict r.state e) refl k s;
        }

-- a store that is sound and settled is so after any order
order_settled : (script : Script) (store : Store) → Tells script store → (order : List ℕ) (place : ℕ) (g h : Applied) → Sound script store g × Settled script store g → follow store place order g ≡ End h
    → Sound script store h × Settled script store h
order_settled script store tells = order_keeps store (λ k. Sound script store k × Settled script store k) keeps
  where
    keeps : Keeps store (λ k. Sound script store k × Settled script store k)
    keeps g k id ready st was =
        let w = stepping script store tells g was.0 id k ready st in
        (step_sound script store tells g was.0 id k ready st, step_settled script store g was.0 was.1 id w.r w.here w.live w.e w.told k w.effect)

-- no order takes a region past where another order has ended
order_below : (script : Script) (store : Store) → Tells script store → (h : Applied) → Sound script store h × Settled script store h → IsDone store h
    → (order : List ℕ) (place : ℕ) (g k : Applied) → Sound script store g × Below g h → follow store place order g ≡ End k → Sound script store k × Below k h
order_below script store tells h end done = order_keeps store (λ k. Sound script store k × Below k h) keeps
  where
    keeps : Keeps store (λ k. Sound script store k × Below k h)
    keeps g k id ready st was =
        let w = stepping script store tells g was.0 id k ready st in
        (step_sound script store tells g was.0 id k ready st, below_step script store tells g h was.0 end.0 end.1 done was.1 id w.r w.here ready w.e w.told k w.effect)

-- two orders of one store that run until nothing is ready end with the same regions at the same indexes
pub orders_meet : (script : Script) (store : Store) → Tells script store → (g : Applied) → Sound script store g → Settled script store g
    → (one other : List ℕ) (h k : Applied) → follow store 1 one g ≡ End h → IsDone store h → follow store 1 other g ≡ End k → IsDone store k → Below g h → Below g k → Below h k × Below k h
orders_meet script store tells g sound settled one other h k to_h done_h to_k done_k g_h g_k =
    let a = order_settled script store tells one 1 g h (sound, settled) to_h in
    let b = order_settled script store tells other 1 g k (sound, settled) to_k in
    ((order_below script store tells k b done_k one 1 g h (sound, g_k) to_h).1, (order_below script store tells h a done_h other 1 g k (sound, g_h) to_k).1)
