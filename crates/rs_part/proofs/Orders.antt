-- Whatever order a store takes, each unmerged region has its part of the script.
use Rattle.std.proofs.Common.{◌≡◌, ℕ, ◌+◌, Bool, true, false, List, Option, Some, None, refl, ap, sym, ◌∙◌, arith, subst, inl, inr}
use Rattle.std.proofs.lemmas.Bool.{and_parts}
use Rattle.rs_key.specs.Ranges.{is_next_to}
use Rattle.rs_entry.specs.declared.entry.Body.{Body}
use Rattle.rs_entry.specs.declared.entry.Body.TheVariants as body
use Rattle.rs_entry.specs.declared.entry.Carried.{Carried}
use Rattle.rs_entry.specs.declared.entry.Entry.{Entry}
use Rattle.rs_entry.specs.declared.input.Store.{Store}
use Rattle.rs_entry.specs.declared.outcome.Mode.{Mode}
use Rattle.rs_entry.specs.declared.outcome.Mode.TheVariants as mode
use Rattle.rs_region.specs.Verdicts.{verdict}
use Rattle.rs_region.specs.declared.state.RegionState.{RegionState}
use Rattle.rs_region.specs.declared.verdict.Verdict.{Verdict}
use Rattle.rs_region.specs.declared.verdict.Verdict.TheVariants as verdicts
use Rattle.rs_store.specs.Stores.{Applied, Went, accept, commit_with, goes_on, is_live, is_paused, is_prepared_for, is_ready, is_unmerged, next, own, ready_in, ready_with, step, step_by, step_in, step_with}
use Rattle.rs_store.specs.declared.regions.Made.{Made}
use Rattle.rs_part.specs.Parts.{Part, part_of, unmarked}
use Rattle.rs_part.specs.Scripts.{IsPart, Script}
use Rattle.rs_part.specs.Sound.{Removal, Sound}
use Rattle.rs_part.specs.Telling.{Tells}
use Rattle.rs_part.proofs.CommitStep.{by_commit}
use Rattle.rs_part.proofs.Modes.{live_unmarked, unmerged_cases}
use Rattle.rs_part.proofs.Parts.{one_part}
use Rattle.rs_part.proofs.SplitStep.{by_split}
use Rattle.rs_part.proofs.Steps.{Turn, by_conf, by_empty, by_prepare, by_refused, by_rollback, by_write}

module _ (script : Script) (store : Store) (tells : Tells script store) (g : Applied) (id : ℕ) (r : Made) (e : Entry) (turn : Turn script store g id r e) where
  -- two ways to write one step
  same_step : (h k : Applied) → Went h ≡ Went k → Sound script store h → Sound script store k
  same_step h k p s =
      let one : h ≡ k = cc in
      subst (Sound script store) one s

  by_source : (source commit : ℕ) (carried : List Carried) → e.body ≡ body.Commit source commit carried → verdict r.state e ≡ verdicts.Accept
      → (o : Option Made) → g.region source ≡ o → (h : Applied) → commit_with store g id r (body.Commit source commit carried) source commit o ≡ Went h → Sound script store h
  by_source source commit carried is ok None there h st = absurd cc
  by_source source commit carried is ok (Some q) there h st =
      go (is_prepared_for id commit q.state.mode) refl (is_paused (own store source) q.state) refl (is_next_to r.state.range q.state.range) refl
    where
      go : (a : Bool) → is_prepared_for id commit q.state.mode ≡ a → (b : Bool) → is_paused (own store source) q.state ≡ b → (c : Bool) → is_next_to r.state.range q.state.range ≡ c → Sound script store h
      go true a true b true c =
          subst (Sound script store) (grind (arith, a, b, c, st)) (by_commit script store g id r e turn source commit carried is ok q there a b c)
      go true a true b false c = absurd (grind (arith, a, b, c, st))
      go true a false b c d = absurd (grind (arith, a, b, st))
      go false a b c d f = absurd (grind (arith, a, st))

  by_body : (b : Body) → e.body ≡ b → verdict r.state e ≡ verdicts.Accept → (h : Applied) → accept store g id r b ≡ Went h → Sound script store h
  by_body body.Empty is ok h st = same_step _ h st (by_empty script store g id r e turn is ok)
  by_body (body.Write ops) is ok h st = same_step _ h st (by_write script store g id r e turn ops is ok)
  by_body (body.Split side ids keys) is ok h st = same_step _ h st (by_split script store tells g id r e turn side ids keys is ok)
  by_body (body.Prepare target) is ok h st = same_step _ h st (by_prepare script store g id r e turn target is ok)
  by_body (body.Commit source commit carried) is ok h st = by_source source commit carried is ok (g.region source) refl h st
  by_body (body.Rollback commit) is ok h st = same_step _ h st (by_rollback script store g id r e turn commit is ok)
  by_body (body.Conf c) is ok h st = same_step _ h st (by_conf script store g id r e turn c is ok)

  by_verdict : (v : Verdict) → verdict r.state e ≡ v → (h : Applied) → step_by v store g id r e ≡ Went h → Sound script store h
  by_verdict verdicts.Accept ok h st = by_body e.body refl ok h st
  by_verdict verdicts.BadRollback ok h st = absurd cc
  by_verdict verdicts.Empty ok h st = same_step _ h st (by_refused script store g id r e turn verdicts.Empty refl refl ok)
  by_verdict verdicts.Stale ok h st = same_step _ h st (by_refused script store g id r e turn verdicts.Stale refl refl ok)
  by_verdict verdicts.Merging ok h st = same_step _ h st (by_refused script store g id r e turn verdicts.Merging refl refl ok)
  by_verdict (verdicts.Outside place) ok h st = same_step _ h st (by_refused script store g id r e turn (verdicts.Outside place) refl refl ok)
  by_verdict (verdicts.BadSplit place) ok h st = same_step _ h st (by_refused script store g id r e turn (verdicts.BadSplit place) refl refl ok)
  by_verdict verdicts.BadPeer ok h st = same_step _ h st (by_refused script store g id r e turn verdicts.BadPeer refl refl ok)

-- a step of a region that is ready keeps what is sound
pub step_sound : (script : Script) (store : Store) → Tells script store → (g : Applied) → Sound script store g → (id : ℕ) (h : Applied)
    → is_ready store g id ≡ true → step store g id ≡ Went h → Sound script store h
step_sound script store tells g sound id h ready st = at_region (g.region id) refl ready st
  where
    at_entry : (r : Made) → g.region id ≡ Some r → goes_on (own store id) r.state ≡ true → (o : Option Entry) → next store g id r ≡ o → step_with store g id r o ≡ Went h → Sound script store h
    at_entry r here goes None taken s =
        let one : g ≡ h = cc in
        subst (Sound script store) one sound
    at_entry r here goes (Some e) taken s =
        by_verdict script store tells g id r e (record { sound = sound; here = here; goes = goes; told = tells.says g id r e (sound.since id r here) taken }) (verdict r.state e) refl h s

    at_region : (o : Option Made) → g.region id ≡ o → ready_in store g id o ≡ true → step_in store g id o ≡ Went h → Sound script store h
    at_region None here ready s = absurd cc
    at_region (Some r) here ready s =
        at_entry r here (and_parts (goes_on (own store id) r.state) (ready_with g r.state (next store g id r)) ready).0 (next store g id r) refl s

-- two stores, each by an order of its own, agree on the part of an unmerged region that both have brought to one index
pub stores_agree : (script : Script) (one other : Store) (g h : Applied) → Sound script one g → Sound script other h
    → (id : ℕ) (r s : Made) → g.region id ≡ Some r → h.region id ≡ Some s → is_unmerged r.state.mode ≡ true → is_unmerged s.state.mode ≡ true → r.applied ≡ s.applied
    → part_of g r ≡ part_of h s
stores_agree script one other g h a b id r s p q lr ls same =
    one_part script id s.applied (part_of g r) (part_of h s) (subst (λ (i : ℕ). IsPart script id i (part_of g r)) same (a.parts id r p lr)) (b.parts id s q ls)

-- a region that one order marks as removed is marked in any that comes to the same index
mark_agrees : (script : Script) (store : Store) (g h : Applied) → Sound script store g → Sound script store h
    → (id : ℕ) (r s : Made) → g.region id ≡ Some r → h.region id ≡ Some s → r.applied ≡ s.applied → r.state.mode ≡ mode.Removed → is_live s.state.mode ≡ true → ⊥
mark_agrees script store g h a b id r s p q same removed live =
    let w : (k : ℕ) × (r.applied ≡ k + 1) × Removal script store.id id k = a.marked id r p removed in
    b.unmarked id w.0 s q live (sym same ∙ w.1) w.2

-- two orders of one store agree on its state too, mark and all
pub states_agree : (script : Script) (store : Store) (g h : Applied) → Sound script store g → Sound script store h
    → (id : ℕ) (r s : Made) → g.region id ≡ Some r → h.region id ≡ Some s → is_unmerged r.state.mode ≡ true → is_unmerged s.state.mode ≡ true → r.applied ≡ s.applied
    → r.state ≡ s.state
states_agree script store g h a b id r s p q lr ls same = elim (unmerged_cases r.state.mode lr) [
  | inl x ↦ elim (unmerged_cases s.state.mode ls) [
    | inl y ↦ sym (live_unmarked r.state x) ∙ (shown ∙ live_unmarked s.state y)
    | inr y ↦ absurd (mark_agrees script store h g b a id s r q p (sym same) y x)
  ]
  | inr x ↦ elim (unmerged_cases s.state.mode ls) [
    | inl y ↦ absurd (mark_agrees script store g h a b id r s p q same x y)
    | inr y ↦ with_mark (x ∙ sym y)
  ]
]
  where
    shown : unmarked r.state ≡ unmarked s.state
    shown = ap (λ (w : Part). w.state) (stores_agree script store store g h a b id r s p q lr ls same)

    with_mark : r.state.mode ≡ s.state.mode → r.state ≡ s.state
    with_mark m =
        ap (λ (z : Mode). record { region = r.state.region; epoch = r.state.epoch; range = r.state.range; peers = r.state.peers; mode = z }) m
        ∙ ap (λ (z : RegionState). record { region = z.region; epoch = z.epoch; range = z.range; peers = z.peers; mode = s.state.mode }) shown
