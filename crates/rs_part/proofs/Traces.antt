-- What a step leaves of a region's origin and of its reshapings.
use Rattle.std.proofs.Common.{◌≡◌, ℕ, ◌+◌, Bool, true, false, ◌&&◌, List, [], ◌∷◌, ◌++◌, map, Option, Some, None, refl, ap, sym, ◌∙◌, arith, ◌⊎◌, subst, inl, inr}
use Rattle.std.specs.Prelude.{if◌then◌else◌}
use Rattle.rs_key.specs.Ranges.{is_next_to}
use Rattle.rs_entry.specs.declared.entry.Body.{Body}
use Rattle.rs_entry.specs.declared.entry.Body.TheVariants as body
use Rattle.rs_entry.specs.declared.entry.Carried.{Carried}
use Rattle.rs_entry.specs.declared.entry.Entry.{Entry}
use Rattle.rs_entry.specs.declared.entry.Side.{Side}
use Rattle.rs_entry.specs.declared.input.Store.{Store}
use Rattle.rs_region.specs.Reshapings.{committed, prepared, rolled_back, split_kept, split_new}
use Rattle.rs_region.specs.Verdicts.{verdict}
use Rattle.rs_region.specs.declared.verdict.Verdict.{Verdict}
use Rattle.rs_region.specs.declared.verdict.Verdict.TheVariants as verdicts
use Rattle.rs_region.proofs.CutParts.{all_map}
use Rattle.rs_store.specs.declared.regions.Made.{Made}
use Rattle.rs_store.specs.declared.regions.Origin.TheVariants as origins
use Rattle.rs_store.specs.Stores.{Applied, Went, Wrote, accept, as_merged, born, commit_with, conf_changed, is_accept, is_paused, is_prepared_for, is_reshaping, moved, own, passed, reshaped, step, step_by, step_in, step_with, with_merged, with_new, with_region, wrote}
use Rattle.rs_part.specs.Effects.{Stepping}
use Rattle.rs_part.specs.Scripts.{Script, SplitOff}
use Rattle.rs_part.specs.Telling.{Tells}
use Rattle.rs_part.proofs.Children.{children_born}
use Rattle.rs_part.proofs.Regions.{regions_all, with_region_cases}

-- the indexes of a region's reshapings after its next entry
abbrev pub shapings_after : Made → Entry → List ℕ
shapings_after r e = if is_accept (verdict r.state e) && is_reshaping e.body then r.reshapings ++ (r.applied + 1) ∷ [] else r.reshapings

-- the region that stepped
pub record Mine (id : ℕ) (r : Made) (e : Entry) (x : ℕ) (t : Made) : Type 0 where
  pub same : x ≡ id
  pub applied : t.applied ≡ r.applied + 1
  pub origin : t.origin ≡ r.origin
  pub reshapings : t.reshapings ≡ shapings_after r e

-- a region that was split off
pub record Fresh (script : Script) (id : ℕ) (r : Made) (x : ℕ) (t : Made) : Type 0 where
  pub birth : script.birth x ≡ SplitOff id (r.applied + 1)
  pub applied : t.applied ≡ 5
  pub origin : t.origin ≡ origins.Split id (r.applied + 1)
  pub reshapings : t.reshapings ≡ []

-- a region that was there
pub record Kept (g : Applied) (x : ℕ) (t : Made) : Type 0 where
  pub was : Made
  pub here : g.region x ≡ Some was
  pub applied : t.applied ≡ was.applied
  pub origin : t.origin ≡ was.origin
  pub reshapings : t.reshapings ≡ was.reshapings

-- a region after a step of region id, which was r, by the entry e
abbrev Trace : Script → Applied → ℕ → Made → Entry → ℕ → Made → Type 0
Trace script g id r e x t = Mine id r e x t ⊎ (Fresh script id r x t ⊎ Kept g x t)

-- each region after it
abbrev pub Traces : Script → Applied → ℕ → Made → Entry → Applied → Type 0
Traces script g id r e k = (x : ℕ) (t : Made) → k.region x ≡ Some t → Trace script g id r e x t

module _ (script : Script) (store : Store) (tells : Tells script store) (g : Applied) (id : ℕ) (r : Made) (e : Entry) (told : script.line id (r.applied + 1) ≡ Some e) where
  abbrev To : Applied → Type 0
  To k = Traces script g id r e k

  stays : (x : ℕ) (t : Made) → g.region x ≡ Some t → Trace script g id r e x t
  stays x t h = inr (inr (record { was = t; here = h; applied = refl; origin = refl; reshapings = refl }))

  mine : (n : Made) (x : ℕ) (t : Made) → n.applied ≡ r.applied + 1 → n.origin ≡ r.origin → n.reshapings ≡ shapings_after r e → x ≡ id → n ≡ t → Mine id r e x t
  mine n x t a o s same one = record { same = same; applied = ap (λ z. z.applied) (sym one) ∙ a; origin = ap (λ z. z.origin) (sym one) ∙ o; reshapings = ap (λ z. z.reshapings) (sym one) ∙ s }

  alone : (n : Made) (v : Verdict) (b : Body) (new : List Wrote) → n.applied ≡ r.applied + 1 → n.origin ≡ r.origin → n.reshapings ≡ shapings_after r e → To (moved g id n v b new)
  alone n v b new a o s x t h = elim (with_region_cases g.region id n x t h) [ inl p ↦ inl (mine n x t a o s p.0 p.1) | inr p ↦ stays x t p.1 ]

  unshaped : (is_accept (verdict r.state e) && is_reshaping e.body) ≡ false → r.reshapings ≡ shapings_after r e
  unshaped h = sym (ap (λ c. if c then r.reshapings ++ (r.applied + 1) ∷ [] else r.reshapings) h)

  shaped : (b : Body) → e.body ≡ b → is_reshaping b ≡ true → verdict r.state e ≡ verdicts.Accept → r.reshapings ++ (r.applied + 1) ∷ [] ≡ shapings_after r e
  shaped b is h ok =
      sym (ap (λ c. if c && is_reshaping e.body then r.reshapings ++ (r.applied + 1) ∷ [] else r.reshapings) (ap is_accept ok)
      ∙ ap (λ c. if c then r.reshapings ++ (r.applied + 1) ∷ [] else r.reshapings) (ap is_reshaping is ∙ h))

  plain : (b : Body) → e.body ≡ b → is_reshaping b ≡ false → verdict r.state e ≡ verdicts.Accept → (is_accept (verdict r.state e) && is_reshaping e.body) ≡ false
  plain b is h ok = ap (λ c. c && is_reshaping e.body) (ap is_accept ok) ∙ (ap is_reshaping is ∙ h)

  same_step : (h k : Applied) → Went h ≡ Went k → To h → To k
  same_step h k p f =
      let one : h ≡ k = cc in
      subst To one f

  -- a merge
  joined : (source : ℕ) (q n : Made) (v : Verdict) (b : Body) → g.region source ≡ Some q → n.applied ≡ r.applied + 1 → n.origin ≡ r.origin → n.reshapings ≡ shapings_after r e
      → To (moved (with_merged g source q id) id n v b [])
  joined source q n v b there a o s x t h = elim (with_region_cases (with_region g.region source (as_merged q id)) id n x t h) [
    | inl p ↦ inl (mine n x t a o s p.0 p.1)
    | inr p ↦ elim (with_region_cases g.region source (as_merged q id) x t p.1) [
      | inl w ↦ inr (inr (record {
        was = q;
        here = ap g.region w.0 ∙ there;
        applied = ap (λ z. z.applied) (sym w.1);
        origin = ap (λ z. z.origin) (sym w.1);
        reshapings = ap (λ z. z.reshapings) (sym w.1);
      }))
      | inr w ↦ stays x t w.1
    ]
  ]

  by_source : (source commit : ℕ) (carried : List Carried) → e.body ≡ body.Commit source commit carried → verdict r.state e ≡ verdicts.Accept → (o : Option Made) → g.region source ≡ o
      → (k : Applied) → commit_with store g id r (body.Commit source commit carried) source commit o ≡ Went k → To k
  by_source source commit carried is ok None there k st = absurd cc
  by_source source commit carried is ok (Some q) there k st =
      go (is_prepared_for id commit q.state.mode) refl (is_paused (own store source) q.state) refl (is_next_to r.state.range q.state.range) refl
    where
      go : (a : Bool) → is_prepared_for id commit q.state.mode ≡ a → (b : Bool) → is_paused (own store source) q.state ≡ b → (c : Bool) → is_next_to r.state.range q.state.range ≡ c → To k
      go true a true b true c =
          let one : moved (with_merged g source q id) id (reshaped r (committed r.state q.state)) verdicts.Accept (body.Commit source commit carried) [] ≡ k = grind (arith, a, b, c, st) in
          subst To one
          (joined source q (reshaped r (committed r.state q.state)) verdicts.Accept (body.Commit source commit carried) there refl refl (shaped (body.Commit source commit carried) is refl ok))
      go true a true b false c = absurd (grind (arith, a, b, c, st))
      go true a false b c d = absurd (grind (arith, a, b, st))
      go false a b c d f = absurd (grind (arith, a, st))

  -- a split
  parted : (side : Side) (ids : List ℕ) (keys : List (List ℕ)) → e.body ≡ body.Split side ids keys → verdict r.state e ≡ verdicts.Accept
      → To (with_new (moved g id (reshaped r (split_kept r.state side keys)) verdicts.Accept (body.Split side ids keys) []) (split_new r.state side ids keys) (origins.Split id (r.applied + 1)))
  parted side ids keys is ok =
      regions_all (Trace script g id r e) (with_region g.region id (reshaped r (split_kept r.state side keys))) (origins.Split id (r.applied + 1)) (split_new r.state side ids keys)
      (all_map (λ s. script.birth s.region ≡ SplitOff id (r.applied + 1))
      (λ s. Trace script g id r e s.region (born s (origins.Split id (r.applied + 1))))
      (λ s b. inr (inl (record { birth = b; applied = refl; origin = refl; reshapings = refl })))
      (split_new r.state side ids keys)
      (children_born script store tells id (r.applied + 1) e told r.state side ids keys is))
      (alone (reshaped r (split_kept r.state side keys)) verdicts.Accept (body.Split side ids keys) [] refl refl (shaped (body.Split side ids keys) is refl ok))

  by_body : (b : Body) → e.body ≡ b → verdict r.state e ≡ verdicts.Accept → (k : Applied) → accept store g id r b ≡ Went k → To k
  by_body body.Empty is ok k st = same_step _ k st (alone (passed r) verdicts.Empty body.Empty [] refl refl (unshaped (plain body.Empty is refl ok)))
  by_body (body.Write ops) is ok k st =
      same_step _ k st (alone (passed r) verdicts.Accept (body.Write ops) (map (wrote id (r.applied + 1)) ops) refl refl (unshaped (plain (body.Write ops) is refl ok)))
  by_body (body.Split side ids keys) is ok k st = same_step _ k st (parted side ids keys is ok)
  by_body (body.Prepare target) is ok k st =
      same_step _ k st (alone (reshaped r (prepared r.state target (r.applied + 1))) verdicts.Accept (body.Prepare target) [] refl refl (shaped (body.Prepare target) is refl ok))
  by_body (body.Commit source commit carried) is ok k st = by_source source commit carried is ok (g.region source) refl k st
  by_body (body.Rollback commit) is ok k st =
      same_step _ k st (alone (reshaped r (rolled_back r.state)) verdicts.Accept (body.Rollback commit) [] refl refl (shaped (body.Rollback commit) is refl ok))
  by_body (body.Conf c) is ok k st =
      same_step _ k st (alone (reshaped r (conf_changed store.id r.state c)) verdicts.Accept (body.Conf c) [] refl refl (shaped (body.Conf c) is refl ok))

  refused : (v : Verdict) → verdict r.state e ≡ v → is_accept v ≡ false → To (moved g id (passed r) v e.body [])
  refused v is h = alone (passed r) v e.body [] refl refl (unshaped (ap (λ c. c && is_reshaping e.body) (ap is_accept is ∙ h)))

  by_verdict : (v : Verdict) → verdict r.state e ≡ v → (k : Applied) → step_by v store g id r e ≡ Went k → To k
  by_verdict verdicts.Accept ok k st = by_body e.body refl ok k st
  by_verdict verdicts.BadRollback ok k st = absurd cc
  by_verdict verdicts.Empty ok k st = same_step _ k st (refused verdicts.Empty ok refl)
  by_verdict verdicts.Stale ok k st = same_step _ k st (refused verdicts.Stale ok refl)
  by_verdict verdicts.Merging ok k st = same_step _ k st (refused verdicts.Merging ok refl)
  by_verdict (verdicts.Outside place) ok k st = same_step _ k st (refused (verdicts.Outside place) ok refl)
  by_verdict (verdicts.BadSplit place) ok k st = same_step _ k st (refused (verdicts.BadSplit place) ok refl)
  by_verdict verdicts.BadPeer ok k st = same_step _ k st (refused verdicts.BadPeer ok refl)

-- each region after a step
pub step_traces : (script : Script) (store : Store) → Tells script store → (g k : Applied) (id : ℕ) (w : Stepping script store g id k) → step store g id ≡ Went k → Traces script g id w.r w.e k
step_traces script store tells g k id w st =
    by_verdict script store tells g id w.r w.e w.told (verdict w.r.state w.e) refl k
    (sym (ap (step_with store g id w.r) w.taken) ∙ (sym (ap (step_in store g id) w.here) ∙ st))
