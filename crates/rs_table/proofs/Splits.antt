-- The split that made a region is one of its parent's reshapings.
use Rattle.std.proofs.Common.{◌≡◌, ℕ, ◌+◌, Bool, true, false, cond, List, [], ◌∷◌, ◌++◌, Some, refl, ap, sym, ◌∙◌, arith, subst, inl, inr}
use Rattle.std.specs.Prelude.{◌&&◌}
use Rattle.std.specs.List.{AllByRecursion}
use Rattle.std.proofs.lemmas.Bool.{cases_eq}
use Rattle.rs_region.specs.declared.state.RegionState.{RegionState}
use Rattle.rs_region.specs.Verdicts.{verdict}
use Rattle.rs_entry.specs.declared.input.Store.{Store}
use Rattle.rs_store.specs.declared.regions.Made.{Made}
use Rattle.rs_store.specs.declared.regions.Origin.TheVariants as origins
use Rattle.rs_store.specs.Stores.{Applied, Went, born, is_accept, is_reshaping, last, no_regions, opening, step}
use Rattle.rs_part.specs.Counting.{IsAmong}
use Rattle.rs_part.specs.Effects.{Stepping}
use Rattle.rs_part.specs.Scripts.{Script}
use Rattle.rs_part.specs.Sound.{Sound}
use Rattle.rs_part.specs.Telling.{Begins, Tells, boot_states}
use Rattle.rs_part.proofs.Children.{unmade}
use Rattle.rs_part.proofs.Endings.{last_has}
use Rattle.rs_part.proofs.Members.{among_left, among_right}
use Rattle.rs_part.proofs.Regions.{regions_all}
use Rattle.rs_part.proofs.Traces.{Fresh, shapings_after, step_traces}

-- the region has such a reshaping
pub record Shaped (g : Applied) (p index : ℕ) : Type 0 where
  pub r : Made
  pub here : g.region p ≡ Some r
  pub among : IsAmong index r.reshapings

abbrev HasSplits : Applied → Type 0
HasSplits g = (x : ℕ) (t : Made) (p index : ℕ) → g.region x ≡ Some t → t.origin ≡ origins.Split p index → Shaped g p index

opening_splits : (store : Store) → HasSplits (opening store)
opening_splits store x t p index h o = absurd (go x t h o) where
  all_booted : (ss : List RegionState) → AllByRecursion (λ s. (born s origins.Boot).origin ≡ origins.Boot) ss
  all_booted [] = tt
  all_booted (s ∷ ss) = (refl, all_booted ss)

  go : (x : ℕ) (t : Made) → (opening store).region x ≡ Some t → t.origin ≡ origins.Split p index → ⊥
  go x t h o =
      let b : t.origin ≡ origins.Boot = regions_all (λ y r. r.origin ≡ origins.Boot) no_regions origins.Boot (boot_states store.regions) (all_booted (boot_states store.regions)) (λ y r e. absurd cc) x t h in
      cc (b, o)

module _ (script : Script) (store : Store) (tells : Tells script store) (g k : Applied) (id : ℕ) (sound : Sound script store g) (w : Stepping script store g id k) (st : step store g id ≡ Went k) where
  abbrev accepts : Bool
  accepts = is_accept (verdict w.r.state w.e) && is_reshaping w.e.body

  -- the region that stepped, afterwards
  stepped : (n : Made) × (k.region id ≡ Some n) × (n.reshapings ≡ shapings_after w.r w.e)
  stepped =
      let m = w.effect.mine in
      let five = sound.since id w.r w.here in
      let up = m.2 in (
        m.0,
        m.1,
        elim (step_traces script store tells g k id w st id m.0 m.1) [
          | inl t ↦ t.reshapings
          | inr c ↦ elim c [
            | inl f ↦ absurd (let a = f.applied in omega (arith, a, up, five))
            | inr o ↦
                (let same : o.was ≡ w.r = cc (o.here, w.here) in
                let a : m.0.applied ≡ w.r.applied = o.applied ∙ ap (λ z. z.applied) same in
                absurd (omega (arith, a, up)))
          ]
        ],
      )

  kept_among : (b : Bool) (i j : ℕ) (xs : List ℕ) → IsAmong i xs → IsAmong i (cond b (xs ++ j ∷ []) xs)
  kept_among true i j xs h = among_left i xs (j ∷ []) h
  kept_among false i j xs h = h

  -- reshapings stay
  keep : (p index : ℕ) → Shaped g p index → Shaped k p index
  keep p index s = elim (cases_eq p id) [
    | inl e ↦
        (let same : s.r ≡ w.r = cc (s.here, ap g.region e, w.here) in
        let i : IsAmong index w.r.reshapings = subst (λ (z : Made). IsAmong index z.reshapings) same s.among in
        record { r = stepped.0; here = ap k.region e ∙ stepped.1; among = subst (IsAmong index) (sym stepped.2) (kept_among accepts index (w.r.applied + 1) w.r.reshapings i) })
    | inr ne ↦ elim (w.effect.others p s.r ne s.here) [
      | inl h ↦ record { r = s.r; here = h; among = s.among }
      | inr m ↦ record { r = m.0; here = m.1; among = subst (λ (z : Made). IsAmong index z.reshapings) (sym m.2.now) s.among }
    ]
  ]

  added : (b : Bool) → b ≡ true → (i : ℕ) (xs : List ℕ) → IsAmong i (cond b (xs ++ i ∷ []) xs)
  added true e i xs = among_right i xs (i ∷ []) (inl refl)
  added false e i xs = absurd cc

  -- a new region's split is added
  fresh : (x : ℕ) (t : Made) → k.region x ≡ Some t → (f : Fresh script id w.r x t) → Shaped k id (w.r.applied + 1)
  fresh x t h f =
      let none = unmade script store g sound id w.r w.here x f.birth in
      let other : x ≡ id → ⊥ = λ e. cc (none, ap g.region e, w.here) in
      let off = (w.effect.new x t other h none).2 in
      let a : is_accept (verdict w.r.state w.e) ≡ true = ap is_accept off.accepted in
      let b : is_reshaping w.e.body ≡ true = ap is_reshaping off.body in
      let both : accepts ≡ true = ap (λ z. z && is_reshaping w.e.body) a ∙ b in
      record { r = stepped.0; here = stepped.1; among = subst (IsAmong (w.r.applied + 1)) (sym stepped.2) (added accepts both (w.r.applied + 1) w.r.reshapings) }

  pub step_splits : HasSplits g → HasSplits k
  step_splits old x t p index h o = elim (step_traces script store tells g k id w st x t h) [
    | inl m ↦ keep p index (old id w.r p index w.here (sym m.origin ∙ o))
    | inr c ↦ elim c [
      | inl f ↦
          (let same : origins.Split id (w.r.applied + 1) ≡ origins.Split p index = sym f.origin ∙ o in
          let a : id ≡ p = cc same in
          let b : w.r.applied + 1 ≡ index = cc same in
          subst (Shaped k p) b (subst (λ z. Shaped k z (w.r.applied + 1)) a (fresh x t h f)))
      | inr q ↦ keep p index (old x q.was p index q.here (sym q.origin ∙ o))
    ]
  ]

pub last_splits : (script : Script) (store : Store) → Tells script store → Begins script store → (h : Applied) → last store ≡ Went h
    → (x : ℕ) (t : Made) (p index : ℕ) → h.region x ≡ Some t → t.origin ≡ origins.Split p index → Shaped h p index
last_splits script store tells begins h e =
    last_has script store tells begins HasSplits (opening_splits store) (λ g k id sound w st old. step_splits script store tells g k id sound w st old) h e
