-- Each index that a region comes to has a part in the canonical order.
use Rattle.std.proofs.Common.{◌≡◌, ℕ, zero, suc, ◌+◌, ◌≤◌, ◌<◌, Option, Some, None, refl, ap, sym, ◌∙◌, arith, subst, inl, inr}
use Rattle.std.proofs.lemmas.Bool.{cases_eq}
use Rattle.rs_entry.specs.declared.input.Store.{Store}
use Rattle.rs_store.specs.declared.fault.StepFault.{StepFault}
use Rattle.rs_store.specs.declared.regions.Made.{Made}
use Rattle.rs_store.specs.Stores.{Applied, Broke, Stepped, Went, advance, after, entries_in, first_some, last, opening, then_advance}
use Rattle.rs_part.specs.Effects.{Stepping}
use Rattle.rs_part.specs.Parts.{Part, at, first_part, part_if, part_of}
use Rattle.rs_part.specs.Scripts.{Script}
use Rattle.rs_part.specs.Sound.{Sound}
use Rattle.rs_part.specs.Telling.{Begins, Tells}
use Rattle.rs_part.proofs.Moments.{advance_cases, part_now}
use Rattle.rs_part.proofs.Opening.{opening_normal, opening_sound}
use Rattle.rs_part.proofs.Regions.{same_region}

-- n steps on, the first of them first
abbrev run : Store → ℕ → Stepped → Stepped
run store zero s = s
run store (suc n) s = run store n (then_advance store s)

run_then : (store : Store) (n : ℕ) (s : Stepped) → run store n (then_advance store s) ≡ then_advance store (run store n s)
run_then store zero s = refl
run_then store (suc n) s = run_then store n (then_advance store s)

after_is_run : (store : Store) (n : ℕ) → after store n ≡ run store n (Went (opening store))
after_is_run store zero = refl
after_is_run store (suc n) = ap (then_advance store) (after_is_run store n) ∙ sym (run_then store n (Went (opening store)))

run_broke : (store : Store) (n : ℕ) (f : StepFault) → run store n (Broke f) ≡ Broke f
run_broke store zero f = refl
run_broke store (suc n) f = run_broke store n f

-- the region hasn't come past the index
abbrev NotPast : ℕ → ℕ → Applied → Type 0
NotPast id index g = (t : Made) → g.region id ≡ Some t → t.applied ≤ index

-- a step doesn't take it past an index that it hasn't come to
not_past_on : (script : Script) (store : Store) (g h : Applied) (id index x : ℕ) → 5 ≤ index → Stepping script store g x h → ((t : Made) → g.region id ≡ Some t → t.applied < index)
    → NotPast id index h
not_past_on script store g h id index x five w lower u made = elim (cases_eq id x) [
  | inl p ↦ (let one : u ≡ w.effect.mine.0 = same_region (h.region id) (h.region x) u w.effect.mine.0 made (ap h.region p) w.effect.mine.1 in
      let up : w.effect.mine.0.applied ≡ w.r.applied + 1 = w.effect.mine.2 in
      let lt : w.r.applied < index = lower w.r (ap g.region p ∙ w.here) in
      subst (λ z. z.applied ≤ index) (sym one) (omega arith))
  | inr ne ↦ go ne (g.region id) refl
]
  where
    go : (id ≡ x → ⊥) → (o : Option Made) → g.region id ≡ o → u.applied ≤ index
    go ne None none = (let at : u.applied ≡ 5 = (w.effect.new id u ne made none).0 in omega arith)
    go ne (Some t) some =
        let lt : t.applied < index = lower t some in
        let same : t.applied ≡ u.applied = elim (w.effect.others id t ne some) [
          | inl s ↦ ap (λ z. z.applied) (same_region (h.region id) (h.region id) t u s refl made)
          | inr s ↦ ap (λ z. z.applied) (sym s.2.now) ∙ ap (λ z. z.applied) (same_region (h.region id) (h.region id) s.0 u s.1 refl made)
        ] in
        omega arith

-- a region that comes to the index in n steps has its part by then
reached : (script : Script) (store : Store) → Tells script store → (id index n : ℕ) → 5 ≤ index → (g h : Applied) → Sound script store g → NotPast id index g → run store n (Went g) ≡ Went h
    → (r : Made) → h.region id ≡ Some r → index ≤ r.applied → (v : Part) × (first_part store id index n (Went g) ≡ Some v)
reached script store tells id index zero five g h sound past e r here le =
    let same : g ≡ h = cc e in
    let there : g.region id ≡ Some r = ap (λ z. z.region id) same ∙ here in
    let top : r.applied ≤ index = past r there in
    (part_of g r, part_now id index g r there (omega arith))
reached script store tells id index (suc n) five g h sound past e r here le =
    go (part_if index g (g.region id)) refl (λ k s p f. reached script store tells id index n five k h s p f r here le)
  where
    go : (o : Option Part) → part_if index g (g.region id) ≡ o
        → ((k : Applied) → Sound script store k → NotPast id index k → run store n (Went k) ≡ Went h → (v : Part) × (first_part store id index n (Went k) ≡ Some v))
        → (v : Part) × (first_some (part_if index g (g.region id)) (first_part store id index n (advance store g)) ≡ Some v)
    go (Some x) o rest = (x, ap (λ z. first_some z (first_part store id index n (advance store g))) o)
    go None o rest = by_step (advance store g) refl
      where
        lower : (t : Made) → g.region id ≡ Some t → t.applied < index
        lower t m = (let top : t.applied ≤ index = past t m in let other : t.applied ≡ index → ⊥ = (λ i. cc (part_now id index g t m i, o)) in omega arith)

        first : (s : Stepped) → advance store g ≡ s → (v : Part) × (first_part store id index n s ≡ Some v)
            → (v : Part) × (first_some (part_if index g (g.region id)) (first_part store id index n (advance store g)) ≡ Some v)
        first s a w = (w.0, ap (λ z. first_some z (first_part store id index n (advance store g))) o ∙ (ap (first_part store id index n) a ∙ w.1))

        by_step : (s : Stepped) → advance store g ≡ s → (v : Part) × (first_some (part_if index g (g.region id)) (first_part store id index n (advance store g)) ≡ Some v)
        by_step (Broke f) a = absurd (cc (sym (run_broke store n f) ∙ (sym (ap (run store n) a) ∙ e)))
        by_step (Went k) a = first (Went k) a (elim (advance_cases script store tells g k sound a) [
          | inl same ↦ rest k (subst (Sound script store) same sound) (λ t m. past t (ap (λ z. z.region id) same ∙ m)) (sym (ap (run store n) a) ∙ e)
          | inr x ↦ rest k x.2 (not_past_on script store g k id index x.0 five x.1 lower) (sym (ap (run store n) a) ∙ e)
        ])

-- each index up to the last one applied has its part, the last one of a merged or removed region too
pub reached_is_at : (script : Script) (store : Store) → Tells script store → Begins script store → (h : Applied) → last store ≡ Went h → (id : ℕ) (r : Made) → h.region id ≡ Some r
    → (index : ℕ) → 5 ≤ index → index ≤ r.applied → (v : Part) × (at store id index ≡ Some v)
unfolding at
reached_is_at script store tells begins h e id r here index five le =
    reached script store tells id index (entries_in store) five (opening store) h (opening_sound script store begins) start (sym (after_is_run store (entries_in store)) ∙ e) r here le
  where
    start : NotPast id index (opening store)
    start t m = (let w : t.applied ≡ 5 = (opening_normal store id t m).0 in omega arith)
