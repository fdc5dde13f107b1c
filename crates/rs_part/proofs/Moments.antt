-- The part of the canonical order at an index is the part of the script.
use Rattle.std.proofs.Common.{◌≡◌, ℕ, zero, suc, true, cond, Option, Some, None, nat_eq, refl, ap, sym, ◌∙◌, ◌⊎◌, subst, inl, inr}
use Rattle.std.proofs.lemmas.Bool.{cases_eq, eq-eqb, eqb-true}
use Rattle.std.proofs.lemmas.Option.{cond_some}
use Rattle.rs_entry.specs.declared.input.Store.{Store}
use Rattle.rs_store.specs.declared.fault.StepFault.{StepFault}
use Rattle.rs_store.specs.declared.regions.Made.{Made}
use Rattle.rs_store.specs.Stores.{Applied, Broke, Stepped, Went, advance, advance_by, entries_in, first_some, ids_of, is_ready, is_unmerged, least_ready, opening, step}
use Rattle.rs_part.specs.Effects.{Stepping}
use Rattle.rs_part.specs.Parts.{Part, at, first_part, part_if, part_of}
use Rattle.rs_part.specs.Scripts.{IsPart, Script}
use Rattle.rs_part.specs.Sound.{Sound}
use Rattle.rs_part.specs.Telling.{Begins, Tells}
use Rattle.rs_part.proofs.Meeting.{stepping}
use Rattle.rs_part.proofs.Members.{among_find}
use Rattle.rs_part.proofs.Modes.{live_unmerged}
use Rattle.rs_part.proofs.Opening.{opening_normal, opening_sound}
use Rattle.rs_part.proofs.Orders.{step_sound}
use Rattle.rs_part.proofs.Regions.{same_region}

-- one step of the canonical order: nothing changed, or a ready region stepped
pub advance_cases : (script : Script) (store : Store) → Tells script store → (g h : Applied) → Sound script store g → advance store g ≡ Went h
    → (g ≡ h) ⊎ ((id : ℕ) × (Stepping script store g id h) × (Sound script store h))
advance_cases script store tells g h sound e = go (least_ready store g) refl
  where
    go : (o : Option ℕ) → least_ready store g ≡ o → (g ≡ h) ⊎ ((id : ℕ) × (Stepping script store g id h) × (Sound script store h))
    go None o = inl (cc (sym (ap (advance_by store g) o) ∙ e))
    go (Some id) o =
        let ready : is_ready store g id ≡ true = (among_find (is_ready store g) (ids_of store) id o).1 in
        let st : step store g id ≡ Went h = sym (ap (advance_by store g) o) ∙ e in
        inr (id, stepping script store tells g sound id h ready st, step_sound script store tells g sound id h ready st)

-- ---- the part now

-- a region's part is that at the index that it has applied
pub part_now : (id index : ℕ) (g : Applied) (t : Made) → g.region id ≡ Some t → t.applied ≡ index → part_if index g (g.region id) ≡ Some (part_of g t)
part_now id index g t here at = ap (part_if index g) here ∙ ap (λ z. cond z (Some (part_of g t)) None) (eq-eqb t.applied index at)

-- and at no other
pub part_now_cases : (index : ℕ) (g : Applied) (o : Option Made) (v : Part) → part_if index g o ≡ Some v → (t : Made) × (o ≡ Some t) × (t.applied ≡ index) × (part_of g t ≡ v)
part_now_cases index g None v e = absurd cc
part_now_cases index g (Some t) v e = (let w = cond_some (nat_eq t.applied index) (part_of g t) v e in (t, refl, eqb-true t.applied index w.0, w.1))

-- a region that has applied the index isn't merged yet
abbrev IsOwnAt : ℕ → ℕ → Applied → Type 0
IsOwnAt id index g = (t : Made) → g.region id ≡ Some t → t.applied ≡ index → is_unmerged t.state.mode ≡ true

-- where it comes to the index it isn't
own_on : (script : Script) (store : Store) (g h : Applied) (id index x : ℕ) → Stepping script store g x h → ((t : Made) → g.region id ≡ Some t → t.applied ≡ index → ⊥) → IsOwnAt id index h
own_on script store g h id index x w unseen u made at = elim (cases_eq id x) [
  | inl p ↦ ap (λ z. is_unmerged z.state.mode) (same_region (h.region id) (h.region x) u w.effect.mine.0 made (ap h.region p) w.effect.mine.1) ∙ w.effect.mine.3
  | inr ne ↦ go ne (g.region id) refl
]
  where
    go : (id ≡ x → ⊥) → (o : Option Made) → g.region id ≡ o → is_unmerged u.state.mode ≡ true
    go ne None none = live_unmerged u.state.mode (w.effect.new id u ne made none).1
    go ne (Some t) some = elim (w.effect.others id t ne some) [
      | inl s ↦ absurd (unseen t some (ap (λ z. z.applied) (same_region (h.region id) (h.region id) t u s refl made) ∙ at))
      | inr s ↦ absurd (unseen t some (ap (λ z. z.applied) (sym s.2.now) ∙ (ap (λ z. z.applied) (same_region (h.region id) (h.region id) s.0 u s.1 refl made) ∙ at)))
    ]

broke_none : (store : Store) (id index n : ℕ) (f : StepFault) → first_part store id index n (Broke f) ≡ None
broke_none store id index zero f = refl
broke_none store id index (suc n) f = broke_none store id index n f

now_is_part : (script : Script) (store : Store) (id index : ℕ) (g : Applied) → Sound script store g → IsOwnAt id index g → (v : Part) → part_if index g (g.region id) ≡ Some v
    → IsPart script id index v
now_is_part script store id index g sound own v e =
    let w = part_now_cases index g (g.region id) v e in
    subst (λ i. IsPart script id i v) w.2 (subst (λ z. IsPart script id w.0.applied z) w.3 (sound.parts id w.0 w.1 (own w.0 w.1 w.2)))

-- the part that is found first is the script's
first_is_part : (script : Script) (store : Store) → Tells script store → (id index n : ℕ) (g : Applied) → Sound script store g → IsOwnAt id index g → (v : Part)
    → first_part store id index n (Went g) ≡ Some v → IsPart script id index v
first_is_part script store tells id index zero g sound own v e = now_is_part script store id index g sound own v e
first_is_part script store tells id index (suc n) g sound own v e =
    now (part_if index g (g.region id)) refl (λ h s w f. first_is_part script store tells id index n h s w v f)
  where
    now : (o : Option Part) → part_if index g (g.region id) ≡ o
        → ((h : Applied) → Sound script store h → IsOwnAt id index h → first_part store id index n (Went h) ≡ Some v → IsPart script id index v) → IsPart script id index v
    now (Some x) o rest = now_is_part script store id index g sound own v (o ∙ (sym (ap (λ z. first_some z (first_part store id index n (advance store g))) o) ∙ e))
    now None o rest = go (advance store g) refl
      where
        unseen : (t : Made) → g.region id ≡ Some t → t.applied ≡ index → ⊥
        unseen t m i = cc (part_now id index g t m i, o)

        later : first_part store id index n (advance store g) ≡ Some v
        later = sym (ap (λ z. first_some z (first_part store id index n (advance store g))) o) ∙ e

        go : (s : Stepped) → advance store g ≡ s → IsPart script id index v
        go (Broke x) a = absurd (cc (sym (broke_none store id index n x) ∙ (sym (ap (first_part store id index n) a) ∙ later)))
        go (Went h) a = elim (advance_cases script store tells g h sound a) [
          | inl same ↦ rest h (subst (Sound script store) same sound) (λ t m i. absurd (unseen t (ap (λ z. z.region id) same ∙ m) i)) (sym (ap (first_part store id index n) a) ∙ later)
          | inr w ↦ rest h w.2 (own_on script store g h id index w.0 w.1 unseen) (sym (ap (first_part store id index n) a) ∙ later)
        ]

-- the part at an index is the script's, on each store
pub at_is_part : (script : Script) (store : Store) → Tells script store → Begins script store → (id index : ℕ) (v : Part) → at store id index ≡ Some v → IsPart script id index v
unfolding at
at_is_part script store tells begins id index v e =
    first_is_part script store tells id index (entries_in store) (opening store) (opening_sound script store begins) (λ t m i. ap is_unmerged (opening_normal store id t m).1) v e
