-- Regions by id, of which one is put or several are new.
use Rattle.std.proofs.Common.{◌≡◌, ℕ, ◌≤◌, ◌==◌, Bool, true, false, cond, List, [], ◌∷◌, Option, Some, refl, ap, sym, ◌∙◌, arith, ◌⊎◌, subst, inl, inr}
use Rattle.std.specs.List.{AllByRecursion}
use Rattle.std.proofs.lemmas.Bool.{eqb-true, eqb-false, eq-eqb, ne_eqb}
use Rattle.rs_region.specs.declared.state.RegionState.{RegionState}
use Rattle.rs_store.specs.Stores.{ByRegion, born, with_region, with_regions}
use Rattle.rs_store.specs.declared.regions.Made.{Made}
use Rattle.rs_store.specs.declared.regions.Origin.{Origin}

-- what is found in one place is one region
pub same_region : (a b : Option Made) (r s : Made) → a ≡ Some r → a ≡ b → b ≡ Some s → r ≡ s
same_region a b r s e f h = cc (e, f, h)

-- the region that was put is found
pub with_region_same : (f : ByRegion) (id : ℕ) (r : Made) → with_region f id r id ≡ Some r
with_region_same f id r = ap (λ (b : Bool). cond b (Some r) (f id)) (eq-eqb id id refl)

-- any other is what it was
pub with_region_other : (f : ByRegion) (id : ℕ) (r : Made) (x : ℕ) → (x ≡ id → ⊥) → with_region f id r x ≡ f x
with_region_other f id r x ne = ap (λ (b : Bool). cond b (Some r) (f x)) (ne_eqb x id ne)

-- what is found is the region that was put, or was there
pub with_region_cases : (f : ByRegion) (id : ℕ) (r : Made) (x : ℕ) (s : Made) → with_region f id r x ≡ Some s → ((x ≡ id) × (r ≡ s)) ⊎ ((x ≡ id → ⊥) × (f x ≡ Some s))
with_region_cases f id r x s e = go (x == id) refl
  where
    go : (b : Bool) → (x == id) ≡ b → ((x ≡ id) × (r ≡ s)) ⊎ ((x ≡ id → ⊥) × (f x ≡ Some s))
    go true h = inl (eqb-true x id h, grind (arith, h, e))
    go false h = inr (eqb-false x id h, grind (arith, h, e))

-- what holds of the region that was put, and of the others, holds of all
pub with_region_each : (f : ByRegion) (id : ℕ) (n : Made) (Q : ℕ → Made → Type 0) → Q id n → ((x : ℕ) (t : Made) → (x ≡ id → ⊥) → f x ≡ Some t → Q x t)
    → (x : ℕ) (t : Made) → with_region f id n x ≡ Some t → Q x t
with_region_each f id n Q put rest x t e = elim (with_region_cases f id n x t e) [
  | inl p ↦ subst (λ (z : Made). Q x z) p.1 (subst (λ (y : ℕ). Q y n) (sym p.0) put)
  | inr p ↦ rest x t p.0 p.1
]

-- what was made stays made, and its applied index doesn't fall
pub with_region_keeps : (f : ByRegion) (id : ℕ) (r n : Made) (x : ℕ) (t : Made) → f id ≡ Some r → r.applied ≤ n.applied → f x ≡ Some t
    → (u : Made) × (with_region f id n x ≡ Some u) × (t.applied ≤ u.applied)
with_region_keeps f id r n x t here le e = go (x == id) refl
  where
    go : (b : Bool) → (x == id) ≡ b → (u : Made) × (with_region f id n x ≡ Some u) × (t.applied ≤ u.applied)
    go true h =
        let one : t ≡ r = same_region (f x) (f id) t r e (ap f (eqb-true x id h)) here in
        (n, grind (arith, h), subst (λ (z : Made). z.applied ≤ n.applied) (sym one) le)
    go false h = (t, grind (arith, h, e), omega arith)

-- what holds of the new regions and of those that were there holds of all
pub regions_all : (Q : ℕ → Made → Type 0) (f : ByRegion) (origin : Origin) (ss : List RegionState) → AllByRecursion (λ s. Q s.region (born s origin)) ss
    → ((x : ℕ) (t : Made) → f x ≡ Some t → Q x t) → (x : ℕ) (t : Made) → with_regions f ss origin x ≡ Some t → Q x t
regions_all Q f origin [] all old x t e = old x t e
regions_all Q f origin (s ∷ ss) all old x t e =
    with_region_each (with_regions f ss origin) s.region (born s origin) Q all.0 (λ y z ne h. regions_all Q f origin ss all.1 old y z h) x t e

-- where no new region has the id, what was there is there
pub regions_other : (f : ByRegion) (origin : Origin) (ss : List RegionState) (x : ℕ) → AllByRecursion (λ s. x ≡ s.region → ⊥) ss → with_regions f ss origin x ≡ f x
regions_other f origin [] x h = refl
regions_other f origin (s ∷ ss) x h = with_region_other (with_regions f ss origin) s.region (born s origin) x h.0 ∙ regions_other f origin ss x h.1
