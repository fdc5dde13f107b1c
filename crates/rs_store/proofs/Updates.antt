-- Regions that are put back, taken out, or put twice.
use Rattle.std.proofs.Common.{◌≡◌, ℕ, refl, sym, ap, ◌∙◌, List, [], ◌∷◌, ◌++◌}
use Rattle.std.specs.Prelude.{Bool, true, false, Some, None, ◌==◌, if◌then◌else◌}
use Rattle.std.proofs.lemmas.Bool.{eqb-true, eq-eqb}
use mathlib.Core.Path.{fun_ext}
use Rattle.rs_region.specs.declared.state.RegionState.{RegionState}
use Rattle.rs_store.specs.declared.regions.Made.{Made}
use Rattle.rs_store.specs.declared.regions.Origin.{Origin}
use Rattle.rs_store.specs.Stores.{ByRegion, with_region, without, with_regions, born}
use Rattle.rs_store.specs.Runs.{IsLow, IsAllLow}

pub put_over : (f : ByRegion) (id : ℕ) (x y : Made) → with_region (with_region f id x) id y ≡ with_region f id y
put_over f id x y = fun_ext (λ k. go k (k == id)) where
  go : (k : ℕ) (b : Bool) → (if b then Some y else (if b then Some x else f k)) ≡ (if b then Some y else f k)
  go k true = refl
  go k false = refl

pub put_back : (f : ByRegion) (id : ℕ) (x : Made) → f id ≡ Some x → with_region (without f id) id x ≡ f
put_back f id x h = fun_ext (λ k. go k (k == id) refl) where
  go : (k : ℕ) (b : Bool) → (k == id) ≡ b → (if b then Some x else (if b then None else f k)) ≡ f k
  go k true e = sym (ap f (eqb-true k id e) ∙ h)
  go k false e = refl

-- a source that was taken out and put back changed, beside a region that was out
pub put_two : (f : ByRegion) (id source : ℕ) (x q y : Made) → with_region (with_region (with_region f id x) source q) id y ≡ with_region (with_region (without f source) source q) id y
put_two f id source x q y = fun_ext (λ k. go k (k == id) (k == source)) where
  go : (k : ℕ) (b d : Bool) → (if b then Some y else (if d then Some q else (if b then Some x else f k))) ≡ (if b then Some y else (if d then Some q else (if d then None else f k)))
  go k true d = refl
  go k false true = refl
  go k false false = refl

-- a region beside one that is out is found the same with it put back
pub beside : (f : ByRegion) (id source : ℕ) (x q : Made) → f id ≡ None → f source ≡ Some q → with_region f id x source ≡ Some q
beside f id source x q out h = go (source == id) refl where
  go : (b : Bool) → (source == id) ≡ b → (if b then Some x else f source) ≡ Some q
  go true e = let i : f source ≡ f id = ap f (eqb-true source id e) in absurd cc
  go false e = h

-- the last of the new regions may be put first
pub with_last : (f : ByRegion) (xs : List RegionState) (x : RegionState) (origin : Origin)
    → with_regions f (xs ++ x ∷ []) origin ≡ with_regions (with_region f x.region (born x origin)) xs origin
with_last f [] x origin = refl
with_last f (y ∷ xs) x origin = ap (λ g. with_region g y.region (born y origin)) (with_last f xs x origin)

-- with one region out, all others are as low as before
pub rest_low : (f : ByRegion) (id : ℕ) → IsAllLow f → IsAllLow (without f id)
rest_low f id low k r h = go (k == id) h where
  go : (b : Bool) → (if b then None else f k) ≡ Some r → IsLow k r
  go true e = absurd cc
  go false e = low k r e

pub out_is_out : (f : ByRegion) (id : ℕ) → without f id id ≡ None
out_is_out f id = rw (eq-eqb id id refl) refl
