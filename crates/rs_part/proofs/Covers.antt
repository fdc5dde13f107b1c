-- After any steps exactly one unmerged region holds each key that a bootstrap region held, and no other key is held.
use Rattle.std.proofs.Common.{◌≡◌, ℕ, true, List, [], ◌∷◌, Some, refl, sym, subst, inl, inr}
use Rattle.std.specs.List.{AllByRecursion}
use Rattle.std.proofs.lemmas.Bool.{cases_eq}
use Rattle.rs_key.specs.Ranges.{holds}
use Rattle.rs_entry.specs.declared.input.Boot.{Boot}
use Rattle.rs_entry.specs.declared.input.Store.{Store}
use Rattle.rs_region.specs.Reshapings.{boot}
use Rattle.rs_store.specs.declared.regions.Origin.TheVariants as origins
use Rattle.rs_store.specs.Stores.{Applied, ByRegion, born, no_regions, opening, with_regions}
use Rattle.rs_part.specs.Counting.{IsAmong}
use Rattle.rs_part.specs.Held.{Held, HeldOnce, IsBootKey}
use Rattle.rs_part.specs.Orders.{End, follow}
use Rattle.rs_part.specs.Scripts.{Script}
use Rattle.rs_part.specs.Sound.{Sound}
use Rattle.rs_part.specs.Telling.{Begins, Tells, boot_states}
use Rattle.rs_part.specs.Whole.{Invariant}
use Rattle.rs_part.proofs.Covering.{regions_exact}
use Rattle.rs_part.proofs.Regions.{regions_all}
use Rattle.rs_part.proofs.Whole.{order_invariant}

boot_made : (f : ByRegion) (bs : List Boot) (b : Boot) → AllByRecursion (λ s. f s.region ≡ Some (born s origins.Boot)) (boot_states bs) → IsAmong b bs
    → f b.region ≡ Some (born (boot b.region b.range b.peers) origins.Boot)
boot_made f [] b a i = absurd i
boot_made f (x ∷ bs) b a (inl p) = subst (λ z. f z.region ≡ Some (born (boot z.region z.range z.peers) origins.Boot)) (sym p) a.0
boot_made f (x ∷ bs) b a (inr i) = boot_made f bs b a.1 i

-- a bootstrap key is held at the start
opening_held : (script : Script) (store : Store) → Begins script store → (key : List ℕ) → IsBootKey store key → Held (opening store) key
opening_held script store begins key w = record {
  id = w.0.region;
  r = born (boot w.0.region w.0.range w.0.peers) origins.Boot;
  here = boot_made (with_regions no_regions (boot_states store.regions) origins.Boot) store.regions w.0 (regions_exact no_regions origins.Boot (boot_states store.regions) begins.ids) w.1;
  unmerged = refl;
  has = w.2;
}

-- and nothing else is
held_booted : (store : Store) (key : List ℕ) → Held (opening store) key → IsBootKey store key
held_booted store key w =
    regions_all (λ y z. holds z.state.range key ≡ true → IsBootKey store key) no_regions origins.Boot (boot_states store.regions)
    (all store.regions (λ b i. i)) (λ x t e. absurd cc) w.id w.r w.here w.has
  where
    all : (bs : List Boot) → ((b : Boot) → IsAmong b bs → IsAmong b store.regions) → AllByRecursion (λ s. holds s.range key ≡ true → IsBootKey store key) (boot_states bs)
    all [] f = tt
    all (b ∷ bs) f = ((λ h. (b, f b (inl refl), h)), all bs (λ x i. f x (inr i)))

-- no two regions hold a key
pub held_once : (script : Script) (store : Store) (g : Applied) → Sound script store g → (key : List ℕ) (a b : Held g key) → b.id ≡ a.id
held_once script store g sound key a b =
    elim (cases_eq b.id a.id) [
      | inl p ↦ p
      | inr ne ↦ absurd (sound.apart b.id a.id b.r a.r ne b.here a.here b.unmerged a.unmerged key b.has a.has)
    ]

covers : (script : Script) (store : Store) → Begins script store → (h : Applied) → Invariant script store h → (key : List ℕ)
    → (IsBootKey store key → HeldOnce h key) × (Held h key → IsBootKey store key)
covers script store begins h inv key = ((λ b. one ((inv.whole.keys key).0 (opening_held script store begins key b))), (λ w. held_booted store key ((inv.whole.keys key).1 w)))
  where
    one : Held h key → HeldOnce h key
    one w = record { held = w; only = held_once script store h inv.sound key w }

-- after the steps of any order
pub covered : (script : Script) (store : Store) → Tells script store → Begins script store → (order : List ℕ) (h : Applied) → follow store 1 order (opening store) ≡ End h
    → (key : List ℕ) → (IsBootKey store key → HeldOnce h key) × (Held h key → IsBootKey store key)
covered script store tells begins order h e = covers script store begins h (order_invariant script store tells begins order h e)
