-- A region's origin is that which the script has for its birth.
use Rattle.std.proofs.Common.{◌≡◌, ℕ, List, [], ◌∷◌, Some, refl, ap, sym, ◌∙◌, subst, inl, inr}
use Rattle.std.specs.List.{AllByRecursion}
use Rattle.rs_entry.specs.declared.input.Boot.{Boot}
use Rattle.rs_entry.specs.declared.input.Store.{Store}
use Rattle.rs_region.proofs.CutParts.{all_map}
use Rattle.rs_store.specs.declared.regions.Made.{Made}
use Rattle.rs_store.specs.declared.regions.Origin.{Origin}
use Rattle.rs_store.specs.declared.regions.Origin.TheVariants as origins
use Rattle.rs_store.specs.Stores.{Applied, Went, last, no_regions, opening, step}
use Rattle.rs_part.specs.Counting.{IsAmong}
use Rattle.rs_part.specs.Effects.{Stepping}
use Rattle.rs_part.specs.Scripts.{Birth, Never, Opened, Script, SplitOff}
use Rattle.rs_part.specs.Telling.{Begins, Tells, boot_states}
use Rattle.rs_part.proofs.Endings.{last_has}
use Rattle.rs_part.proofs.Regions.{regions_all}
use Rattle.rs_part.proofs.Traces.{step_traces}

-- the origin of a region that begins so
abbrev pub origin_of : Birth → Origin
origin_of Never = origins.Boot
origin_of (Opened range peers) = origins.Boot
origin_of (SplitOff parent index) = origins.Split parent index

abbrev HasOrigins : Script → Applied → Type 0
HasOrigins script g = (x : ℕ) (r : Made) → g.region x ≡ Some r → r.origin ≡ origin_of (script.birth x)

opening_origins : (script : Script) (store : Store) → Begins script store → HasOrigins script (opening store)
opening_origins script store begins =
    regions_all (λ x r. r.origin ≡ origin_of (script.birth x)) no_regions origins.Boot (boot_states store.regions)
    (all_map (λ s. script.birth s.region ≡ Opened s.range s.peers) (λ s. origins.Boot ≡ origin_of (script.birth s.region)) (λ s b. sym (ap origin_of b)) (boot_states store.regions) begins.births)
    (λ x r h. absurd cc)

step_origins : (script : Script) (store : Store) → Tells script store → (g k : Applied) (id : ℕ) → Stepping script store g id k → step store g id ≡ Went k → HasOrigins script g → HasOrigins script k
step_origins script store tells g k id w st old x r h = elim (step_traces script store tells g k id w st x r h) [
  | inl m ↦ m.origin ∙ (old id w.r w.here ∙ ap (λ y. origin_of (script.birth y)) (sym m.same))
  | inr t ↦ elim t [
    | inl f ↦ f.origin ∙ sym (ap origin_of f.birth)
    | inr o ↦ o.origin ∙ old x o.was o.here
  ]
]

-- at the end of the canonical order
pub last_origins : (script : Script) (store : Store) → Tells script store → Begins script store → (h : Applied) → last store ≡ Went h → (x : ℕ) (r : Made) → h.region x ≡ Some r
    → r.origin ≡ origin_of (script.birth x)
last_origins script store tells begins h e =
    last_has script store tells begins (HasOrigins script) (opening_origins script store begins) (λ g k id sound w st old. step_origins script store tells g k id w st old) h e

-- ---- regions from the start

-- one of the store's bootstrap regions has this id
abbrev pub IsBooted : Store → ℕ → Type 0
IsBooted store x = (b : Boot) × IsAmong b store.regions × (b.region ≡ x)

-- each region that wasn't split off is one of them
abbrev HasBoots : Store → Applied → Type 0
HasBoots store g = (x : ℕ) (r : Made) → g.region x ≡ Some r → r.origin ≡ origins.Boot → IsBooted store x

opening_boots : (store : Store) → HasBoots store (opening store)
opening_boots store =
    regions_all (λ x r. r.origin ≡ origins.Boot → IsBooted store x) no_regions origins.Boot (boot_states store.regions) (all store.regions (λ b i. i)) (λ x r h. absurd cc)
  where
    all : (bs : List Boot) → ((b : Boot) → IsAmong b bs → IsAmong b store.regions) → AllByRecursion (λ s. origins.Boot ≡ origins.Boot → IsBooted store s.region) (boot_states bs)
    all [] f = tt
    all (b ∷ bs) f = (λ e. (b, f b (inl refl), refl), all bs (λ y i. f y (inr i)))

step_boots : (script : Script) (store : Store) → Tells script store → (g k : Applied) (id : ℕ) → Stepping script store g id k → step store g id ≡ Went k → HasBoots store g → HasBoots store k
step_boots script store tells g k id w st old x r h boot = elim (step_traces script store tells g k id w st x r h) [
  | inl m ↦ subst (IsBooted store) (sym m.same) (old id w.r w.here (sym m.origin ∙ boot))
  | inr t ↦ elim t [
    | inl f ↦ absurd (cc (f.origin, boot))
    | inr o ↦ old x o.was o.here (sym o.origin ∙ boot)
  ]
]

-- at the end of the canonical order
pub last_boots : (script : Script) (store : Store) → Tells script store → Begins script store → (h : Applied) → last store ≡ Went h → (x : ℕ) (r : Made) → h.region x ≡ Some r
    → r.origin ≡ origins.Boot → IsBooted store x
last_boots script store tells begins h e =
    last_has script store tells begins (HasBoots store) (opening_boots store) (λ g k id sound w st old. step_boots script store tells g k id w st old) h e

-- the script has the range and the peers of each bootstrap region
pub boot_birth : (script : Script) (store : Store) → Begins script store → (b : Boot) → IsAmong b store.regions → script.birth b.region ≡ Opened b.range b.peers
boot_birth script store begins b i = one store.regions begins.births i
  where
    one : (bs : List Boot) → AllByRecursion (λ s. script.birth s.region ≡ Opened s.range s.peers) (boot_states bs) → IsAmong b bs → script.birth b.region ≡ Opened b.range b.peers
    one [] all i = absurd i
    one (x ∷ bs) all (inl p) = subst (λ (z : Boot). script.birth z.region ≡ Opened z.range z.peers) (sym p) all.0
    one (x ∷ bs) all (inr i) = one bs all.1 i
