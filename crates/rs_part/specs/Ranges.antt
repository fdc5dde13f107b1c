-- Ranges that share no key, and what lies in one.
use Rattle.std.specs.Prelude.{◌≡◌, ℕ, true, List, [], ◌∷◌}
use Rattle.std.specs.List.{AllByRecursion}
use Rattle.rs_key.specs.Ranges.{Bounds, holds}
use Rattle.rs_region.specs.declared.state.RegionState.{RegionState}
use Rattle.rs_store.specs.Stores.{Wrote}

-- no key lies in both
abbrev pub Apart : Bounds → Bounds → Type 0
Apart a b = (key : List ℕ) → holds a key ≡ true → holds b key ≡ true → ⊥

-- each key of the first lies in the second
abbrev pub Inside : Bounds → Bounds → Type 0
Inside a b = (key : List ℕ) → holds a key ≡ true → holds b key ≡ true

-- each write is of a key in the range
abbrev pub AllIn : Bounds → List Wrote → Type 0
AllIn range writes = AllByRecursion (λ w. holds range w.key ≡ true) writes

-- no two are one
abbrev pub EachOther : List ℕ → Type 0
EachOther [] = Unit {0}
EachOther (x ∷ xs) = AllByRecursion (λ y. x ≡ y → ⊥) xs × EachOther xs

-- no two regions have one id
abbrev pub EachId : List RegionState → Type 0
EachId [] = Unit {0}
EachId (s ∷ ss) = AllByRecursion (λ t. s.region ≡ t.region → ⊥) ss × EachId ss

-- no two regions share a key
abbrev pub StatesApart : List RegionState → Type 0
StatesApart [] = Unit {0}
StatesApart (s ∷ ss) = AllByRecursion (λ t. Apart s.range t.range) ss × StatesApart ss
