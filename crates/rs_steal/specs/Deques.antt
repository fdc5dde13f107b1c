-- The deques of a pass, and of all passes.
use Rattle.std.specs.Prelude.{◌≡◌, List, ◌∷◌, ◌++◌, drop, take, map, ℕ}
use mathlib.Core.Option.{some}
use lib.ListN.{get_elem?}
use Rattle.crossbeam_deque.specs.Handles.{worker_deque}
use Rattle.rs_steal.specs.declared.steal_pass.StealPass.{StealPass}
use Rattle.rs_steal.specs.Thieves.{deque_of}

-- a deque is known by the first of its two numbers
abbrev pub own_deque : StealPass → ℕ
own_deque p = (worker_deque p.own).0.0

-- its own, and those that it steals from, in the order in which a pop looks at them
abbrev pub deques_of : StealPass → List ℕ
deques_of p = own_deque p ∷ map deque_of p.thieves.items

-- its place among the passes, and its deques
abbrev pub placed : StealPass → ℕ × List ℕ
placed p = (p.place, deques_of p)

-- the list from this place round to the one before it
abbrev pub from_place : ℕ → List ℕ → List ℕ
from_place k ds = drop k ds ++ take k ds

-- each pass has its place in the list, and the deques of all passes, its own first, then from the next one round
abbrev pub AreInRound : List StealPass → Type 0
AreInRound ps = (k : ℕ) (p : StealPass) → get_elem? ps k ≡ some p → (p.place ≡ k) × (deques_of p ≡ from_place k (map own_deque ps))
