-- What all passes took from a deque, and that each ticket leaves once.
use Rattle.std.specs.Prelude.{◌≡◌, ℕ, ◌+◌, List, [], ◌∷◌, ◌++◌}
use mathlib.Core.Option.{some}
use lib.ListN.{get_elem?}
use Rattle.rs_router.specs.Lists.{times}
use Rattle.rs_steal.specs.declared.deque_rule.DequeView.{DequeView}

-- what all of these took, one after the other
abbrev pub all_popped : List DequeView → List ℕ
all_popped [] = []
all_popped (v ∷ vs) = v.popped ++ all_popped vs

-- each address was popped, by whichever pass, or is still in the deque, as often as it was pushed
abbrev pub EachOnce : List ℕ → List DequeView → Type 0
EachOnce items views = (v : DequeView) → get_elem? views 0 ≡ some v → (x : ℕ) → times x (all_popped views) + times x items ≡ times x v.pushed
