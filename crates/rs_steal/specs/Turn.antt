-- The tickets leave a deque in the order of the pushes.
use Rattle.std.specs.Prelude.{◌≡◌, ℕ, ◌<◌, ◌≤◌, All, List, drop, take, length}
use mathlib.Core.Option.{some}
use lib.ListN.{get_elem?}
use Rattle.rs_steal.specs.declared.deque_rule.DequeView.{DequeView}
use Rattle.rs_steal.specs.Rule.{of}

-- of the tickets pushed the first `left` have left, each taken by one pass, and those after them are in the deque, in order
pub record LeftInTurn (items : List ℕ) (views : List DequeView) (pushed : List ℕ) : Type 0 where
  pub left : ℕ
  -- the pass that took each
  pub takers : List ℕ
  pub within : left ≤ length pushed
  pub rest : items ≡ drop left pushed
  pub tagged : length takers ≡ left
  pub passes : All (λ p. p < length views) takers
  pub each : (p : ℕ) (v : DequeView) → get_elem? views p ≡ some v → v.popped ≡ of p takers (take left pushed)
