-- What the parts of a new scheduler are like.
use Rattle.std.specs.Prelude.{◌≡◌, ℕ, ◌+◌, ◌≤◌, false, All, []}
use Rattle.crossbeam_deque.specs.Handles.{worker_view, worker_port, worker_flavor}
use Rattle.crossbeam_deque.specs.declared.handles.Worker.{Worker}
use Rattle.rs_steal.specs.declared.deque_rule.DequeView.{DequeView}
use Rattle.rs_steal.specs.declared.steal_pass.StealPass.{StealPass}
use Rattle.rs_steal.specs.Thieves.{views_of}
use Rattle.rs_steal.specs.Steps.{popped_by}

module _ {T A P : Type 0} where
  -- a deque of one of n passes, before any push and pop. It has a pass for its owner, one that went when it got its bound, and at most k for stealers
  abbrev pub IsOwn : ℕ → ℕ → ℕ → Worker T A DequeView P → Type 0
  IsOwn b n k w = (worker_port w ≡ 0) × (worker_flavor w ≡ 0) × ((worker_view w).fresh ≡ false) × ((worker_view w).bound ≡ b) × ((worker_view w).count ≡ n + 2) × ((worker_view w).made ≤ k + 2) × ((worker_view w).pushed ≡ []) × ((worker_view w).popped ≡ [])

-- a stealer's pass that has taken nothing
abbrev pub IsGuest : ℕ → DequeView → Type 0
IsGuest b v = (v.bound ≡ b) × (v.popped ≡ [])

-- nothing was pushed or popped through it
abbrev pub IsNew : ℕ → StealPass → Type 0
IsNew addresses p = (p.addresses ≡ addresses) × ((worker_view p.own).pushed ≡ []) × (popped_by p ≡ []) × (p.empties ≡ 0)

-- a pass whose deque has at most k stealers
abbrev pub IsFresh : ℕ → ℕ → ℕ → StealPass → Type 0
IsFresh b n k p = IsOwn b n k p.own × (p.addresses ≡ b) × All (IsGuest b) (views_of p.thieves.items) × (p.empties ≡ 0)
