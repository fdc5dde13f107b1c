-- What each call of the scheduler does to the deques, at one step of each.
use Rattle.std.specs.Prelude.{◌≡◌, ℕ, All, List, [], ◌∷◌, ◌++◌}
use Rattle.crossbeam_deque.specs.Handles.{worker_view}
use Rattle.rs_steal.specs.declared.deque_rule.DequeView.{DequeView}
use Rattle.rs_steal.specs.declared.steal_pass.StealPass.{StealPass}
use Rattle.rs_steal.specs.Rule.{PutIn, WasEmpty}
use Rattle.rs_steal.specs.Thieves.{views_of, Stole}
use Rattle.rs_steal.specs.Once.{all_popped}

-- the addresses that it pushed, in order
abbrev pub pushed_by : StealPass → List ℕ
pushed_by p = (worker_view p.own).pushed

-- the addresses that it popped or stole, deque by deque
abbrev pub popped_by : StealPass → List ℕ
popped_by p = (worker_view p.own).popped ++ all_popped (views_of p.thieves.items)

-- what a pass knows of each deque, its own first
abbrev pub knows : StealPass → List DequeView
knows p = worker_view p.own ∷ views_of p.thieves.items

-- the pass pushed the ticket to its own deque
abbrev pub Pushed : ℕ → StealPass → StealPass → Type 0
Pushed t old new = PutIn (worker_view old.own) (t ∷ []) (worker_view new.own) × (views_of new.thieves.items ≡ views_of old.thieves.items)

-- the pass took the ticket from the first of its deques that wasn't empty when it looked
abbrev pub Popped : ℕ → StealPass → StealPass → Type 0
Popped t old new = Stole t (knows old) (knows new)

-- each deque was empty at a step
abbrev pub FoundEmpty : StealPass → Type 0
FoundEmpty old = All WasEmpty (knows old)
