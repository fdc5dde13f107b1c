-- What a clause says of the stealers of a pass.
use Rattle.std.specs.Prelude.{◌≡◌, ◌<◌, length, ℕ, List, [], ◌∷◌, map, slice_set, slice_index_or}
use Rattle.std.specs.List.{AllWithin}
use Rattle.crossbeam_deque.specs.Handles.{view, stealer_deque}
use Rattle.rs_steal.specs.declared.deque_rule.DequeView.{DequeView}
use Rattle.rs_steal.specs.declared.thief.Thief.{Thief}
use Rattle.rs_steal.specs.Rule.{TakenOut, WasEmpty}

-- the deque that it steals from, by the first of its two numbers
abbrev pub deque_of : Thief → ℕ
deque_of t = (stealer_deque t.stealer).0.0

-- what the stealers know, each of its deque
abbrev pub views_of : List Thief → List DequeView
views_of ts = map (λ t. view t.pass) ts

-- the ticket was taken from deque k, each deque before it was empty at a step, and of the others nothing new is known
abbrev pub Stole : ℕ → List DequeView → List DequeView → Type 0
Stole x vs ws = (k : ℕ) × (v : DequeView) × (w : DequeView) × (k < length vs) × (v ≡ slice_index_or vs k v) × (ws ≡ slice_set vs k w) × TakenOut v (x ∷ []) w × AllWithin WasEmpty vs 0 k
