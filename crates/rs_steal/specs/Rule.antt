-- The rule of a deque: what was pushed is what has left, each ticket by one pass, and then what the deque holds.
use Rattle.std.specs.Prelude.{map, ◌≡◌, ℕ, ◌+◌, ◌<◌, ◌≤◌, ◌==◌, Bool, true, false, All, List, [], ◌∷◌, ◌++◌, length, slice_set}
use mathlib.Core.Option.{some}
use lib.ListN.{get_elem?}
use Rattle.rs_mailbox.specs.declared.ticket.Ticket.{Ticket}
use Rattle.rs_steal.specs.declared.deque_rule.DequeView.{DequeView}
use Rattle.rs_steal.specs.Once.{EachOnce}

abbrev pub kept : {A : Type 0} → Bool → A → List A → List A
kept true x xs = x ∷ xs
kept false x xs = xs

-- those of xs that pass p took, where `takers` has the pass that took each
abbrev pub of : {A : Type 0} → ℕ → List ℕ → List A → List A
of p [] xs = []
of p (s ∷ ss) [] = []
of p (s ∷ ss) (x ∷ xs) = kept (s == p) x (of p ss xs)

abbrev pub beginning : DequeView
beginning = record { fresh = true; bound = 0; count = 1; made = 1; pushed = []; popped = [] }

abbrev pub stranger : DequeView
stranger = record { fresh = false; bound = 0; count = 0; made = 0; pushed = []; popped = [] }

-- the first pass once it has made another, and each pass that is made
abbrev pub founder : ℕ → ℕ → DequeView → DequeView
founder bound count v = record { fresh = false; bound = bound; count = count; made = 2; pushed = v.pushed; popped = v.popped }

abbrev pub member : ℕ → ℕ → DequeView
member bound count = record { fresh = false; bound = bound; count = count; made = 0; pushed = []; popped = [] }

abbrev pub made_another : DequeView → DequeView
made_another v = record v { made = v.made + 1 }

abbrev pub puts : DequeView → List ℕ → DequeView
puts v xs = record v { pushed = v.pushed ++ xs }

abbrev pub gets : DequeView → List ℕ → DequeView
gets v xs = record v { popped = v.popped ++ xs }

-- `items` are the addresses of the tickets that the deque holds, oldest first, and `views` what each pass knows. Pass 0 is the owner, which alone pushes
pub record IsShared (items : List ℕ) (views : List DequeView) : Type 0 where
  pub gone : List ℕ
  -- the pass that took each
  pub takers : List ℕ
  pub bound : ℕ
  pub count : ℕ
  pub tagged : length takers ≡ length gone
  pub owner : (v : DequeView) → get_elem? views 0 ≡ some v → v.pushed ≡ gone ++ items
  pub each : (p : ℕ) (v : DequeView) → get_elem? views p ≡ some v → (v.popped ≡ of p takers gone) × (v.bound ≡ bound) × (v.count ≡ count)
  pub later : (p : ℕ) → length views ≤ p → of p takers gone ≡ []
  pub made : (v : DequeView) → get_elem? views 0 ≡ some v → v.made ≡ length views
  pub few : length views ≤ count
  -- before the deque has its bound there is one pass and no ticket
  pub fresh : (v : DequeView) → get_elem? views 0 ≡ some v → v.fresh ≡ true → (bound ≡ 0) × (items ≡ []) × (length views ≡ 1)
  pub below : All (λ x. x < bound) items

abbrev pub addresses : List Ticket → List ℕ
addresses ts = map (λ t. t.address) ts

abbrev pub Holds : List Ticket → List DequeView → Type 0
Holds items views = IsShared (addresses items) views

-- at one step the owner, which knew v, pushed xs, and the rule held before and after
abbrev pub PutIn : DequeView → List ℕ → DequeView → Type 0
PutIn v xs w = (w ≡ puts v xs)
    × ((items : List ℕ) × (views : List DequeView) × IsShared items views × (get_elem? views 0 ≡ some v) × IsShared (items ++ xs) (slice_set views 0 w) × EachOnce (items ++ xs) (slice_set views 0 w))

-- at one step a pass, which knew v, took xs at the front, and the rule held before and after
abbrev pub TakenOut : DequeView → List ℕ → DequeView → Type 0
TakenOut v xs w = (w ≡ gets v xs) × All (λ x. x < v.bound) xs
    × ((items : List ℕ) × (views : List DequeView) × (port : ℕ) × IsShared (xs ++ items) views × (get_elem? views port ≡ some v) × IsShared items (slice_set views port w) × EachOnce items (slice_set views port w))

-- at one step the deque was empty, and a pass of it knew v
abbrev pub WasEmpty : DequeView → Type 0
WasEmpty v = (views : List DequeView) × (port : ℕ) × IsShared [] views × (get_elem? views port ≡ some v)
