-- The rule of the ticket queue: all addresses are below the bound that each pass knows.
use Rattle.std.specs.Prelude.{◌≡◌, ℕ, ◌<◌, Bool, true, false, length, All, List, [], ◌∷◌, ◌++◌}
use mathlib.Core.Option.{some}
use lib.ListN.{get_elem?}
use Rattle.rs_mailbox.specs.declared.ticket.Ticket.{Ticket}
use Rattle.rs_router.specs.declared.queue_rule.Line.{Line}

-- a scheduler's line: whether it is new, its bound, and the addresses pushed and popped
abbrev pub line : Bool → ℕ → List ℕ → List ℕ → Line
line fresh bound pushed popped = record { fresh = fresh; bound = bound; pushed = pushed; popped = popped }

-- the first pass once the queue has a bound, and each other pass
abbrev pub founder : ℕ → Line → Line
founder bound v = line false bound v.pushed v.popped

-- the line of a new member, which has pushed and popped nothing
abbrev pub member : ℕ → Line
member bound = line false bound [] []

-- the line after an address was pushed
abbrev pub pushes : Line → ℕ → Line
pushes v address = record v { pushed = v.pushed ++ address ∷ [] }

-- the line after an address was popped
abbrev pub pops : Line → ℕ → Line
pops v address = record v { popped = v.popped ++ address ∷ [] }

-- `items` is what the queue holds, oldest first, and `views` what each pass knows
pub record IsBounded (items : List Ticket) (views : List Line) : Type 0 where
  pub bound : ℕ
  pub each : (p : ℕ) (v : Line) → get_elem? views p ≡ some v → v.bound ≡ bound
  -- before the queue has its bound there is one pass and no ticket
  pub fresh : (v : Line) → get_elem? views 0 ≡ some v → v.fresh ≡ true → (bound ≡ 0) × (items ≡ []) × (length views ≡ 1)
  pub below : All (λ x. x.address < bound) items

-- at a step of the call the queue held these tickets, and the rule held of them and of all passes, this one among them
abbrev pub Saw : List Ticket → Line → Type 0
Saw items v = (views : List Line) × (p : ℕ) × IsBounded items views × (get_elem? views p ≡ some v)
