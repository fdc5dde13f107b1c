-- What sending a message through a router leaves in the views of the station and in the list of the pass.
use Rattle.std.specs.Prelude.{◌≡◌, ◌≢◌, ℕ, ◌^◌, ◌≤◌, ◌⊎◌, List, [], ◌∷◌, ◌++◌, Some, None, Result}
use Rattle.std.specs.declared.result.Result.TheVariants.{Ok, Err}
use Rattle.rs_mailcore.specs.declared.thread.Phase.TheVariants.{Calm}
use Rattle.rs_mailbox.specs.declared.view.View.{View}
use Rattle.rs_mailbox.specs.declared.view.Kind.TheVariants.{Take, Close}
use Rattle.rs_mailbox.specs.declared.trail.Trail.{Trail}
use Rattle.rs_mailbox.specs.InOrder.{sends}
use Rattle.rs_mailbox.specs.Steps.{deed, turns}
use Rattle.rs_mailbox.specs.Mail.{looked, told}
use Rattle.rs_router.specs.declared.route_error.RouteError.{RouteError}
use Rattle.rs_router.specs.declared.route_error.RouteError.TheVariants.{Closed, NoMemory, Spent}

module _ {N : Type 0} where
  -- a close that found this word
  abbrev pub shut : View N → ℕ → ℕ → View N
  shut v found handled = turns v Calm v.stance.remembered (deed Close found handled)

  -- the mailbox was closed once
  abbrev pub ShutsOnce : View N → View N → Type 0
  ShutsOnce v w = (found : ℕ) × (handled : ℕ) × (w ≡ shut v found handled)

  -- the mailbox was closed, and then a take found Drop
  abbrev pub Abandons : View N → View N → Type 0
  Abandons v w = (found : ℕ) × (handled : ℕ) × (w ≡ turns (shut v found handled) Calm v.stance.remembered (deed Take 2 0))

-- the list grew by this address exactly where the notification found Idle
abbrev pub Grows : ℕ → ℕ → List ℕ → List ℕ → Type 0
Grows address found before after = ((found ≡ 1) × (after ≡ before ++ address ∷ [])) ⊎ ((found ≢ 1) × (after ≡ before))

module _ {N P M : Type 0} where
  -- The refusal of a message, by the views before and after. A message without its ticket was sent as ever, and then
  -- its mailbox was closed and the ticket spent, in this order.
  abbrev pub Repels : View N → Trail P M → M → RouteError M → View N → Trail P M → Type 0
  Repels v t x (Closed y) w u = (y ≡ x) × (w ≡ looked v 2) × (u ≡ t)
  Repels v t x (NoMemory (Some y)) w u = (y ≡ x) × ((word : ℕ) × (word ≢ 2) × (w ≡ looked v word)) × (u ≡ t)
  Repels v t x (NoMemory None) w u = ((word : ℕ) × (before : ℕ) × (word ≢ 2) × Abandons (told v word before 1) w) × (u ≡ sends t x)
  Repels v t x (Spent y) w u = (y ≡ x) × ((word : ℕ) × (word ≢ 2) × (w ≡ looked v word)) × (u ≡ t) × (2 ^ 50 ≤ v.stance.announced)

  -- the sending of a message to the address, by its answer, and by the views and the pass's list before and after
  abbrev pub Routes : ℕ → View N → Trail P M → List ℕ → M → Result (Unit {0}) (RouteError M) → View N → Trail P M → List ℕ → Type 0
  Routes address v t ps x (Ok _) w u qs = (word : ℕ) × (before : ℕ) × (found : ℕ) × (word ≢ 2) × (w ≡ told v word before found) × (u ≡ sends t x) × Grows address found ps qs
  Routes address v t ps x (Err e) w u qs = Repels v t x e w u × (qs ≡ ps)

module _ {M : Type 0} where
  -- the mailbox wasn't closed by the call
  abbrev pub OnOpen : Result (Unit {0}) (RouteError M) → Type 0 → Type 0
  OnOpen (Ok _) Q = Q
  OnOpen (Err (Closed y)) Q = Q
  OnOpen (Err (NoMemory (Some y))) Q = Q
  OnOpen (Err (NoMemory None)) Q = Unit {0}
  OnOpen (Err (Spent y)) Q = Q
