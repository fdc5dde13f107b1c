-- A store that takes its entries in any order.
use Rattle.std.specs.Prelude.{◌≡◌, ℕ, suc, false, List, [], ◌∷◌, if◌then◌else◌}
use Rattle.rs_entry.specs.declared.input.Store.{Store}
use Rattle.rs_store.specs.declared.fault.StepFault.{StepFault}
use Rattle.rs_store.specs.Stores.{Applied, Stepped, Went, Broke, is_ready, step}

-- what an order of regions leads to: an end, a place whose region isn't ready, or a fault
pub data Followed : Type 0 where
  End : Applied → Followed
  NotReady : (place : ℕ) → Followed
  Faulty : StepFault → Followed

-- goes on after a step that broke no law
abbrev pub follow_by : (Applied → Followed) → Stepped → Followed
follow_by go (Went g) = go g
follow_by go (Broke fault) = Faulty fault

-- the order's steps, each counted from the place
abbrev pub follow : Store → ℕ → List ℕ → Applied → Followed
follow store place [] g = End g
follow store place (id ∷ order) g =
    if is_ready store g id then follow_by (follow store (suc place) order) (step store g id) else NotReady place

-- no region is ready
abbrev pub IsDone : Store → Applied → Type 0
IsDone store g = (id : ℕ) → is_ready store g id ≡ false
