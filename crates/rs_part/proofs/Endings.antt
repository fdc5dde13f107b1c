-- What each step of a store keeps holds at the end of its canonical order.
use Rattle.std.proofs.Common.{◌≡◌, ℕ, true}
use Rattle.rs_entry.specs.declared.input.Store.{Store}
use Rattle.rs_store.specs.Stores.{Applied, Went, entries_in, is_ready, last, opening, step}
use Rattle.rs_part.specs.Effects.{Stepping}
use Rattle.rs_part.specs.Scripts.{Script}
use Rattle.rs_part.specs.Sound.{Sound}
use Rattle.rs_part.specs.Telling.{Begins, Tells}
use Rattle.rs_part.proofs.Canonical.{canonical}
use Rattle.rs_part.proofs.Following.{order_keeps}
use Rattle.rs_part.proofs.Meeting.{stepping}
use Rattle.rs_part.proofs.Opening.{opening_sound}
use Rattle.rs_part.proofs.Orders.{step_sound}

-- each step of a sound store keeps it
abbrev pub IsKept : Script → Store → (Applied → Type 0) → Type 0
IsKept script store P = (g k : Applied) (id : ℕ) → Sound script store g → Stepping script store g id k → step store g id ≡ Went k → P g → P k

-- so it holds at the end, where it holds at the start
pub last_has : (script : Script) (store : Store) → Tells script store → Begins script store → (P : Applied → Type 0) → P (opening store) → IsKept script store P
    → (h : Applied) → last store ≡ Went h → P h
last_has script store tells begins P start keeps h e =
    let c = canonical store (entries_in store) h e in
    (order_keeps store (λ g. Sound script store g × P g) kept c.0 1 (opening store) h (opening_sound script store begins, start) c.1).1
  where
    kept : (g k : Applied) (id : ℕ) → is_ready store g id ≡ true → step store g id ≡ Went k → Sound script store g × P g → Sound script store k × P k
    kept g k id ready st w = (step_sound script store tells g w.0 id k ready st, keeps g k id w.0 (stepping script store tells g w.0 id k ready st) st w.1)
