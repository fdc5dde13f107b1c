-- Where one order of a store ends without a fault, none meets one.
use Rattle.std.proofs.Common.{◌≡◌, ℕ, true, List, Option, Some, None, refl, ap, sym, ◌∙◌}
use Rattle.std.proofs.lemmas.Bool.{and_parts}
use Rattle.rs_entry.specs.declared.entry.Entry.{Entry}
use Rattle.rs_entry.specs.declared.input.Store.{Store}
use Rattle.rs_region.specs.Verdicts.{verdict}
use Rattle.rs_store.specs.declared.fault.StepFault.{StepFault}
use Rattle.rs_store.specs.declared.regions.Made.{Made}
use Rattle.rs_store.specs.Stores.{Applied, goes_on, is_ready, next, opening, own, ready_in, ready_with, step_in, step_with}
use Rattle.rs_part.specs.Effects.{Below}
use Rattle.rs_part.specs.Orders.{End, Faulty, IsDone, follow}
use Rattle.rs_part.specs.Scripts.{Script}
use Rattle.rs_part.specs.Telling.{Begins, Tells}
use Rattle.rs_part.specs.Whole.{Invariant}
use Rattle.rs_part.proofs.Faults.{no_fault}
use Rattle.rs_part.proofs.Following.{Keeps, order_breaks}
use Rattle.rs_part.proofs.Meeting.{below_step, stepping}
use Rattle.rs_part.proofs.Opening.{opening_sound, order_grows}
use Rattle.rs_part.proofs.Whole.{opening_invariant, order_invariant, step_invariant}

-- a region that is ready, and its next entry
record AtHand (store : Store) (g : Applied) (id : ℕ) : Type 0 where
  r : Made
  e : Entry
  here : g.region id ≡ Some r
  taken : next store g id r ≡ Some e

at_hand : (store : Store) (g : Applied) (id : ℕ) → is_ready store g id ≡ true → AtHand store g id
at_hand store g id ready = at_region (g.region id) refl
  where
    at_region : (o : Option Made) → g.region id ≡ o → AtHand store g id
    at_region None here = absurd (cc (sym (ap (ready_in store g id) here) ∙ ready))
    at_region (Some r) here = at_entry (next store g id r) refl
      where
        at_entry : (o : Option Entry) → next store g id r ≡ o → AtHand store g id
        at_entry (Some e) taken = record { r = r; e = e; here = here; taken = taken }
        at_entry None taken =
            let w = and_parts (goes_on (own store id) r.state) (ready_with g r.state (next store g id r)) (sym (ap (ready_in store g id) here) ∙ ready) in
            absurd (cc (sym (ap (ready_with g r.state) taken) ∙ w.1))

-- what holds of each state on the way, where an order that is done has come to h
abbrev OnTheWay : Script → Store → Applied → Applied → Type 0
OnTheWay script store h g = Invariant script store g × Below g h

step_on : (script : Script) (store : Store) → Tells script store → (h : Applied) → Invariant script store h → IsDone store h → Keeps store (OnTheWay script store h)
step_on script store tells h inv_h done g k id ready st way =
    let w = stepping script store tells g way.0.sound id k ready st in (
      step_invariant script store tells g k id ready st way.0,
      below_step script store tells g h way.0.sound inv_h.sound inv_h.settled done way.1 id w.r w.here ready w.e w.told k w.effect,
    )

-- where one order has come to h and no region is ready there, no order meets a fault
pub no_order_faults : (script : Script) (store : Store) → Tells script store → Begins script store → (one : List ℕ) (h : Applied) → follow store 1 one (opening store) ≡ End h
    → IsDone store h
    → (order : List ℕ) (fault : StepFault) → follow store 1 order (opening store) ≡ Faulty fault → ⊥
no_order_faults script store tells begins one h to_h done order fault e =
    let inv_h = order_invariant script store tells begins one h to_h in
    let grows = order_grows script store tells one 1 (opening store) h (opening_sound script store begins) to_h in
    let b = order_breaks store (OnTheWay script store h) (step_on script store tells h inv_h done) order 1 (opening store) fault (opening_invariant script store begins, grows) e in
    let w = at_hand store b.0 b.1 b.3 in
    no_fault script store tells b.0 h b.2.0.sound b.2.0.settled inv_h.sound inv_h.settled done b.2.1 b.1 w.r w.here b.3 w.e w.taken (verdict w.r.state w.e) refl fault
    (sym (ap (step_with store b.0 b.1 w.r) w.taken) ∙ (sym (ap (step_in store b.0 b.1) w.here) ∙ b.4))
