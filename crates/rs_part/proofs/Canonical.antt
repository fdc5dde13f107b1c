-- The canonical order is an order, and it ends within as many steps as the logs hold entries.
use Rattle.std.proofs.Common.{◌≡◌, ℕ, zero, suc, ◌+◌, ◌≤◌, Bool, true, false, List, [], ◌∷◌, ◌++◌, length, Option, Some, None, refl, ap, sym, ◌∙◌, arith, ◌⊎◌, inl, inr}
use Rattle.rs_entry.specs.declared.input.Store.{Store}
use Rattle.rs_store.specs.Stores.{Applied, Broke, Stepped, Went, advance, advance_by, after, entries_in, ids_of, is_ready, last, least_ready, opening, step, then_advance}
use Rattle.rs_part.specs.Counting.{ahead}
use Rattle.rs_part.specs.Orders.{End, IsDone, follow}
use Rattle.rs_part.specs.Scripts.{Script}
use Rattle.rs_part.specs.Sound.{Sound}
use Rattle.rs_part.specs.Telling.{Begins, Tells}
use Rattle.rs_part.specs.Whole.{Invariant}
use Rattle.rs_part.proofs.Counting.{ahead_falls, ahead_fits, none_ahead}
use Rattle.rs_part.proofs.Following.{follow_more}
use Rattle.rs_part.proofs.Known.{done_known}
use Rattle.rs_part.proofs.Meeting.{stepping}
use Rattle.rs_part.proofs.Members.{among_find, find_fails}
use Rattle.rs_part.proofs.Opening.{opening_sound}
use Rattle.rs_part.proofs.Orders.{step_sound}
use Rattle.rs_part.proofs.Whole.{order_invariant}

-- nothing changed, since no region is ready, or the least region that is ready stepped
abbrev NextStep : Store → Applied → Applied → Type 0
NextStep store g h = ((g ≡ h) × (least_ready store g ≡ None)) ⊎ ((id : ℕ) × (least_ready store g ≡ Some id) × (is_ready store g id ≡ true) × (step store g id ≡ Went h))

-- the step before each later state
next_step : (store : Store) (n : ℕ) (h : Applied) → after store (suc n) ≡ Went h
    → (g : Applied) × (after store n ≡ Went g) × (NextStep store g h)
next_step store n h e = by_before (after store n) refl
  where
    by_before : (s : Stepped) → after store n ≡ s
        → (g : Applied) × (after store n ≡ Went g) × (NextStep store g h)
    by_before (Broke f) b = absurd (cc (sym (ap (then_advance store) b) ∙ e))
    by_before (Went g) b = (g, b, by_least (least_ready store g) refl)
      where
        st : advance store g ≡ Went h
        st = sym (ap (then_advance store) b) ∙ e

        by_least : (o : Option ℕ) → least_ready store g ≡ o → NextStep store g h
        by_least None o = inl (cc (sym (ap (advance_by store g) o) ∙ st), o)
        by_least (Some id) o = inr (id, o, (among_find (is_ready store g) (ids_of store) id o).1, sym (ap (advance_by store g) o) ∙ st)

-- the steps of the canonical order
pub canonical : (store : Store) (n : ℕ) (h : Applied) → after store n ≡ Went h → (order : List ℕ) × (follow store 1 order (opening store) ≡ End h)
canonical store zero h e = ([], (let one : opening store ≡ h = cc e in ap End one))
canonical store (suc n) h e =
    let w = next_step store n h e in
    let before = canonical store n w.0 w.1 in
    elim w.2 [
      | inl s ↦ (before.0, before.1 ∙ ap End s.0)
      | inr s ↦ (before.0 ++ s.0 ∷ [], follow_more store before.0 1 (opening store) w.0 h s.0 before.1 s.2 s.3)
    ]

-- what holds after any steps holds after each number of its steps
pub after_invariant : (script : Script) (store : Store) → Tells script store → Begins script store → (n : ℕ) (h : Applied) → after store n ≡ Went h → Invariant script store h
after_invariant script store tells begins n h e = (let c = canonical store n h e in order_invariant script store tells begins c.0 h c.1)

-- after n steps it is at its end, or n entries less lie ahead
after_far : (script : Script) (store : Store) → Tells script store → Begins script store → (n : ℕ) (h : Applied) → after store n ≡ Went h
    → (least_ready store h ≡ None) ⊎ (ahead store h + n ≤ entries_in store)
after_far script store tells begins zero h e = inr (let a : ahead store h ≤ entries_in store = ahead_fits store h in omega arith)
after_far script store tells begins (suc n) h e =
    let w = next_step store n h e in
    let sound = (after_invariant script store tells begins n w.0 w.1).sound in
    let far = after_far script store tells begins n w.0 w.1 in
    elim w.2 [
      | inl s ↦ inl (ap (least_ready store) (sym s.0) ∙ s.1)
      | inr s ↦ elim far [
        | inl none ↦ absurd (cc (none, s.1))
        | inr x ↦
            (let less : ahead store h + 1 ≤ ahead store w.0 = ahead_falls script store w.0 sound s.0 h (stepping script store tells w.0 sound s.0 h s.2 s.3) in
            let y : ahead store w.0 + n ≤ entries_in store = x in
            inr (omega arith))
      ]
    ]

-- at the end of the canonical order no region is ready
pub last_done : (script : Script) (store : Store) → Tells script store → Begins script store → (h : Applied) → last store ≡ Went h → IsDone store h
last_done script store tells begins h e =
    let inv = after_invariant script store tells begins (entries_in store) h e in
    elim (after_far script store tells begins (entries_in store) h e) [
      | inl none ↦ done_known store h inv.whole.known none
      | inr x ↦ none_ahead script store h inv.sound (let y : ahead store h + entries_in store ≤ entries_in store = x in omega arith)
    ]

-- where no region is ready, there is no least one
pub none_least : (store : Store) (g : Applied) → IsDone store g → least_ready store g ≡ None
none_least store g done = find_fails (is_ready store g) (ids_of store) done

order_ahead : (script : Script) (store : Store) → Tells script store → (order : List ℕ) (place : ℕ) (g h : Applied) → Sound script store g
    → follow store place order g ≡ End h → length order + ahead store h ≤ ahead store g
order_ahead script store tells [] place g h sound e = (let one : ahead store g ≡ ahead store h = cc e in omega arith)
order_ahead script store tells (id ∷ order) place g h sound e =
    go (is_ready store g id) refl (step store g id) refl (λ j a f. order_ahead script store tells order (suc place) j h a f)
  where
    go : (b : Bool) → is_ready store g id ≡ b → (s : Stepped) → step store g id ≡ s
        → ((j : Applied) → Sound script store j → follow store (suc place) order j ≡ End h → length order + ahead store h ≤ ahead store j)
        → suc (length order) + ahead store h ≤ ahead store g
    go true b (Went j) s rest =
        let less : ahead store j + 1 ≤ ahead store g = ahead_falls script store g sound id j (stepping script store tells g sound id j b s) in
        let all : length order + ahead store h ≤ ahead store j = rest j (step_sound script store tells g sound id j b s) (grind (arith, b, s, e)) in
        omega arith
    go true b (Broke fault) s rest = absurd (grind (arith, b, s, e))
    go false b s t rest = absurd (grind (arith, b, e))

-- no order has more steps than the logs hold entries
pub order_length : (script : Script) (store : Store) → Tells script store → Begins script store → (order : List ℕ) (h : Applied)
    → follow store 1 order (opening store) ≡ End h → length order ≤ entries_in store
order_length script store tells begins order h e =
    let a : length order + ahead store h ≤ ahead store (opening store) = order_ahead script store tells order 1 (opening store) h (opening_sound script store begins) e in
    let b : ahead store (opening store) ≤ entries_in store = ahead_fits store (opening store) in
    omega arith
