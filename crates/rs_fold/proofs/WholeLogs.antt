-- At the end of a lawful store's order a region that is Normal has applied its whole log.
use Rattle.std.proofs.Common.{◌≡◌, ℕ, zero, suc, ◌+◌, ◌-◌, true, List, [], ◌∷◌, drop, length, Option, Some, None, refl, sym, ap, ◌∙◌, subst, inl, inr}
use Rattle.std.specs.Prelude.{slice_get}
use Rattle.std.specs.List.{cons_option, filter_map}
use Rattle.rs_entry.specs.declared.entry.Entry.{Entry}
use Rattle.rs_entry.specs.declared.input.Store.{Store}
use Rattle.rs_entry.specs.declared.outcome.Mode.TheVariants as mode
use Rattle.rs_entry.specs.declared.outcome.RegionLine.{RegionLine}
use Rattle.rs_store.specs.declared.fault.StoreFault.{StoreFault}
use Rattle.rs_store.specs.declared.regions.Made.{Made}
use Rattle.rs_store.specs.Ends.{fault_at_end, first_of, first_unborn, waits, waits_with}
use Rattle.rs_store.specs.Stores.{Applied, Merge, Went, carried_next, first_some, goes_on, ids_of, is_ready, last, merge_of, next, own, own_next, ready_in, stands, stands_in}
use Rattle.rs_part.specs.Counting.{IsAmong}
use Rattle.rs_part.specs.Orders.{IsDone}
use Rattle.rs_check.proofs.Finding.{both_none}
use Rattle.rs_history.specs.Outcomes.{left_of, outcome_by, region_line, store_outcome}

-- the id whose region has the line
from_ids : {A : Type 0} (h : ℕ → Option A) (x : A) (ids : List ℕ) → IsAmong x (filter_map h ids) → (id : ℕ) × IsAmong id ids × (h id ≡ Some x)
from_ids h x [] i = absurd i
from_ids {A} h x (y ∷ ys) i = go (h y) refl i (from_ids h x ys)
  where
    go : (o : Option A) → h y ≡ o → IsAmong x (cons_option o (filter_map h ys)) → (IsAmong x (filter_map h ys) → (j : ℕ) × IsAmong j ys × (h j ≡ Some x))
        → (j : ℕ) × IsAmong j (y ∷ ys) × (h j ≡ Some x)
    go None e i rest = (let w = rest i in (w.0, inr w.1, w.2))
    go (Some z) e (inl p) rest = (y, inl refl, e ∙ ap Some (sym p))
    go (Some z) e (inr i) rest = (let w = rest i in (w.0, inr w.1, w.2))

-- no fault is found, so none has one
quiet : (p : ℕ → Option StoreFault) (ids : List ℕ) → first_of p ids ≡ None → (id : ℕ) → IsAmong id ids → p id ≡ None
quiet p [] none id i = absurd i
quiet p (x ∷ xs) none id (inl e) = ap p e ∙ (both_none (p x) (first_of p xs) none).0
quiet p (x ∷ xs) none id (inr i) = quiet p xs (both_none (p x) (first_of p xs) none).1 id i

-- behind the last entry nothing is left
nothing_behind : {A : Type 0} (xs : List A) (n : ℕ) → slice_get xs n ≡ None → length (drop n xs) ≡ 0
nothing_behind [] zero e = refl
nothing_behind [] (suc n) e = refl
nothing_behind (x ∷ xs) zero e = absurd cc
nothing_behind (x ∷ xs) (suc n) e = nothing_behind xs n e

module _ (store : Store) (g : Applied) (done : IsDone store g) (faultless : fault_at_end store (Went g) ≡ None) (id : ℕ) (among : IsAmong id (ids_of store)) (r : Made)
    (here : g.region id ≡ Some r) (normal : r.state.mode ≡ mode.Normal) where
  goes : goes_on (own store id) r.state ≡ true
  goes = rw normal refl

  no_wait : waits store g id ≡ None
  no_wait = quiet (waits store g) (ids_of store) (both_none (first_of (waits store g) (ids_of store)) (first_unborn g store.logs) faultless).0 id among

  no_next : (e : Entry) → own_next (own store id) r.applied ≡ Some e → ⊥
  no_next e has = go (merge_of r.state (Some e)) refl
    where
      entry : next store g id r ≡ Some e
      entry = ap (λ o. first_some o (carried_next store g (ids_of store) id (r.applied + 1))) has

      go : (m : Option Merge) → merge_of r.state (Some e) ≡ m → ⊥
      go None m =
          let ready : is_ready store g id ≡ true = ap (ready_in store g id) here ∙ rw (goes, entry, m) refl in
          cc (sym ready ∙ done id)
      go (Some m) is =
          let standing : stands store g id ≡ Some m = ap (stands_in (own store id)) here ∙ rw (goes, has, is) refl in
          cc (sym (ap (waits_with id (g.region id)) standing) ∙ no_wait)

  pub whole_log : left_of (own store id) r.applied ≡ 0
  whole_log = go (own_next (own store id) r.applied) refl
    where
      go : (o : Option Entry) → own_next (own store id) r.applied ≡ o → left_of (own store id) r.applied ≡ 0
      go None e = nothing_behind (own store id) (r.applied - 5) e
      go (Some e) is = absurd (no_next e is)

pub normal_applied : (store : Store) (g : Applied) → last store ≡ Went g → IsDone store g → fault_at_end store (last store) ≡ None → (line : RegionLine)
    → IsAmong line (store_outcome store).regions → line.mode ≡ mode.Normal → line.left ≡ 0
unfolding store_outcome
normal_applied store g ends done faultless line i normal =
    let w = from_ids (λ id. region_line store id (g.region id)) line (ids_of store) (subst (λ s. IsAmong line (outcome_by store s).regions) ends i) in
    go w.0 w.1 (g.region w.0) refl w.2
  where
    go : (id : ℕ) → IsAmong id (ids_of store) → (o : Option Made) → g.region id ≡ o → region_line store id o ≡ Some line → line.left ≡ 0
    go id among None here e = absurd cc
    go id among (Some r) here e =
        let mode_is : r.state.mode ≡ mode.Normal = cc (e, normal) in
        let left_is : line.left ≡ left_of (own store id) r.applied = cc e in
        left_is ∙ whole_log store g done (sym (ap (fault_at_end store) ends) ∙ faultless) id among r here mode_is
