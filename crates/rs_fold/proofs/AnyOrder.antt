-- Any order of a lawful store that ends with no region ready gives the canonical order's outcome.
use Rattle.std.proofs.Common.{◌≡◌, ◌∙◌, sym, refl, ap, ℕ, List}
use Rattle.std.specs.Prelude.{Option, Some, None}
use Rattle.rs_entry.specs.declared.input.Store.{Store}
use Rattle.rs_entry.specs.declared.outcome.StoreOutcome.{StoreOutcome}
use Rattle.rs_store.specs.declared.fault.StepFault.{StepFault}
use Rattle.rs_store.specs.Ends.{fault_at_end}
use Rattle.rs_store.specs.Stores.{Applied, Broke, Stepped, Went, entries_in, last, least_ready, opening}
use Rattle.rs_part.specs.Orders.{End, Faulty, Followed, IsDone, NotReady, follow}
use Rattle.rs_part.specs.Scripts.{Script}
use Rattle.rs_part.specs.Telling.{Begins, Tells}
use Rattle.rs_part.proofs.Agreeing.{ends_agree}
use Rattle.rs_part.proofs.Canonical.{canonical, last_done, none_least}
use Rattle.rs_part.proofs.Faultless.{no_order_faults}
use Rattle.rs_part.proofs.Known.{done_known}
use Rattle.rs_part.proofs.Whole.{order_invariant}
use Rattle.rs_fold.specs.Ends.{IsLawful}
use Rattle.rs_fold.specs.Ordered.{Broken, Gave, ended, in_order_of, ordered_by}
use Rattle.rs_history.specs.Outcomes.{outcome_at, outcome_by, store_outcome}
use Rattle.rs_history.proofs.SameOutcomes.{agreed_outcome}

-- the canonical order of a lawful store comes to its end
pub lawful_last : (store : Store) → IsLawful store → (k : Applied) × (last store ≡ Went k)
lawful_last store lawful = go (last store) refl
  where
    go : (s : Stepped) → last store ≡ s → (k : Applied) × (last store ≡ Went k)
    go (Went k) e = (k, e)
    go (Broke fault) e = absurd (cc (sym (ap (fault_at_end store) e) ∙ lawful))

-- two orders that both end with no region ready have one outcome
pub outcome_same : (script : Script) (store : Store) → Tells script store → Begins script store → (one other : List ℕ) (h k : Applied)
    → follow store 1 one (opening store) ≡ End h → IsDone store h → follow store 1 other (opening store) ≡ End k → IsDone store k → outcome_at store h ≡ outcome_at store k
outcome_same script store tells begins one other h k to_h done_h to_k done_k = agreed_outcome store h k (ends_agree script store tells begins one other h k to_h done_h to_k done_k)

-- where an order ends with no region ready, it has the store's outcome
end_outcome : (script : Script) (store : Store) → Tells script store → Begins script store → IsLawful store → (order : List ℕ) (h : Applied)
    → follow store 1 order (opening store) ≡ End h → IsDone store h
    → outcome_at store h ≡ store_outcome store
unfolding store_outcome
end_outcome script store tells begins lawful order h to_h done =
    let k = lawful_last store lawful in
    let c = canonical store (entries_in store) k.0 k.1 in
    outcome_same script store tells begins order c.0 h k.0 to_h done c.1 (last_done script store tells begins k.0 k.1) ∙ sym (ap (outcome_by store) k.1)

-- the canonical order gives the store's outcome
pub some_order : (script : Script) (store : Store) → Tells script store → Begins script store → IsLawful store → (order : List ℕ) × (in_order_of store order ≡ Gave (store_outcome store))
unfolding in_order_of store_outcome
some_order script store tells begins lawful =
    let k = lawful_last store lawful in
    let c = canonical store (entries_in store) k.0 k.1 in (
      c.0,
      ap (ordered_by store) c.1
          ∙ (ap (ended store k.0) (none_least store k.0 (last_done script store tells begins k.0 k.1))
          ∙ ap Gave (sym (ap (outcome_by store) k.1))),
    )

-- and so does any order that gives one
pub ordered_same : (script : Script) (store : Store) → Tells script store → Begins script store → IsLawful store → (order : List ℕ) (o : StoreOutcome)
    → in_order_of store order ≡ Gave o → o ≡ store_outcome store
unfolding in_order_of
ordered_same script store tells begins lawful order o e = by_end (follow store 1 order (opening store)) refl
  where
    by_end : (f : Followed) → follow store 1 order (opening store) ≡ f → o ≡ store_outcome store
    by_end (NotReady place) f = absurd (cc (sym (ap (ordered_by store) f) ∙ e))
    by_end (Faulty fault) f = absurd (cc (sym (ap (ordered_by store) f) ∙ e))
    by_end (End h) f = by_least (least_ready store h) refl
      where
        by_least : (w : Option ℕ) → least_ready store h ≡ w → o ≡ store_outcome store
        by_least (Some id) w = absurd (cc (sym (ap (ended store h) w) ∙ (sym (ap (ordered_by store) f) ∙ e)))
        by_least None w =
            let known = (order_invariant script store tells begins order h f).whole.known in
            let one : outcome_at store h ≡ o = cc (sym (ap (ended store h) w) ∙ (sym (ap (ordered_by store) f) ∙ e)) in
            sym one ∙ end_outcome script store tells begins lawful order h f (done_known store h known w)

-- and none meets a fault
pub ordered_whole : (script : Script) (store : Store) → Tells script store → Begins script store → IsLawful store → (order : List ℕ) (fault : StepFault)
    → in_order_of store order ≡ Broken fault → ⊥
unfolding in_order_of
ordered_whole script store tells begins lawful order fault e = by_end (follow store 1 order (opening store)) refl
  where
    by_least : (h : Applied) (w : Option ℕ) → ended store h w ≡ Broken fault → ⊥
    by_least h None w = cc w
    by_least h (Some id) w = cc w

    by_end : (f : Followed) → follow store 1 order (opening store) ≡ f → ⊥
    by_end (NotReady place) f = cc (sym (ap (ordered_by store) f) ∙ e)
    by_end (End h) f = by_least h (least_ready store h) (sym (ap (ordered_by store) f) ∙ e)
    by_end (Faulty other) f =
        let k = lawful_last store lawful in
        let c = canonical store (entries_in store) k.0 k.1 in
        no_order_faults script store tells begins c.0 k.0 c.1 (last_done script store tells begins k.0 k.1) order other f
