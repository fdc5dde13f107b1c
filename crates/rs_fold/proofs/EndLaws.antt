-- Step by step to the end of a store's order.
use Rattle.std.proofs.Common.{◌≡◌, ◌∙◌, sym, refl, ap, subst, ℕ, suc, ◌+◌, ◌-◌, ◌≤◌, ◌<◌, arith, List, ◌++◌, map}
use Rattle.std.specs.Prelude.{None, option_to_list}
use Rattle.std.proofs.lemmas.List.{map-append}
use Rattle.rs_entry.specs.declared.input.Store.{Store}
use Rattle.rs_entry.specs.declared.outcome.ReplyLine.{ReplyLine}
use Rattle.rs_store.specs.declared.effect.Effect.{Effect}
use Rattle.rs_store.specs.declared.fault.StepFault.{StepFault}
use Rattle.rs_store.specs.Stores.{ByRegion, Applied, Stepped, Went, Broke, Wrote, wrote, replied, least_ready, advance, after, entries_in, ids_of, last}
use Rattle.rs_store.specs.Runs.{bare}
use Rattle.rs_store.specs.Ends.{fault_at_end}
use Rattle.rs_store.specs.Walks.{gained}
use Rattle.rs_store.proofs.WalkLaws.{onto, after_on, rests_whole, breaks_whole}
use Rattle.rs_history.specs.Histories.{histories_of}
use Rattle.rs_history.specs.Outcomes.{reply_line, lines_in, removed_in, shown, outcome_with, outcome_by, store_outcome}
use Rattle.rs_fold.specs.Ends.{WentSo}

-- what went so is there
abbrev Is : Stepped → ByRegion → List Wrote → List ReplyLine → Type 0
Is s f ws ys = (g : Applied) × ((s ≡ Went g) × ((g.region ≡ f) × ((g.writes ≡ ws) × (map reply_line g.replies ≡ ys))))

there : (s : Stepped) (f : ByRegion) (ws : List Wrote) (ys : List ReplyLine) → WentSo s f ws ys → Is s f ws ys
there (Went g) f ws ys h = (g, (refl, (h.0, (h.1, h.2))))
there (Broke fault) f ws ys h = absurd h

-- one step more
pub went_on : (store : Store) (n : ℕ) (f h : ByRegion) (ws : List Wrote) (ys : List ReplyLine) (t : Effect)
    → WentSo (after store n) f ws ys → advance store (bare f) ≡ Went (gained h t)
    → WentSo (after store (suc n)) h (ws ++ map (wrote t.region t.index) t.ops.now) (ys ++ map reply_line (replied t.region t.index (option_to_list t.reply)))
went_on store n f h ws ys t so step = go (there (after store n) f ws ys so) where
  go : Is (after store n) f ws ys → WentSo (after store (suc n)) h (ws ++ map (wrote t.region t.index) t.ops.now) (ys ++ map reply_line (replied t.region t.index (option_to_list t.reply)))
  go (g, (is, (r, (w, y)))) =
      let next : after store (suc n) ≡ onto g.writes g.replies (Went (gained h t)) =
      after_on store n g is ∙ ap (onto g.writes g.replies) (ap (λ z. advance store (bare z)) r ∙ step) in
      subst (λ (s : Stepped). WentSo s h (ws ++ map (wrote t.region t.index) t.ops.now) (ys ++ map reply_line (replied t.region t.index (option_to_list t.reply)))) (sym next) (
        refl,
        ap (λ us. us ++ map (wrote t.region t.index) t.ops.now) w,
        map-append reply_line g.replies (replied t.region t.index (option_to_list t.reply)) ∙ ap (λ us. us ++ map reply_line (replied t.region t.index (option_to_list t.reply))) y,
      )

-- where none is ready the order is at its end
pub went_last : (store : Store) (n : ℕ) (f : ByRegion) (ws : List Wrote) (ys : List ReplyLine) → n ≤ entries_in store
    → WentSo (after store n) f ws ys → least_ready store (bare f) ≡ None → WentSo (last store) f ws ys
went_last store n f ws ys le so none = go (there (after store n) f ws ys so) where
  all : (entries_in store - n) + n ≡ entries_in store
  all = omega (arith, le)

  go : Is (after store n) f ws ys → WentSo (last store) f ws ys
  go (g, (is, (r, (w, y)))) =
      let end : last store ≡ Went g = ap (after store) (sym all) ∙ rests_whole store n g is (ap (λ z. least_ready store (bare z)) r ∙ none) (entries_in store - n) in
      subst (λ (s : Stepped). WentSo s f ws ys) (sym end) (r, w, y)

-- a lawful order breaks nowhere
pub never_breaks : (store : Store) (n : ℕ) (f : ByRegion) (ws : List Wrote) (ys : List ReplyLine) (fault : StepFault) → n < entries_in store
    → WentSo (after store n) f ws ys → advance store (bare f) ≡ Broke fault → fault_at_end store (last store) ≡ None → ⊥
never_breaks store n f ws ys fault lt so step lawful = go (there (after store n) f ws ys so) where
  all : (entries_in store - suc n) + suc n ≡ entries_in store
  all = omega (arith, lt)

  go : Is (after store n) f ws ys → ⊥
  go (g, (is, (r, (w, y)))) =
      let next : after store (suc n) ≡ Broke fault = after_on store n g is ∙ ap (onto g.writes g.replies) (ap (λ z. advance store (bare z)) r ∙ step) in
      let end : last store ≡ Broke fault = ap (after store) (sym all) ∙ breaks_whole store (suc n) fault next (entries_in store - suc n) in
      let bad : fault_at_end store (Broke fault) ≡ None = ap (fault_at_end store) (sym end) ∙ lawful in
      cc

-- what comes of a store whose order went so
pub outcome_is : (store : Store) (f : ByRegion) (ws : List Wrote) (ys : List ReplyLine) → WentSo (last store) f ws ys
    → store_outcome store ≡ outcome_with store.id (lines_in store f (ids_of store)) ys (histories_of (shown (removed_in f (ids_of store)) ws))
unfolding store_outcome
outcome_is store f ws ys so = go (there (last store) f ws ys so) where
  go : Is (last store) f ws ys → outcome_by store (last store) ≡ outcome_with store.id (lines_in store f (ids_of store)) ys (histories_of (shown (removed_in f (ids_of store)) ws))
  go (g, (is, (r, (w, y)))) = rw (is, r, w, y) refl
