-- An order of a lawful store, step by step.
use Rattle.std.proofs.Common.{◌≡◌, ◌∙◌, sym, refl, ap, subst, ℕ, suc, ◌+◌, ◌≤◌, ◌<◌, arith, cond, Bool, true, false, List, [], ◌∷◌, ◌++◌, length, map, take, drop, get_or, slice_index_or}
use Rattle.std.specs.Prelude.{Option, Some, None, option_to_list}
use Rattle.std.proofs.lemmas.List.{append_assoc, get_or_default, length-append, length-take-le, map-append, take-append-drop}
use Rattle.rs_entry.specs.declared.input.Store.{Store}
use Rattle.rs_entry.specs.declared.outcome.ReplyLine.{ReplyLine}
use Rattle.rs_store.specs.declared.effect.Effect.{Effect}
use Rattle.rs_store.specs.declared.fault.StepFault.{StepFault}
use Rattle.rs_store.specs.Stores.{Applied, Broke, ByRegion, Stepped, Went, Wrote, entries_in, is_ready, least_ready, opening, replied, step, wrote}
use Rattle.rs_store.specs.Runs.{bare}
use Rattle.rs_store.specs.Walks.{gained}
use Rattle.rs_store.proofs.Orders.{ready_same, least_same}
use Rattle.rs_store.proofs.WalkLaws.{onto, step_onto}
use Rattle.rs_part.specs.Orders.{End, Faulty, Followed, NotReady, follow, follow_by}
use Rattle.rs_part.proofs.Canonical.{order_length}
use Rattle.rs_part.proofs.Following.{follow_more}
use Rattle.rs_fold.specs.Ends.{IsLawful, outcome_left}
use Rattle.rs_fold.specs.Ordered.{EndsSo, Gave, IsScripted, TooSoon, Unfinished, ended, in_order_of, ordered_by}
use Rattle.rs_history.specs.Outcomes.{reply_line, store_outcome}
use Rattle.rs_store.proofs.Loops.{take_here}
use Rattle.rs_fold.proofs.AnyOrder.{ordered_same, ordered_whole}

-- an order that came so has an end
abbrev Is : Followed → ByRegion → List Wrote → List ReplyLine → Type 0
Is x f ws ys = (g : Applied) × (x ≡ End g) × (g.region ≡ f) × (g.writes ≡ ws) × (map reply_line g.replies ≡ ys)

there : (x : Followed) (f : ByRegion) (ws : List Wrote) (ys : List ReplyLine) → EndsSo x f ws ys → Is x f ws ys
there (End g) f ws ys h = (g, refl, h.0, h.1, h.2)
there (NotReady place) f ws ys h = absurd h
there (Faulty fault) f ws ys h = absurd h

-- what follows an order that came to its end goes on from there
follow_on : (store : Store) (before behind : List ℕ) (place : ℕ) (g h : Applied) → follow store place before g ≡ End h → follow store place (before ++ behind) g ≡ follow store (place + length before) behind h
follow_on store [] behind place g h e =
    let one : g ≡ h = cc e in
    let none : place ≡ place + 0 = omega arith in
    ap (follow store place behind) one ∙ ap (λ n. follow store n behind h) none
follow_on store (x ∷ before) behind place g h e = go (is_ready store g x) refl (step store g x) refl (λ k f. follow_on store before behind (suc place) k h f)
  where
    later : suc place + length before ≡ place + suc (length before)
    later = omega arith

    go : (b : Bool) → is_ready store g x ≡ b → (s : Stepped) → step store g x ≡ s
        → ((k : Applied) → follow store (suc place) before k ≡ End h → follow store (suc place) (before ++ behind) k ≡ follow store (suc place + length before) behind h)
        → follow store place (x ∷ (before ++ behind)) g ≡ follow store (place + suc (length before)) behind h
    go true b (Went k) s rest =
        ap (λ z. cond z (follow_by (follow store (suc place) (before ++ behind)) (step store g x)) (NotReady place)) b
        ∙ (ap (follow_by (follow store (suc place) (before ++ behind))) s ∙ (rest k (grind (arith, b, s, e)) ∙ ap (λ n. follow store n behind h) later))
    go true b (Broke fault) s rest = absurd (grind (arith, b, s, e))
    go false b s t rest = absurd (grind (arith, b, e))

module _ (store : Store) (scripted : IsScripted store) (lawful : IsLawful store) where
  -- an order so far has no more steps than the logs hold entries
  pub few_steps : (order : List ℕ) (f : ByRegion) (ws : List Wrote) (ys : List ReplyLine) → EndsSo (follow store 1 order (opening store)) f ws ys → length order ≤ entries_in store
  few_steps order f ws ys so =
      let w = there (follow store 1 order (opening store)) f ws ys so in
      order_length scripted.script store scripted.tells scripted.begins order w.0 w.1

  -- the step of a region that is ready, with what it adds
  pub order_on : (order : List ℕ) (f h : ByRegion) (ws : List Wrote) (ys : List ReplyLine) (t : Effect) (id : ℕ) → EndsSo (follow store 1 order (opening store)) f ws ys
      → is_ready store (bare f) id ≡ true → step store (bare f) id ≡ Went (gained h t)
      → EndsSo (follow store 1 (order ++ id ∷ []) (opening store)) h (ws ++ map (wrote t.region t.index) t.ops.now) (ys ++ map reply_line (replied t.region t.index (option_to_list t.reply)))
  order_on order f h ws ys t id so ready st = go (there (follow store 1 order (opening store)) f ws ys so)
    where
      go : Is (follow store 1 order (opening store)) f ws ys
          → EndsSo (follow store 1 (order ++ id ∷ []) (opening store)) h (ws ++ map (wrote t.region t.index) t.ops.now) (ys ++ map reply_line (replied t.region t.index (option_to_list t.reply)))
      go (g, is, r, w, y) =
          let now : step store g id ≡ onto g.writes g.replies (Went (gained h t)) = step_onto store g id ∙ ap (onto g.writes g.replies) (ap (λ z. step store (bare z) id) r ∙ st) in
          let on = follow_more store order 1 (opening store) g _ id is (ready_same store g id ∙ (ap (λ z. is_ready store (bare z) id) r ∙ ready)) now in
          subst (λ x. EndsSo x h (ws ++ map (wrote t.region t.index) t.ops.now) (ys ++ map reply_line (replied t.region t.index (option_to_list t.reply)))) (sym on) (
            refl,
            ap (λ us. us ++ map (wrote t.region t.index) t.ops.now) w,
            map-append reply_line g.replies (replied t.region t.index (option_to_list t.reply)) ∙ ap (λ us. us ++ map reply_line (replied t.region t.index (option_to_list t.reply))) y,
          )

  -- a region that is ready takes its step without a fault
  pub order_whole : (order : List ℕ) (f : ByRegion) (ws : List Wrote) (ys : List ReplyLine) (id : ℕ) (fault : StepFault) → EndsSo (follow store 1 order (opening store)) f ws ys
      → is_ready store (bare f) id ≡ true → step store (bare f) id ≡ Broke fault → ⊥
  unfolding in_order_of
  order_whole order f ws ys id fault so ready st = go (there (follow store 1 order (opening store)) f ws ys so)
    where
      go : Is (follow store 1 order (opening store)) f ws ys → ⊥
      go (g, is, r, w, y) =
          let here : is_ready store g id ≡ true = ready_same store g id ∙ (ap (λ z. is_ready store (bare z) id) r ∙ ready) in
          let breaks : step store g id ≡ Broke fault = step_onto store g id ∙ ap (onto g.writes g.replies) (ap (λ z. step store (bare z) id) r ∙ st) in
          let meets : follow store (1 + length order) (id ∷ []) g ≡ Faulty fault =
          ap (λ b. cond b (follow_by (follow store (suc (1 + length order)) []) (step store g id)) (NotReady (1 + length order))) here
          ∙ ap (follow_by (follow store (suc (1 + length order)) [])) breaks in
          ordered_whole scripted.script store scripted.tells scripted.begins lawful (order ++ id ∷ []) fault
          (ap (ordered_by store) (follow_on store order (id ∷ []) 1 (opening store) g is ∙ meets))

  -- so there is room for the step of a region that is ready
  pub room_left : (order : List ℕ) (f : ByRegion) (ws : List Wrote) (ys : List ReplyLine) (id : ℕ) → EndsSo (follow store 1 order (opening store)) f ws ys
      → is_ready store (bare f) id ≡ true → length order < entries_in store
  room_left order f ws ys id so ready = go (step store (bare f) id) refl (there (follow store 1 order (opening store)) f ws ys so)
    where
      go : (s : Stepped) → step store (bare f) id ≡ s → Is (follow store 1 order (opening store)) f ws ys → length order < entries_in store
      go (Broke fault) s w = absurd (order_whole order f ws ys id fault so ready s)
      go (Went h) s (g, is, r, w, y) =
          let now : step store g id ≡ onto g.writes g.replies (Went h) = step_onto store g id ∙ ap (onto g.writes g.replies) (ap (λ z. step store (bare z) id) r ∙ s) in
          let on = follow_more store order 1 (opening store) g _ id is (ready_same store g id ∙ (ap (λ z. is_ready store (bare z) id) r ∙ ready)) now in
          let long : length (order ++ id ∷ []) ≡ length order + 1 = length-append order (id ∷ []) in
          let fits : length (order ++ id ∷ []) ≤ entries_in store = order_length scripted.script store scripted.tells scripted.begins (order ++ id ∷ []) _ on in
          omega (arith, long, fits)

  -- a region that isn't ready in its turn
  pub order_stops : (before behind : List ℕ) (f : ByRegion) (ws : List Wrote) (ys : List ReplyLine) (id : ℕ) → EndsSo (follow store 1 before (opening store)) f ws ys
      → is_ready store (bare f) id ≡ false → in_order_of store (before ++ id ∷ behind) ≡ TooSoon (length before + 1)
  unfolding in_order_of
  order_stops before behind f ws ys id so waits = go (there (follow store 1 before (opening store)) f ws ys so)
    where
      one : 1 + length before ≡ length before + 1
      one = omega arith

      go : Is (follow store 1 before (opening store)) f ws ys → ordered_by store (follow store 1 (before ++ id ∷ behind) (opening store)) ≡ TooSoon (length before + 1)
      go (g, is, r, w, y) =
          let here : is_ready store g id ≡ false = ready_same store g id ∙ (ap (λ z. is_ready store (bare z) id) r ∙ waits) in
          let stops : follow store (1 + length before) (id ∷ behind) g ≡ NotReady (1 + length before) =
          ap (λ b. cond b (follow_by (follow store (suc (1 + length before)) behind) (step store g id)) (NotReady (1 + length before))) here in
          ap (ordered_by store) (follow_on store before (id ∷ behind) 1 (opening store) g is ∙ stops) ∙ ap TooSoon one

  -- the least region that is ready at the order's end, if any
  least_is : (order : List ℕ) (f : ByRegion) (ws : List Wrote) (ys : List ReplyLine) (o : Option ℕ) → EndsSo (follow store 1 order (opening store)) f ws ys → least_ready store (bare f) ≡ o
      → (g : Applied) × (follow store 1 order (opening store) ≡ End g) × (least_ready store g ≡ o)
  least_is order f ws ys o so least = go (there (follow store 1 order (opening store)) f ws ys so)
    where
      go : Is (follow store 1 order (opening store)) f ws ys → (g : Applied) × (follow store 1 order (opening store) ≡ End g) × (least_ready store g ≡ o)
      go (g, is, r, w, y) = (g, is, least_same store g ∙ (ap (λ z. least_ready store (bare z)) r ∙ least))

  pub order_unfinished : (order : List ℕ) (f : ByRegion) (ws : List Wrote) (ys : List ReplyLine) (id : ℕ) → EndsSo (follow store 1 order (opening store)) f ws ys
      → least_ready store (bare f) ≡ Some id → in_order_of store order ≡ Unfinished id
  unfolding in_order_of
  order_unfinished order f ws ys id so least =
      let w = least_is order f ws ys (Some id) so least in
      ap (ordered_by store) w.1 ∙ ap (ended store w.0) w.2

  -- the outcome of an order that ends with no region ready, which is the store's
  pub order_gives : (order : List ℕ) (f : ByRegion) (ws : List Wrote) (ys : List ReplyLine) → EndsSo (follow store 1 order (opening store)) f ws ys
      → least_ready store (bare f) ≡ None → (in_order_of store order ≡ Gave (outcome_left store f ws ys)) × (outcome_left store f ws ys ≡ store_outcome store)
  unfolding in_order_of
  order_gives order f ws ys so least = (gives, ordered_same scripted.script store scripted.tells scripted.begins lawful order (outcome_left store f ws ys) gives)
    where
      gives : in_order_of store order ≡ Gave (outcome_left store f ws ys)
      gives = go (there (follow store 1 order (opening store)) f ws ys so)
        where
          go : Is (follow store 1 order (opening store)) f ws ys → ordered_by store (follow store 1 order (opening store)) ≡ Gave (outcome_left store f ws ys)
          go (g, is, r, w, y) =
              let none : least_ready store g ≡ None = least_same store g ∙ (ap (λ z. least_ready store (bare z)) r ∙ least) in
              ap (ordered_by store) is ∙ (ap (ended store g) none ∙ ap Gave (rw (r, w, y) refl))

-- the region at a place, whatever stands for one that isn't there
pub region_at : (order : List ℕ) (place : ℕ) → place < length order → slice_index_or order place 0 ≡ get_or order place (slice_index_or order place 0)
region_at order place within = get_or_default order place 0 (slice_index_or order place 0) within

-- the order's beginning up to a place, and the region there
module _ (store : Store) (scripted : IsScripted store) (lawful : IsLawful store) (order : List ℕ) (place region : ℕ) (within : place < length order) (at : region ≡ get_or order place region)
    (f : ByRegion) (ws : List Wrote) (ys : List ReplyLine) (so : EndsSo (follow store 1 (take place order) (opening store)) f ws ys) where
  long : length (take place order) ≡ place
  long = length-take-le place order (omega (arith, within))

  next : take (place + 1) order ≡ take place order ++ region ∷ []
  next = take_here order place region within at

  pub room_at : is_ready store (bare f) region ≡ true → place < entries_in store
  room_at ready = subst (λ n. n < entries_in store) long (room_left store scripted lawful (take place order) f ws ys region so ready)

  pub stops_at : is_ready store (bare f) region ≡ false → in_order_of store order ≡ TooSoon (place + 1)
  stops_at waits =
      let whole : take place order ++ region ∷ drop (place + 1) order ≡ order =
      sym (append_assoc (take place order) (region ∷ []) (drop (place + 1) order)) ∙ (ap (λ xs. xs ++ drop (place + 1) order) (sym next) ∙ take-append-drop (place + 1) order) in
      ap (in_order_of store) (sym whole)
      ∙ (order_stops store scripted lawful (take place order) (drop (place + 1) order) f ws ys region so waits ∙ ap (λ n. TooSoon (n + 1)) long)

  pub goes_at : (h : ByRegion) (t : Effect) → is_ready store (bare f) region ≡ true → step store (bare f) region ≡ Went (gained h t)
      → EndsSo (follow store 1 (take (place + 1) order) (opening store)) h (ws ++ map (wrote t.region t.index) t.ops.now) (ys ++ map reply_line (replied t.region t.index (option_to_list t.reply)))
  goes_at h t ready st =
      subst (λ xs. EndsSo (follow store 1 xs (opening store)) h (ws ++ map (wrote t.region t.index) t.ops.now) (ys ++ map reply_line (replied t.region t.index (option_to_list t.reply)))) (sym next)
      (order_on store scripted lawful (take place order) f h ws ys t region so ready st)

  pub whole_at : (fault : StepFault) → is_ready store (bare f) region ≡ true → step store (bare f) region ≡ Broke fault → ⊥
  whole_at fault ready st = order_whole store scripted lawful (take place order) f ws ys region fault so ready st
