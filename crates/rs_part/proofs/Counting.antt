-- How far an order can go: each step leaves less of the logs ahead.
use Rattle.std.proofs.Common.{◌≡◌, ℕ, zero, suc, ◌+◌, ◌-◌, ◌≤◌, ◌<◌, Bool, true, false, cond, List, [], ◌∷◌, ◌++◌, length, Option, Some, None, refl, ap, sym, ◌∙◌, arith, subst, inl, inr}
use Rattle.std.specs.Prelude.{◌&&◌, slice_get}
use Rattle.std.specs.List.{count_by, flat_map, sum_by}
use Rattle.std.proofs.lemmas.Bool.{cases_eq, lt-ltb, le-ltb, ltb-true}
use Rattle.std.proofs.lemmas.List.{length-append, length-map}
use Rattle.std.proofs.lemmas.List.Sums.{count_by-le-length, sum_by-cons}
use Rattle.rs_entry.specs.declared.entry.Body.{Body}
use Rattle.rs_entry.specs.declared.entry.Body.TheVariants as body
use Rattle.rs_entry.specs.declared.entry.Entry.{Entry}
use Rattle.rs_entry.specs.declared.input.Log.{Log}
use Rattle.rs_entry.specs.declared.input.Store.{Store}
use Rattle.rs_store.specs.declared.regions.Made.{Made}
use Rattle.rs_store.specs.Ends.{applied_of}
use Rattle.rs_store.specs.Stores.{Applied, carried_in, entries_in, goes_on, ids_of, is_ready, next, own, own_next, ready_in, ready_with}
use Rattle.rs_part.specs.Counting.{IsAmong, Slot, ahead, carried_slots, is_ahead, slots_from, slots_of}
use Rattle.rs_part.specs.Effects.{Stepping}
use Rattle.rs_part.specs.Orders.{IsDone}
use Rattle.rs_part.specs.Scripts.{Script}
use Rattle.rs_part.specs.Sound.{Sound}
use Rattle.rs_part.proofs.Known.{Brought, brought, next_cases, own_among}
use Rattle.rs_part.proofs.Members.{among_flat, among_get, among_left, among_map, among_right}
use Rattle.rs_part.proofs.Regions.{same_region}

-- ---- how many pass a test

abbrev tally : Bool → ℕ
tally b = cond b 1 0

tally_le : (a b : Bool) → (a ≡ true → b ≡ true) → tally a ≤ tally b
tally_le true b h = omega (arith, ap tally (h refl))
tally_le false b h = omega arith

count_le : {A : Type 0} (f g : A → Bool) → ((x : A) → f x ≡ true → g x ≡ true) → (xs : List A) → count_by f xs ≤ count_by g xs
count_le f g h [] = omega arith
count_le f g h (x ∷ xs) =
    let a : tally (f x) ≤ tally (g x) = tally_le (f x) (g x) (h x) in
    let b : count_by f xs ≤ count_by g xs = count_le f g h xs in
    let c : count_by f (x ∷ xs) ≡ tally (f x) + count_by f xs = sum_by-cons (λ y. cond (f y) 1 0) x xs in
    let d : count_by g (x ∷ xs) ≡ tally (g x) + count_by g xs = sum_by-cons (λ y. cond (g y) 1 0) x xs in
    omega arith

-- where one passes the weaker test alone, fewer pass the other
count_less : {A : Type 0} (f g : A → Bool) → ((x : A) → f x ≡ true → g x ≡ true) → (x : A) (xs : List A) → IsAmong x xs → f x ≡ false → g x ≡ true → count_by f xs + 1 ≤ count_by g xs
count_less f g h x [] i a b = absurd i
count_less f g h x (y ∷ ys) i a b = go i (count_less f g h x ys)
  where
    c : count_by f (y ∷ ys) ≡ tally (f y) + count_by f ys
    c = sum_by-cons (λ z. cond (f z) 1 0) y ys

    d : count_by g (y ∷ ys) ≡ tally (g y) + count_by g ys
    d = sum_by-cons (λ z. cond (g z) 1 0) y ys

    go : IsAmong x (y ∷ ys) → (IsAmong x ys → f x ≡ false → g x ≡ true → count_by f ys + 1 ≤ count_by g ys) → count_by f (y ∷ ys) + 1 ≤ count_by g (y ∷ ys)
    go (inl p) rest =
        let l : count_by f ys ≤ count_by g ys = count_le f g h ys in
        let m : tally (f y) ≡ 0 = ap (λ z. tally (f z)) (sym p) ∙ ap tally a in
        let n : tally (g y) ≡ 1 = ap (λ z. tally (g z)) (sym p) ∙ ap tally b in
        omega (arith, c, d)
    go (inr j) rest =
        let l : count_by f ys + 1 ≤ count_by g ys = rest j a b in
        let m : tally (f y) ≤ tally (g y) = tally_le (f y) (g y) (h y) in
        omega (arith, c, d)

-- ---- where the entries of a store stand

carried_length : (b : Body) → length (carried_slots b) ≡ carried_in b
carried_length body.Empty = refl
carried_length (body.Write ops) = refl
carried_length (body.Split side ids keys) = refl
carried_length (body.Prepare target) = refl
carried_length (body.Commit source commit carried) = length-map carried _
carried_length (body.Rollback commit) = refl
carried_length (body.Conf c) = refl

log_length : (region index : ℕ) (es : List Entry) → length (slots_from region index es) ≡ sum_by (λ e. 1 + carried_in e.body) es
log_length region index [] = refl
log_length region index (e ∷ es) = omega (
  arith,
  length-append (carried_slots e.body) (slots_from region (index + 1) es),
  carried_length e.body,
  log_length region (index + 1) es,
  sum_by-cons (λ y. 1 + carried_in y.body) e es,
)

logs_length : (logs : List Log) → length (flat_map (λ log. slots_from log.region 6 log.entries) logs) ≡ sum_by (λ log. sum_by (λ e. 1 + carried_in e.body) log.entries) logs
logs_length [] = refl
logs_length (log ∷ logs) = omega (
  arith,
  length-append (slots_from log.region 6 log.entries) (flat_map (λ l. slots_from l.region 6 l.entries) logs),
  log_length log.region 6 log.entries,
  logs_length logs,
  sum_by-cons (λ l. sum_by (λ e. 1 + carried_in e.body) l.entries) log logs,
)

-- no more lies ahead than the logs hold
pub ahead_fits : (store : Store) (g : Applied) → ahead store g ≤ entries_in store
ahead_fits store g =
    let a : count_by (is_ahead g) (slots_of store) ≤ length (slots_of store) = count_by-le-length (is_ahead g) (slots_of store) in
    let b : length (slots_of store) ≡ entries_in store = logs_length store.logs in
    omega arith

slot_own : (region index : ℕ) (es : List Entry) (k : ℕ) (e : Entry) → slice_get es k ≡ Some e → IsAmong (record { region = region; index = k + index }) (slots_from region index es)
slot_own region index [] k e h = absurd cc
slot_own region index (y ∷ es) zero e h = inl (let z : 0 + index ≡ index = omega arith in ap (λ (i : ℕ). record { region = region; index = i }) z)
slot_own region index (y ∷ es) (suc k) e h =
    let z : suc k + index ≡ k + (index + 1) = omega arith in
    inr (subst (λ (i : ℕ). IsAmong (record { region = region; index = i }) (carried_slots y.body ++ slots_from region (index + 1) es)) (sym z)
    (among_right (record { region = region; index = k + (index + 1) }) (carried_slots y.body) (slots_from region (index + 1) es) (slot_own region (index + 1) es k e h)))

slot_carried : (region index : ℕ) (es : List Entry) (e : Entry) (s : Slot) → IsAmong e es → IsAmong s (carried_slots e.body) → IsAmong s (slots_from region index es)
slot_carried region index [] e s i j = absurd i
slot_carried region index (y ∷ es) e s (inl p) j = inr (among_left s (carried_slots y.body) (slots_from region (index + 1) es) (subst (λ z. IsAmong s (carried_slots z.body)) p j))
slot_carried region index (y ∷ es) e s (inr i) j = inr (among_right s (carried_slots y.body) (slots_from region (index + 1) es) (slot_carried region (index + 1) es e s i j))

-- where a region's next entry stands
abbrev slot_after : ℕ → Made → Slot
slot_after id r = record { region = id; index = r.applied + 1 }

-- it stands in the logs, where it is at hand
next_slot : (store : Store) (g : Applied) (id : ℕ) (r : Made) (e : Entry) → 5 ≤ r.applied → next store g id r ≡ Some e
    → IsAmong (slot_after id r) (slots_of store)
next_slot store g id r e five h =
    elim (next_cases store g id r e h) [
      | inl o ↦ of_own o
      | inr c ↦ of_carried (brought store g id (r.applied + 1) e (ids_of store) c)
    ]
  where
    of_own : own_next (own store id) r.applied ≡ Some e → IsAmong (slot_after id r) (slots_of store)
    of_own o =
        let w = own_among store.logs id r.applied e o in
        let z : (r.applied - 5) + 6 ≡ r.applied + 1 = omega arith in
        among_flat (λ log. slots_from log.region 6 log.entries) (slot_after id r) w.0 store.logs
        (subst (λ (i : ℕ). IsAmong (record { region = id; index = i }) (slots_from w.0.region 6 w.0.entries)) z
        (subst (λ (x : ℕ). IsAmong (record { region = x; index = (r.applied - 5) + 6 }) (slots_from w.0.region 6 w.0.entries)) w.2
        (slot_own w.0.region 6 w.0.entries (r.applied - 5) e w.3))) w.1

    of_carried : Brought store id (r.applied + 1) e → IsAmong (slot_after id r) (slots_of store)
    of_carried b =
        let w = own_among store.logs b.target b.place b.by b.stood in
        let at : IsAmong (record { region = b.merge.source; index = b.carried.index }) (carried_slots b.by.body) =
        subst (λ y. IsAmong (record { region = b.merge.source; index = b.carried.index }) (carried_slots y)) (sym b.body)
        (among_map (λ c. record { region = b.merge.source; index = c.index }) b.carried b.merge.carried b.among) in
        among_flat (λ log. slots_from log.region 6 log.entries) (slot_after id r) w.0 store.logs
        (subst (λ (i : ℕ). IsAmong (record { region = id; index = i }) (slots_from w.0.region 6 w.0.entries)) b.at
        (subst (λ (x : ℕ). IsAmong (record { region = x; index = b.carried.index }) (slots_from w.0.region 6 w.0.entries)) b.source
        (slot_carried w.0.region 6 w.0.entries b.by (record { region = b.merge.source; index = b.carried.index }) (among_get w.0.entries (b.place - 5) b.by w.3) at))) w.1

-- ---- steps

module _ (script : Script) (store : Store) (g : Applied) (sound : Sound script store g) where
  -- a region's next entry, where it is at hand, lies ahead
  next_ahead : (id : ℕ) (r : Made) → g.region id ≡ Some r → is_ahead g (slot_after id r) ≡ true
  next_ahead id r here =
      let now : applied_of (g.region id) ≡ r.applied = ap applied_of here in
      lt-ltb (applied_of (g.region id)) (r.applied + 1) (omega arith)

  -- each step leaves less ahead
  pub ahead_falls : (id : ℕ) (k : Applied) → Stepping script store g id k → ahead store k + 1 ≤ ahead store g
  ahead_falls id k w =
      count_less (is_ahead k) (is_ahead g) still (slot_after id w.r) (slots_of store) (next_slot store g id w.r w.e (sound.since id w.r w.here) w.taken) passed (next_ahead id w.r w.here)
    where
      passed : is_ahead k (slot_after id w.r) ≡ false
      passed =
          let now : applied_of (k.region id) ≡ w.effect.mine.0.applied = ap applied_of w.effect.mine.1 in
          let one : w.effect.mine.0.applied ≡ w.r.applied + 1 = w.effect.mine.2 in
          le-ltb (applied_of (k.region id)) (w.r.applied + 1) (omega arith)

      more : (x : ℕ) (o : Option Made) → g.region x ≡ o → applied_of o ≤ applied_of (k.region x)
      more x None none = omega arith
      more x (Some t) some =
          elim (cases_eq x id) [
            | inl p ↦
                (let was : t.applied ≡ w.r.applied = ap (λ z. z.applied) (same_region (g.region x) (g.region id) t w.r some (ap g.region p) w.here) in
                let now : applied_of (k.region x) ≡ w.effect.mine.0.applied = ap (λ z. applied_of (k.region z)) p ∙ ap applied_of w.effect.mine.1 in
                let up : w.effect.mine.0.applied ≡ w.r.applied + 1 = w.effect.mine.2 in
                omega arith)
            | inr ne ↦ elim (w.effect.others x t ne some) [
              | inl h ↦ (let now : applied_of (k.region x) ≡ t.applied = ap applied_of h in omega arith)
              | inr h ↦
                  (let now : applied_of (k.region x) ≡ h.0.applied = ap applied_of h.1 in
                  let same : h.0.applied ≡ t.applied = ap (λ z. z.applied) h.2.now in
                  omega arith)
            ]
          ]

      still : (s : Slot) → is_ahead k s ≡ true → is_ahead g s ≡ true
      still s h =
          let a : applied_of (k.region s.region) < s.index = ltb-true (applied_of (k.region s.region)) s.index h in
          let b : applied_of (g.region s.region) ≤ applied_of (k.region s.region) = more s.region (g.region s.region) refl in
          lt-ltb (applied_of (g.region s.region)) s.index (omega arith)

  -- with nothing ahead, nothing is ready
  pub none_ahead : ahead store g ≡ 0 → IsDone store g
  none_ahead zero_ahead id = at_region (g.region id) refl
    where
      at_region : (o : Option Made) → g.region id ≡ o → is_ready store g id ≡ false
      at_region None here = ap (ready_in store g id) here
      at_region (Some r) here = at_entry (next store g id r) refl (goes_on (own store id) r.state) refl
        where
          at_entry : (o : Option Entry) → next store g id r ≡ o → (b : Bool) → goes_on (own store id) r.state ≡ b → is_ready store g id ≡ false
          at_entry o taken false goes = ap (ready_in store g id) here ∙ ap (λ z. z && ready_with g r.state (next store g id r)) goes
          at_entry None taken true goes = ap (ready_in store g id) here ∙ (ap (λ z. z && ready_with g r.state (next store g id r)) goes ∙ ap (ready_with g r.state) taken)
          at_entry (Some e) taken true goes =
              let a : count_by (λ x. false) (slots_of store) + 1 ≤ ahead store g =
              count_less (λ x. false) (is_ahead g) (λ x h. absurd (cc h)) (slot_after id r) (slots_of store) (next_slot store g id r e (sound.since id r here) taken) refl (next_ahead id r here) in
              absurd (omega arith)
