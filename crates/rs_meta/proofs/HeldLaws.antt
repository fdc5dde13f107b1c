-- The endings that are held, by address, where slots are free, one is filled, or all are full.
use Rattle.std.proofs.Common.{◌≡◌, ◌∙◌, ◌↔◌, sym, refl, ap, subst, ℕ, zero, suc, ◌+◌, ◌-◌, ◌<◌, ◌≤◌, ◌==◌, ◌&&◌, Bool, true, false, [], ◌∷◌, length, Option, Some, None, arith, inl, inr, ◌⊎◌}
use Rattle.std.specs.Prelude.{if◌then◌else◌, IsSome, leb, ltb, slice_get, slice_set}
use Rattle.std.specs.List.{count_by, filter_map}
use Rattle.std.proofs.lemmas.Bool.{and_from, and_parts, cases_eq, cases_lt, eqb-false, eqb-true, le-leb, le-ltb, leb-true, lt-leb, lt-ltb, ltb-true}
use Rattle.std.proofs.lemmas.List.Sums.{count_by-le-length}
use Rattle.std.proofs.lemmas.Option.{slice_get_past, slice_get_within}
use Rattle.rs_entry.specs.declared.input.Input.{Input}
use Rattle.rs_store.specs.Stores.{first_some}
use Rattle.rs_msg.specs.declared.ending.Ending.{Ending}
use Rattle.rs_table.specs.Cuts.{is_on}
use Rattle.rs_meta.specs.Addresses.{count_on, first_of}
use Rattle.rs_meta.specs.Held.{AreAllHeld, AreOwn, ending_in, held_in, held_with, is_free, is_free_at, is_free_slot, with_ending}
use Rattle.rs_meta.specs.Readings.{AreEndings}
use Rattle.rs_meta.proofs.StorePlaces.{FollowOn}
use Rattle.rs_meta.proofs.Slots.{Slots, count_first, count_from_full, full_from_count, get_set_other, get_set_same, length_set}

-- ---- all free

all_free : (xs : Slots) → count_by is_free xs ≡ length xs → (k : ℕ) → ending_in (slice_get xs k) ≡ None
all_free [] free k = refl
all_free (None ∷ xs) free zero = refl
all_free (None ∷ xs) free (suc k) = all_free xs (let e = count_first None xs in omega (arith, e, free)) k
all_free (Some e ∷ xs) free k = absurd (let c = count_first (Some e) xs in let le = count_by-le-length is_free xs in omega (arith, c, le, free))

pub none_own : (input : Input) (first : ℕ) (xs : Slots) → count_by is_free xs ≡ length xs → AreOwn input first xs
none_own input first xs free k e there = absurd (cc (sym (all_free xs free k) ∙ ap ending_in there))

pub none_held : (first : ℕ) (xs : Slots) → count_by is_free xs ≡ length xs → (a : ℕ) → held_in first xs a ≡ None
none_held first xs free a = go (leb first a)
  where
    go : (b : Bool) → (if b then ending_in (slice_get xs (a - first)) else None) ≡ None
    go true = all_free xs free (a - first)
    go false = refl

-- ---- one filled

module _ (xs : Slots) (k : ℕ) (e : Ending) where
  with_other : (j : ℕ) → (j ≡ k → ⊥) → slice_get (with_ending xs k e) j ≡ slice_get xs j
  with_other j ne = go (is_free_at xs k)
    where
      go : (b : Bool) → slice_get (if b then slice_set xs k (Some e) else xs) j ≡ slice_get xs j
      go true = get_set_other xs k (Some e) j ne
      go false = refl

  -- in the slot itself the first ending stays
  with_same : k < length xs → ending_in (slice_get (with_ending xs k e) k) ≡ first_some (ending_in (slice_get xs k)) (Some e)
  with_same lt = go (slice_get xs k) refl
    where
      go : (o : Option (Option Ending)) → slice_get xs k ≡ o → ending_in (slice_get (with_ending xs k e) k) ≡ first_some (ending_in (slice_get xs k)) (Some e)
      go None there = absurd (cc (sym there ∙ (get_there xs k lt).1))
        where
          get_there : (ys : Slots) (j : ℕ) → j < length ys → (y : Option Ending) × (slice_get ys j ≡ Some y)
          get_there [] j h = absurd (omega (arith, h))
          get_there (y ∷ ys) zero h = (y, refl)
          get_there (y ∷ ys) (suc j) h = get_there ys j (omega (arith, h))
      go (Some None) there =
          ap (λ o. ending_in (slice_get (if is_free_slot o then slice_set xs k (Some e) else xs) k)) there
          ∙ (ap ending_in (get_set_same xs k (Some e) lt) ∙ ap (λ o. first_some (ending_in o) (Some e)) (sym there))
      go (Some (Some x)) there =
          ap (λ o. ending_in (slice_get (if is_free_slot o then slice_set xs k (Some e) else xs) k)) there
          ∙ (ap ending_in there ∙ ap (λ o. first_some (ending_in o) (Some e)) (sym there))

  with_past : length xs ≤ k → with_ending xs k e ≡ xs
  with_past le = ap (λ o. if is_free_slot o then slice_set xs k (Some e) else xs) (slice_get_past xs k le)

  pub length_with : length (with_ending xs k e) ≡ length xs
  length_with = go (is_free_at xs k)
    where
      go : (b : Bool) → length (if b then slice_set xs k (Some e) else xs) ≡ length xs
      go true = length_set xs k (Some e)
      go false = refl

  pub own_with : (input : Input) (first : ℕ) → AreOwn input first xs → e.plan.now ≡ input → e.address ≡ first + k → AreOwn input first (with_ending xs k e)
  own_with input first own plan at j x there = elim (cases_eq j k) [
    | inr ne ↦ own j x (sym (with_other j ne) ∙ there)
    | inl p ↦ go (slice_get xs j) refl p
  ]
    where
      go : (o : Option (Option Ending)) → slice_get xs j ≡ o → j ≡ k → (x.plan.now ≡ input) × (x.address ≡ first + j)
      go None here p =
          let past : with_ending xs k e ≡ xs = ap (λ o. if is_free_slot o then slice_set xs k (Some e) else xs) (ap (slice_get xs) (sym p) ∙ here) in
          absurd (cc (sym here ∙ (ap (λ ys. slice_get ys j) (sym past) ∙ there)))
      go (Some (Some y)) here p =
          let same : with_ending xs k e ≡ xs = ap (λ o. if is_free_slot o then slice_set xs k (Some e) else xs) (ap (slice_get xs) (sym p) ∙ here) in
          own j x (ap (λ ys. slice_get ys j) (sym same) ∙ there)
      go (Some None) here p =
          let set : with_ending xs k e ≡ slice_set xs k (Some e) = ap (λ o. if is_free_slot o then slice_set xs k (Some e) else xs) (ap (slice_get xs) (sym p) ∙ here) in
          let lt : j < length xs = slice_get_within xs j None here in
          let one : e ≡ x = cc (sym (get_set_same xs k (Some e) (omega (arith, lt, p))) ∙ (ap (slice_get (slice_set xs k (Some e))) (sym p) ∙ (ap (λ ys. slice_get ys j) (sym set) ∙ there))) in
          (ap (λ z. z.plan.now) (sym one) ∙ plan, ap (λ z. z.address) (sym one) ∙ (at ∙ ap (λ n. first + n) (sym p)))

-- ---- by address

not_on_below : (input : Input) (place : ℕ) → FollowOn input place → (a : ℕ) → leb (first_of input place) a ≡ false → is_on input place a ≡ false
not_on_below input place follow a b = follow a ∙ ap (λ c. c && ltb a (first_of input place + count_on input place)) b

held_other : (b : Bool) (o p : Option Ending) → b ≡ false → o ≡ (if b then p else o)
held_other true o p e = absurd cc
held_other false o p e = refl

and_false : (b c : Bool) → c ≡ false → (b && c) ≡ false
and_false true c e = e
and_false false c e = refl

module _ (input : Input) (place : ℕ) (follow : FollowOn input place) (e : Ending) (xs : Slots) where
  abbrev first : ℕ
  first = first_of input place

  in_slots : (a : ℕ) → leb first a ≡ true → (ys : Slots) → held_in first ys a ≡ ending_in (slice_get ys (a - first))
  in_slots a start ys = ap (λ b. if b then ending_in (slice_get ys (a - first)) else None) start

  -- an ending of an address before the store's isn't held
  pub held_before : e.address < first_of input place → (a : ℕ) → held_in (first_of input place) xs a ≡ held_with input place e (held_in (first_of input place) xs) a
  held_before lt a = held_other ((a == e.address) && is_on input place a) (held_in (first_of input place) xs a) (first_some (held_in (first_of input place) xs a) (Some e)) (go (a == e.address) refl)
    where
      go : (b : Bool) → (a == e.address) ≡ b → (b && is_on input place a) ≡ false
      go false b = refl
      go true b =
          let same : a ≡ e.address = eqb-true a e.address b in
          not_on_below input place follow a (lt-leb (first_of input place) a (omega (arith, same, lt)))

  module _ (k : ℕ) (count : length xs ≡ count_on input place) (at : e.address ≡ first_of input place + k) (a : ℕ) where
    abbrev held : Option Ending
    held = held_in first xs a

    abbrev after : Bool → Option Ending
    after b = if b then first_some held (Some e) else held

    by_place : leb first a ≡ true → a ≡ first + k → (k < length xs) ⊎ (length xs ≤ k) → (a == e.address) ≡ true → held_in first (with_ending xs k e) a ≡ after ((a == e.address) && is_on input place a)
    by_place start p (inl lt) q =
        let own : is_on input place a ≡ true = follow a ∙ and_from (leb first a) (ltb a (first + count_on input place)) start (lt-ltb a (first + count_on input place) (omega (arith, p, lt, count))) in
        let j : a - first ≡ k = omega (arith, p) in
        in_slots a start (with_ending xs k e)
        ∙ (ap (λ n. ending_in (slice_get (with_ending xs k e) n)) j
        ∙ (with_same xs k e lt
        ∙ (ap (λ n. first_some (ending_in (slice_get xs n)) (Some e)) (sym j)
        ∙ (ap (λ o. first_some o (Some e)) (sym (in_slots a start xs))
        ∙ ap after (sym (and_from (a == e.address) (is_on input place a) q own))))))
    by_place start p (inr le) q =
        let other : is_on input place a ≡ false = follow a ∙ and_false (leb first a) (ltb a (first + count_on input place)) (le-ltb a (first + count_on input place) (omega (arith, p, le, count))) in
        ap (λ ys. held_in first ys a) (with_past xs k e le) ∙ ap after (sym (and_false (a == e.address) (is_on input place a) other))

    by_address : leb first a ≡ true → (b : Bool) → (a == e.address) ≡ b → held_in first (with_ending xs k e) a ≡ after ((a == e.address) && is_on input place a)
    by_address start true q = by_place start (eqb-true a e.address q ∙ at) (cases_lt k (length xs)) q
    by_address start false q =
        let ne : a - first ≡ k → ⊥ = λ p. eqb-false a e.address q (let le = leb-true first a start in omega (arith, p, le, at)) in
        in_slots a start (with_ending xs k e)
        ∙ (ap ending_in (with_other xs k e (a - first) ne) ∙ (sym (in_slots a start xs) ∙ ap after (sym (ap (λ b. b && is_on input place a) q))))

    by_start : (b : Bool) → leb first a ≡ b → held_in first (with_ending xs k e) a ≡ after ((a == e.address) && is_on input place a)
    by_start true start = by_address start (a == e.address) refl
    by_start false start =
        let none : (ys : Slots) → held_in first ys a ≡ None = λ ys. ap (λ b. if b then ending_in (slice_get ys (a - first)) else None) start in
        none (with_ending xs k e) ∙ (sym (none xs) ∙ ap after (sym (and_false (a == e.address) (is_on input place a) (not_on_below input place follow a start))))

    -- one of an address from the store's first on
    pub held_from : held_in first (with_ending xs k e) a ≡ held_with input place e (held_in first xs) a
    held_from = by_start (leb first a) refl

module _ (input : Input) (place : ℕ) (follow : FollowOn input place) (xs : Slots) where
  abbrev begin : ℕ
  begin = first_of input place

  -- none is free exactly where each address has its ending
  pub all_held : length xs ≡ count_on input place → (count_by is_free xs ≡ 0) ↔ AreAllHeld input place (held_in begin xs)
  all_held count = (λ none a on. from_full (full_from_count xs none) a on, λ all. count_from_full xs (λ k lt. to_full all k lt))
    where
      in_slot : (a : ℕ) → leb begin a ≡ true → held_in begin xs a ≡ ending_in (slice_get xs (a - begin))
      in_slot a start = ap (λ b. if b then ending_in (slice_get xs (a - begin)) else None) start

      from_full : ((k : ℕ) → k < length xs → IsSome (ending_in (slice_get xs k))) → (a : ℕ) → is_on input place a ≡ true → IsSome (held_in begin xs a)
      from_full full a on =
          let both = and_parts (leb begin a) (ltb a (begin + count_on input place)) (sym (follow a) ∙ on) in
          let from = leb-true begin a both.0 in
          let to = ltb-true a (begin + count_on input place) both.1 in
          subst (λ o. IsSome o) (sym (in_slot a both.0)) (full (a - begin) (omega (arith, from, to, count)))

      to_full : ((a : ℕ) → is_on input place a ≡ true → IsSome (held_in begin xs a)) → (k : ℕ) → k < length xs → IsSome (ending_in (slice_get xs k))
      to_full all k lt =
          let start : leb begin (begin + k) ≡ true = le-leb begin (begin + k) (omega arith) in
          let on = follow (begin + k) ∙ and_from (leb begin (begin + k)) (ltb (begin + k) (begin + count_on input place)) start (lt-ltb (begin + k) (begin + count_on input place) (omega (arith, lt, count))) in
          let j : begin + k - begin ≡ k = omega arith in
          subst (λ n. IsSome (ending_in (slice_get xs n))) j (subst (λ o. IsSome o) (in_slot (begin + k) start) (all (begin + k) on))

-- ---- all endings

-- where all slots are full, each ending stands where its slot does
held_length : (xs : Slots) → count_by is_free xs ≡ 0 → length (filter_map (λ slot. slot) xs) ≡ length xs
held_length [] none = refl
held_length (None ∷ xs) none = absurd (let e = count_first None xs in omega (arith, e, none))
held_length (Some e ∷ xs) none = ap (λ n. suc n) (held_length xs (sym (count_first (Some e) xs) ∙ none))

held_place : (xs : Slots) → count_by is_free xs ≡ 0 → (k : ℕ) (e : Ending) → slice_get (filter_map (λ slot. slot) xs) k ≡ Some e → slice_get xs k ≡ Some (Some e)
held_place [] none k e there = absurd cc
held_place (None ∷ xs) none k e there = absurd (let c = count_first None xs in omega (arith, c, none))
held_place (Some x ∷ xs) none zero e there = ap Some there
held_place (Some x ∷ xs) none (suc k) e there = held_place xs (sym (count_first (Some x) xs) ∙ none) k e there

pub all_endings : (input : Input) (place : ℕ) → FollowOn input place → (low : ℕ) (xs : Slots) → low ≡ first_of input place → length xs ≡ count_on input place → AreOwn input low xs
    → AreAllHeld input place (held_in low xs) → AreEndings input place (filter_map (λ slot. slot) xs)
all_endings input place follow low xs begins count own all =
    let none : count_by is_free xs ≡ 0 = (all_held input place follow xs count).1 (subst (λ n. AreAllHeld input place (held_in n xs)) begins all) in
    record {
      count = held_length xs none ∙ count;
      plans = λ k e there. (own k e (held_place xs none k e there)).0;
      addresses = λ k e there. (own k e (held_place xs none k e there)).1 ∙ ap (λ n. n + k) begins;
    }
