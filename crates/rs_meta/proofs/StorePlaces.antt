-- A store's addresses, by the ids of the stores of all addresses.
use Rattle.std.proofs.Common.{◌≡◌, ◌∙◌, sym, refl, ap, subst, ℕ, zero, suc, ◌+◌, ◌<◌, ◌==◌, Bool, true, false, cond, List, [], ◌∷◌, ◌++◌, map, length, take, Option, Some, None, arith}
use Rattle.std.specs.Prelude.{◌&&◌, get_or, if◌then◌else◌, leb, ltb, slice_get}
use Rattle.std.specs.Option.{option_map}
use Rattle.std.specs.List.{AllByRecursion, cons_option, count_by, filter, flat_map}
use Rattle.std.proofs.lemmas.Bool.{eq-eqb, le-ltb, lt-ltb, ne_eqb}
use Rattle.std.proofs.lemmas.List.{append-nil}
use Rattle.std.proofs.lemmas.List.Elements.{filter-append}
use Rattle.std.proofs.lemmas.List.Sums.{count_by_more_no, count_by_more_yes, length-filter}
use Rattle.std.proofs.lemmas.Option.{get_or_from_slice_get, slice_get_within}
use Rattle.rs_entry.specs.WellFormed.{Rising, WellFormed}
use Rattle.rs_entry.specs.declared.input.Input.{Input}
use Rattle.rs_entry.specs.declared.input.Store.{Store}
use Rattle.rs_region.proofs.CutParts.{all_map}
use Rattle.rs_store.specs.declared.regions.Made.{Made}
use Rattle.rs_store.specs.Stores.{Broke, ByRegion, Stepped, Went, ids_of, last}
use Rattle.rs_check.specs.declared.rows.Row.{Row}
use Rattle.rs_check.specs.Plans.{address_in, address_of, row_of, rows_at, rows_in, rows_of, store_rows}
use Rattle.rs_table.specs.Cuts.{is_on}
use Rattle.rs_table.proofs.Spans.{on_span}
use Rattle.rs_meta.specs.Addresses.{count_on, first_of, rows_on}

-- ---- tests that all of a list pass or fail

keeps_all : (p : Row → Bool) (xs : List Row) → AllByRecursion (λ x. p x ≡ true) xs → filter p xs ≡ xs
keeps_all p [] h = refl
keeps_all p (x ∷ xs) h = ap (λ b. cond b (x ∷ filter p xs) (filter p xs)) h.0 ∙ ap (λ ys. x ∷ ys) (keeps_all p xs h.1)

keeps_none : (p : Row → Bool) (xs : List Row) → AllByRecursion (λ x. p x ≡ false) xs → filter p xs ≡ []
keeps_none p [] h = refl
keeps_none p (x ∷ xs) h = ap (λ b. cond b (x ∷ filter p xs) (filter p xs)) h.0 ∙ keeps_none p xs h.1

all_both : (P : Row → Type 0) (xs ys : List Row) → AllByRecursion P xs → AllByRecursion P ys → AllByRecursion P (xs ++ ys)
all_both P [] ys h k = k
all_both P (x ∷ xs) ys h k = (h.0, all_both P xs ys h.1 k)

-- ---- each row has the id of its store

pub rows_stored : (store : Store) (f : ByRegion) (ids : List ℕ) → AllByRecursion (λ y. y.store ≡ store.id) (rows_in store f ids)
rows_stored store f [] = tt
rows_stored store f (id ∷ ids) = go (f id) (rows_stored store f ids)
  where
    go : (o : Option Made) → AllByRecursion (λ y. y.store ≡ store.id) (rows_in store f ids) → AllByRecursion (λ y. y.store ≡ store.id) (cons_option (row_of store id o) (rows_in store f ids))
    go None rest = rest
    go (Some r) rest = (refl, rest)

stored : (store : Store) → AllByRecursion (λ y. y.store ≡ store.id) (store_rows store)
unfolding store_rows
stored store = go (last store)
  where
    go : (s : Stepped) → AllByRecursion (λ y. y.store ≡ store.id) (rows_at store s)
    go (Broke fault) = tt
    go (Went g) = rows_stored store g.region (ids_of store)

above : (low : ℕ) (stores : List Store) → Rising low (map (λ s. s.id) stores) → AllByRecursion (λ y. low < y.store) (flat_map store_rows stores)
above low [] h = tt
above low (s ∷ ss) h =
    let lt : low < s.id = h.0 in
    all_both (λ y. low < y.store) (store_rows s) (flat_map store_rows ss)
    (all_map (λ y. y.store ≡ s.id) (λ y. low < y.store) (λ y e. omega arith) (store_rows s) (stored s))
    (all_map (λ y. s.id < y.store) (λ y. low < y.store) (λ y l. omega arith) (flat_map store_rows ss) (above s.id ss h.2))

id_above : (low : ℕ) (stores : List Store) → Rising low (map (λ s. s.id) stores) → (place : ℕ) (s : Store) → slice_get stores place ≡ Some s → low < s.id
id_above low [] h place s e = absurd cc
id_above low (x ∷ xs) h zero s e = (let same : x ≡ s = cc in let lt : low < x.id = h.0 in subst (λ z. low < z.id) same lt)
id_above low (x ∷ xs) h (suc place) s e =
    let lt : low < x.id = h.0 in
    let more : x.id < s.id = id_above x.id xs h.2 place s e in
    omega arith

-- ---- the rows of the stores below, and of the store

module _ (s : Store) where
  abbrev is_below : Row → Bool
  is_below r = ltb r.store s.id

  abbrev is_its : Row → Bool
  is_its r = r.store == s.id

  below_place : (low : ℕ) (stores : List Store) → Rising low (map (λ s. s.id) stores) → (place : ℕ) → slice_get stores place ≡ Some s
      → filter is_below (flat_map store_rows stores) ≡ flat_map store_rows (take place stores)
  below_place low [] h place e = absurd cc
  below_place low (x ∷ xs) h zero e =
      let same : x ≡ s = cc in
      let id : x.id ≡ s.id = ap (λ z. z.id) same in
      filter-append is_below (store_rows x) (flat_map store_rows xs)
      ∙ (ap (λ ys. ys ++ filter is_below (flat_map store_rows xs)) (keeps_none is_below (store_rows x)
      (all_map (λ y. y.store ≡ x.id) (λ y. is_below y ≡ false) (λ y q. le-ltb y.store s.id (omega arith)) (store_rows x) (stored x)))
      ∙ keeps_none is_below (flat_map store_rows xs)
      (all_map (λ y. x.id < y.store) (λ y. is_below y ≡ false) (λ y lt. le-ltb y.store s.id (omega arith)) (flat_map store_rows xs) (above x.id xs h.2)))
  below_place low (x ∷ xs) h (suc place) e =
      let lt : x.id < s.id = id_above x.id xs h.2 place s e in
      filter-append is_below (store_rows x) (flat_map store_rows xs)
      ∙ (ap (λ ys. ys ++ filter is_below (flat_map store_rows xs)) (keeps_all is_below (store_rows x)
      (all_map (λ y. y.store ≡ x.id) (λ y. is_below y ≡ true) (λ y q. lt-ltb y.store s.id (omega arith)) (store_rows x) (stored x)))
      ∙ ap (λ ys. store_rows x ++ ys) (below_place x.id xs h.2 place e))

  its_own : (low : ℕ) (stores : List Store) → Rising low (map (λ s. s.id) stores) → (place : ℕ) → slice_get stores place ≡ Some s → filter is_its (flat_map store_rows stores) ≡ store_rows s
  its_own low [] h place e = absurd cc
  its_own low (x ∷ xs) h zero e =
      let same : x ≡ s = cc in
      let id : x.id ≡ s.id = ap (λ z. z.id) same in
      filter-append is_its (store_rows x) (flat_map store_rows xs)
      ∙ (ap (λ ys. filter is_its (store_rows x) ++ ys) (keeps_none is_its (flat_map store_rows xs)
      (all_map (λ y. x.id < y.store) (λ y. is_its y ≡ false) (λ y lt. ne_eqb y.store s.id (λ q. omega arith)) (flat_map store_rows xs) (above x.id xs h.2)))
      ∙ (append-nil (filter is_its (store_rows x))
      ∙ (keeps_all is_its (store_rows x) (all_map (λ y. y.store ≡ x.id) (λ y. is_its y ≡ true) (λ y q. eq-eqb y.store s.id (q ∙ id)) (store_rows x) (stored x))
      ∙ ap store_rows same)))
  its_own low (x ∷ xs) h (suc place) e =
      let lt : x.id < s.id = id_above x.id xs h.2 place s e in
      filter-append is_its (store_rows x) (flat_map store_rows xs)
      ∙ (ap (λ ys. ys ++ filter is_its (flat_map store_rows xs)) (keeps_none is_its (store_rows x)
      (all_map (λ y. y.store ≡ x.id) (λ y. is_its y ≡ false) (λ y q. ne_eqb y.store s.id (λ p. omega arith)) (store_rows x) (stored x)))
      ∙ its_own x.id xs h.2 place e)

-- an address is the store's where it is one of those from its first on
abbrev pub FollowOn : Input → ℕ → Type 0
FollowOn input place = (a : ℕ) → is_on input place a ≡ (leb (first_of input place) a && ltb a (first_of input place + count_on input place))

pub follow_on : (input : Input) → WellFormed input → (place : ℕ) → place < length input.stores → FollowOn input place
follow_on input well place within a = go (slice_get input.stores place) refl
  where
    no_store : (xs : List Store) (k : ℕ) → k < length xs → slice_get xs k ≡ None → ⊥
    no_store [] k lt e = omega (arith, lt)
    no_store (x ∷ xs) zero lt e = cc e
    no_store (x ∷ xs) (suc k) lt e = no_store xs k (omega (arith, lt)) e

    go : (o : Option Store) → slice_get input.stores place ≡ o → is_on input place a ≡ (leb (first_of input place) a && ltb a (first_of input place + count_on input place))
    go (Some s) there =
        on_span input well place s there a
        ∙ ap (λ o. leb (first_of input place) a && ltb a (first_of input place + length (rows_on o))) (sym there)
    go None there = absurd (no_store input.stores place within there)

-- the store at a place, by its id
record AtPlace (input : Input) (place id : ℕ) : Type 0 where
  pub store : Store
  pub there : slice_get input.stores place ≡ Some store
  pub is : store.id ≡ id

at_place : (input : Input) (place id : ℕ) → option_map (λ s. s.id) (slice_get input.stores place) ≡ Some id → AtPlace input place id
at_place input place id e = go (slice_get input.stores place) refl e
  where
    go : (o : Option Store) → slice_get input.stores place ≡ o → option_map (λ s. s.id) o ≡ Some id → AtPlace input place id
    go None there e = absurd cc
    go (Some s) there e = record { store = s; there = there; is = cc e }

module _ (input : Input) (well : WellFormed input) (place id : ℕ) (is : option_map (λ s. s.id) (slice_get input.stores place) ≡ Some id) where
  at : AtPlace input place id
  at = at_place input place id is

  pub first_is : count_by (λ row. ltb row.store id) (rows_of input) ≡ first_of input place
  unfolding rows_of
  first_is =
      ap (λ n. count_by (λ row. ltb row.store n) (rows_of input)) (sym at.is)
      ∙ (sym (length-filter (is_below at.store) (rows_of input)) ∙ ap length (below_place at.store 0 input.stores well.ids place at.there))

  pub count_is : count_by (λ row. row.store == id) (rows_of input) ≡ count_on input place
  unfolding rows_of
  count_is =
      ap (λ n. count_by (λ row. row.store == n) (rows_of input)) (sym at.is)
      ∙ (sym (length-filter (is_its at.store) (rows_of input)) ∙ (ap length (its_own at.store 0 input.stores well.ids place at.there) ∙ ap (λ o. length (rows_on o)) (sym at.there)))

-- ---- one address more

one_more : (p : Row → Bool) (xs : List Row) (a : ℕ) (x : Row) → slice_get xs a ≡ Some x → count_by p (take (a + 1) xs) ≡ (if p x then count_by p (take a xs) + 1 else count_by p (take a xs))
one_more p xs a x e = go (p x) refl
  where
    lt : a < length xs
    lt = slice_get_within xs a x e

    here : get_or xs a x ≡ x
    here = get_or_from_slice_get xs a x x e

    go : (b : Bool) → p x ≡ b → count_by p (take (a + 1) xs) ≡ (if b then count_by p (take a xs) + 1 else count_by p (take a xs))
    go true b = count_by_more_yes p xs a x lt (ap p here ∙ b)
    go false b = count_by_more_no p xs a x lt (ap p here ∙ b)

no_row : (xs : List Row) (a : ℕ) → a < length xs → slice_get xs a ≡ None → ⊥
no_row [] a lt e = omega (arith, lt)
no_row (x ∷ xs) zero lt e = cc e
no_row (x ∷ xs) (suc a) lt e = no_row xs a (omega (arith, lt)) e

-- by the store's id in its address
count_next : (q : ℕ → Bool) (input : Input) (a : ℕ) → a < length (rows_of input)
    → count_by (λ row. q row.store) (take (a + 1) (rows_of input)) ≡ (if q (address_of input a).0 then count_by (λ row. q row.store) (take a (rows_of input)) + 1 else count_by (λ row. q row.store) (take a (rows_of input)))
count_next q input a lt = go (slice_get (rows_of input) a) refl
  where
    go : (o : Option Row) → slice_get (rows_of input) a ≡ o
        → count_by (λ row. q row.store) (take (a + 1) (rows_of input)) ≡ (if q (address_in o).0 then count_by (λ row. q row.store) (take a (rows_of input)) + 1 else count_by (λ row. q row.store) (take a (rows_of input)))
    go None e = absurd (no_row (rows_of input) a lt e)
    go (Some x) e = one_more (λ row. q row.store) (rows_of input) a x e

-- one that passes the test, and one that doesn't
module _ (q : ℕ → Bool) (input : Input) (a : ℕ) (lt : a < length (rows_of input)) (store : ℕ) (is : store ≡ (address_of input a).0) (count : ℕ) (so_far : count ≡ count_by (λ row. q row.store) (take a (rows_of input))) where
  test : (b : Bool) → q store ≡ b → count_by (λ row. q row.store) (take (a + 1) (rows_of input)) ≡ (if b then count_by (λ row. q row.store) (take a (rows_of input)) + 1 else count_by (λ row. q row.store) (take a (rows_of input)))
  test b e = count_next q input a lt ∙ ap (λ c. if c then count_by (λ row. q row.store) (take a (rows_of input)) + 1 else count_by (λ row. q row.store) (take a (rows_of input))) (ap q (sym is) ∙ e)

  pub one_passes : q store ≡ true → count + 1 ≡ count_by (λ row. q row.store) (take (a + 1) (rows_of input))
  one_passes e = ap (λ n. n + 1) so_far ∙ sym (test true e)

  pub one_fails : q store ≡ false → count ≡ count_by (λ row. q row.store) (take (a + 1) (rows_of input))
  one_fails e = so_far ∙ sym (test false e)
