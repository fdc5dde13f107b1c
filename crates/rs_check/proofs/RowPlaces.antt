-- Rows of an input stand in order and differ, so each is found at its own place.
use Rattle.std.proofs.Common.{◌≡◌, ℕ, zero, suc, ◌+◌, ◌<◌, ◌==◌, ◌⊎◌, Bool, true, false, ◌&&◌, cond, List, [], ◌∷◌, ◌++◌, map, length, get_or, Option, Some, None, refl, ap, sym, ◌∙◌, arith, inl, inr, subst}
use Rattle.std.specs.Prelude.{ltb, if◌then◌else◌, slice_get, position, nat_lt, not}
use Rattle.std.specs.List.{AllByRecursion, cons_option, flat_map, position_or_len}
use Rattle.std.specs.List.Sorted.{IsPartitionedBy, IsPartitionPoint}
use Rattle.std.proofs.lemmas.Bool.{both_ways, eqb-true, eqb-false, eq-eqb, ne_eqb, lt-ltb, ltb-true, ltb-false, and_parts, and_from, cases_lt, cases_order, or_cases, or_left, or_right}
use Rattle.std.proofs.lemmas.List.Quantifiers.{position-Some}
use Rattle.std.proofs.lemmas.Option.{slice_get-get_or}
use Rattle.rs_entry.specs.WellFormed.{Rising, WellFormed}
use Rattle.rs_entry.specs.declared.input.Store.{Store}
use Rattle.rs_entry.specs.declared.input.Input.{Input}
use Rattle.rs_region.proofs.CutParts.{all_map}
use Rattle.rs_store.specs.declared.regions.Made.{Made}
use Rattle.rs_store.specs.Stores.{Broke, ByRegion, Stepped, Went, add_all, ids_in_log, ids_of, insert_id, last}
use Rattle.rs_part.specs.Counting.{IsAmong}
use Rattle.rs_part.proofs.Members.{among_all, among_get}
use Rattle.rs_check.specs.declared.rows.Row.{Row}
use Rattle.rs_check.specs.Plans.{AreOrdered, is_at, is_before, row_of, rows_at, rows_in, rows_of, store_rows}

-- ---- ids in rising order

abbrev Ascend : List ℕ → Type 0
Ascend [] = Unit {0}
Ascend (x ∷ xs) = AllByRecursion (λ y. x < y) xs × Ascend xs

all_insert : (P : ℕ → Type 0) (x : ℕ) (ys : List ℕ) → P x → AllByRecursion P ys → AllByRecursion P (insert_id x ys)
all_insert P x [] p h = (p, tt)
all_insert P x (y ∷ ys) p h = go (x == y) (ltb x y) (all_insert P x ys p h.1) where
  go : (a b : Bool) → AllByRecursion P (insert_id x ys) → AllByRecursion P (if a then y ∷ ys else (if b then x ∷ y ∷ ys else y ∷ insert_id x ys))
  go true b rest = h
  go false true rest = (p, h)
  go false false rest = (h.0, rest)

insert_ascends : (x : ℕ) (ys : List ℕ) → Ascend ys → Ascend (insert_id x ys)
insert_ascends x [] h = (tt, tt)
insert_ascends x (y ∷ ys) h = go (x == y) refl (ltb x y) refl (insert_ascends x ys h.1) where
  go : (a : Bool) → (x == y) ≡ a → (b : Bool) → ltb x y ≡ b → Ascend (insert_id x ys) → Ascend (if a then y ∷ ys else (if b then x ∷ y ∷ ys else y ∷ insert_id x ys))
  go true e b f rest = h
  go false e true f rest = let lt : x < y = ltb-true x y f in ((lt, all_map (λ z. y < z) (λ z. x < z) (λ z k. omega arith) ys h.0), h)
  go false e false f rest =
      let ne : x ≡ y → ⊥ = eqb-false x y e in
      let ge = ltb-false x y f in
      let lt : y < x = omega arith in
      (all_insert (λ z. y < z) x ys lt h.0, rest)

add_ascends : (done xs : List ℕ) → Ascend done → Ascend (add_all done xs)
add_ascends done [] h = h
add_ascends done (x ∷ xs) h = add_ascends (insert_id x done) xs (insert_ascends x done h)

ids_ascend : (store : Store) → Ascend (ids_of store)
ids_ascend store = add_ascends (add_all [] (map (λ b. b.region) store.regions)) (flat_map ids_in_log store.logs) (add_ascends [] (map (λ b. b.region) store.regions) tt)

-- ---- rows

all_two : {A : Type 0} (P : A → Type 0) (xs ys : List A) → AllByRecursion P xs → AllByRecursion P ys → AllByRecursion P (xs ++ ys)
all_two P [] ys h k = k
all_two P (x ∷ xs) ys h k = (h.0, all_two P xs ys h.1 k)

ordered_append : (xs ys : List Row) → AreOrdered xs → AreOrdered ys → AllByRecursion (λ x. AllByRecursion (λ y. is_before y.store y.region x ≡ true) ys) xs → AreOrdered (xs ++ ys)
ordered_append [] ys h k a = k
ordered_append (x ∷ xs) ys h k a = (all_two (λ y. is_before y.store y.region x ≡ true) xs ys h.0 a.0, ordered_append xs ys h.1 k a.1)

below_store : (x : Row) (store region : ℕ) → x.store < store → is_before store region x ≡ true
below_store x store region lt = or_left (ltb x.store store) ((x.store == store) && ltb x.region region) (lt-ltb x.store store lt)

below_region : (x : Row) (store region : ℕ) → x.store ≡ store → x.region < region → is_before store region x ≡ true
below_region x store region same lt =
    or_right (ltb x.store store) ((x.store == store) && ltb x.region region)
    (and_from (x.store == store) (ltb x.region region) (eq-eqb x.store store same) (lt-ltb x.region region lt))

before_cases : (x : Row) (store region : ℕ) → is_before store region x ≡ true → (x.store < store) ⊎ ((x.store ≡ store) × (x.region < region))
before_cases x store region h = elim (or_cases (ltb x.store store) ((x.store == store) && ltb x.region region) h) [
  | inl s ↦ inl (ltb-true x.store store s)
  | inr r ↦ (let both = and_parts (x.store == store) (ltb x.region region) r in inr (eqb-true x.store store both.0, ltb-true x.region region both.1))
]

row_is : (store : Store) (id : ℕ) (o : Option Made) (y : Row) → row_of store id o ≡ Some y → (y.store ≡ store.id) × (y.region ≡ id)
row_is store id None y h = absurd cc
row_is store id (Some r) y h = (sym (ap (λ z. (named z).0) h), sym (ap (λ z. (named z).1) h)) where
  named : Option Row → ℕ × ℕ
  named None = (store.id, id)
  named (Some z) = (z.store, z.region)

-- what holds of the row of each id holds of each row
rows_all : (P : Row → Type 0) (store : Store) (f : ByRegion) (ids : List ℕ) → AllByRecursion (λ id. (y : Row) → row_of store id (f id) ≡ Some y → P y) ids → AllByRecursion P (rows_in store f ids)
rows_all P store f [] h = tt
rows_all P store f (id ∷ ids) h = go (row_of store id (f id)) h.0 (rows_all P store f ids h.1) where
  go : (o : Option Row) → ((y : Row) → o ≡ Some y → P y) → AllByRecursion P (rows_in store f ids) → AllByRecursion P (cons_option o (rows_in store f ids))
  go None k rest = rest
  go (Some y) k rest = (k y refl, rest)

all_ids : (P : ℕ → Type 0) (xs : List ℕ) → ((x : ℕ) → P x) → AllByRecursion P xs
all_ids P [] f = tt
all_ids P (x ∷ xs) f = (f x, all_ids P xs f)

rows_stored : (store : Store) (f : ByRegion) (ids : List ℕ) → AllByRecursion (λ y. y.store ≡ store.id) (rows_in store f ids)
rows_stored store f ids = rows_all (λ y. y.store ≡ store.id) store f ids (all_ids (λ id. (y : Row) → row_of store id (f id) ≡ Some y → y.store ≡ store.id) ids (λ id y h. (row_is store id (f id) y h).0))

rows_ordered : (store : Store) (f : ByRegion) (ids : List ℕ) → Ascend ids → AreOrdered (rows_in store f ids)
rows_ordered store f [] h = tt
rows_ordered store f (id ∷ ids) h = go (row_of store id (f id)) refl (rows_ordered store f ids h.1) where
  go : (o : Option Row) → row_of store id (f id) ≡ o → AreOrdered (rows_in store f ids) → AreOrdered (cons_option o (rows_in store f ids))
  go None e rest = rest
  go (Some x) e rest = (
    rows_all (λ y. is_before y.store y.region x ≡ true) store f ids
        (all_map (λ i. id < i) (λ i. (y : Row) → row_of store i (f i) ≡ Some y → is_before y.store y.region x ≡ true)
        (λ i lt y k.
        let a = row_is store i (f i) y k in
        let b = row_is store id (f id) x e in
        let ra : y.region ≡ i = a.1 in
        let rb : x.region ≡ id = b.1 in
        below_region x y.store y.region (b.0 ∙ sym a.0) (omega arith)) ids h.0),
    rest,
  )

store_stored : (store : Store) → AllByRecursion (λ y. y.store ≡ store.id) (store_rows store)
unfolding store_rows
store_stored store = go (last store) where
  go : (s : Stepped) → AllByRecursion (λ y. y.store ≡ store.id) (rows_at store s)
  go (Broke fault) = tt
  go (Went g) = rows_stored store g.region (ids_of store)

store_ordered : (store : Store) → AreOrdered (store_rows store)
unfolding store_rows
store_ordered store = go (last store) where
  go : (s : Stepped) → AreOrdered (rows_at store s)
  go (Broke fault) = tt
  go (Went g) = rows_ordered store g.region (ids_of store) (ids_ascend store)

-- of stores whose ids rise from a number on
stored_above : (low : ℕ) (stores : List Store) → Rising low (map (λ s. s.id) stores) → AllByRecursion (λ y. low < y.store) (flat_map store_rows stores)
stored_above low [] h = tt
stored_above low (s ∷ ss) h =
    let lt : low < s.id = h.0 in
    all_two (λ y. low < y.store) (store_rows s) (flat_map store_rows ss)
    (all_map (λ y. y.store ≡ s.id) (λ y. low < y.store) (λ y e. omega arith) (store_rows s) (store_stored s))
    (all_map (λ y. s.id < y.store) (λ y. low < y.store) (λ y l. omega arith) (flat_map store_rows ss) (stored_above s.id ss h.2))

all_ordered : (low : ℕ) (stores : List Store) → Rising low (map (λ s. s.id) stores) → AreOrdered (flat_map store_rows stores)
all_ordered low [] h = tt
all_ordered low (s ∷ ss) h =
    ordered_append (store_rows s) (flat_map store_rows ss) (store_ordered s) (all_ordered s.id ss h.2)
    (all_map (λ x. x.store ≡ s.id) (λ x. AllByRecursion (λ y. is_before y.store y.region x ≡ true) (flat_map store_rows ss))
    (λ x e. all_map (λ y. s.id < y.store) (λ y. is_before y.store y.region x ≡ true) (λ y l. below_store x y.store y.region (omega arith)) (flat_map store_rows ss) (stored_above s.id ss h.2))
    (store_rows s) (store_stored s))

-- rows stand in order
pub rows_of_ordered : (input : Input) → WellFormed input → AreOrdered (rows_of input)
unfolding rows_of
rows_of_ordered input well = all_ordered 0 input.stores well.ids

-- ---- rows differ

-- no row stands for what an earlier one stands for
abbrev pub Differ : List Row → Type 0
Differ [] = Unit {0}
Differ (x ∷ xs) = AllByRecursion (λ y. is_at x.store x.region y ≡ false) xs × Differ xs

other_store : (x y : Row) → (y.store ≡ x.store → ⊥) → is_at x.store x.region y ≡ false
other_store x y ne = ap (λ b. b && (y.region == x.region)) (ne_eqb y.store x.store ne)

other_region : (x y : Row) → (y.region ≡ x.region → ⊥) → is_at x.store x.region y ≡ false
other_region x y ne = ap (λ b. (y.store == x.store) && b) (ne_eqb y.region x.region ne) ∙ never (y.store == x.store) where
  never : (b : Bool) → (b && false) ≡ false
  never true = refl
  never false = refl

before_differs : (x y : Row) → is_before y.store y.region x ≡ true → is_at x.store x.region y ≡ false
before_differs x y h = elim (before_cases x y.store y.region h) [
  | inl lt ↦ other_store x y (λ p. omega arith)
  | inr w ↦ (let lt : x.region < y.region = w.1 in other_region x y (λ p. omega arith))
]

ordered_differ : (xs : List Row) → AreOrdered xs → Differ xs
ordered_differ [] h = tt
ordered_differ (x ∷ xs) h =
    (all_map (λ y. is_before y.store y.region x ≡ true) (λ y. is_at x.store x.region y ≡ false) (λ y b. before_differs x y b) xs h.0, ordered_differ xs h.1)

rows_of_differ : (input : Input) → WellFormed input → Differ (rows_of input)
rows_of_differ input well = ordered_differ (rows_of input) (rows_of_ordered input well)

-- ---- places

place_len : (xs : List Row) → Differ xs → (a : ℕ) (x : Row) → slice_get xs a ≡ Some x → (position_or_len (is_at x.store x.region) xs ≡ a) × (a < length xs)
place_len [] d a x h = absurd cc
place_len (y ∷ ys) d zero x h =
    let one : y ≡ x = cc in
    let here : is_at x.store x.region y ≡ true = and_from (y.store == x.store) (y.region == x.region) (eq-eqb y.store x.store (ap (λ z. z.store) one)) (eq-eqb y.region x.region (ap (λ z. z.region) one)) in
    (ap (λ b. cond (not b) (1 + position_or_len (is_at x.store x.region) ys) 0) here, omega arith)
place_len (y ∷ ys) d (suc a) x h =
    let w = place_len ys d.1 a x h in
    let before : is_at y.store y.region x ≡ false = among_all (λ z. is_at y.store y.region z ≡ false) x ys d.0 (among_get ys a x h) in
    let turned : is_at x.store x.region y ≡ false = turn before in
    let rest : position_or_len (is_at x.store x.region) ys ≡ a = w.0 in
    let lt : a < length ys = w.1 in
    (ap (λ b. cond (not b) (1 + position_or_len (is_at x.store x.region) ys) 0) turned ∙ omega arith, omega arith) where
      turn : is_at y.store y.region x ≡ false → is_at x.store x.region y ≡ false
      turn h = go (is_at x.store x.region y) refl where
        go : (b : Bool) → is_at x.store x.region y ≡ b → is_at x.store x.region y ≡ false
        go false e = e
        go true e =
            let both = and_parts (y.store == x.store) (y.region == x.region) e in
            absurd (both_ways (is_at y.store y.region x) h
            (and_from (x.store == y.store) (x.region == y.region) (eq-eqb x.store y.store (sym (eqb-true y.store x.store both.0))) (eq-eqb x.region y.region (sym (eqb-true y.region x.region both.1)))))

place_is : (xs : List Row) → Differ xs → (a : ℕ) (x : Row) → slice_get xs a ≡ Some x → position (is_at x.store x.region) xs ≡ Some a
place_is xs d a x h =
    let w = place_len xs d a x h in
    let at : position_or_len (is_at x.store x.region) xs ≡ a = w.0 in
    let lt : a < length xs = w.1 in
    ap (λ n. cond (nat_lt n (length xs)) (Some n) None) at ∙ ap (λ b. cond b (Some a) None) (lt-ltb a (length xs) lt)

-- an address is found by its own ids
pub own_place : (input : Input) → WellFormed input → (a : ℕ) (x : Row) → slice_get (rows_of input) a ≡ Some x → position (is_at x.store x.region) (rows_of input) ≡ Some a
own_place input well a x h = place_is (rows_of input) (rows_of_differ input well) a x h

-- where a row stands
pub record Stands (input : Input) (x : Row) : Type 0 where
  pub b : ℕ
  pub row : slice_get (rows_of input) b ≡ Some x
  pub found : position (is_at x.store x.region) (rows_of input) ≡ Some b
  pub within : b < length (rows_of input)

get_among : (x : Row) (xs : List Row) → IsAmong x xs → (a : ℕ) × (slice_get xs a ≡ Some x)
get_among x [] i = absurd i
get_among x (y ∷ ys) (inl p) = (0, ap Some (sym p))
get_among x (y ∷ ys) (inr i) = (let w = get_among x ys i in (suc w.0, w.1))

-- each row has its place
pub row_stands : (input : Input) → WellFormed input → (x : Row) → IsAmong x (rows_of input) → Stands input x
row_stands input well x i =
    let w = get_among x (rows_of input) i in
    record { b = w.0; row = w.1; found = own_place input well w.0 x w.1; within = (place_len (rows_of input) (rows_of_differ input well) w.0 x w.1).1 }

-- ---- the first row that isn't before a region's

-- of two rows, the first stands before the second
earlier : (xs : List Row) → AreOrdered xs → (j k : ℕ) (x y : Row) → j < k → slice_get xs j ≡ Some x → slice_get xs k ≡ Some y → is_before y.store y.region x ≡ true
earlier [] h j k x y lt a b = absurd cc
earlier (z ∷ zs) h zero zero x y lt a b = absurd (omega arith)
earlier (z ∷ zs) h zero (suc k) x y lt a b =
    let one : z ≡ x = cc in
    subst (λ w. is_before y.store y.region w ≡ true) one (among_all (λ w. is_before w.store w.region z ≡ true) y zs h.0 (among_get zs k y b))
earlier (z ∷ zs) h (suc j) zero x y lt a b = absurd (omega arith)
earlier (z ∷ zs) h (suc j) (suc k) x y lt a b = earlier zs h.1 j k x y (omega arith) a b

-- what is before a row is before what that row is before
before_all : (x y : Row) (store region : ℕ) → is_before y.store y.region x ≡ true → is_before store region y ≡ true → is_before store region x ≡ true
before_all x y store region a b = elim (before_cases x y.store y.region a) [
  | inl lt ↦ elim (before_cases y store region b) [
    | inl l ↦ below_store x store region (omega arith)
    | inr w ↦ (let same : y.store ≡ store = w.0 in below_store x store region (omega arith))
  ]
  | inr v ↦ elim (before_cases y store region b) [
    | inl l ↦ (let same : x.store ≡ y.store = v.0 in below_store x store region (omega arith))
    | inr w ↦ (let lower : x.region < y.region = v.1 in let lowest : y.region < region = w.1 in below_region x store region (v.0 ∙ w.0) (omega arith))
  ]
]

pub rows_part : (xs : List Row) (store region : ℕ) → AreOrdered xs → IsPartitionedBy (is_before store region) xs
rows_part xs store region h i j d le lt p = elim (cases_lt i j) [
  | inl l ↦
      before_all (get_or xs i d) (get_or xs j d) store region
      (earlier xs h i j (get_or xs i d) (get_or xs j d) l (slice_get-get_or xs i d (omega arith)) (slice_get-get_or xs j d lt)) p
  | inr g ↦ (let same : j ≡ i = omega arith in subst (λ k. is_before store region (get_or xs k d) ≡ true) same p)
]

-- the region's row isn't before it
at_it : (x : Row) (store region : ℕ) → is_at store region x ≡ true → is_before store region x ≡ true → ⊥
at_it x store region a b =
    let both = and_parts (x.store == store) (x.region == region) a in
    let s : x.store ≡ store = eqb-true x.store store both.0 in
    let r : x.region ≡ region = eqb-true x.region region both.1 in
    elim (before_cases x store region b) [
      | inl lt ↦ omega arith
      | inr w ↦ (let lt : x.region < region = w.1 in omega arith)
    ]

-- where the first row that isn't before the region's isn't the region's, no row is
pub none_there : (xs : List Row) (store region i : ℕ) → AreOrdered xs → IsPartitionPoint (λ r. is_before store region r ≡ true) (λ r. is_before store region r ≡ false) xs i
    → ((x : Row) → slice_get xs i ≡ Some x → is_at store region x ≡ false) → position (is_at store region) xs ≡ None
none_there [] store region i h part other = refl
none_there (z ∷ zs) store region i h part other = go (position (is_at store region) (z ∷ zs)) refl where
  go : (o : Option ℕ) → position (is_at store region) (z ∷ zs) ≡ o → position (is_at store region) (z ∷ zs) ≡ None
  go None e = e
  go (Some k) e =
      let w = position-Some (is_at store region) (z ∷ zs) k z e in
      let within : k < length (z ∷ zs) = w.0 in
      let here : slice_get (z ∷ zs) k ≡ Some (get_or (z ∷ zs) k z) = slice_get-get_or (z ∷ zs) k z within in
      elim (cases_order k i) [
        | inl same ↦
            absurd (both_ways (is_at store region (get_or (z ∷ zs) k z)) (other (get_or (z ∷ zs) k z) (ap (slice_get (z ∷ zs)) (sym same) ∙ here)) w.1)
        | inr c ↦ elim c [
          | inl lt ↦ absurd (at_it (get_or (z ∷ zs) k z) store region w.1 (part.0 k z (omega arith) lt))
          | inr gt ↦
              (let both = and_parts ((get_or (z ∷ zs) k z).store == store) ((get_or (z ∷ zs) k z).region == region) w.1 in
              let first = earlier (z ∷ zs) h i k (get_or (z ∷ zs) i z) (get_or (z ∷ zs) k z) gt (slice_get-get_or (z ∷ zs) i z (omega arith)) here in
              let s : (get_or (z ∷ zs) k z).store ≡ store = eqb-true (get_or (z ∷ zs) k z).store store both.0 in
              let r : (get_or (z ∷ zs) k z).region ≡ region = eqb-true (get_or (z ∷ zs) k z).region region both.1 in
              absurd (both_ways (is_before store region (get_or (z ∷ zs) i z)) (part.1 i z (omega arith) (omega arith))
              (subst (λ x. is_before x region (get_or (z ∷ zs) i z) ≡ true) s
              (subst (λ y. is_before (get_or (z ∷ zs) k z).store y (get_or (z ∷ zs) i z) ≡ true) r first))))
        ]
      ]

-- whether it is the region's or not
pub place_at : (xs : List Row) (store region i : ℕ) (x : Row) → AreOrdered xs → Some x ≡ slice_get xs i → is_at store region x ≡ true → Some i ≡ position (is_at store region) xs
place_at xs store region i x h here at =
    let both = and_parts (x.store == store) (x.region == region) at in
    sym (subst (λ y. position (is_at y region) xs ≡ Some i) (eqb-true x.store store both.0)
    (subst (λ y. position (is_at x.store y) xs ≡ Some i) (eqb-true x.region region both.1) (place_is xs (ordered_differ xs h) i x (sym here))))

pub no_place : (xs : List Row) (store region i : ℕ) (x : Row) → AreOrdered xs → IsPartitionPoint (λ r. is_before store region r ≡ true) (λ r. is_before store region r ≡ false) xs i
    → Some x ≡ slice_get xs i → is_at store region x ≡ false → None ≡ position (is_at store region) xs
no_place xs store region i x h part here other =
    sym (none_there xs store region i h part (λ y there. let same : x ≡ y = cc (here, there) in subst (λ z. is_at store region z ≡ false) same other))

pub past_all : (xs : List Row) (store region i : ℕ) → AreOrdered xs → IsPartitionPoint (λ r. is_before store region r ≡ true) (λ r. is_before store region r ≡ false) xs i
    → None ≡ slice_get xs i → None ≡ position (is_at store region) xs
past_all xs store region i h part none = sym (none_there xs store region i h part (λ y there. absurd (cc (none, there))))
