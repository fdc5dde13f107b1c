-- On a store, addresses stand in the order of their regions.
use Rattle.std.proofs.Common.{◌≡◌, ℕ, zero, suc, ◌<◌, Bool, true, false, List, [], ◌∷◌, ◌++◌, map, Option, Some, None, refl, ap, sym, ◌∙◌, arith}
use Rattle.std.specs.Prelude.{◌==◌, ltb, if◌then◌else◌, slice_get}
use Rattle.std.specs.List.{AllByRecursion, cons_option, flat_map}
use Rattle.std.proofs.lemmas.Bool.{eqb-false, ltb-false, ltb-true}
use Rattle.rs_entry.specs.WellFormed.{Rising, WellFormed}
use Rattle.rs_entry.specs.declared.input.Input.{Input}
use Rattle.rs_entry.specs.declared.input.Store.{Store}
use Rattle.rs_region.proofs.CutParts.{all_map}
use Rattle.rs_store.specs.declared.regions.Made.{Made}
use Rattle.rs_store.specs.Stores.{Broke, ByRegion, Stepped, Went, add_all, ids_in_log, ids_of, insert_id, last}
use Rattle.rs_part.proofs.Members.{among_all, among_get}
use Rattle.rs_check.specs.declared.rows.Row.{Row}
use Rattle.rs_check.specs.Plans.{row_of, rows_at, rows_in, rows_of, store_rows}
use Rattle.rs_check.specs.Values.{region_of}
use Rattle.rs_table.specs.Cuts.{is_on}
use Rattle.rs_table.proofs.Addressing.{on_address, on_of}

-- ---- the ids that a store may make

abbrev Ascend : List ℕ → Type 0
Ascend [] = Unit {0}
Ascend (x ∷ xs) = AllByRecursion (λ y. x < y) xs × Ascend xs

all_insert : (P : ℕ → Type 0) (x : ℕ) (ys : List ℕ) → P x → AllByRecursion P ys → AllByRecursion P (insert_id x ys)
all_insert P x [] p h = (p, tt)
all_insert P x (y ∷ ys) p h = go (x == y) (ltb x y) (all_insert P x ys p h.1) where
  go : (a b : Bool) → AllByRecursion P (insert_id x ys) → AllByRecursion P (if a then y ∷ ys else (if b then x ∷ y ∷ ys else y ∷ insert_id x ys))
  go true b rest = h
  go false true rest = (p, h)
  go false false rest = (h.0, rest)

insert_ascends : (x : ℕ) (ys : List ℕ) → Ascend ys → Ascend (insert_id x ys)
insert_ascends x [] h = (tt, tt)
insert_ascends x (y ∷ ys) h = go (x == y) refl (ltb x y) refl (insert_ascends x ys h.1) where
  go : (a : Bool) → (x == y) ≡ a → (b : Bool) → ltb x y ≡ b → Ascend (insert_id x ys) → Ascend (if a then y ∷ ys else (if b then x ∷ y ∷ ys else y ∷ insert_id x ys))
  go true e b f rest = h
  go false e true f rest = let lt : x < y = ltb-true x y f in ((lt, all_map (λ z. y < z) (λ z. x < z) (λ z k. omega arith) ys h.0), h)
  go false e false f rest =
      let ne : x ≡ y → ⊥ = eqb-false x y e in
      let ge = ltb-false x y f in
      let lt : y < x = omega arith in
      (all_insert (λ z. y < z) x ys lt h.0, rest)

add_ascends : (done xs : List ℕ) → Ascend done → Ascend (add_all done xs)
add_ascends done [] h = h
add_ascends done (x ∷ xs) h = add_ascends (insert_id x done) xs (insert_ascends x done h)

ids_ascend : (store : Store) → Ascend (ids_of store)
ids_ascend store = add_ascends (add_all [] (map (λ b. b.region) store.regions)) (flat_map ids_in_log store.logs) (add_ascends [] (map (λ b. b.region) store.regions) tt)

-- ---- rows

-- of one store, each is below all that follow
abbrev pub Ordered : List Row → Type 0
Ordered [] = Unit {0}
Ordered (x ∷ xs) = AllByRecursion (λ y. x.store ≡ y.store → x.region < y.region) xs × Ordered xs

-- rows of a store, with ids above this
abbrev Above : ℕ → ℕ → Row → Type 0
Above store low x = (x.store ≡ store) × (low < x.region)

all_above : (store : Store) (f : ByRegion) (low : ℕ) (ids : List ℕ) → AllByRecursion (λ y. low < y) ids → AllByRecursion (Above store.id low) (rows_in store f ids)
all_above store f low [] h = tt
all_above store f low (id ∷ ids) h = go (f id) (all_above store f low ids h.1) where
  go : (o : Option Made) → AllByRecursion (Above store.id low) (rows_in store f ids) → AllByRecursion (Above store.id low) (cons_option (row_of store id o) (rows_in store f ids))
  go None rest = rest
  go (Some r) rest = ((refl, h.0), rest)

rows_ordered : (store : Store) (f : ByRegion) (ids : List ℕ) → Ascend ids → Ordered (rows_in store f ids)
rows_ordered store f [] h = tt
rows_ordered store f (id ∷ ids) h = go (f id) (rows_ordered store f ids h.1) where
  go : (o : Option Made) → Ordered (rows_in store f ids) → Ordered (cons_option (row_of store id o) (rows_in store f ids))
  go None rest = rest
  go (Some r) rest = (all_map (Above store.id id) (λ y. store.id ≡ y.store → id < y.region) (λ y a same. a.1) (rows_in store f ids) (all_above store f id ids h.0), rest)

-- rows of a store's
all_of : (store : Store) (f : ByRegion) (ids : List ℕ) → AllByRecursion (λ x. x.store ≡ store.id) (rows_in store f ids)
all_of store f [] = tt
all_of store f (id ∷ ids) = go (f id) (all_of store f ids) where
  go : (o : Option Made) → AllByRecursion (λ x. x.store ≡ store.id) (rows_in store f ids) → AllByRecursion (λ x. x.store ≡ store.id) (cons_option (row_of store id o) (rows_in store f ids))
  go None rest = rest
  go (Some r) rest = (refl, rest)

at_ordered : (store : Store) (s : Stepped) → Ordered (rows_at store s) × AllByRecursion (λ x. x.store ≡ store.id) (rows_at store s)
at_ordered store (Broke fault) = (tt, tt)
at_ordered store (Went g) = (rows_ordered store g.region (ids_of store) (ids_ascend store), all_of store g.region (ids_of store))

pub store_ordered : (store : Store) → Ordered (store_rows store) × AllByRecursion (λ x. x.store ≡ store.id) (store_rows store)
unfolding store_rows
store_ordered store = at_ordered store (last store)

append_all : {A : Type 0} (P : A → Type 0) (xs ys : List A) → AllByRecursion P xs → AllByRecursion P ys → AllByRecursion P (xs ++ ys)
append_all P [] ys h k = k
append_all P (x ∷ xs) ys h k = (h.0, append_all P xs ys h.1 k)

ordered_append : (id : ℕ) (xs ys : List Row) → Ordered xs → Ordered ys → AllByRecursion (λ x. x.store ≡ id) xs → AllByRecursion (λ y. id < y.store) ys → Ordered (xs ++ ys)
ordered_append id [] ys h k a b = k
ordered_append id (x ∷ xs) ys h k a b = (
  append_all (λ y. x.store ≡ y.store → x.region < y.region) xs ys h.0 (all_map (λ y. id < y.store) (λ y. x.store ≡ y.store → x.region < y.region) (λ y lt same. absurd (let e = a.0 in omega (arith, lt, same, e))) ys b),
  ordered_append id xs ys h.1 k a.1 b,
)

pub stores_ordered : (low : ℕ) (stores : List Store) → Rising low (map (λ s. s.id) stores) → Ordered (flat_map store_rows stores) × AllByRecursion (λ y. low < y.store) (flat_map store_rows stores)
stores_ordered low [] r = (tt, tt)
stores_ordered low (s ∷ ss) r =
    let one = store_ordered s in
    let rest = stores_ordered s.id ss r.2 in
    let above = r.0 in (
      ordered_append s.id (store_rows s) (flat_map store_rows ss) one.0 rest.0 one.1 rest.1,
      append_all (λ y. low < y.store) (store_rows s) (flat_map store_rows ss)
          (all_map (λ x. x.store ≡ s.id) (λ y. low < y.store) (λ x e. omega (arith, e, above)) (store_rows s) one.1)
          (all_map (λ y. s.id < y.store) (λ y. low < y.store) (λ y lt. omega (arith, lt, above)) (flat_map store_rows ss) rest.1),
    )

all_ordered : (input : Input) → WellFormed input → Ordered (rows_of input)
unfolding rows_of
all_ordered input well = (stores_ordered 0 input.stores well.ids).0

later : (xs : List Row) (a b : ℕ) (x y : Row) → Ordered xs → a < b → slice_get xs a ≡ Some x → slice_get xs b ≡ Some y → x.store ≡ y.store → x.region < y.region
later [] a b x y h lt ga gb same = absurd cc
later (z ∷ zs) zero zero x y h lt ga gb same = absurd (omega arith)
later (z ∷ zs) zero (suc b) x y h lt ga gb same =
    let one : z ≡ x = cc ga in
    let f = among_all (λ w. z.store ≡ w.store → z.region < w.region) y zs h.0 (among_get zs b y gb) in
    let l = f (ap (λ (w : Row). w.store) one ∙ same) in
    let e : z.region ≡ x.region = ap (λ (w : Row). w.region) one in
    omega (arith, l, e)
later (z ∷ zs) (suc a) zero x y h lt ga gb same = absurd (omega arith)
later (z ∷ zs) (suc a) (suc b) x y h lt ga gb same = later zs a b x y h.1 (omega arith) ga gb same

-- an address is before another of its store where its region's id is less
pub regions_rise : (input : Input) → WellFormed input → (place a b : ℕ) → is_on input place a ≡ true → is_on input place b ≡ true → a < b → region_of input a < region_of input b
regions_rise input well place a b on_a on_b lt =
    let x = on_of input place a on_a in
    let y = on_of input place b on_b in
    let one : x.store ≡ y.store = cc (x.there, y.there) in
    let l = later (rows_of input) a b x.row y.row (all_ordered input well) lt x.here y.here (x.same ∙ (ap (λ (s : Store). s.id) one ∙ sym y.same)) in
    let ra : region_of input a ≡ x.row.region = ap (λ p. p.1) (on_address input place a x) in
    let rb : region_of input b ≡ y.row.region = ap (λ p. p.1) (on_address input place b y) in
    omega (arith, l, ra, rb)
