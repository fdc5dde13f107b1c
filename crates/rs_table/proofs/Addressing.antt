-- The addresses of a plan's store and their regions.
use Rattle.std.proofs.Common.{◌≡◌, ℕ, zero, suc, ◌<◌, true, List, [], ◌∷◌, length, Option, Some, None, refl, ap, sym, ◌∙◌, arith}
use Rattle.std.specs.Prelude.{◌==◌, slice_get, position, get_or}
use Rattle.std.proofs.lemmas.Bool.{and_parts, eqb-true, eq-eqb}
use Rattle.std.proofs.lemmas.List.Quantifiers.{position-Some}
use Rattle.rs_entry.specs.WellFormed.{WellFormed}
use Rattle.rs_entry.specs.declared.input.Input.{Input}
use Rattle.rs_entry.specs.declared.input.Store.{Store}
use Rattle.rs_check.specs.declared.rows.Row.{Row}
use Rattle.rs_check.specs.Plans.{address_of, is_at, rows_of}
use Rattle.rs_check.specs.Plans.{address_in as row_address}
use Rattle.rs_check.specs.Values.{count_of, region_of}
use Rattle.rs_check.proofs.RowPlaces.{own_place}
use Rattle.rs_table.specs.Cuts.{beside, is_of, is_on}
use Rattle.rs_table.specs.Rows.{address_in, address_on}

-- an address of the store
pub record On (input : Input) (place a : ℕ) : Type 0 where
  pub store : Store
  pub row : Row
  pub there : slice_get input.stores place ≡ Some store
  pub here : slice_get (rows_of input) a ≡ Some row
  pub same : row.store ≡ store.id
  pub below : a < count_of input

get_below : (rows : List Row) (a : ℕ) (r : Row) → slice_get rows a ≡ Some r → a < length rows
get_below [] a r h = absurd cc
get_below (x ∷ xs) zero r h = omega arith
get_below (x ∷ xs) (suc a) r h = let l = get_below xs a r h in omega arith

pub on_of : (input : Input) (place a : ℕ) → is_on input place a ≡ true → On input place a
unfolding is_on
on_of input place a on = go (slice_get input.stores place) refl (slice_get (rows_of input) a) refl on where
  go : (s : Option Store) → slice_get input.stores place ≡ s → (r : Option Row) → slice_get (rows_of input) a ≡ r → is_of s r ≡ true → On input place a
  go None se r re h = absurd cc
  go (Some s) se None re h = absurd cc
  go (Some s) se (Some r) re h = record { store = s; row = r; there = se; here = re; same = eqb-true r.store s.id h; below = get_below (rows_of input) a r re }

pub is_on_of : (input : Input) (place a : ℕ) → On input place a → is_on input place a ≡ true
unfolding is_on
is_on_of input place a o = ap (λ s. is_of s (slice_get (rows_of input) a)) o.there ∙ (ap (is_of (Some o.store)) o.here ∙ eq-eqb o.row.store o.store.id o.same)

pub on_address : (input : Input) (place a : ℕ) (o : On input place a) → address_of input a ≡ (o.row.store, o.row.region)
on_address input place a o = ap row_address o.here

pub on_store : (input : Input) (place a : ℕ) (o : On input place a) → (address_of input a).0 ≡ o.store.id
on_store input place a o = ap (λ p. p.0) (on_address input place a o) ∙ o.same

row_there : (rows : List Row) (a : ℕ) → a < length rows → (r : Row) × (slice_get rows a ≡ Some r)
row_there [] a h = absurd (omega arith)
row_there (x ∷ xs) zero h = (x, refl)
row_there (x ∷ xs) (suc a) h = row_there xs a (omega arith)

-- an address of the same store is on it too
pub on_beside : (input : Input) (place a b : ℕ) → is_on input place a ≡ true → b < count_of input → (address_of input b).0 ≡ (address_of input a).0 → is_on input place b ≡ true
on_beside input place a b on below same =
    let o = on_of input place a on in
    let r = row_there (rows_of input) b below in
    is_on_of input place b (record {
      store = o.store;
      row = r.0;
      there = o.there;
      here = r.1;
      same = sym (ap (λ x. (row_address x).0) r.1) ∙ (same ∙ on_store input place a o);
      below = below;
    })

address_unfold : (input : Input) (place region : ℕ) (s : Store) → slice_get input.stores place ≡ Some s → address_in input place region ≡ position (is_at s.id region) (rows_of input)
unfolding address_in
address_unfold input place region s h = ap (λ o. address_on input o region) h

-- an address beside one of the store is that of the store
pub beside_is : (input : Input) (place a region : ℕ) → is_on input place a ≡ true → beside input a region ≡ address_in input place region
beside_is input place a region on =
    let o = on_of input place a on in
    ap (λ n. position (is_at n region) (rows_of input)) (on_store input place a o) ∙ sym (address_unfold input place region o.store o.there)

module _ (input : Input) (well : WellFormed input) (place : ℕ) where
  -- each address is found by its region
  pub found_by : (a : ℕ) → is_on input place a ≡ true → address_in input place (region_of input a) ≡ Some a
  found_by a on =
      let o = on_of input place a on in
      let region : region_of input a ≡ o.row.region = ap (λ p. p.1) (on_address input place a o) in
      address_unfold input place (region_of input a) o.store o.there
      ∙ (ap (λ n. position (is_at n (region_of input a)) (rows_of input)) (sym o.same)
      ∙ (ap (λ n. position (is_at o.row.store n) (rows_of input)) region ∙ own_place input well a o.row o.here))

  get_or_get : (rows : List Row) (a : ℕ) (d : Row) → a < length rows → slice_get rows a ≡ Some (get_or rows a d)
  get_or_get [] a d h = absurd (omega arith)
  get_or_get (x ∷ xs) zero d h = refl
  get_or_get (x ∷ xs) (suc a) d h = get_or_get xs a d (omega arith)

  find_at : (s : Store) (region a : ℕ) → slice_get input.stores place ≡ Some s → (rows : List Row) → rows ≡ rows_of input → position (is_at s.id region) rows ≡ Some a → (is_on input place a ≡ true) × (region_of input a ≡ region)
  find_at s region a there [] e h = absurd cc
  find_at s region a there (x ∷ xs) e h =
      let w = position-Some (is_at s.id region) (x ∷ xs) a x h in
      let r = get_or (x ∷ xs) a x in
      let got : slice_get (rows_of input) a ≡ Some r = ap (λ rows. slice_get rows a) (sym e) ∙ get_or_get (x ∷ xs) a x w.0 in
      let t = and_parts (r.store == s.id) (r.region == region) w.1 in (
        is_on_of input place a (record { store = s; row = r; there = there; here = got; same = eqb-true r.store s.id t.0; below = get_below (rows_of input) a r got }),
        ap (λ o. (row_address o).1) got ∙ eqb-true r.region region t.1,
      )

  -- what is found is an address of the store and of the region
  pub found_is : (region a : ℕ) → address_in input place region ≡ Some a → (is_on input place a ≡ true) × (region_of input a ≡ region)
  unfolding address_in
  found_is region a h = go (slice_get input.stores place) refl h where
    go : (o : Option Store) → slice_get input.stores place ≡ o → address_on input o region ≡ Some a → (is_on input place a ≡ true) × (region_of input a ≡ region)
    go None e h = absurd cc
    go (Some s) e h = find_at s region a e (rows_of input) refl h

  -- one region, one address
  pub one_address : (a b : ℕ) → is_on input place a ≡ true → is_on input place b ≡ true → region_of input a ≡ region_of input b → a ≡ b
  one_address a b oa ob same = cc (found_by a oa, ap (address_in input place) same, found_by b ob)
