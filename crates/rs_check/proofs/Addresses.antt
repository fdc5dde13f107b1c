-- Where an address of a lawful input leads: to a region at the end of a store's canonical order.
use Rattle.std.proofs.Common.{◌≡◌, ℕ, zero, suc, ◌<◌, ◌==◌, Bool, true, false, List, [], ◌∷◌, length, Option, Some, None, refl, ap, sym, ◌∙◌, arith, subst, inl, inr}
use Rattle.std.specs.Prelude.{if◌then◌else◌, slice_get, position}
use Rattle.std.specs.List.{cons_option, filter_map, find}
use Rattle.rs_entry.specs.WellFormed.{WellFormed}
use Rattle.rs_entry.specs.declared.input.Input.{Input}
use Rattle.rs_entry.specs.declared.input.Store.{Store}
use Rattle.rs_store.specs.declared.regions.Made.{Made}
use Rattle.rs_store.specs.Stores.{ids_of, own}
use Rattle.rs_store.specs.Runs.{forget}
use Rattle.rs_part.specs.Counting.{IsAmong}
use Rattle.rs_part.specs.Parts.{at}
use Rattle.rs_part.proofs.Members.{among_flat, among_get}
use Rattle.rs_check.specs.declared.rows.Row.{Row}
use Rattle.rs_check.specs.Laws.{check}
use Rattle.rs_check.specs.Lawfulness.{Placed}
use Rattle.rs_check.specs.Lines.{entry_in, line_in}
use Rattle.rs_check.specs.Plans.{address_in, address_of, ends_in, ends_of, is_at, reshapings_in, reshapings_of, row_of, rows_in, rows_of, stop_in, stop_of, store_rows}
use Rattle.rs_check.specs.Values.{count_of, entry_at, part_at, part_in, part_on, region_of, store_at}
use Rattle.rs_check.proofs.Finding.{find_rising, from_flat}
use Rattle.rs_check.proofs.PlanLaws.{store_rows_moved}
use Rattle.rs_check.proofs.RowPlaces.{row_stands}
use Rattle.rs_check.proofs.StoreEnds.{Ending, ending}

-- ---- stores by id

pub line_of_store : (stores : List Store) (id region index : ℕ) (s : Store) → find (λ t. t.id == id) stores ≡ Some s → line_in id region index stores ≡ entry_in s region index
line_of_store [] id region index s h = absurd cc
line_of_store (x ∷ xs) id region index s h = go (x.id == id) h (line_of_store xs id region index s) where
  go : (b : Bool) → (if b then Some x else find (λ t. t.id == id) xs) ≡ Some s → (find (λ t. t.id == id) xs ≡ Some s → line_in id region index xs ≡ entry_in s region index)
      → (if b then entry_in x region index else line_in id region index xs) ≡ entry_in s region index
  go true k rest = let one : x ≡ s = cc in ap (λ z. entry_in z region index) one
  go false k rest = rest k

-- ---- rows

get_there : {A : Type 0} (xs : List A) (a : ℕ) → a < length xs → (x : A) × (slice_get xs a ≡ Some x)
get_there [] a h = absurd (omega arith)
get_there (x ∷ xs) zero h = (x, refl)
get_there (x ∷ xs) (suc a) h = get_there xs a (omega arith)

from_rows : (h : ℕ → Option Row) (x : Row) (ids : List ℕ) → IsAmong x (filter_map h ids) → (id : ℕ) × IsAmong id ids × (h id ≡ Some x)
from_rows h x [] i = absurd i
from_rows h x (id ∷ ids) i = go (h id) refl i (from_rows h x ids) where
  go : (o : Option Row) → h id ≡ o → IsAmong x (cons_option o (filter_map h ids)) → (IsAmong x (filter_map h ids) → (j : ℕ) × IsAmong j ids × (h j ≡ Some x))
      → (j : ℕ) × IsAmong j (id ∷ ids) × (h j ≡ Some x)
  go None e i rest = (let w = rest i in (w.0, inr w.1, w.2))
  go (Some y) e (inl p) rest = (id, inl refl, e ∙ ap Some (sym p))
  go (Some y) e (inr i) rest = (let w = rest i in (w.0, inr w.1, w.2))

to_rows : (h : ℕ → Option Row) (x : Row) (id : ℕ) (ids : List ℕ) → IsAmong id ids → h id ≡ Some x → IsAmong x (filter_map h ids)
to_rows h x id [] i e = absurd i
to_rows h x id (y ∷ ys) (inl p) e = subst (λ o. IsAmong x (cons_option o (filter_map h ys))) (sym (ap h (sym p) ∙ e)) (inl refl)
to_rows h x id (y ∷ ys) (inr i) e = go (h y) (to_rows h x id ys i e) where
  go : (o : Option Row) → IsAmong x (filter_map h ys) → IsAmong x (cons_option o (filter_map h ys))
  go None k = k
  go (Some z) k = inr k

row_made : (store : Store) (id : ℕ) (o : Option Made) (x : Row) → row_of store id o ≡ Some x → (r : Made) × (o ≡ Some r) × (Some x ≡ row_of store id (Some r))
row_made store id None x h = absurd cc
row_made store id (Some r) x h = (r, refl, sym h)

row_value : Store → ℕ → Made → Row
row_value store id r = record { store = store.id; region = id; origin = r.origin; stop = r.applied; own = length (own store id); ends = r.state.mode; reshapings = r.reshapings }

pair_with : (x m n : ℕ) → m ≡ n → ◌≡◌ {A = ℕ × ℕ} (m, x) (n, x)
pair_with x m n e = ap (λ (k : ℕ). let p : ℕ × ℕ = (k, x) in p) e

-- where an address leads
pub record Home (input : Input) (a : ℕ) : Type 0 where
  pub store : Store
  pub end : Ending input store
  pub r : Made
  pub made : end.g.region (region_of input a) ≡ Some r
  pub found : store_at input a ≡ Some store
  pub row : slice_get (rows_of input) a ≡ row_of store (region_of input a) (Some r)

rows_end : (input : Input) (store : Store) (end : Ending input store) → store_rows store ≡ rows_in store end.g.region (ids_of store)
rows_end input store end = store_rows_moved store end.g.region (ap forget end.ends)

from_all : (input : Input) (x : Row) → IsAmong x (rows_of input) → (s : Store) × IsAmong s input.stores × IsAmong x (store_rows s)
unfolding rows_of
from_all input x i = from_flat store_rows x input.stores i

to_all : (input : Input) (x : Row) (s : Store) → IsAmong s input.stores → IsAmong x (store_rows s) → IsAmong x (rows_of input)
unfolding rows_of
to_all input x s i j = among_flat store_rows x s input.stores j i

module _ (input : Input) (well : WellFormed input) (lawful : check input ≡ None) where
  home_of : (a : ℕ) (store : Store) (end : Ending input store) (id : ℕ) (r : Made) → end.g.region id ≡ Some r → slice_get (rows_of input) a ≡ row_of store id (Some r) → Home input a
  home_of a store end id r made row =
      let region : region_of input a ≡ id = ap (λ o. (address_in o).1) row in
      let stored : (address_of input a).0 ≡ store.id = ap (λ o. (address_in o).0) row in
      record {
        store = store;
        end = end;
        r = r;
        made = ap end.g.region region ∙ made;
        found = ap (λ n. find (λ s. s.id == n) input.stores) stored ∙ find_rising (λ s. s.id) 0 input.stores well.ids store end.among;
        row = row ∙ ap (λ i. row_of store i (Some r)) (sym region);
      }

  home_in : (a : ℕ) (x : Row) → slice_get (rows_of input) a ≡ Some x → (s : Store) (end : Ending input s) → IsAmong x (rows_in s end.g.region (ids_of s)) → Home input a
  home_in a x row s end i =
      let w = from_rows (λ id. row_of s id (end.g.region id)) x (ids_of s) i in
      let m = row_made s w.0 (end.g.region w.0) x w.2 in
      home_of a s end w.0 m.0 m.1 (row ∙ m.2)

  home_from : (a : ℕ) (x : Row) → slice_get (rows_of input) a ≡ Some x → (s : Store) × IsAmong s input.stores × IsAmong x (store_rows s) → Home input a
  home_from a x row s = let end = ending input well lawful s.0 s.1 in home_in a x row s.0 end (subst (IsAmong x) (rows_end input s.0 end) s.2)

  -- each address leads to a region
  pub home : (a : ℕ) → a < count_of input → Home input a
  home a within = let x = get_there (rows_of input) a within in home_from a x.0 x.1 (from_all input x.0 (among_get (rows_of input) a x.0 x.1))

module _ (input : Input) (a : ℕ) (h : Home input a) where
  -- what the row tells of the region
  pub stops : stop_of input a ≡ h.r.applied
  stops = ap stop_in h.row

  pub ends : ends_of input a ≡ h.r.state.mode
  ends = ap ends_in h.row

  pub reshapes : reshapings_of input a ≡ h.r.reshapings
  reshapes = ap reshapings_in h.row

  pub stored : (address_of input a).0 ≡ h.store.id
  stored = ap (λ o. (address_in o).0) h.row

  -- parts and entries are those of the store
  pub parts_on : part_on input a ≡ at h.store
  unfolding part_on
  parts_on = ap (λ o. λ region index. part_in o region index) h.found

  pub part_here : (i : ℕ) → part_at input a i ≡ at h.store (region_of input a) i
  part_here i = ap (λ f. f (region_of input a) i) parts_on

  pub entry_here : (i : ℕ) → entry_at input a i ≡ entry_in h.store (region_of input a) i
  entry_here i = line_of_store input.stores (address_of input a).0 (region_of input a) i h.store h.found

-- another region of an address's store has an address of its own
pub record Beside (input : Input) (a : ℕ) (h : Home input a) (x : ℕ) (t : Made) : Type 0 where
  pub b : ℕ
  pub placed : Placed input a x b
  pub row : slice_get (rows_of input) b ≡ row_of h.store x (Some t)

pub beside : (input : Input) → WellFormed input → (a : ℕ) (h : Home input a) (x : ℕ) (t : Made) → h.end.g.region x ≡ Some t → Beside input a h x t
unfolding row_value
beside input well a h x t made =
    let y : Row = row_value h.store x t in
    let here : IsAmong y (rows_in h.store h.end.g.region (ids_of h.store)) =
    to_rows (λ id. row_of h.store id (h.end.g.region id)) y x (ids_of h.store) (h.end.invariant.whole.known x t made) (ap (row_of h.store x) made) in
    let s = row_stands input well y (to_all input y h.store h.end.among (subst (IsAmong y) (sym (rows_end input h.store h.end)) here)) in
    record {
      b = s.b;
      placed = record {
        found = ap (λ n. position (is_at n x) (rows_of input)) (stored input a h) ∙ s.found;
        address = ap address_in s.row ∙ pair_with x h.store.id (address_of input a).0 (sym (stored input a h));
        within = s.within;
      };
      row = s.row;
    }

-- its parts are those of the store
pub beside_part : (input : Input) (a : ℕ) (h : Home input a) (x : ℕ) (t : Made) (y : Beside input a h x t) (i : ℕ) → part_at input y.b i ≡ at h.store x i
unfolding part_on
beside_part input a h x t y i =
    ap (λ (p : ℕ × ℕ). part_in (find (λ s. s.id == p.0) input.stores) p.1 i) y.placed.address ∙ ap (λ o. part_in o x i) h.found
