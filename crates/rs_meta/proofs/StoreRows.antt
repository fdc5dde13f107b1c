-- Where the addresses of a store of a lawful input lead.
use Rattle.std.proofs.Common.{◌≡◌, ℕ, zero, suc, ◌+◌, ◌<◌, ◌==◌, List, [], ◌∷◌, ◌++◌, length, take, Some, None, refl, ap, sym, ◌∙◌, arith, subst}
use Rattle.std.specs.Prelude.{slice_get}
use Rattle.std.specs.List.{find, flat_map}
use Rattle.std.proofs.lemmas.List.{length-append}
use Rattle.rs_entry.specs.WellFormed.{WellFormed}
use Rattle.rs_entry.specs.declared.input.Input.{Input}
use Rattle.rs_entry.specs.declared.input.Store.{Store}
use Rattle.rs_store.specs.declared.regions.Made.{Made}
use Rattle.rs_store.specs.Runs.{forget}
use Rattle.rs_store.specs.Stores.{ids_of}
use Rattle.rs_part.proofs.Members.{among_get}
use Rattle.rs_check.specs.Laws.{check}
use Rattle.rs_check.specs.Plans.{address_in, row_of, rows_in, rows_of, store_rows}
use Rattle.rs_check.specs.Values.{region_of}
use Rattle.rs_check.proofs.Addresses.{Home}
use Rattle.rs_check.proofs.Finding.{find_rising}
use Rattle.rs_check.proofs.PlanLaws.{store_rows_moved}
use Rattle.rs_check.proofs.StoreEnds.{Ending, ending}
use Rattle.rs_meta.specs.Addresses.{count_on, first_of, rows_on}

-- ---- places in lists one after another

get_left : {A : Type 0} (xs ys : List A) (k : ℕ) → k < length xs → slice_get (xs ++ ys) k ≡ slice_get xs k
get_left [] ys k lt = absurd (omega (arith, lt))
get_left (x ∷ xs) ys zero lt = refl
get_left (x ∷ xs) ys (suc k) lt = get_left xs ys k (omega (arith, lt))

get_right : {A : Type 0} (xs ys : List A) (k : ℕ) → slice_get (xs ++ ys) (length xs + k) ≡ slice_get ys k
get_right [] ys k = (let e : 0 + k ≡ k = omega arith in ap (slice_get ys) e)
get_right (x ∷ xs) ys k = let e : suc (length xs) + k ≡ suc (length xs + k) = omega arith in ap (slice_get (x ∷ (xs ++ ys))) e ∙ get_right xs ys k

-- the kth element of what is made of the element at a place
pub get_flat : {A B : Type 0} (h : A → List B) (xs : List A) (p k : ℕ) (x : A) → slice_get xs p ≡ Some x → k < length (h x)
    → slice_get (flat_map h xs) (length (flat_map h (take p xs)) + k) ≡ slice_get (h x) k
get_flat h [] p k x e lt = absurd cc
get_flat h (y ∷ ys) zero k x e lt =
    let same : y ≡ x = cc in
    let at : 0 + k ≡ k = omega arith in
    ap (slice_get (h y ++ flat_map h ys)) at ∙ get_left (h y) (flat_map h ys) k (subst (λ z. k < length (h z)) (sym same) lt) ∙ ap (λ z. slice_get (h z) k) same
get_flat h (y ∷ ys) (suc p) k x e lt =
    let n = length (flat_map h (take p ys)) in
    let all : length (h y ++ flat_map h (take p ys)) + k ≡ length (h y) + (n + k) = ap (λ m. m + k) (length-append (h y) (flat_map h (take p ys))) ∙ omega arith in
    ap (slice_get (h y ++ flat_map h ys)) all ∙ get_right (h y) (flat_map h ys) (n + k) ∙ get_flat h ys p k x e lt

-- ---- rows

module _ (input : Input) (well : WellFormed input) (lawful : check input ≡ None) (place : ℕ) (s : Store) (there : slice_get input.stores place ≡ Some s) where
  -- the end of the store's canonical order
  pub end_of : Ending input s
  end_of = ending input well lawful s (among_get input.stores place s there)

  rows_end : store_rows s ≡ rows_in s end_of.g.region (ids_of s)
  rows_end = store_rows_moved s end_of.g.region (ap forget end_of.ends)

  pub count_is : count_on input place ≡ length (rows_in s end_of.g.region (ids_of s))
  count_is = ap (λ o. length (rows_on o)) there ∙ ap length rows_end

  -- the row of the kth address of the store
  pub row_at : (k : ℕ) → k < length (rows_in s end_of.g.region (ids_of s)) → slice_get (rows_of input) (first_of input place + k) ≡ slice_get (rows_in s end_of.g.region (ids_of s)) k
  unfolding rows_of
  row_at k lt = get_flat store_rows input.stores place k s there (subst (λ rows. k < length rows) (sym rows_end) lt) ∙ ap (λ rows. slice_get rows k) rows_end

  -- an address with the row of a region of the store leads there
  abbrev pub home_of : (a : ℕ) (r : Made) → end_of.g.region (region_of input a) ≡ Some r → slice_get (rows_of input) a ≡ row_of s (region_of input a) (Some r) → Home input a
  home_of a r made row = record {
    store = s;
    end = end_of;
    r = r;
    made = made;
    found = ap (λ o. find (λ t. t.id == (address_in o).0) input.stores) row ∙ find_rising (λ t. t.id) 0 input.stores well.ids s end_of.among;
    row = row;
  }
