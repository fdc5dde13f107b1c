-- Rows are read off the regions alone.
use Rattle.std.proofs.Common.{◌≡◌, ℕ, ◌<◌, ◌+◌, refl, sym, ap, ◌∙◌, List, [], ◌∷◌, ◌++◌, length, get_or, take}
use Rattle.std.specs.Prelude.{Bool, Option, Some, None, position}
use Rattle.std.proofs.lemmas.List.Quantifiers.{position-Some}
use Rattle.std.specs.List.{filter_map}
use Rattle.std.proofs.lemmas.List.Elements.{filter_map-append}
use Rattle.rs_entry.specs.declared.input.Store.{Store}
use Rattle.rs_check.specs.declared.rows.Row.{Row}
use Rattle.rs_store.specs.declared.regions.Made.{Made}
use Rattle.rs_store.specs.Stores.{ByRegion, Stepped, Went, Broke, ids_of, last}
use Rattle.rs_store.specs.Runs.{forget, Moved}
use Rattle.rs_check.specs.Plans.{row_of, rows_in, rows_at, rows_by, store_rows}
use Rattle.rs_store.proofs.Loops.{take_here}
use Rattle.rs_store.proofs.Rising.{get_or_any}
use Rattle.rs_check.proofs.LawSteps.{nil_right}

pub rows_end : (store : Store) (s : Stepped) → rows_at store s ≡ rows_by store (forget s)
rows_end store (Broke fault) = refl
rows_end store (Went g) = refl

-- the row of one id
pub row_none : (store : Store) (f : ByRegion) (id : ℕ) (rows : List Row) → None ≡ f id → rows ≡ rows ++ rows_in store f (id ∷ [])
row_none store f id rows h =
    sym (nil_right rows) ∙ ap (λ (o : Option Made). rows ++ filter_map (λ (x : ℕ). row_of store id o) (id ∷ [])) h

pub row_some : (store : Store) (f : ByRegion) (id : ℕ) (m : Made) (r : Row) (rows : List Row) → Some m ≡ f id → Some r ≡ row_of store id (Some m) → rows ++ r ∷ [] ≡ rows ++ rows_in store f (id ∷ [])
row_some store f id m r rows h e =
    ap (λ (o : Option Row). rows ++ filter_map (λ (x : ℕ). o) (id ∷ [])) e
    ∙ ap (λ (o : Option Made). rows ++ filter_map (λ (x : ℕ). row_of store id o) (id ∷ [])) h

-- one id more
pub rows_more : (store : Store) (f : ByRegion) (ids : List ℕ) (i : ℕ) → i < length ids
    → rows_in store f (take (i + 1) ids) ≡ rows_in store f (take i ids) ++ rows_in store f (get_or ids i 0 ∷ [])
rows_more store f ids i h =
    ap (rows_in store f) (take_here ids i (get_or ids i 0) h (get_or_any ids i 0 (get_or ids i 0) h))
    ∙ filter_map-append (λ id. row_of store id (f id)) (take i ids) (get_or ids i 0 ∷ [])

append_all : (xs ys zs : List Row) → (xs ++ ys) ++ zs ≡ xs ++ (ys ++ zs)
append_all [] ys zs = refl
append_all (x ∷ xs) ys zs = ap (λ us. x ∷ us) (append_all xs ys zs)

-- rows are added
pub added : (old xs now more : List Row) (next : List Row) → now ≡ old ++ xs → next ≡ xs ++ more → now ++ more ≡ old ++ next
added old xs now more next h e = ap (λ ys. ys ++ more) h ∙ (append_all old xs more ∙ ap (λ ys. old ++ ys) (sym e))

-- the rows of a store whose order left these regions
pub rows_moved : (store : Store) (f : ByRegion) → forget (last store) ≡ Moved f → rows_at store (last store) ≡ rows_in store f (ids_of store)
rows_moved store f h = rows_end store (last store) ∙ ap (rows_by store) h

-- a place that is found is one of the list
pub position_within : (p : Row → Bool) (xs : List Row) (place : ℕ) → position p xs ≡ Some place → place < length xs
position_within p [] place h = absurd cc
position_within p (x ∷ xs) place h = (position-Some p (x ∷ xs) place x h).0

rows_unfold : (store : Store) → store_rows store ≡ rows_at store (last store)
unfolding store_rows
rows_unfold store = refl

pub store_rows_moved : (store : Store) (f : ByRegion) → forget (last store) ≡ Moved f → store_rows store ≡ rows_in store f (ids_of store)
store_rows_moved store f h = rows_unfold store ∙ rows_moved store f h
