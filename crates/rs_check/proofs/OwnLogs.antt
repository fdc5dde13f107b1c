-- A store's own log of a region has at most as many entries as the input has lines.
use Rattle.std.proofs.Common.{◌≡◌, ℕ, zero, suc, ◌+◌, ◌<◌, ◌≤◌, ◌==◌, Bool, true, false, List, [], ◌∷◌, ◌++◌, length, Option, Some, None, refl, sym, ap, ◌∙◌, subst, arith}
use Rattle.std.specs.Prelude.{slice_get, if◌then◌else◌}
use Rattle.std.specs.List.{AllByRecursion, cons_option, find, flat_map, sum_by}
use Rattle.std.proofs.lemmas.List.Sums.{sum_by-append, sum_by-cons}
use Rattle.rs_entry.specs.declared.entry.Entry.{Entry}
use Rattle.rs_entry.specs.declared.input.Log.{Log}
use Rattle.rs_entry.specs.declared.input.Store.{Store}
use Rattle.rs_entry.specs.declared.input.Input.{Input}
use Rattle.rs_entry.specs.WellFormed.{WellFormed}
use Rattle.rs_region.proofs.CutParts.{all_map}
use Rattle.rs_store.specs.Formed.{steps_in, steps_of}
use Rattle.rs_store.specs.declared.regions.Made.{Made}
use Rattle.rs_store.specs.Stores.{Broke, ByRegion, Stepped, Went, entries_in, entries_of, ids_of, last, own}
use Rattle.rs_check.specs.declared.rows.Row.{Row}
use Rattle.rs_check.specs.Plans.{own_in, own_of, row_of, rows_at, rows_in, rows_of, store_rows}

log_few : (es : List Entry) → length es ≤ sum_by steps_of es
log_few [] = omega arith
log_few (e ∷ es) = let s = sum_by-cons steps_of e es in let more = log_few es in omega (arith, s, more)

found_few : (id : ℕ) (logs : List Log) → length (entries_of (find (λ log. log.region == id) logs)) ≤ sum_by steps_in logs
found_few id [] = omega arith
found_few id (l ∷ ls) = go (l.region == id) (found_few id ls)
  where
    sum : sum_by steps_in (l ∷ ls) ≡ sum_by steps_of l.entries + sum_by steps_in ls
    sum = sum_by-cons steps_in l ls

    go : (b : Bool) → length (entries_of (find (λ log. log.region == id) ls)) ≤ sum_by steps_in ls
        → length (entries_of (if b then Some l else find (λ log. log.region == id) ls)) ≤ sum_by steps_in (l ∷ ls)
    go true more = let one = log_few l.entries in omega (arith, sum, one)
    go false more = omega (arith, sum, more)

own_in_store : (store : Store) (id : ℕ) → length (own store id) ≤ entries_in store
own_in_store store id = found_few id store.logs

abbrev IsFew : ℕ → Row → Type 0
IsFew n r = r.own ≤ n

rows_few : (store : Store) (f : ByRegion) (ids : List ℕ) → AllByRecursion (IsFew (entries_in store)) (rows_in store f ids)
rows_few store f [] = tt
rows_few store f (id ∷ ids) = go (f id) (rows_few store f ids)
  where
    go : (o : Option Made) → AllByRecursion (IsFew (entries_in store)) (rows_in store f ids) → AllByRecursion (IsFew (entries_in store)) (cons_option (row_of store id o) (rows_in store f ids))
    go None rest = rest
    go (Some r) rest = (own_in_store store id, rest)

store_few : (store : Store) → AllByRecursion (IsFew (entries_in store)) (store_rows store)
unfolding store_rows
store_few store = go (last store)
  where
    go : (s : Stepped) → AllByRecursion (IsFew (entries_in store)) (rows_at store s)
    go (Broke fault) = tt
    go (Went g) = rows_few store g.region (ids_of store)

all_both : (P : Row → Type 0) (xs ys : List Row) → AllByRecursion P xs → AllByRecursion P ys → AllByRecursion P (xs ++ ys)
all_both P [] ys h k = k
all_both P (x ∷ xs) ys h k = (h.0, all_both P xs ys h.1 k)

abbrev entries_of_all : List Store → List Entry
entries_of_all stores = flat_map (λ s. flat_map (λ l. l.entries) s.logs) stores

logs_sum : (logs : List Log) → sum_by steps_of (flat_map (λ l. l.entries) logs) ≡ sum_by steps_in logs
logs_sum [] = refl
logs_sum (l ∷ ls) =
    sum_by-append steps_of l.entries (flat_map (λ x. x.entries) ls)
    ∙ (ap (λ n. sum_by steps_of l.entries + n) (logs_sum ls) ∙ sym (sum_by-cons steps_in l ls))

stores_few : (stores : List Store) → AllByRecursion (IsFew (sum_by steps_of (entries_of_all stores))) (flat_map store_rows stores)
stores_few [] = tt
stores_few (s ∷ ss) =
    let total : sum_by steps_of (entries_of_all (s ∷ ss)) ≡ sum_by steps_of (flat_map (λ l. l.entries) s.logs) + sum_by steps_of (entries_of_all ss) =
    sum_by-append steps_of (flat_map (λ l. l.entries) s.logs) (entries_of_all ss) in
    let here : sum_by steps_of (flat_map (λ l. l.entries) s.logs) ≡ entries_in s = logs_sum s.logs in
    all_both (IsFew (sum_by steps_of (entries_of_all (s ∷ ss)))) (store_rows s) (flat_map store_rows ss)
    (all_map (IsFew (entries_in s)) (IsFew (sum_by steps_of (entries_of_all (s ∷ ss)))) (λ y few. omega (arith, few, total, here)) (store_rows s) (store_few s))
    (all_map (IsFew (sum_by steps_of (entries_of_all ss))) (IsFew (sum_by steps_of (entries_of_all (s ∷ ss)))) (λ y few. omega (arith, few, total)) (flat_map store_rows ss) (stores_few ss))

nth_few : (n : ℕ) (rows : List Row) (a : ℕ) → AllByRecursion (IsFew n) rows → own_in (slice_get rows a) ≤ n
nth_few n [] a h = omega arith
nth_few n (r ∷ rs) zero h = h.0
nth_few n (r ∷ rs) (suc a) h = nth_few n rs a h.1

pub own_few : (input : Input) → WellFormed input → (a : ℕ) → own_of input a ≤ 1048576
unfolding rows_of
own_few input well a =
    let lines : sum_by steps_of (entries_of_all input.stores) ≤ 1048576 = well.lines in
    let few = nth_few (sum_by steps_of (entries_of_all input.stores)) (flat_map store_rows input.stores) a (stores_few input.stores) in
    omega (arith, lines, few)
