-- How many regions, entries and writes a store comes to.
use Rattle.std.proofs.Common.{◌≡◌, ◌∙◌, refl, sym, ap, subst, ℕ, zero, suc, ◌+◌, ◌-◌, ◌*◌, ◌<◌, arith, List, [], ◌∷◌, ◌++◌, length, length-append}
use Rattle.std.specs.List.{cons_option, range_with_len, sum_by}
use Rattle.std.proofs.lemmas.List.{append-nil}
use Rattle.std.proofs.lemmas.List.Sums.{sum_by-append, sum_by-cons}
use Rattle.rs_entry.specs.declared.input.Input.{Input}
use Rattle.rs_entry.specs.declared.input.Store.{Store}
use Rattle.rs_store.specs.Stores.{ByRegion, last}
use Rattle.rs_check.specs.declared.rows.Row.{Row}
use Rattle.rs_check.specs.Plans.{row_of, rows_at, rows_in, rows_of, store_rows}
use Rattle.rs_gen.specs.declared.kept.Kept.{Kept}
use Rattle.rs_gen.specs.declared.kept.Kept.TheVariants as shares
use Rattle.rs_gen.specs.Counts.{HasCounts, writes_in}
use Rattle.rs_gen.specs.Inputs.{made_of, rounds_of, store_of}
use Rattle.rs_gen.specs.Rounds.{child}
use Rattle.rs_gen.proofs.RoundEnds.{ended}
use Rattle.rs_gen.proofs.Stages.{IsOver}
use Rattle.rs_gen.proofs.StoreParts.{store_ids}

abbrev steps_of : Row → ℕ
steps_of row = row.stop - 5

-- so many rows, with so many entries applied
record Totals (rows : List Row) (count entries : ℕ) : Type 0 where
  pub count_is : length rows ≡ count
  pub entries_are : sum_by steps_of rows ≡ entries

one_more : (row : Row) (rows : List Row) (steps count entries all most : ℕ) → row.stop ≡ 5 + steps → Totals rows count entries → 1 + count ≡ all → steps + entries ≡ most → Totals (row ∷ rows) all most
one_more row rows steps count entries all most stop rest c e = record {
  count_is = (let r : length rows ≡ count = rest.count_is in let one : length (row ∷ rows) ≡ 1 + length rows = omega arith in omega (arith, r, one, c));
  entries_are = sum_by-cons steps_of row rows ∙ (let r : sum_by steps_of rows ≡ entries = rest.entries_are in omega (arith, stop, r, e));
}

children_rows : (store : Store) (f : ByRegion) (a k : ℕ) → ((u : ℕ) → u < a + k → IsOver (f (child u))) → Totals (rows_in store f (range_with_len (child a) k)) k (3 * k)
children_rows store f a zero each = record { count_is = refl; entries_are = refl }
children_rows store f a (suc k) each =
    let over = each a (omega arith) in
    let next : child (a + 1) ≡ child a + 1 = omega arith in
    let rest : Totals (rows_in store f (range_with_len (child a + 1) k)) k (3 * k) =
    subst (λ x. Totals (rows_in store f (range_with_len x k)) k (3 * k)) next (children_rows store f (a + 1) k (λ u h. each u (omega arith))) in
    subst (λ o. Totals (cons_option (row_of store (child a) o) (rows_in store f (range_with_len (child a + 1) k))) (suc k) (3 * suc k)) (sym over.here)
    (one_more _ (rows_in store f (range_with_len (child a + 1) k)) 3 k (3 * k) (suc k) (3 * suc k) over.applied rest (omega arith) (omega arith))

module _ (n : ℕ) (share : Kept) (id : ℕ) where
  abbrev store : Store
  store = store_of n id share

  all_rows : Totals (store_rows store) (1 + rounds_of n) (7 * rounds_of n)
  unfolding store_rows
  all_rows =
      let end = ended n share id in
      let rest : Totals (rows_in store end.g.region (range_with_len 2 (rounds_of n))) (rounds_of n) (3 * rounds_of n) =
      children_rows store end.g.region 0 (rounds_of n) (λ u h. end.stage.before u (omega arith)) in
      let at_end : Totals (rows_in store end.g.region (1 ∷ range_with_len 2 (rounds_of n))) (1 + rounds_of n) (7 * rounds_of n) =
      subst (λ o. Totals (cons_option (row_of store 1 o) (rows_in store end.g.region (range_with_len 2 (rounds_of n)))) (1 + rounds_of n) (7 * rounds_of n)) (sym end.stage.main)
      (one_more _ (rows_in store end.g.region (range_with_len 2 (rounds_of n))) (4 * rounds_of n) (rounds_of n) (3 * rounds_of n) (1 + rounds_of n) (7 * rounds_of n) refl rest refl (omega arith)) in
      subst (λ z. Totals (rows_at store z) (1 + rounds_of n) (7 * rounds_of n)) (sym end.came)
      (subst (λ ids. Totals (rows_in store end.g.region ids) (1 + rounds_of n) (7 * rounds_of n)) (sym (store_ids n share id)) at_end)

  all_writes : writes_in (last store) ≡ 6 * rounds_of n
  all_writes = (let end = ended n share id in ap writes_in end.came ∙ end.written)

both : (xs ys : List Row) (count entries : ℕ) → Totals xs count entries → Totals ys count entries → Totals (xs ++ (ys ++ [])) (2 * count) (2 * entries)
both xs ys count entries a b =
    let same : ys ++ [] ≡ ys = append-nil ys in
    subst (λ zs. Totals (xs ++ zs) (2 * count) (2 * entries)) (sym same) (record {
      count_is = length-append xs ys ∙ (let p : length xs ≡ count = a.count_is in let q : length ys ≡ count = b.count_is in omega (arith, p, q));
      entries_are = sum_by-append steps_of xs ys ∙ (let p : sum_by steps_of xs ≡ entries = a.entries_are in let q : sum_by steps_of ys ≡ entries = b.entries_are in omega (arith, p, q));
    })

counts : (n : ℕ) → HasCounts n (made_of n)
unfolding rows_of
counts n =
    let rows = both (store_rows (store_of n 1 shares.All)) (store_rows (store_of n 2 shares.Few)) (1 + rounds_of n) (7 * rounds_of n) (all_rows n shares.All 1) (all_rows n shares.Few 2) in
    let entries : 2 * (7 * rounds_of n) ≡ 14 * rounds_of n = omega arith in
    record {
      stores = refl;
      addresses = rows.count_is;
      entries = rows.entries_are ∙ entries;
      writes =
          (let one : writes_in (last (store_of n 1 shares.All)) ≡ 6 * rounds_of n = all_writes n shares.All 1 in
          let two : writes_in (last (store_of n 2 shares.Few)) ≡ 6 * rounds_of n = all_writes n shares.Few 2 in
          sum_by-cons (λ (s : Store). writes_in (last s)) (store_of n 1 shares.All) (store_of n 2 shares.Few ∷ []) ∙ omega (arith, one, two));
    }

pub made_counts : (n : ℕ) (input : Input) → input ≡ made_of n → HasCounts n input
made_counts n input is = subst (HasCounts n) (sym is) (counts n)
