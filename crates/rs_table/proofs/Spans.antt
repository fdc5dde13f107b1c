-- The addresses of a store follow one another.
use Rattle.std.proofs.Common.{◌≡◌, ℕ, zero, suc, ◌+◌, ◌<◌, Bool, false, List, [], ◌∷◌, ◌++◌, length, map, take, Some, None, refl, ap, sym, ◌∙◌, arith, length-append}
use Rattle.std.specs.Prelude.{◌&&◌, leb, ltb, slice_get}
use Rattle.std.specs.List.{AllByRecursion, flat_map}
use Rattle.std.proofs.lemmas.Bool.{eq-eqb, ne_eqb}
use Rattle.rs_entry.specs.WellFormed.{Rising, WellFormed}
use Rattle.rs_entry.specs.declared.input.Input.{Input}
use Rattle.rs_entry.specs.declared.input.Store.{Store}
use Rattle.rs_region.proofs.CutParts.{all_map}
use Rattle.rs_check.specs.declared.rows.Row.{Row}
use Rattle.rs_check.specs.Plans.{rows_of, store_rows}
use Rattle.rs_table.specs.Cuts.{is_of, is_on}
use Rattle.rs_table.proofs.RowOrder.{store_ordered, stores_ordered}

-- from the first on, and fewer than so many
abbrev within : ℕ → ℕ → ℕ → Bool
within first count a = leb first a && ltb a (first + count)

none_of : (s : Store) (rows : List Row) → AllByRecursion (λ x. x.store ≡ s.id → ⊥) rows → (a : ℕ) → is_of (Some s) (slice_get rows a) ≡ false
none_of s [] h a = refl
none_of s (x ∷ xs) h zero = ne_eqb x.store s.id h.0
none_of s (x ∷ xs) h (suc a) = none_of s xs h.1 a

-- its rows, and others behind them
own_first : (s : Store) (own others : List Row) → AllByRecursion (λ x. x.store ≡ s.id) own → AllByRecursion (λ x. x.store ≡ s.id → ⊥) others
    → (a : ℕ) → is_of (Some s) (slice_get (own ++ others) a) ≡ within 0 (length own) a
own_first s [] others h k a = none_of s others k a ∙ grind arith
own_first s (x ∷ xs) others h k zero = eq-eqb x.store s.id h.0 ∙ grind arith
own_first s (x ∷ xs) others h k (suc a) = own_first s xs others h.1 k a ∙ grind arith

-- others before them
own_later : (s : Store) (others rows : List Row) (first count : ℕ) → AllByRecursion (λ x. x.store ≡ s.id → ⊥) others → ((a : ℕ) → is_of (Some s) (slice_get rows a) ≡ within first count a)
    → (a : ℕ) → is_of (Some s) (slice_get (others ++ rows) a) ≡ within (length others + first) count a
own_later s [] rows first count h f a = let e : first ≡ 0 + first = omega arith in f a ∙ ap (λ k. within k count a) e
own_later s (x ∷ xs) rows first count h f zero = ne_eqb x.store s.id h.0 ∙ grind arith
own_later s (x ∷ xs) rows first count h f (suc a) = own_later s xs rows first count h.1 f a ∙ grind arith

above_low : (low : ℕ) (stores : List Store) (place : ℕ) (s : Store) → Rising low (map (λ x. x.id) stores) → slice_get stores place ≡ Some s → low < s.id
above_low low [] place s r h = absurd cc
above_low low (x ∷ xs) zero s r h = let e : x ≡ s = cc h in let i = ap (λ (z : Store). z.id) e in let l = r.0 in omega (arith, i, l)
above_low low (x ∷ xs) (suc place) s r h = let l = above_low x.id xs place s r.2 h in let k = r.0 in omega (arith, l, k)

spans : (low : ℕ) (stores : List Store) (place : ℕ) (s : Store) → Rising low (map (λ x. x.id) stores) → slice_get stores place ≡ Some s
    → (a : ℕ) → is_of (Some s) (slice_get (flat_map store_rows stores) a) ≡ within (length (flat_map store_rows (take place stores))) (length (store_rows s)) a
spans low [] place s r h a = absurd cc
spans low (x ∷ xs) zero s r h a =
    let e : x ≡ s = cc h in
    let i : x.id ≡ s.id = ap (λ (z : Store). z.id) e in
    own_first s (store_rows x) (flat_map store_rows xs)
    (all_map (λ y. y.store ≡ x.id) (λ y. y.store ≡ s.id) (λ y q. q ∙ i) (store_rows x) (store_ordered x).1)
    (all_map (λ y. x.id < y.store) (λ y. y.store ≡ s.id → ⊥) (λ y lt q. omega (arith, lt, q, i)) (flat_map store_rows xs) (stores_ordered x.id xs r.2).1) a
    ∙ ap (λ z. within 0 (length (store_rows z)) a) e
spans low (x ∷ xs) (suc place) s r h a =
    let lt = above_low x.id xs place s r.2 h in
    own_later s (store_rows x) (flat_map store_rows xs) (length (flat_map store_rows (take place xs))) (length (store_rows s))
    (all_map (λ y. y.store ≡ x.id) (λ y. y.store ≡ s.id → ⊥) (λ y q k. omega (arith, lt, q, k)) (store_rows x) (store_ordered x).1)
    (spans x.id xs place s r.2 h) a
    ∙ sym (ap (λ n. within n (length (store_rows s)) a) (length-append (store_rows x) (flat_map store_rows (take place xs))))

-- the store's addresses are those that follow the ones of the stores before it
pub on_span : (input : Input) → WellFormed input → (place : ℕ) (s : Store) → slice_get input.stores place ≡ Some s
    → (a : ℕ) → is_on input place a ≡ (leb (length (flat_map store_rows (take place input.stores))) a && ltb a (length (flat_map store_rows (take place input.stores)) + length (store_rows s)))
unfolding is_on rows_of
on_span input well place s h a = ap (λ o. is_of o (slice_get (rows_of input) a)) h ∙ spans 0 input.stores place s well.ids h a

-- a place without a store has no address
pub on_no_store : (input : Input) (place : ℕ) → slice_get input.stores place ≡ None → (a : ℕ) → is_on input place a ≡ false
unfolding is_on
on_no_store input place h a = ap (λ o. is_of o (slice_get (rows_of input) a)) h
