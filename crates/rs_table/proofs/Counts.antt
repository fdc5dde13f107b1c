-- Whether an address is one of a store.
use Rattle.std.proofs.Common.{◌≡◌, ℕ, zero, suc, ◌≤◌, false, true, List, [], ◌∷◌, length, refl, ap, sym, ◌∙◌, arith}
use Rattle.std.specs.Prelude.{slice_get, Some, ltb, ◌==◌, ◌&&◌, None}
use Rattle.rs_entry.specs.declared.input.Input.{Input}
use Rattle.rs_entry.specs.declared.input.Store.{Store}
use Rattle.rs_check.specs.declared.rows.Row.{Row}
use Rattle.rs_check.specs.Plans.{rows_of, address_of, address_in}
use Rattle.rs_check.specs.Values.{count_of}
use Rattle.rs_table.specs.Cuts.{is_of, is_on}

-- an address of a store, by its row
pub on_by : (input : Input) (place a : ℕ) (store : Store) → slice_get input.stores place ≡ Some store
    → is_on input place a ≡ (ltb a (count_of input) && ((address_of input a).0 == store.id))
unfolding is_on
on_by input place a store h = ap (λ s. is_of s (slice_get (rows_of input) a)) h ∙ go (rows_of input) a where
  go : (rows : List Row) (a : ℕ) → is_of (Some store) (slice_get rows a) ≡ (ltb a (length rows) && ((address_in (slice_get rows a)).0 == store.id))
  go [] a = let f : ltb a 0 ≡ false = grind arith in sym (ap (λ b. b && (0 == store.id)) f)
  go (r ∷ rs) zero = let t : ltb 0 (suc (length rs)) ≡ true = grind arith in sym (ap (λ b. b && (r.store == store.id)) t)
  go (r ∷ rs) (suc a) = let e : ltb a (length rs) ≡ ltb (suc a) (suc (length rs)) = grind arith in go rs a ∙ ap (λ b. b && ((address_in (slice_get rs a)).0 == store.id)) e

pub on_none : (input : Input) (place a : ℕ) → length input.stores ≤ place → is_on input place a ≡ false
unfolding is_on
on_none input place a h = ap (λ s. is_of s (slice_get (rows_of input) a)) (past input.stores place h) where
  past : (xs : List Store) (k : ℕ) → length xs ≤ k → slice_get xs k ≡ None
  past [] k h = refl
  past (x ∷ xs) zero h = absurd (omega arith)
  past (x ∷ xs) (suc k) h = past xs k (omega arith)
