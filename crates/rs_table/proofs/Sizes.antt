-- How many reshapings a cut covers.
use Rattle.std.proofs.Common.{◌≡◌, ℕ, zero, suc, ◌+◌, ◌*◌, ◌<◌, ◌≤◌, ◌^◌, Bool, true, false, List, [], ◌∷◌, length, refl, ap, sym, ◌∙◌, arith, subst, inl, inr, Option, Some, None}
use Rattle.std.specs.Prelude.{◌==◌, if◌then◌else◌}
use Rattle.std.specs.List.{find, flat_map, sum_by}
use Rattle.std.proofs.lemmas.Bool.{cases_eq, cases_lt}
use Rattle.std.proofs.lemmas.List.Sums.{sum_by-append, sum_by-cons}
use Rattle.rs_entry.specs.WellFormed.{WellFormed}
use Rattle.rs_entry.specs.declared.entry.Entry.{Entry}
use Rattle.rs_entry.specs.declared.input.Input.{Input}
use Rattle.rs_entry.specs.declared.input.Log.{Log}
use Rattle.rs_entry.specs.declared.input.Store.{Store}
use Rattle.rs_store.specs.Formed.{steps_of}
use Rattle.rs_store.specs.Stores.{entries_in}
use Rattle.rs_store.proofs.FormLaws.{formed_store}
use Rattle.rs_part.proofs.SmallParts.{last_within}
use Rattle.rs_check.specs.Laws.{check}
use Rattle.rs_check.specs.Plans.{address_of, reshapings_of, stop_of}
use Rattle.rs_check.specs.Values.{count_of, region_of}
use Rattle.rs_check.proofs.Addresses.{Home, home, stops}
use Rattle.rs_table.specs.Cuts.{Cut, IsCut, size_below, size_of}
use Rattle.rs_table.specs.Moves.{nothing_covered, raised}
use Rattle.rs_table.proofs.Cutting.{raised_other, raised_same}
use Rattle.rs_table.proofs.PlanReshapings.{few_of}

-- ---- one more

same_below : (n : Cut) (a k : ℕ) → k ≤ a → size_below (raised n a) k ≡ size_below n k
same_below n a zero h = refl
same_below n a (suc k) h =
    let r = same_below n a k (omega arith) in
    let e : raised n a k ≡ n k = raised_other n a k (λ q. omega (arith, q, h)) in
    omega (arith, r, e)

one_more_below : (n : Cut) (a k : ℕ) → a < k → size_below (raised n a) k ≡ size_below n k + 1
one_more_below n a zero h = absurd (omega arith)
one_more_below n a (suc k) h = elim (cases_eq a k) [
  | inl e ↦
      (let s = same_below n a k (omega (arith, e)) in
      let r : raised n a k ≡ n k + 1 = subst (λ z. raised n a z ≡ n z + 1) e (raised_same n a) in
      omega (arith, s, r))
  | inr ne ↦
      (let s = one_more_below n a k (omega (arith, ne, h)) in
      let r : raised n a k ≡ n k = raised_other n a k (λ q. ne (sym q)) in
      omega (arith, s, r))
]

pub one_more : (input : Input) (n : Cut) (a : ℕ) → a < count_of input → size_of input (raised n a) ≡ size_of input n + 1
one_more input n a h = one_more_below n a (count_of input) h

none_below : (k : ℕ) → size_below nothing_covered k ≡ 0
none_below zero = refl
none_below (suc k) = let r = none_below k in omega (arith, r)

pub none : (input : Input) → size_of input nothing_covered ≡ 0
none input = none_below (count_of input)

-- ---- few

logs_sum : (logs : List Log) → sum_by steps_of (flat_map (λ l. l.entries) logs) ≡ sum_by (λ log. sum_by steps_of log.entries) logs
logs_sum [] = refl
logs_sum (l ∷ ls) =
    sum_by-append steps_of l.entries (flat_map (λ l. l.entries) ls)
    ∙ (ap (λ n. sum_by steps_of l.entries + n) (logs_sum ls) ∙ sym (sum_by-cons (λ (log : Log). sum_by steps_of log.entries) l ls))

abbrev all_entries : List Store → List Entry
all_entries stores = flat_map (λ s. flat_map (λ l. l.entries) s.logs) stores

-- a store has at most as many entries as all stores
store_few : (stores : List Store) (id : ℕ) (s : Store) → find (λ t. t.id == id) stores ≡ Some s → entries_in s ≤ sum_by steps_of (all_entries stores)
store_few [] id s h = absurd cc
store_few (x ∷ xs) id s h =
    let both : sum_by steps_of (all_entries (x ∷ xs)) ≡ sum_by steps_of (flat_map (λ l. l.entries) x.logs) + sum_by steps_of (all_entries xs) = sum_by-append steps_of (flat_map (λ l. l.entries) x.logs) (all_entries xs) in
    let own : sum_by steps_of (flat_map (λ l. l.entries) x.logs) ≡ entries_in x = logs_sum x.logs in
    go (x.id == id) h both own (λ k. store_few xs id s k)
  where
    go : (b : Bool) → (if b then Some x else find (λ t. t.id == id) xs) ≡ Some s
        → sum_by steps_of (all_entries (x ∷ xs)) ≡ sum_by steps_of (flat_map (λ l. l.entries) x.logs) + sum_by steps_of (all_entries xs)
        → sum_by steps_of (flat_map (λ l. l.entries) x.logs) ≡ entries_in x → (find (λ t. t.id == id) xs ≡ Some s → entries_in s ≤ sum_by steps_of (all_entries xs)) → entries_in s ≤ sum_by steps_of (all_entries (x ∷ xs))
    go true k both own rest = (let same : x ≡ s = cc k in let e : entries_in x ≡ entries_in s = ap entries_in same in omega (arith, both, own, e))
    go false k both own rest = (let r = rest k in omega (arith, both, own, r))

module _ (input : Input) (well : WellFormed input) (lawful : check input ≡ None) where
  -- an address has fewer reshapings than its stop's index
  few_at : (a : ℕ) → a < count_of input → length (reshapings_of input a) ≤ 67108869
  few_at a w =
      let h : Home input a = home input well lawful a w in
      let near = last_within h.store (formed_store h.store h.end.formed) h.end.g h.end.ends (region_of input a) h.r h.made in
      let low : h.r.applied ≤ 5 + 64 * entries_in h.store = near.applied in
      let all : sum_by steps_of (all_entries input.stores) ≤ 1048576 = well.lines in
      let part = store_few input.stores (address_of input a).0 h.store h.found in
      let at : stop_of input a ≡ h.r.applied = stops input a h in
      let few = few_of input well lawful a w in
      omega (arith, low, all, part, at, few)

  below : (place : ℕ) (n : Cut) → IsCut input place n → (k : ℕ) → k ≤ count_of input → size_below n k ≤ k * 67108869
  below place n cut zero h = omega arith
  below place n cut (suc k) h =
      let r = below place n cut k (omega arith) in
      let w = cut.within k in
      let f = few_at k (omega arith) in
      omega (arith, r, w, f)

  pub size_few : (place : ℕ) (n : Cut) → IsCut input place n → count_of input < 2 ^ 32 → size_of input n < 2 ^ 60
  size_few place n cut count = let b = below place n cut (count_of input) (omega arith) in omega (arith, b, count)
