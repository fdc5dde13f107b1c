-- The input of a number is well formed.
use Rattle.std.proofs.Common.{◌≡◌, ◌∙◌, refl, sym, ap, subst, ℕ, zero, suc, ◌+◌, ◌*◌, ◌<◌, ◌≤◌, arith, List, [], ◌∷◌, ◌++◌, inl, map, take, length}
use Rattle.std.specs.List.{AllByRecursion, flat_map, range_with_len, sum_by}
use Rattle.std.proofs.lemmas.List.{append-nil}
use Rattle.std.proofs.Math.Nat.{mul-le-mul_right}
use Rattle.std.proofs.lemmas.Grind.{flat_map-append}
use Rattle.std.proofs.lemmas.List.Sums.{sum_by-append, sum_by-take-le}
use Rattle.rs_entry.specs.declared.entry.Entry.{Entry}
use Rattle.rs_entry.specs.declared.input.Input.{Input}
use Rattle.rs_entry.specs.declared.input.Log.{Log}
use Rattle.rs_entry.specs.Entries.{carried_of, carried_ops_in, entry_of, ops_in, pairs_in}
use Rattle.rs_entry.specs.WellFormed.{AreCarried, AreEntries, IsKey, IsOp, IsStore, IsWrite, Rising, WellFormed, entries_of}
use Rattle.rs_gen.specs.declared.kept.Kept.{Kept}
use Rattle.rs_gen.specs.declared.kept.Kept.TheVariants as shares
use Rattle.rs_gen.specs.Rounds.{byte_in, child, child_entries, cut, first_write, high, last_write, low, main_entries, main_write, put, second_write}
use Rattle.rs_gen.specs.Inputs.{child_log, kept, made_of, rounds, rounds_of, store_of}
use Rattle.rs_gen.proofs.Bytes.{byte_below, cut_below, few_rounds, high_below, low_below}
use Rattle.rs_gen.proofs.Lists.{all_rounds, sum_rounds}

-- ---- entries

one_key : (byte : ℕ) → byte < 256 → IsKey (byte ∷ [])
one_key byte below = (omega arith, omega arith, (below, tt))

one_put : (key value : ℕ) → key < 256 → value < 256 → IsOp (put key value)
one_put key value k v = (one_key key k, (omega arith, (v, tt)))

low_key : (n t place : ℕ) → low n t place < 256
low_key n t place = (let a : low n t place < cut n t = low_below n t place in let b : cut n t < 256 = cut_below n t in omega arith)

first_formed : (n t : ℕ) → IsWrite (first_write n t)
first_formed n t = (omega arith, omega arith, (one_put (low n t 5) (byte_in n t 6) (low_key n t 5) (byte_below n t 6), (one_key (low n t 7) (low_key n t 7), tt)))

second_formed : (n t : ℕ) → IsWrite (second_write n t)
second_formed n t = (omega arith, omega arith, (one_put (low n t 8) (byte_in n t 9) (low_key n t 8) (byte_below n t 9), tt))

main_formed : (n t : ℕ) → IsWrite (main_write n t)
main_formed n t = (omega arith, omega arith, (one_put (byte_in n t 1) (byte_in n t 2) (byte_below n t 1) (byte_below n t 2), (one_put (byte_in n t 3) (byte_in n t 4) (byte_below n t 3) (byte_below n t 4), tt)))

last_formed : (n t : ℕ) → IsWrite (last_write n t)
last_formed n t = (omega arith, omega arith, (one_put (high n t 10) (byte_in n t 11) (high_below n t 10) (byte_below n t 11), tt))

carried_formed : (n t : ℕ) → t < 2000 → AreCarried 8 (child_entries n t)
carried_formed n t few = (refl, omega arith, (omega arith, omega arith), first_formed n t, (refl, omega arith, (omega arith, omega arith), second_formed n t, (refl, omega arith, (omega arith, omega arith), (omega arith, omega arith), tt)))

child_formed : (n t : ℕ) → t < 2000 → AreEntries 1 6 (map entry_of (child_entries n t))
child_formed n t few = (refl, omega arith, (omega arith, omega arith), first_formed n t, (refl, omega arith, (omega arith, omega arith), second_formed n t, (refl, omega arith, (omega arith, omega arith), (omega arith, omega arith), tt)))

front_formed : (i k : ℕ) (es : List Entry) → AreEntries 1 i es → AreEntries 1 i (take k es)
front_formed i zero es a = tt
front_formed i (suc k) [] a = tt
front_formed i (suc k) (e ∷ es) a = (a.0, a.1, a.2, a.3, front_formed (i + 1) k es a.4)

-- region 1's entries from a round on
rounds_formed : (n a k : ℕ) → a + k ≤ 2000 → AreEntries 1 (6 + 4 * a) (flat_map (main_entries n) (range_with_len a k))
rounds_formed n a zero few = tt
rounds_formed n a (suc k) few =
    let next : 6 + 4 * (a + 1) ≡ 6 + 4 * a + 1 + 1 + 1 + 1 = omega arith in
    let rest : AreEntries 1 (6 + 4 * a + 1 + 1 + 1 + 1) (flat_map (main_entries n) (range_with_len (a + 1) k)) =
    subst (λ i. AreEntries 1 i (flat_map (main_entries n) (range_with_len (a + 1) k))) next (rounds_formed n (a + 1) k (omega arith)) in (
      refl,
      omega arith,
      (omega arith, omega arith),
      main_formed n a,
      (
        omega arith,
        omega arith,
        (omega arith, omega arith),
        (omega arith, omega arith, refl, ((omega arith, omega arith), tt), (one_key (cut n a) (cut_below n a), tt)),
        (
          omega arith,
          omega arith,
          (omega arith, omega arith),
          last_formed n a,
          (omega arith, omega arith, (omega arith, omega arith), ((omega arith, omega arith), omega arith, omega arith, carried_formed n a (omega arith)), rest),
        ),
      ),
    )

-- ---- logs

module _ (n : ℕ) (share : Kept) where
  abbrev pieces : ℕ → List Log
  pieces t = child_log n t (kept share n t)

  -- the ids of the new regions' logs from a round on
  ids_rise : (low a k : ℕ) → low < child a → a + k ≤ 2000 → Rising low (map (λ (l : Log). l.region) (flat_map pieces (range_with_len a k)))
  ids_rise low a zero above few = tt
  ids_rise low a (suc k) above few = go (kept share n a) (λ below h. ids_rise below (a + 1) k h (omega arith))
    where
      go : (count : ℕ) → ((below : ℕ) → below < child (a + 1) → Rising below (map (λ (l : Log). l.region) (flat_map pieces (range_with_len (a + 1) k))))
          → Rising low (map (λ (l : Log). l.region) (child_log n a count ++ flat_map pieces (range_with_len (a + 1) k)))
      go zero rest = rest low (omega arith)
      go (suc count) rest = (above, omega arith, rest (child a) (omega arith))

  piece_formed : (t count : ℕ) → t < 2000 → AllByRecursion (λ (l : Log). AreEntries 1 6 l.entries) (child_log n t count)
  piece_formed t zero few = tt
  piece_formed t (suc count) few = (front_formed 6 (suc count) (map entry_of (child_entries n t)) (child_formed n t few), tt)

  pub store_formed : (id : ℕ) → IsStore 1 (store_of n id share)
  store_formed id =
      let few : rounds_of n ≤ 2000 = few_rounds n in (
        (omega arith, omega arith, tt),
        (((tt, tt, refl), inl (refl, refl)), tt),
        (omega arith, omega arith, ids_rise 1 0 (rounds_of n) (omega arith) (omega arith)),
        (rounds_formed n 0 (rounds_of n) (omega arith), all_rounds (λ (l : Log). AreEntries 1 6 l.entries) pieces 0 (rounds_of n) (λ t h. piece_formed t (kept share n t) (omega arith))),
      )

  -- ---- totals

  abbrev lines_of : List Log → List Entry
  lines_of logs = flat_map (λ l. l.entries) logs

  piece_sum : (f : Entry → ℕ) (d t count : ℕ) → sum_by f (map entry_of (child_entries n t)) ≤ d → sum_by f (lines_of (child_log n t count)) ≤ d
  piece_sum f d t zero most = omega arith
  piece_sum f d t (suc count) most =
      let front : sum_by f (take (suc count) (map entry_of (child_entries n t))) ≤ sum_by f (map entry_of (child_entries n t)) = sum_by-take-le f (map entry_of (child_entries n t)) (suc count) in
      let same : take (suc count) (map entry_of (child_entries n t)) ++ [] ≡ take (suc count) (map entry_of (child_entries n t)) = append-nil (take (suc count) (map entry_of (child_entries n t))) in
      subst (λ es. sum_by f es ≤ d) (sym same) (omega arith)

  pieces_sum : (f : Entry → ℕ) (d a k : ℕ) → ((t : ℕ) → sum_by f (map entry_of (child_entries n t)) ≤ d) → sum_by f (lines_of (flat_map pieces (range_with_len a k))) ≤ k * d
  pieces_sum f d a zero each = omega arith
  pieces_sum f d a (suc k) each =
      let here : sum_by f (lines_of (pieces a)) ≤ d = piece_sum f d a (kept share n a) (each a) in
      let rest : sum_by f (lines_of (flat_map pieces (range_with_len (a + 1) k))) ≤ k * d = pieces_sum f d (a + 1) k each in
      let cut : lines_of (pieces a ++ flat_map pieces (range_with_len (a + 1) k)) ≡ lines_of (pieces a) ++ lines_of (flat_map pieces (range_with_len (a + 1) k)) =
      flat_map-append (λ (l : Log). l.entries) (pieces a) (flat_map pieces (range_with_len (a + 1) k)) in
      let both : sum_by f (lines_of (pieces a) ++ lines_of (flat_map pieces (range_with_len (a + 1) k))) ≡ sum_by f (lines_of (pieces a)) + sum_by f (lines_of (flat_map pieces (range_with_len (a + 1) k))) =
      sum_by-append f (lines_of (pieces a)) (lines_of (flat_map pieces (range_with_len (a + 1) k))) in
      let sums : sum_by f (lines_of (pieces a ++ flat_map pieces (range_with_len (a + 1) k))) ≡ sum_by f (lines_of (pieces a)) + sum_by f (lines_of (flat_map pieces (range_with_len (a + 1) k))) = ap (sum_by f) cut ∙ both in
      omega (arith, here, rest, sums)

  -- what a store's entries come to, where a round of region 1 comes to at most c and a new region to at most d
  pub store_sum : (f : Entry → ℕ) (c d id : ℕ) → ((t : ℕ) → sum_by f (main_entries n t) ≤ c) → ((t : ℕ) → sum_by f (map entry_of (child_entries n t)) ≤ d)
      → sum_by f (lines_of (store_of n id share).logs) ≤ 2000 * (c + d)
  store_sum f c d id main child =
      let few : rounds_of n ≤ 2000 = few_rounds n in
      let one : sum_by f (flat_map (main_entries n) (rounds n)) ≤ rounds_of n * c = sum_rounds f (main_entries n) c 0 (rounds_of n) main in
      let two : sum_by f (lines_of (flat_map pieces (rounds n))) ≤ rounds_of n * d = pieces_sum f d 0 (rounds_of n) child in
      let both : sum_by f (lines_of (store_of n id share).logs) ≡ sum_by f (flat_map (main_entries n) (rounds n)) + sum_by f (lines_of (flat_map pieces (rounds n))) = sum_by-append f (flat_map (main_entries n) (rounds n)) (lines_of (flat_map pieces (rounds n))) in
      let less : rounds_of n * (c + d) ≤ 2000 * (c + d) = mul-le-mul_right (c + d) few in
      omega (arith, one, two, both, less)

-- and what those of both stores do
sum_both : (n : ℕ) (f : Entry → ℕ) (c d : ℕ) → ((t : ℕ) → sum_by f (main_entries n t) ≤ c) → ((t : ℕ) → sum_by f (map entry_of (child_entries n t)) ≤ d)
    → sum_by f (entries_of (made_of n)) ≤ 4000 * (c + d)
sum_both n f c d main child =
    let one : sum_by f (lines_of n shares.All (store_of n 1 shares.All).logs) ≤ 2000 * (c + d) = store_sum n shares.All f c d 1 main child in
    let two : sum_by f (lines_of n shares.Few (store_of n 2 shares.Few).logs) ≤ 2000 * (c + d) = store_sum n shares.Few f c d 2 main child in
    let same : lines_of n shares.Few (store_of n 2 shares.Few).logs ++ [] ≡ lines_of n shares.Few (store_of n 2 shares.Few).logs = append-nil (lines_of n shares.Few (store_of n 2 shares.Few).logs) in
    let both : sum_by f (entries_of (made_of n)) ≡ sum_by f (lines_of n shares.All (store_of n 1 shares.All).logs) + sum_by f (lines_of n shares.Few (store_of n 2 shares.Few).logs) =
    sum_by-append f (lines_of n shares.All (store_of n 1 shares.All).logs) (lines_of n shares.Few (store_of n 2 shares.Few).logs ++ [])
    ∙ ap (λ es. sum_by f (lines_of n shares.All (store_of n 1 shares.All).logs) + sum_by f es) same in
    omega (arith, one, two, both)

formed : (n : ℕ) → WellFormed (made_of n)
formed n = record {
  version = inl refl;
  ids = (omega arith, omega arith, (omega arith, omega arith, tt));
  stores = (store_formed n shares.All 1, (store_formed n shares.Few 2, tt));
  count = omega arith;
  boots = (let pairs : sum_by (λ e. pairs_in e.body) (entries_of (made_of n)) ≤ 4000 = sum_both n (λ e. pairs_in e.body) 1 0 (λ t. omega arith) (λ t. omega arith) in omega (arith, pairs));
  lines = (let lines : sum_by (λ e. 1 + length (carried_of e.body)) (entries_of (made_of n)) ≤ 40000 = sum_both n (λ e. 1 + length (carried_of e.body)) 7 3 (λ t. omega arith) (λ t. omega arith) in omega (arith, lines));
  operations =
      (let ops : sum_by (λ e. ops_in e.body + sum_by (λ c. carried_ops_in c.body) (carried_of e.body)) (entries_of (made_of n)) ≤ 36000 =
      sum_both n (λ e. ops_in e.body + sum_by (λ c. carried_ops_in c.body) (carried_of e.body)) 6 3 (λ t. omega arith) (λ t. omega arith) in omega (arith, ops));
}

pub made_formed : (n : ℕ) (input : Input) → input ≡ made_of n → WellFormed input
made_formed n input is = subst WellFormed (sym is) (formed n)
