-- What a store of a number's input has: its regions' ids, and each region's own log.
use Rattle.std.proofs.Common.{◌≡◌, ◌∙◌, refl, sym, ap, subst, ℕ, zero, suc, ◌+◌, ◌-◌, ◌*◌, ◌<◌, ◌≤◌, ◌==◌, ltb, arith, false, cond, List, [], ◌∷◌, ◌++◌, map, take, inl, inr}
use Rattle.std.specs.Prelude.{None, Some, slice_get}
use Rattle.std.specs.List.{find, flat_map, range_with_len}
use Rattle.std.proofs.lemmas.Bool.{cases_eq, eq-eqb, le-ltb, ne_eqb}
use Rattle.std.proofs.lemmas.Grind.{flat_map-append}
use Rattle.std.proofs.lemmas.List.{append-nil}
use Rattle.rs_entry.specs.declared.entry.Entry.{Entry}
use Rattle.rs_entry.specs.declared.input.Log.{Log}
use Rattle.rs_entry.specs.Entries.{entry_of}
use Rattle.rs_store.specs.Stores.{add_all, entries_of, ids_in, ids_in_log, ids_of, insert_id, own}
use Rattle.rs_gen.specs.declared.kept.Kept.{Kept}
use Rattle.rs_gen.specs.Rounds.{child, child_entries, main_entries}
use Rattle.rs_gen.specs.Inputs.{child_log, kept, main_log, rounds, rounds_of, store_of}

-- ---- region 1's log

-- an entry of one of four, with others behind
one_of_four : {A : Type 0} (a b c d : A) (rest : List A) (j : ℕ) → j < 4 → slice_get (a ∷ b ∷ c ∷ d ∷ rest) j ≡ slice_get (a ∷ b ∷ c ∷ d ∷ []) j
one_of_four a b c d rest zero below = refl
one_of_four a b c d rest (suc zero) below = refl
one_of_four a b c d rest (suc (suc zero)) below = refl
one_of_four a b c d rest (suc (suc (suc zero))) below = refl
one_of_four a b c d rest (suc (suc (suc (suc j)))) below = absurd (omega arith)

entry_from : (n a i k j : ℕ) → i < k → j < 4 → slice_get (flat_map (main_entries n) (range_with_len a k)) (4 * i + j) ≡ slice_get (main_entries n (a + i)) j
entry_from n a i zero j here below = absurd (omega arith)
entry_from n a zero (suc k) j here below =
    let at : 4 * 0 + j ≡ j = omega arith in
    let first : a ≡ a + 0 = omega arith in
    ap (slice_get (flat_map (main_entries n) (range_with_len a (suc k)))) at
    ∙ (one_of_four _ _ _ _ (flat_map (main_entries n) (range_with_len (a + 1) k)) j below
    ∙ ap (λ t. slice_get (main_entries n t) j) first)
entry_from n a (suc i) (suc k) j here below =
    let at : 4 * suc i + j ≡ suc (suc (suc (suc (4 * i + j)))) = omega arith in
    let next : a + 1 + i ≡ a + suc i = omega arith in
    ap (slice_get (flat_map (main_entries n) (range_with_len a (suc k)))) at
    ∙ (entry_from n (a + 1) i k j (omega arith) below
    ∙ ap (λ t. slice_get (main_entries n t) j) next)

-- a round's entry
pub main_entry : (n t j : ℕ) → t < rounds_of n → j < 4 → slice_get (main_log n).entries (4 * t + j) ≡ slice_get (main_entries n t) j
main_entry n t j here below = (let first : 0 + t ≡ t = omega arith in entry_from n 0 t (rounds_of n) j here below ∙ ap (λ u. slice_get (main_entries n u) j) first)

past_from : (n a k i : ℕ) → 4 * k ≤ i → slice_get (flat_map (main_entries n) (range_with_len a k)) i ≡ None
past_from n a zero i past = refl
past_from n a (suc k) i past =
    let at : i ≡ suc (suc (suc (suc (i - 4)))) = omega arith in
    ap (slice_get (flat_map (main_entries n) (range_with_len a (suc k)))) at ∙ past_from n (a + 1) k (i - 4) (omega arith)

-- there is none behind the last round
pub main_end : (n : ℕ) → slice_get (main_log n).entries (4 * rounds_of n) ≡ None
main_end n = past_from n 0 (rounds_of n) (4 * rounds_of n) (omega arith)

-- ---- ids

insert_end : (a k : ℕ) → insert_id (a + k) (range_with_len a k) ≡ range_with_len a (suc k)
insert_end a zero = (let same : a + 0 ≡ a = omega arith in ap (λ x. x ∷ []) same)
insert_end a (suc k) =
    let other : (a + suc k == a) ≡ false = ne_eqb (a + suc k) a (λ e. omega arith) in
    let above : ltb (a + suc k) a ≡ false = le-ltb (a + suc k) a (omega arith) in
    let next : a + suc k ≡ a + 1 + k = omega arith in
    ap (λ b. cond b (a ∷ range_with_len (a + 1) k) (cond (ltb (a + suc k) a) ((a + suc k) ∷ a ∷ range_with_len (a + 1) k) (a ∷ insert_id (a + suc k) (range_with_len (a + 1) k)))) other
    ∙ (ap (λ b. cond b ((a + suc k) ∷ a ∷ range_with_len (a + 1) k) (a ∷ insert_id (a + suc k) (range_with_len (a + 1) k))) above
    ∙ (ap (λ x. a ∷ insert_id x (range_with_len (a + 1) k)) next
    ∙ ap (λ xs. a ∷ xs) (insert_end (a + 1) k)))

add_rising : (a i k : ℕ) → add_all (range_with_len a i) (range_with_len (a + i) k) ≡ range_with_len a (i + k)
add_rising a i zero = (let same : i ≡ i + 0 = omega arith in ap (range_with_len a) same)
add_rising a i (suc k) =
    let next : a + i + 1 ≡ a + suc i = omega arith in
    let all : suc i + k ≡ i + suc k = omega arith in
    ap (λ xs. add_all xs (range_with_len (a + i + 1) k)) (insert_end a i)
    ∙ (ap (λ x. add_all (range_with_len a (suc i)) (range_with_len x k)) next
    ∙ (add_rising a (suc i) k ∙ ap (range_with_len a) all))

-- the ids that the splits of some rounds name
split_ids : (n a k : ℕ) → flat_map (λ (e : Entry). ids_in e.body) (flat_map (main_entries n) (range_with_len a k)) ≡ range_with_len (child a) k
split_ids n a zero = refl
split_ids n a (suc k) = (let next : child (a + 1) ≡ child a + 1 = omega arith in ap (λ xs. child a ∷ xs) (split_ids n (a + 1) k ∙ ap (λ x. range_with_len x k) next))

front_ids : (n t k : ℕ) → flat_map (λ (e : Entry). ids_in e.body) (take k (map entry_of (child_entries n t))) ≡ []
front_ids n t zero = refl
front_ids n t (suc zero) = refl
front_ids n t (suc (suc zero)) = refl
front_ids n t (suc (suc (suc zero))) = refl
front_ids n t (suc (suc (suc (suc k)))) = refl

module _ (n : ℕ) (share : Kept) where
  abbrev pub pieces : ℕ → List Log
  pieces t = child_log n t (kept share n t)

  piece_ids : (t k : ℕ) → flat_map ids_in_log (child_log n t k) ≡ []
  piece_ids t zero = refl
  piece_ids t (suc k) = ap (λ xs. xs ++ []) (front_ids n t (suc k))

  pieces_ids : (a k : ℕ) → flat_map ids_in_log (flat_map pieces (range_with_len a k)) ≡ []
  pieces_ids a zero = refl
  pieces_ids a (suc k) =
      flat_map-append ids_in_log (pieces a) (flat_map pieces (range_with_len (a + 1) k))
      ∙ (ap (λ xs. xs ++ flat_map ids_in_log (flat_map pieces (range_with_len (a + 1) k))) (piece_ids a (kept share n a))
      ∙ pieces_ids (a + 1) k)

  -- the ids of a store: region 1, then those of the rounds
  pub store_ids : (id : ℕ) → ids_of (store_of n id share) ≡ 1 ∷ range_with_len 2 (rounds_of n)
  store_ids id =
      ap (λ xs. add_all (1 ∷ []) (flat_map (λ (e : Entry). ids_in e.body) (main_log n).entries ++ xs)) (pieces_ids 0 (rounds_of n))
      ∙ (ap (add_all (1 ∷ [])) (append-nil (flat_map (λ (e : Entry). ids_in e.body) (main_log n).entries) ∙ split_ids n 0 (rounds_of n))
      ∙ (let two : 1 + rounds_of n ≡ suc (rounds_of n) = omega arith in add_rising 1 1 (rounds_of n) ∙ ap (range_with_len 1) two))

  -- ---- the logs of new regions

  abbrev log_in : List Log → ℕ → List Entry
  log_in logs region = entries_of (find (λ log. log.region == region) logs)

  other_piece : (t u k : ℕ) (logs : List Log) → (u ≡ t → ⊥) → log_in (child_log n u k ++ logs) (child t) ≡ log_in logs (child t)
  other_piece t u zero logs other = refl
  other_piece t u (suc k) logs other = ap (λ b. entries_of (cond b (Some (record { region = child u; entries = take (suc k) (map entry_of (child_entries n u)) })) (find (λ log. log.region == child t) logs))) (ne_eqb (child u) (child t) (λ e. other (omega arith)))

  later_pieces : (t a k : ℕ) → t < a → log_in (flat_map pieces (range_with_len a k)) (child t) ≡ []
  later_pieces t a zero later = refl
  later_pieces t a (suc k) later = other_piece t a (kept share n a) (flat_map pieces (range_with_len (a + 1) k)) (λ e. omega arith) ∙ later_pieces t (a + 1) k (omega arith)

  this_piece : (t k : ℕ) (logs : List Log) → log_in logs (child t) ≡ [] → log_in (child_log n t k ++ logs) (child t) ≡ take k (map entry_of (child_entries n t))
  this_piece t zero logs none = none
  this_piece t (suc k) logs none = ap (λ b. entries_of (cond b (Some (record { region = child t; entries = take (suc k) (map entry_of (child_entries n t)) })) (find (λ log. log.region == child t) logs))) (eq-eqb (child t) (child t) refl)

  piece_of : (t a k : ℕ) → a ≤ t → t < a + k → log_in (flat_map pieces (range_with_len a k)) (child t) ≡ take (kept share n t) (map entry_of (child_entries n t))
  piece_of t a zero from to = absurd (omega arith)
  piece_of t a (suc k) from to = elim (cases_eq a t) [
    | inl here ↦ subst (λ u. log_in (pieces u ++ flat_map pieces (range_with_len (a + 1) k)) (child t) ≡ take (kept share n t) (map entry_of (child_entries n t))) (sym here)
        (this_piece t (kept share n t) (flat_map pieces (range_with_len (a + 1) k)) (later_pieces t (a + 1) k (omega arith)))
    | inr other ↦ other_piece t a (kept share n a) (flat_map pieces (range_with_len (a + 1) k)) other ∙ piece_of t (a + 1) k (omega (arith, other)) (omega arith)
  ]

  -- the own log of a round's region
  pub child_own : (id t : ℕ) → t < rounds_of n → own (store_of n id share) (child t) ≡ take (kept share n t) (map entry_of (child_entries n t))
  child_own id t here =
      ap (λ b. entries_of (cond b (Some (main_log n)) (find (λ log. log.region == child t) (flat_map pieces (rounds n))))) (ne_eqb 1 (child t) (λ e. omega arith))
      ∙ piece_of t 0 (rounds_of n) (omega arith) (omega arith)

  pub main_own : (id : ℕ) → own (store_of n id share) 1 ≡ (main_log n).entries
  main_own id = refl
