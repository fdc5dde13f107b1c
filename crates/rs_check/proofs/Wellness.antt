-- What the check needs of an input that is well formed.
use Rattle.std.proofs.Common.{◌≡◌, ℕ, ◌+◌, ◌<◌, ◌≤◌, ◌^◌, List, [], ◌∷◌, length, get_or, zero, suc, refl, sym, ap, ◌∙◌, arith}
use Rattle.std.specs.List.{All, AllByRecursion, flat_map, sum_by}
use Rattle.std.proofs.lemmas.List.Elements.{All-from_recursion}
use Rattle.std.proofs.lemmas.List.Sums.{sum_by-append, sum_by-cons}
use Rattle.rs_entry.specs.declared.entry.Body.{Body}
use Rattle.rs_entry.specs.declared.entry.Body.TheVariants as body
use Rattle.rs_entry.specs.declared.entry.Entry.{Entry}
use Rattle.rs_entry.specs.declared.input.Log.{Log}
use Rattle.rs_entry.specs.declared.input.Store.{Store}
use Rattle.rs_entry.specs.declared.input.Input.{Input}
use Rattle.rs_entry.specs.WellFormed.{WellFormed, Rising, IsStore, AreEntries, IsBody}
use Rattle.rs_store.specs.Formed.{IsFormedLog, IsFormedOne, IsFormedInput, steps_of}
use Rattle.rs_store.specs.Indexes.{AreRising, log_ids}
use Rattle.rs_store.specs.Runs.{IsFormed}
use Rattle.rs_store.specs.Stores.{entries_in}

formed_body : (version : ℕ) (b : Body) → IsBody version b → IsFormed b
formed_body version body.Empty h = tt
formed_body version (body.Write ops) h = tt
formed_body version (body.Split side ids keys) h = (h.2, omega (arith, h.1, h.2))
formed_body version (body.Prepare target) h = tt
formed_body version (body.Commit source commit carried) h = tt
formed_body version (body.Rollback commit) h = tt
formed_body version (body.Conf c) h = tt

formed_entries : (version n : ℕ) (es : List Entry) → AreEntries version n es → AllByRecursion (λ e. IsFormed e.body) es
formed_entries version n [] h = tt
formed_entries version n (e ∷ es) h = (formed_body version e.body h.3, formed_entries version (n + 1) es h.4)

formed_logs : (version : ℕ) (logs : List Log) → AllByRecursion (λ l. AreEntries version 6 l.entries) logs → AllByRecursion IsFormedLog logs
formed_logs version [] h = tt
formed_logs version (l ∷ ls) h = (All-from_recursion (λ (e : Entry). IsFormed e.body) l.entries (formed_entries version 6 l.entries h.0), formed_logs version ls h.1)

-- numbers that rise from a number on are all above it, and each above all before it
above_low : (low : ℕ) (xs : List ℕ) → Rising low xs → (k : ℕ) → k < length xs → low < get_or xs k 0
above_low low [] r k h = absurd (omega arith)
above_low low (x ∷ xs) r zero h = r.0
above_low low (x ∷ xs) r (suc k) h = let l : x < get_or xs k 0 = above_low x xs r.2 k (omega arith) in omega (arith, r.0)

pub rising_all : (low : ℕ) (xs : List ℕ) → Rising low xs → AreRising xs
rising_all low [] r j k l h = absurd (omega arith)
rising_all low (x ∷ xs) r zero zero l h = absurd (omega arith)
rising_all low (x ∷ xs) r zero (suc k) l h = above_low x xs r.2 k (omega arith)
rising_all low (x ∷ xs) r (suc j) zero l h = absurd (omega arith)
rising_all low (x ∷ xs) r (suc j) (suc k) l h = rising_all x xs r.2 j k (omega arith) (omega arith)

abbrev own_entries : List Log → List Entry
own_entries logs = flat_map (λ l. l.entries) logs

logs_sum : (logs : List Log) → sum_by steps_of (own_entries logs) ≡ sum_by (λ log. sum_by steps_of log.entries) logs
logs_sum [] = refl
logs_sum (l ∷ ls) =
    sum_by-append steps_of l.entries (own_entries ls)
    ∙ (ap (λ n. sum_by steps_of l.entries + n) (logs_sum ls) ∙ sym (sum_by-cons (λ (log : Log). sum_by steps_of log.entries) l ls))

abbrev store_entries : List Store → List Entry
store_entries stores = flat_map (λ s. own_entries s.logs) stores

formed_stores : (version : ℕ) (stores : List Store) → AllByRecursion (IsStore version) stores → sum_by steps_of (store_entries stores) < 2 ^ 50 → AllByRecursion IsFormedOne stores
formed_stores version [] h few = tt
formed_stores version (s ∷ ss) h few =
    let both : sum_by steps_of (store_entries (s ∷ ss)) ≡ sum_by steps_of (own_entries s.logs) + sum_by steps_of (store_entries ss) = sum_by-append steps_of (own_entries s.logs) (store_entries ss) in
    let own : sum_by steps_of (own_entries s.logs) ≡ entries_in s = logs_sum s.logs in (
      record { logs = All-from_recursion IsFormedLog s.logs (formed_logs version s.logs h.0.3); rising = rising_all 0 (log_ids s) h.0.2; few = omega arith },
      formed_stores version ss h.1 (omega arith),
    )

pub formed_input : (input : Input) → WellFormed input → IsFormedInput input
formed_input input w =
    let lines : sum_by steps_of (store_entries input.stores) ≤ 1048576 = w.lines in
    All-from_recursion IsFormedOne input.stores (formed_stores input.version input.stores w.stores (omega arith))

rising_stores : (stores : List Store) → AllByRecursion IsFormedOne stores → AllByRecursion (λ s. AreRising (log_ids s)) stores
rising_stores [] h = tt
rising_stores (s ∷ ss) h = (h.0.rising, rising_stores ss h.1)

-- on each store the regions of the logs rise
pub rising_logs : (input : Input) → WellFormed input → All (λ s. AreRising (log_ids s)) input.stores
rising_logs input w =
    let lines : sum_by steps_of (store_entries input.stores) ≤ 1048576 = w.lines in
    All-from_recursion (λ (s : Store). AreRising (log_ids s)) input.stores (rising_stores input.stores (formed_stores input.version input.stores w.stores (omega arith)))
