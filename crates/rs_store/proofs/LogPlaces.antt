-- The store's own log of a region, found by its place.
use Rattle.std.proofs.Common.{◌≡◌, ℕ, zero, suc, ◌<◌, ◌≤◌, List, [], ◌∷◌, length, get_or, refl, sym, ap, ◌∙◌, ◌⊎◌, inl, inr, arith}
use Rattle.std.specs.Prelude.{Option, None, ◌==◌, slice_get}
use Rattle.std.specs.List.{find}
use Rattle.std.proofs.lemmas.Bool.{eq-eqb, ne_eqb, cases_eq, cases_lt}
use Rattle.rs_entry.specs.declared.input.Log.{Log}
use Rattle.rs_store.specs.Indexes.{AreRising, regions_of}

abbrev pub log_in : List Log → ℕ → Option Log
log_in logs region = find (λ log. log.region == region) logs

found_at : (logs : List Log) (region place : ℕ) → ((k : ℕ) → k < place → get_or (regions_of logs) k 0 < region) → place < length (regions_of logs) → get_or (regions_of logs) place 0 ≡ region
    → log_in logs region ≡ slice_get logs place
found_at [] region place below within here = absurd (omega arith)
found_at (x ∷ xs) region zero below within here = rw (eq-eqb x.region region here) refl
found_at (x ∷ xs) region (suc place) below within here =
    let less : x.region < region = below 0 (omega arith) in
    rw (ne_eqb x.region region (λ e. omega (arith, e, less))) (found_at xs region place (λ k h. below (suc k) (omega arith)) (omega arith) here)

none_at : (logs : List Log) (region : ℕ) → ((k : ℕ) → k < length (regions_of logs) → get_or (regions_of logs) k 0 ≡ region → ⊥) → log_in logs region ≡ None
none_at [] region other = refl
none_at (x ∷ xs) region other = rw (ne_eqb x.region region (λ e. other 0 (omega arith) e)) (none_at xs region (λ k h. other (suc k) (omega arith)))

-- the region of a log that was read
pub region_read : (logs : List Log) (place : ℕ) (d : Log) → place < length logs → (get_or logs place d).region ≡ get_or (regions_of logs) place 0
region_read [] place d h = absurd (omega arith)
region_read (x ∷ xs) zero d h = refl
region_read (x ∷ xs) (suc place) d h = region_read xs place d (omega arith)

same_length : (logs : List Log) → length (regions_of logs) ≡ length logs
same_length [] = refl
same_length (x ∷ xs) = ap suc (same_length xs)

pub log_found : (logs : List Log) (region place : ℕ) → ((k : ℕ) → k < place → get_or (regions_of logs) k 0 < region) → place < length logs → get_or (regions_of logs) place 0 ≡ region
    → slice_get logs place ≡ log_in logs region
log_found logs region place below within here = sym (found_at logs region place below (omega (arith, same_length logs)) here)

pub log_missing : (logs : List Log) (region place : ℕ) → AreRising (regions_of logs) → ((k : ℕ) → k < place → get_or (regions_of logs) k 0 < region) → ((k : ℕ) → place ≤ k → k < length logs → region ≤ get_or (regions_of logs) k 0)
    → place < length logs → (get_or (regions_of logs) place 0 ≡ region → ⊥) → None ≡ log_in logs region
log_missing logs region place rising below from within other = sym (none_at logs region (λ k h q. differs k (omega (arith, same_length logs)) q)) where
  past : (k : ℕ) → k < length logs → (k < place) ⊎ (place ≤ k) → get_or (regions_of logs) k 0 ≡ region → ⊥
  past k h (inl l) q = let b : get_or (regions_of logs) k 0 < region = below k l in omega arith
  past k h (inr l) q = at (cases_eq place k) where
    at : ((place ≡ k) ⊎ (place ≡ k → ⊥)) → ⊥
    at (inl w) = other (ap (λ (n : ℕ). get_or (regions_of logs) n 0) w ∙ q)
    at (inr w) =
        let a : region ≤ get_or (regions_of logs) place 0 = from place (omega arith) within in
        let b : get_or (regions_of logs) place 0 < get_or (regions_of logs) k 0 = rising place k (omega (arith, w)) (omega (arith, same_length logs)) in
        omega arith

  differs : (k : ℕ) → k < length logs → get_or (regions_of logs) k 0 ≡ region → ⊥
  differs k h q = past k h (cases_lt k place) q

pub log_past : (logs : List Log) (region place : ℕ) → ((k : ℕ) → k < place → get_or (regions_of logs) k 0 < region) → place ≡ length logs → None ≡ log_in logs region
log_past logs region place below end =
    sym (none_at logs region (λ k h q.
    let b : get_or (regions_of logs) k 0 < region = below k (omega (arith, same_length logs)) in
    omega arith))
