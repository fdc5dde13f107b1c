-- What a well-formed store gives.
use Rattle.std.proofs.Common.{subst, ◌≡◌, ℕ, zero, suc, List, [], ◌∷◌, arith}
use Rattle.std.specs.Prelude.{Bool, true, false, Some, ◌==◌, if◌then◌else◌, slice_get}
use Rattle.std.specs.List.{find, All}
use Rattle.rs_entry.specs.declared.entry.Entry.{Entry}
use Rattle.rs_entry.specs.declared.input.Log.{Log}
use Rattle.rs_entry.specs.declared.input.Store.{Store}
use Rattle.rs_store.specs.Runs.{IsFormed, IsFormedStore}
use Rattle.rs_store.specs.Stores.{entries_of, own}
use Rattle.rs_store.specs.Formed.{IsFormedLog, IsFormedOne}

pub formed_entry : (entries : List Entry) → All (λ (e : Entry). IsFormed e.body) entries → (i : ℕ) (e : Entry) → slice_get entries i ≡ Some e → IsFormed e.body
formed_entry [] all i e h = absurd cc
formed_entry (x ∷ xs) all zero e h = let q : x ≡ e = cc in subst (λ (y : Entry). IsFormed y.body) q (all 0 x (omega arith))
formed_entry (x ∷ xs) all (suc i) e h = formed_entry xs (λ k d l. all (suc k) d (omega arith)) i e h

pub formed_logs : (logs : List Log) → All IsFormedLog logs → (id : ℕ) → All (λ (e : Entry). IsFormed e.body) (entries_of (find (λ log. log.region == id) logs))
formed_logs [] all id = λ k d l. absurd (omega arith)
formed_logs (log ∷ logs) all id = go (log.region == id) (formed_logs logs (λ k d l. all (suc k) d (omega arith)) id) where
  go : (b : Bool) → All (λ (e : Entry). IsFormed e.body) (entries_of (find (λ log. log.region == id) logs)) → All (λ (e : Entry). IsFormed e.body) (entries_of (if b then Some log else find (λ log. log.region == id) logs))
  go true rest = all 0 log (omega arith)
  go false rest = rest

pub formed_store : (store : Store) → IsFormedOne store → IsFormedStore store
formed_store store f id i e h = formed_entry (own store id) (formed_logs store.logs f.logs id) i e h
