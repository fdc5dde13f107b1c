-- The places that commits await are all known.
use Rattle.std.proofs.Common.{◌≡◌, ℕ, ◌+◌, ◌<◌, zero, suc, refl, sym, ap, ◌∙◌, subst, List, [], ◌∷◌, length, get_or, drop}
use Rattle.std.specs.Prelude.{Bool, true, false, Option, Some, None, ◌==◌, ◌&&◌, ◌-◌, if◌then◌else◌, slice_get}
use Rattle.std.specs.List.{find}
use Rattle.std.proofs.lemmas.Bool.{eq-eqb}
use Rattle.rs_entry.specs.declared.entry.Body.{Body}
use Rattle.rs_entry.specs.declared.entry.Body.TheVariants as body
use Rattle.rs_entry.specs.declared.entry.Entry.{Entry}
use Rattle.rs_entry.specs.declared.input.Log.{Log}
use Rattle.rs_entry.specs.declared.input.Store.{Store}
use Rattle.rs_region.specs.Verdicts.{verdict}
use Rattle.rs_region.specs.declared.state.RegionState.{RegionState}
use Rattle.rs_store.specs.declared.regions.Made.{Made}
use Rattle.rs_store.specs.Stores.{Merge, entries_of, own, own_next, stands_in, merge_of, merge_in, goes_on, is_accept}
use Rattle.rs_store.specs.Places.{Places, no_places, with_place}
use Rattle.rs_store.specs.Cursor.{HasMerges}
use Rattle.rs_store.specs.Awaits.{await_body, await_entries, await_logs}
use Rattle.rs_store.proofs.Folds.{drop_here}

abbrev pub Knows : Places → ℕ → ℕ → Type 0
Knows f s c = f s c ≡ None → ⊥

kept_place : (f : Places) (a b s c : ℕ) → Knows f s c → Knows (with_place f a b 0) s c
kept_place f a b s c k h = go ((a == s) && (b == c)) h where
  go : (t : Bool) → (if t then Some 0 else f s c) ≡ None → ⊥
  go true e = absurd cc
  go false e = k e

put_place : (f : Places) (s c : ℕ) → Knows (with_place f s c 0) s c
put_place f s c h =
    let e : with_place f s c 0 s c ≡ Some 0 = rw (eq-eqb s s refl, eq-eqb c c refl) refl in
    absurd cc

kept_body : (f : Places) (b : Body) (s c : ℕ) → Knows f s c → Knows (await_body f b) s c
kept_body f body.Empty s c k = k
kept_body f (body.Write ops) s c k = k
kept_body f (body.Split side ids keys) s c k = k
kept_body f (body.Prepare target) s c k = k
kept_body f (body.Commit source commit carried) s c k = kept_place f source commit s c k
kept_body f (body.Rollback commit) s c k = k
kept_body f (body.Conf ch) s c k = k

known_body : (f : Places) (b : Body) (m : Merge) → merge_in b ≡ Some m → Knows (await_body f b) m.source m.commit
known_body f body.Empty m h = absurd cc
known_body f (body.Write ops) m h = absurd cc
known_body f (body.Split side ids keys) m h = absurd cc
known_body f (body.Prepare target) m h = absurd cc
known_body f (body.Commit source commit carried) m h =
    let e : record { source = source; commit = commit; carried = carried } ≡ m = cc in
    subst (λ (n : Merge). Knows (with_place f source commit 0) n.source n.commit) e (put_place f source commit)
known_body f (body.Rollback commit) m h = absurd cc
known_body f (body.Conf ch) m h = absurd cc

kept_entries : (f : Places) (es : List Entry) (s c : ℕ) → Knows f s c → Knows (await_entries f es) s c
kept_entries f [] s c k = k
kept_entries f (e ∷ es) s c k = kept_entries (await_body f e.body) es s c (kept_body f e.body s c k)

known_entries : (f : Places) (es : List Entry) (i : ℕ) (e : Entry) (m : Merge) → slice_get es i ≡ Some e → merge_in e.body ≡ Some m → Knows (await_entries f es) m.source m.commit
known_entries f [] i e m h q = absurd cc
known_entries f (x ∷ xs) zero e m h q =
    let p : x ≡ e = cc in
    kept_entries (await_body f x.body) xs m.source m.commit (known_body f x.body m (ap (λ (y : Entry). merge_in y.body) p ∙ q))
known_entries f (x ∷ xs) (suc i) e m h q = known_entries (await_body f x.body) xs i e m h q

kept_logs : (f : Places) (logs : List Log) (s c : ℕ) → Knows f s c → Knows (await_logs f logs) s c
kept_logs f [] s c k = k
kept_logs f (log ∷ logs) s c k = kept_logs (await_entries f log.entries) logs s c (kept_entries f log.entries s c k)

known_logs : (f : Places) (logs : List Log) (id i : ℕ) (e : Entry) (m : Merge) → slice_get (entries_of (find (λ log. log.region == id) logs)) i ≡ Some e
    → merge_in e.body ≡ Some m → Knows (await_logs f logs) m.source m.commit
known_logs f [] id i e m h q = absurd cc
known_logs f (log ∷ logs) id i e m h q = go (known_logs (await_entries f log.entries) logs id i e m) (log.region == id) h where
  go : (slice_get (entries_of (find (λ log. log.region == id) logs)) i ≡ Some e → merge_in e.body ≡ Some m → Knows (await_logs (await_entries f log.entries) logs) m.source m.commit)
      → (b : Bool) → slice_get (entries_of (if b then Some log else find (λ log. log.region == id) logs)) i ≡ Some e → Knows (await_logs (await_entries f log.entries) logs) m.source m.commit
  go rest true k = kept_logs (await_entries f log.entries) logs m.source m.commit (known_entries f log.entries i e m k q)
  go rest false k = rest k q

merged_entry : (s : RegionState) (o : Option Entry) (m : Merge) → merge_of s o ≡ Some m → (e : Entry) × ((o ≡ Some e) × (merge_in e.body ≡ Some m))
merged_entry s None m h = absurd cc
merged_entry s (Some e) m h = go (is_accept (verdict s e)) h where
  go : (b : Bool) → (if b then merge_in e.body else None) ≡ Some m → (x : Entry) × ((Some e ≡ Some x) × (merge_in x.body ≡ Some m))
  go true k = (e, (refl, k))
  go false k = absurd cc

stands_entry : (log : List Entry) (o : Option Made) (m : Merge) → stands_in log o ≡ Some m → (i : ℕ) × ((e : Entry) × ((slice_get log i ≡ Some e) × (merge_in e.body ≡ Some m)))
stands_entry log None m h = absurd cc
stands_entry log (Some r) m h = go (goes_on log r.state) h where
  go : (b : Bool) → (if b then merge_of r.state (own_next log r.applied) else None) ≡ Some m → (i : ℕ) × ((e : Entry) × ((slice_get log i ≡ Some e) × (merge_in e.body ≡ Some m)))
  go true k = (r.applied - 5, merged_entry r.state (own_next log r.applied) m k)
  go false k = absurd cc

pub has_merges : (store : Store) (f : Places) → f ≡ await_logs no_places store.logs → HasMerges store f
has_merges store f h g x m st none =
    let p = stands_entry (own store x) (g.region x) m st in
    known_logs no_places store.logs x p.0 p.1.0 m p.1.1.0 p.1.1.1 (ap (λ (k : Places). k m.source m.commit) (sym h) ∙ none)

-- steps of the two loops

pub await_next : (f : Places) (es : List Entry) (i : ℕ) (e : Entry) → i < length es → e ≡ get_or es i e → await_entries f (drop i es) ≡ await_entries (await_body f e.body) (drop (i + 1) es)
await_next f es i e h q = ap (await_entries f) (drop_here es i e h q)

pub await_log : (f : Places) (logs : List Log) (i : ℕ) (log : Log) → i < length logs → log ≡ get_or logs i log → await_logs f (drop i logs) ≡ await_logs (await_entries f log.entries) (drop (i + 1) logs)
await_log f logs i log h q = ap (await_logs f) (drop_here logs i log h q)
