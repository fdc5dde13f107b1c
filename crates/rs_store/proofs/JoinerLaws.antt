-- Only a region whose own log has a commit can stand before a merge.
use Rattle.std.proofs.Common.{◌≡◌, ℕ, zero, suc, ◌-◌, List, [], ◌∷◌, cond, refl, ap, ◌∙◌}
use Rattle.std.specs.Prelude.{Bool, true, false, ◌||◌, Option, Some, None, filter, slice_get, ◌==◌}
use Rattle.std.specs.List.{find, list_any}
use mathlib.Core.Path.{fun_ext}
use Rattle.rs_entry.specs.declared.entry.Body.{Body}
use Rattle.rs_entry.specs.declared.entry.Body.TheVariants as body
use Rattle.rs_entry.specs.declared.entry.Entry.{Entry}
use Rattle.rs_entry.specs.declared.input.Log.{Log}
use Rattle.rs_entry.specs.declared.input.Store.{Store}
use Rattle.rs_region.specs.Verdicts.{verdict}
use Rattle.rs_region.specs.declared.state.RegionState.{RegionState}
use Rattle.rs_store.specs.declared.regions.Made.{Made}
use Rattle.rs_store.specs.Stores.{Applied, Merge, entries_of, own, ids_of, goes_on, is_accept, merge_in, merge_of, own_next, stands, stands_in}
use Rattle.rs_store.specs.Carriers.{is_for, standing_for}
use Rattle.rs_store.specs.Joiners.{any_commit, commits, has_commit, is_commit, joiners_of, log_commits}

found_any : (test : Entry → Bool) (es : List Entry) (k : ℕ) (e : Entry) → slice_get es k ≡ Some e → test e ≡ true → list_any test es ≡ true
found_any test [] k e found passes = absurd cc
found_any test (x ∷ es) zero e found passes =
    let same : x ≡ e = cc found in
    ap (λ b. b || list_any test es) (ap test same ∙ passes)
found_any test (x ∷ es) (suc k) e found passes = go (test x) (found_any test es k e found passes)
  where
    go : (b : Bool) → list_any test es ≡ true → (b || list_any test es) ≡ true
    go true rest = refl
    go false rest = rest

is_one : (b : Body) (m : Merge) → merge_in b ≡ Some m → is_commit b ≡ true
is_one (body.Commit source commit carried) m e = refl
is_one body.Empty m e = absurd cc
is_one (body.Write ops) m e = absurd cc
is_one (body.Split side ids keys) m e = absurd cc
is_one (body.Prepare target) m e = absurd cc
is_one (body.Rollback commit) m e = absurd cc
is_one (body.Conf c) m e = absurd cc

accepted_one : (s : RegionState) (e : Entry) (m : Merge) → merge_of s (Some e) ≡ Some m → is_commit e.body ≡ true
accepted_one s e m h = go (is_accept (verdict s e)) h
  where
    go : (b : Bool) → cond b (merge_in e.body) None ≡ Some m → is_commit e.body ≡ true
    go true h = is_one e.body m h
    go false h = absurd cc

-- a region that stands before a merge has a commit in its own log
stands_commit : (store : Store) (g : Applied) (id : ℕ) (m : Merge) → stands store g id ≡ Some m → has_commit store id ≡ true
stands_commit store g id m h = by_made (g.region id) h
  where
    by_next : (s : RegionState) (k : ℕ) (o : Option Entry) → slice_get (own store id) k ≡ o → merge_of s o ≡ Some m → has_commit store id ≡ true
    by_next s k None next e = absurd cc
    by_next s k (Some entry) next e = found_any commits (own store id) k entry next (accepted_one s entry m e)

    by_goes : (r : Made) (b : Bool) → cond b (merge_of r.state (own_next (own store id) r.applied)) None ≡ Some m → has_commit store id ≡ true
    by_goes r true e = by_next r.state (r.applied - 5) (own_next (own store id) r.applied) refl e
    by_goes r false e = absurd cc

    by_made : (o : Option Made) → stands_in (own store id) o ≡ Some m → has_commit store id ≡ true
    by_made None e = absurd cc
    by_made (Some r) e = by_goes r (goes_on (own store id) r.state) e

kept_one : (store : Store) (g : Applied) (source id : ℕ) → is_for source (stands store g id) ≡ true → has_commit store id ≡ true
kept_one store g source id h = go (stands store g id) refl h
  where
    go : (o : Option Merge) → stands store g id ≡ o → is_for source o ≡ true → has_commit store id ≡ true
    go None s e = absurd cc
    go (Some m) s e = stands_commit store g id m s

-- what passes one test passes the other: so it can be looked for among these
filter_within : (p q : ℕ → Bool) → ((x : ℕ) → p x ≡ true → q x ≡ true) → (xs : List ℕ) → filter p (filter q xs) ≡ filter p xs
filter_within p q within [] = refl
filter_within p q within (x ∷ xs) = go (q x) refl (p x) refl (filter_within p q within xs)
  where
    go : (b : Bool) → q x ≡ b → (c : Bool) → p x ≡ c → filter p (filter q xs) ≡ filter p xs → filter p (cond b (x ∷ filter q xs) (filter q xs)) ≡ cond c (x ∷ filter p xs) (filter p xs)
    go true b c d rest = ap (λ z. cond z (x ∷ filter p (filter q xs)) (filter p (filter q xs))) d ∙ ap (λ ys. cond c (x ∷ ys) ys) rest
    go false b true d rest = absurd (cc (within x d, b))
    go false b false d rest = rest

-- who stands before a merge is found among them
pub standing_joiners : (store : Store) (g : Applied) → standing_for store g (joiners_of store) ≡ standing_for store g (ids_of store)
standing_joiners store g = fun_ext (λ source. filter_within (λ t. is_for source (stands store g t)) (has_commit store) (kept_one store g source) (ids_of store))

-- ---- a store without a commit

none_here : (id : ℕ) (logs : List Log) → list_any log_commits logs ≡ false → list_any commits (entries_of (find (λ log. log.region == id) logs)) ≡ false
none_here id [] h = refl
none_here id (log ∷ logs) h = go (none_here id logs) (log.region == id) (log_commits log) refl h
  where
    go : (list_any log_commits logs ≡ false → list_any commits (entries_of (find (λ log. log.region == id) logs)) ≡ false) → (b c : Bool) → log_commits log ≡ c → (c || list_any log_commits logs) ≡ false → list_any commits (entries_of (cond b (Some log) (find (λ log. log.region == id) logs))) ≡ false
    go rest b true e k = absurd cc
    go rest true false e k = e
    go rest false false e k = rest k

none_of : (p : ℕ → Bool) → ((x : ℕ) → p x ≡ false) → (xs : List ℕ) → filter p xs ≡ []
none_of p none [] = refl
none_of p none (x ∷ xs) = rw (none x) (none_of p none xs)

-- none of its regions can stand before a merge
pub none_join : (store : Store) (ids : List ℕ) → any_commit store ≡ false → filter (has_commit store) ids ≡ []
none_join store ids h = none_of (has_commit store) (λ id. none_here id store.logs h) ids
