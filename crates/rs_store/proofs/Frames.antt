-- What a calm step leaves to the other regions.
use Rattle.std.proofs.Common.{◌≡◌, ℕ, ◌+◌, ◌≤◌, ◌<◌, suc, zero, refl, sym, ap, ◌∙◌, subst, List, [], ◌∷◌, length, get_or, drop, arith}
use Rattle.std.specs.Prelude.{Bool, true, false, Option, Some, None, ◌==◌, ◌&&◌, ◌||◌, not, is_some, leb, if◌then◌else◌}
use Rattle.std.specs.List.{find}
use Rattle.std.proofs.lemmas.Bool.{eqb-true, eq-eqb, leb-true, le-leb}
use Rattle.std.specs.Cmp.{both_ways}
use Rattle.rs_entry.specs.declared.entry.Body.{Body}
use Rattle.rs_entry.specs.declared.entry.Body.TheVariants as body
use Rattle.rs_entry.specs.declared.entry.Carried.{Carried}
use Rattle.rs_entry.specs.declared.entry.CarriedBody.{CarriedBody}
use Rattle.rs_entry.specs.declared.entry.CarriedBody.TheVariants as carried
use Rattle.rs_entry.specs.declared.entry.Entry.{Entry}
use Rattle.rs_entry.specs.declared.input.Store.{Store}
use Rattle.rs_entry.specs.Entries.{body_of, entry_of}
use Rattle.rs_region.specs.Verdicts.{verdict}
use Rattle.rs_region.specs.Reshapings.{prepared, rolled_back}
use Rattle.rs_region.specs.declared.state.RegionState.{RegionState}
use Rattle.rs_region.specs.declared.verdict.Verdict.{Verdict}
use Rattle.rs_region.specs.declared.verdict.Verdict.TheVariants as verdicts
use Rattle.rs_store.specs.declared.regions.Made.{Made}
use Rattle.rs_store.specs.Stores.{ByRegion, Applied, Merge, own, ids_of, own_next, entry_at, carried_at, carried_next, first_some, stands, stands_in, next, goes_on, merge_of, merge_in, is_accept, has_applied, source_is_there, ready_with, ready_in, is_ready, with_region, accept, step_by, step_with, step_in, step, passed, reshaped, conf_changed}
use Rattle.rs_store.specs.Runs.{Run, Moved, bare, forget, is_quiet}
use Rattle.rs_store.specs.Places.{Places}
use Rattle.rs_store.specs.Cursor.{HasMerges, IsCalm, is_quiet_for}

-- a quiet step changes its own region alone, which has applied one entry more

abbrev pub IsOnlyAt : ByRegion → ℕ → Made → Run → Type 0
IsOnlyAt f id r m = (g : ByRegion) → m ≡ Moved g → (t : Made) × ((t.applied ≡ r.applied + 1) × (g ≡ with_region f id t))

only : (f : ByRegion) (id : ℕ) (r t : Made) → t.applied ≡ r.applied + 1 → IsOnlyAt f id r (Moved (with_region f id t))
only f id r t h g e = (t, (h, cc))

quiet_accept : (store : Store) (f : ByRegion) (id : ℕ) (r : Made) (b : Body) → is_quiet b ≡ true → IsOnlyAt f id r (forget (accept store (bare f) id r b))
quiet_accept store f id r body.Empty q = only f id r (passed r) refl
quiet_accept store f id r (body.Write ops) q = only f id r (passed r) refl
quiet_accept store f id r (body.Split side ids keys) q = absurd cc
quiet_accept store f id r (body.Prepare target) q = only f id r (reshaped r (prepared r.state target (r.applied + 1))) refl
quiet_accept store f id r (body.Commit source commit l) q = absurd cc
quiet_accept store f id r (body.Rollback commit) q = only f id r (reshaped r (rolled_back r.state)) refl
quiet_accept store f id r (body.Conf c) q = only f id r (reshaped r (conf_changed store.id r.state c)) refl

or_false : (b : Bool) → (b || false) ≡ true → b ≡ true
or_false true h = refl
or_false false h = absurd cc

quiet_by : (v : Verdict) (store : Store) (f : ByRegion) (id : ℕ) (r : Made) (e : Entry) → (is_quiet e.body || not (is_accept v)) ≡ true → IsOnlyAt f id r (forget (step_by v store (bare f) id r e))
quiet_by verdicts.Accept store f id r e q = quiet_accept store f id r e.body (or_false (is_quiet e.body) q)
quiet_by verdicts.Empty store f id r e q = only f id r (passed r) refl
quiet_by verdicts.Stale store f id r e q = only f id r (passed r) refl
quiet_by verdicts.Merging store f id r e q = only f id r (passed r) refl
quiet_by (verdicts.Outside p) store f id r e q = only f id r (passed r) refl
quiet_by (verdicts.BadSplit p) store f id r e q = only f id r (passed r) refl
quiet_by verdicts.BadPeer store f id r e q = only f id r (passed r) refl
quiet_by verdicts.BadRollback store f id r e q = λ g h. absurd cc

-- a carried entry is no commit

no_merge : (b : CarriedBody) → merge_in (body_of b) ≡ None
no_merge carried.Empty = refl
no_merge (carried.Write ops) = refl
no_merge (carried.Prepare target) = refl

no_merge_at : (o : Option Carried) (e : Entry) → entry_at o ≡ Some e → merge_in e.body ≡ None
no_merge_at None e h = absurd cc
no_merge_at (Some c) e h = let q : entry_of c ≡ e = cc in subst (λ (x : Entry). merge_in x.body ≡ None) q (no_merge c.body)

no_merge_in : (id index : ℕ) (o : Option Merge) (e : Entry) → carried_at id index o ≡ Some e → merge_in e.body ≡ None
no_merge_in id index None e h = absurd cc
no_merge_in id index (Some m) e h = go (m.source == id) h where
  go : (t : Bool) → (if t then entry_at (find (λ c. c.index == index) m.carried) else None) ≡ Some e → merge_in e.body ≡ None
  go true k = no_merge_at (find (λ c. c.index == index) m.carried) e k
  go false k = absurd cc

no_merge_next : (store : Store) (g : Applied) (ids : List ℕ) (id index : ℕ) (e : Entry) → carried_next store g ids id index ≡ Some e → merge_in e.body ≡ None
no_merge_next store g [] id index e h = absurd cc
no_merge_next store g (t ∷ ts) id index e h = go (no_merge_next store g ts id index e) (carried_at id index (stands store g t)) refl h where
  go : (carried_next store g ts id index ≡ Some e → merge_in e.body ≡ None) → (o : Option Entry) → carried_at id index (stands store g t) ≡ o → first_some o (carried_next store g ts id index) ≡ Some e → merge_in e.body ≡ None
  go rest None q k = rest k
  go rest (Some x) q k = no_merge_in id index (stands store g t) e (q ∙ k)

no_merge_of : (s : RegionState) (e : Entry) → merge_in e.body ≡ None → merge_of s (Some e) ≡ None
no_merge_of s e h = go (is_accept (verdict s e)) where
  go : (b : Bool) → (if b then merge_in e.body else None) ≡ None
  go true = h
  go false = refl

leb_step : (c a : ℕ) → (c ≡ a + 1 → ⊥) → leb c (a + 1) ≡ leb c a
leb_step c a ne = both_ways (leb c (a + 1)) (leb c a)
    (λ p. let q : c ≤ a + 1 = leb-true c (a + 1) p in le-leb c a (omega (arith, ne)))
    (λ p. let q : c ≤ a = leb-true c a p in le-leb c (a + 1) (omega arith))

module _ (store : Store) (awaited : Places) (all : HasMerges store awaited) (f : ByRegion) (id : ℕ) (calm : IsCalm store awaited f id)
    (r t : Made) (was : f id ≡ Some r) (one : t.applied ≡ r.applied + 1) (h : ByRegion) (now : h id ≡ Some t)
    (others : (x : ℕ) → (x == id) ≡ false → h x ≡ f x) (lone : stands store (bare h) id ≡ None) where
  stands_frame : (x : ℕ) → stands store (bare h) x ≡ stands store (bare f) x
  stands_frame x = go (x == id) refl where
    go : (b : Bool) → (x == id) ≡ b → stands store (bare h) x ≡ stands store (bare f) x
    go true e = let q : x ≡ id = eqb-true x id e in
        subst (λ z. stands store (bare h) z ≡ stands store (bare f) z) (sym q) (lone ∙ sym calm.lone)
    go false e = ap (stands_in (own store x)) (others x e)

  carried_frame : (ids : List ℕ) (x index : ℕ) → carried_next store (bare h) ids x index ≡ carried_next store (bare f) ids x index
  carried_frame [] x index = refl
  carried_frame (y ∷ ys) x index =
      ap (λ o. first_some (carried_at x index o) (carried_next store (bare h) ys x index)) (stands_frame y)
      ∙ ap (first_some (carried_at x index (stands store (bare f) y))) (carried_frame ys x index)

  next_frame : (x : ℕ) (u : Made) → next store (bare h) x u ≡ next store (bare f) x u
  next_frame x u = ap (first_some (own_next (own store x) u.applied)) (carried_frame (ids_of store) x (u.applied + 1))

  -- who stands before a merge of this region doesn't wait for this entry
  applied_frame : (x : ℕ) (m : Merge) → stands store (bare f) x ≡ Some m → has_applied m.commit (h m.source) ≡ has_applied m.commit (f m.source)
  applied_frame x m st = go (m.source == id) refl where
    reached : m.source ≡ id → leb m.commit t.applied ≡ leb m.commit r.applied
    reached q =
        let ne : m.commit ≡ r.applied + 1 → ⊥ = λ c. all (bare f) x m st (ap (λ z. awaited z m.commit) q ∙ (ap (awaited id) c ∙ calm.unawaited r was)) in
        ap (leb m.commit) one ∙ leb_step m.commit r.applied ne

    go : (b : Bool) → (m.source == id) ≡ b → has_applied m.commit (h m.source) ≡ has_applied m.commit (f m.source)
    go true e = let q : m.source ≡ id = eqb-true m.source id e in
        ap (λ z. has_applied m.commit (h z)) q ∙ (ap (has_applied m.commit) now ∙ (reached q ∙ sym (ap (λ z. has_applied m.commit (f z)) q ∙ ap (has_applied m.commit) was)))
    go false e = ap (has_applied m.commit) (others m.source e)

  there_frame : (x : ℕ) (u : Made) (e : Entry) → f x ≡ Some u → goes_on (own store x) u.state ≡ true → next store (bare f) x u ≡ Some e
      → source_is_there (bare h) (merge_of u.state (Some e)) ≡ source_is_there (bare f) (merge_of u.state (Some e))
  there_frame x u e at on n = go (own_next (own store x) u.applied) refl n where
    with_merge : (o : Option Merge) → stands store (bare f) x ≡ o → source_is_there (bare h) o ≡ source_is_there (bare f) o
    with_merge None q = refl
    with_merge (Some m) q = applied_frame x m q

    go : (o : Option Entry) → own_next (own store x) u.applied ≡ o → first_some o (carried_next store (bare f) (ids_of store) x (u.applied + 1)) ≡ Some e
        → source_is_there (bare h) (merge_of u.state (Some e)) ≡ source_is_there (bare f) (merge_of u.state (Some e))
    go None q k =
        let none : merge_of u.state (Some e) ≡ None = no_merge_of u.state e (no_merge_next store (bare f) (ids_of store) x (u.applied + 1) e k) in
        ap (source_is_there (bare h)) none ∙ sym (ap (source_is_there (bare f)) none)
    go (Some y) q k = with_merge (merge_of u.state (Some e))
        (ap (stands_in (own store x)) at ∙ (ap (λ b. if b then merge_of u.state (own_next (own store x) u.applied) else None) on ∙ ap (merge_of u.state) (q ∙ k)))

  pub ready_frame : (x : ℕ) → (x == id) ≡ false → is_ready store (bare h) x ≡ is_ready store (bare f) x
  ready_frame x ne = ap (ready_in store (bare h) x) (others x ne) ∙ go (f x) refl where
    go : (o : Option Made) → f x ≡ o → ready_in store (bare h) x o ≡ ready_in store (bare f) x o
    go None q = refl
    go (Some u) q = on (goes_on (own store x) u.state) refl where
      with_next : (goes_on (own store x) u.state ≡ true) → (o : Option Entry) → next store (bare f) x u ≡ o → ready_with (bare h) u.state o ≡ ready_with (bare f) u.state o
      with_next g None n = refl
      with_next g (Some e) n = there_frame x u e q g n

      on : (b : Bool) → goes_on (own store x) u.state ≡ b → (b && ready_with (bare h) u.state (next store (bare h) x u)) ≡ (b && ready_with (bare f) u.state (next store (bare f) x u))
      on true g = ap (ready_with (bare h) u.state) (next_frame x u) ∙ with_next g (next store (bare f) x u) refl
      on false g = refl

-- what a quiet step of a ready region leaves
pub quiet_step : (store : Store) (f : ByRegion) (id : ℕ) (r : Made) (e : Entry) → f id ≡ Some r → next store (bare f) id r ≡ Some e → is_quiet_for r.state e ≡ true
    → IsOnlyAt f id r (forget (step store (bare f) id))
quiet_step store f id r e at n q =
    let same : forget (step store (bare f) id) ≡ forget (step_by (verdict r.state e) store (bare f) id r e) =
    ap (λ o. forget (step_in store (bare f) id o)) at ∙ ap (λ o. forget (step_with store (bare f) id r o)) n in
    subst (IsOnlyAt f id r) (sym same) (quiet_by (verdict r.state e) store f id r e q)

ready_made : (store : Store) (f : ByRegion) (id : ℕ) → is_ready store (bare f) id ≡ true → (r : Made) × ((e : Entry) × ((f id ≡ Some r) × (next store (bare f) id r ≡ Some e)))
ready_made store f id h = go (f id) refl h where
  with_next : (r : Made) (b : Bool) (o : Option Entry) → next store (bare f) id r ≡ o → (b && ready_with (bare f) r.state o) ≡ true → (e : Entry) × (next store (bare f) id r ≡ Some e)
  with_next r true None n k = absurd cc
  with_next r false None n k = absurd cc
  with_next r b (Some e) n k = (e, n)

  go : (o : Option Made) → f id ≡ o → ready_in store (bare f) id o ≡ true → (r : Made) × ((e : Entry) × ((f id ≡ Some r) × (next store (bare f) id r ≡ Some e)))
  go None q k = absurd cc
  go (Some r) q k = let p = with_next r (goes_on (own store id) r.state) (next store (bare f) id r) refl k in (r, (p.0, (q, p.1)))

apart : (f : ByRegion) (id x : ℕ) (t : Made) → (x == id) ≡ false → with_region f id t x ≡ f x
apart f id x t e = rw e refl

pub at_it : (f : ByRegion) (id : ℕ) (t : Made) → with_region f id t id ≡ Some t
at_it f id t = rw (eq-eqb id id refl) refl

module _ (store : Store) (awaited : Places) (all : HasMerges store awaited) (f h : ByRegion) (id : ℕ) (calm : IsCalm store awaited f id) (ready : is_ready store (bare f) id ≡ true)
    (went : forget (step store (bare f) id) ≡ Moved h) (lone : stands store (bare h) id ≡ None) where
  there : (r : Made) × ((e : Entry) × ((f id ≡ Some r) × (next store (bare f) id r ≡ Some e)))
  there = ready_made store f id ready

  left : (t : Made) × ((t.applied ≡ there.0.applied + 1) × (h ≡ with_region f id t))
  left = quiet_step store f id there.0 there.1.0 there.1.1.0 there.1.1.1 (calm.quiet there.0 there.1.0 there.1.1.0 there.1.1.1) h went

  -- after a calm step of a ready region, others are as ready as before
  pub calm_frame : (x : ℕ) → (x == id) ≡ false → is_ready store (bare h) x ≡ is_ready store (bare f) x
  calm_frame x ne =
      ready_frame store awaited all f id calm there.0 left.0 there.1.1.0 left.1.0 h (ap (λ z. z id) left.1.1 ∙ at_it f id left.0)
      (λ y q. ap (λ z. z y) left.1.1 ∙ apart f id y left.0 q) lone x ne

  -- and the same regions stand before the same merges
  pub calm_stands : (x : ℕ) → stands store (bare h) x ≡ stands store (bare f) x
  calm_stands x =
      stands_frame store awaited all f id calm there.0 left.0 there.1.1.0 left.1.0 h (ap (λ z. z id) left.1.1 ∙ at_it f id left.0)
      (λ y q. ap (λ z. z y) left.1.1 ∙ apart f id y left.0 q) lone x

-- where none before the cursor is ready, the least that is ready stands from there on

pub from_cursor : (p : ℕ → Bool) (xs : List ℕ) (n : ℕ) → ((k : ℕ) → k < n → k < length xs → p (get_or xs k 0) ≡ false) → find p xs ≡ find p (drop n xs)
from_cursor p [] zero none = refl
from_cursor p [] (suc n) none = refl
from_cursor p (x ∷ xs) zero none = refl
from_cursor p (x ∷ xs) (suc n) none =
    let here : p x ≡ false = none 0 (omega arith) (omega arith) in
    rw here (from_cursor p xs n (λ k a b. none (suc k) (omega arith) (omega arith)))

pub none_found : (p : ℕ → Bool) (xs : List ℕ) → ((k : ℕ) → k < length xs → p (get_or xs k 0) ≡ false) → find p xs ≡ None
none_found p [] none = refl
none_found p (x ∷ xs) none =
    let here : p x ≡ false = none 0 (omega arith) in
    rw here (none_found p xs (λ k a. none (suc k) (omega arith)))

-- none before the cursor is ready, where one that is ready took a step and others are as ready as before
pub still_before : (p q : ℕ → Bool) (ids : List ℕ) (cursor id : ℕ) → p id ≡ true → ((k : ℕ) → k < cursor → k < length ids → p (get_or ids k 0) ≡ false)
    → ((x : ℕ) → (x == id) ≡ false → q x ≡ p x) → (k : ℕ) → k < cursor → k < length ids → q (get_or ids k 0) ≡ false
still_before p q ids cursor id ready before same k h l =
    let off : p (get_or ids k 0) ≡ false = before k h l in
    same (get_or ids k 0) (differs (get_or ids k 0) id (get_or ids k 0 == id) refl off ready) ∙ off where
      differs : (x y : ℕ) (b : Bool) → (x == y) ≡ b → p x ≡ false → p y ≡ true → (x == y) ≡ false
      differs x y true e f g = let z : p x ≡ p y = ap p (eqb-true x y e) in absurd cc
      differs x y false e f g = e

pub none_there : {X : Type 0} (o : Option X) (b : Bool) → is_some o ≡ not b → b ≡ true → o ≡ None
none_there None b h k = refl
none_there (Some x) true h k = absurd cc
none_there (Some x) false h k = absurd cc
