-- The numbers of a run stay small: each step raises them by 64 at most.
use Rattle.std.proofs.Common.{◌≡◌, ℕ, ◌+◌, ◌≤◌, ◌-◌, refl, sym, ◌∙◌, subst, List, [], ◌∷◌, length, arith}
use Rattle.std.specs.Prelude.{Bool, true, false, Option, Some, None, ◌==◌, ◌&&◌, if◌then◌else◌, map}
use Rattle.std.specs.List.{find, zip, AllByRecursion}
use Rattle.std.proofs.lemmas.Bool.{eqb-true}
use Rattle.rs_key.specs.Ranges.{Bounds, is_next_to}
use Rattle.rs_key.specs.declared.epoch.Epoch.{Epoch}
use Rattle.rs_entry.specs.declared.entry.Change.{Change}
use Rattle.rs_entry.specs.declared.entry.Body.{Body}
use Rattle.rs_entry.specs.declared.entry.Body.TheVariants as body
use Rattle.rs_entry.specs.declared.input.Boot.{Boot}
use Rattle.rs_entry.specs.declared.entry.Carried.{Carried}
use Rattle.rs_entry.specs.declared.entry.Entry.{Entry}
use Rattle.rs_entry.specs.declared.input.Store.{Store}
use Rattle.rs_region.specs.Verdicts.{verdict}
use Rattle.rs_region.specs.Reshapings.{boot, new_region, split_kept, prepared, rolled_back, committed, reconfigured, removed}
use Rattle.rs_region.specs.declared.state.RegionState.{RegionState}
use Rattle.rs_region.specs.declared.verdict.Verdict.{Verdict}
use Rattle.rs_region.specs.declared.verdict.Verdict.TheVariants as verdicts
use Rattle.rs_store.specs.declared.regions.Made.{Made}
use Rattle.rs_store.specs.declared.regions.Origin.{Origin}
use Rattle.rs_store.specs.Stores.{ByRegion, Went, Broke, with_region, with_regions, no_regions, opening, own, ids_of, own_next, first_some, entry_at, carried_at, carried_next, stands, Merge, next, is_paused, is_prepared_for, as_merged, accept, commit_with, step_by, step_with, step_in, step, least_ready, advance, advance_by, Applied, passed, reshaped, born, is_removal_of}
use Rattle.rs_store.specs.Runs.{Run, Moved, bare, forget, IsNear, IsWithin, IsFormed, IsFormedStore}
use Rattle.rs_store.proofs.Verdicts.{formed_carried}

near_more : (b c id : ℕ) (r : Made) → b ≤ c → IsNear b id r → IsNear c id r
near_more b c id r h n = record { named = n.named; version = omega (arith, n.version); conf_ver = omega (arith, n.conf_ver); applied = omega (arith, n.applied) }

pub within_more : (b c : ℕ) (f : ByRegion) → b ≤ c → IsWithin b f → IsWithin c f
within_more b c f h w id r e = near_more b c id r h (w id r e)

within_put : (b : ℕ) (f : ByRegion) (id : ℕ) (x : Made) → IsWithin b f → IsNear b id x → IsWithin b (with_region f id x)
within_put b f id x w n k r e = go (k == id) refl e where
  go : (t : Bool) → (k == id) ≡ t → (if t then Some x else f k) ≡ Some r → IsNear b k r
  go true q e = let y : x ≡ r = cc in subst (λ (z : Made). IsNear b k z) y (subst (λ (i : ℕ). IsNear b i x) (sym (eqb-true k id q)) n)
  go false q e = w k r e

abbrev made_new : RegionState → Origin → Made
made_new s origin = born s origin

within_puts : (b : ℕ) (f : ByRegion) (ss : List RegionState) (origin : Origin) → IsWithin b f → AllByRecursion (λ s. IsNear b s.region (made_new s origin)) ss → IsWithin b (with_regions f ss origin)
within_puts b f [] origin w all = w
within_puts b f (s ∷ ss) origin w all = within_put b (with_regions f ss origin) s.region (made_new s origin) (within_puts b f ss origin w all.1) all.0

new_near : (b : ℕ) (e : Epoch) (peers : List ℕ) (origin : Origin) (ids : List ℕ) (parts : List Bounds) → 5 ≤ b → e.version ≤ b → e.conf_ver ≤ b
    → AllByRecursion (λ s. IsNear b s.region (made_new s origin)) (map (new_region e peers) (zip ids parts))
new_near b e peers origin [] parts five v k = tt
new_near b e peers origin (id ∷ ids) [] five v k = tt
new_near b e peers origin (id ∷ ids) (p ∷ ps) five v k =
    (record { named = refl; version = v; conf_ver = k; applied = five }, new_near b e peers origin ids ps five v k)

boots_near : (origin : Origin) (bs : List Boot) → AllByRecursion (λ s. IsNear 5 s.region (made_new s origin)) (map (λ b. boot b.region b.range b.peers) bs)
boots_near origin [] = tt
boots_near origin (x ∷ xs) = (record { named = refl; version = omega arith; conf_ver = omega arith; applied = omega arith }, boots_near origin xs)

pub opening_near : (store : Store) → IsWithin 5 (opening store).region
opening_near store = within_puts 5 no_regions _ _ (λ id r e. absurd cc) (boots_near _ store.regions)

abbrev pub Leads : ℕ → Run → Type 0
Leads b m = (f : ByRegion) → m ≡ Moved f → IsWithin b f

leads : (b : ℕ) (f : ByRegion) → IsWithin b f → Leads b (Moved f)
leads b f w g e = let h : f ≡ g = cc in subst (IsWithin b) h w

module _ (b : ℕ) (five : 5 ≤ b) (store : Store) (f : ByRegion) (within : IsWithin b f) (id : ℕ) (r : Made) (near : IsNear b id r) where
  up : IsWithin (b + 64) f
  up = within_more b (b + 64) f (omega arith) within

  next_near : (s : RegionState) → s.region ≡ id → s.epoch.version ≤ b + 64 → s.epoch.conf_ver ≤ b + 64
      → IsNear (b + 64) id (reshaped r s)
  next_near s n v c = record { named = n; version = v; conf_ver = c; applied = omega (arith, near.applied) }

  leads_on : Leads (b + 64) (Moved (with_region f id (passed r)))
  leads_on = leads (b + 64) _ (within_put (b + 64) f id (passed r) up
      (record { named = near.named; version = omega (arith, near.version); conf_ver = omega (arith, near.conf_ver); applied = omega (arith, near.applied) }))

  to_state : (s : RegionState) → s.region ≡ id → s.epoch.version ≤ b + 64 → s.epoch.conf_ver ≤ b + 64
      → Leads (b + 64) (Moved (with_region f id (reshaped r s)))
  to_state s n v c = leads (b + 64) _ (within_put (b + 64) f id _ up (next_near s n v c))

  if_leads : (p n : Bool) (g : Applied) (x y : _) → Leads (b + 64) (Moved g.region) → Leads (b + 64) (forget (if p then (if n then Went g else Broke x) else Broke y))
  if_leads true true g x y h = h
  if_leads true false g x y h = λ k e. absurd cc
  if_leads false n g x y h = λ k e. absurd cc

  commit_leads : (bo : Body) (source commit : ℕ) (o : Option Made) → f source ≡ o → Leads (b + 64) (forget (commit_with store (bare f) id r bo source commit o))
  commit_leads bo source commit None e = λ k h. absurd cc
  commit_leads bo source commit (Some q) e =
      let nq : IsNear b source q = within source q e in
      let nm : IsNear (b + 64) source (as_merged q id) = record { named = nq.named; version = omega (arith, nq.version); conf_ver = omega (arith, nq.conf_ver); applied = omega (arith, nq.applied) } in
      if_leads (is_prepared_for id commit q.state.mode && is_paused (own store source) q.state) (is_next_to r.state.range q.state.range) _ _ _
      (leads (b + 64) _ (within_put (b + 64) (with_region f source (as_merged q id)) id _ (within_put (b + 64) f source (as_merged q id) up nm)
      (next_near (committed r.state q.state) near.named (omega (arith, near.version, nq.version)) (omega (arith, near.conf_ver)))))

  changed_to : (c : Change) (t : Bool) → is_removal_of store.id c ≡ t → Leads (b + 64) (forget (accept store (bare f) id r (body.Conf c)))
  changed_to c true e = rw e (to_state (removed (reconfigured r.state c)) near.named (omega (arith, near.version)) (omega (arith, near.conf_ver)))
  changed_to c false e = rw e (to_state (reconfigured r.state c) near.named (omega (arith, near.version)) (omega (arith, near.conf_ver)))

  accept_leads : (bo : Body) → IsFormed bo → Leads (b + 64) (forget (accept store (bare f) id r bo))
  accept_leads body.Empty h = leads_on
  accept_leads (body.Write ops) h = leads_on
  accept_leads (body.Split side ids keys) h =
      let v : r.state.epoch.version + length keys ≤ b + 64 = omega (arith, near.version, h.1) in
      let c : r.state.epoch.conf_ver ≤ b + 64 = omega (arith, near.conf_ver) in
      leads (b + 64) _ (within_puts (b + 64) _ _ _
      (within_put (b + 64) f id _ up (next_near (split_kept r.state side keys) near.named v c))
      (new_near (b + 64) _ _ _ ids _ (omega arith) v c))
  accept_leads (body.Prepare target) h = to_state (prepared r.state target (r.applied + 1)) near.named (omega (arith, near.version)) (omega (arith, near.conf_ver))
  accept_leads (body.Commit source commit l) h = commit_leads (body.Commit source commit l) source commit (f source) refl
  accept_leads (body.Conf c) h = changed_to c (is_removal_of store.id c) refl
  accept_leads (body.Rollback commit) h = to_state (rolled_back r.state) near.named (omega (arith, near.version)) (omega (arith, near.conf_ver))

  by_leads : (v : Verdict) (e : Entry) → IsFormed e.body → Leads (b + 64) (forget (step_by v store (bare f) id r e))
  by_leads verdicts.Accept e h = accept_leads e.body h
  by_leads verdicts.Empty e h = leads_on
  by_leads verdicts.Stale e h = leads_on
  by_leads verdicts.Merging e h = leads_on
  by_leads (verdicts.Outside p) e h = leads_on
  by_leads (verdicts.BadSplit p) e h = leads_on
  by_leads verdicts.BadPeer e h = leads_on
  by_leads verdicts.BadRollback e h = λ k q. absurd cc

-- entries at hand are well formed

formed_at : (o : Option Carried) (e : Entry) → entry_at o ≡ Some e → IsFormed e.body
formed_at None e h = absurd cc
formed_at (Some c) e h = subst (λ (x : Option Entry). IsFormedIn x) h (formed_carried c.body) where
  IsFormedIn : Option Entry → Type 0
  IsFormedIn None = Unit {0}
  IsFormedIn (Some x) = IsFormed x.body

formed_carried_at : (id index : ℕ) (o : Option Merge) (e : Entry) → carried_at id index o ≡ Some e → IsFormed e.body
formed_carried_at id index None e h = absurd cc
formed_carried_at id index (Some m) e h = go (m.source == id) h where
  go : (t : Bool) → (if t then entry_at (find (λ c. c.index == index) m.carried) else None) ≡ Some e → IsFormed e.body
  go true k = formed_at (find (λ c. c.index == index) m.carried) e k
  go false k = absurd cc

formed_carried_next : (store : Store) (g : Applied) (ids : List ℕ) (id index : ℕ) (e : Entry) → carried_next store g ids id index ≡ Some e → IsFormed e.body
formed_carried_next store g [] id index e h = absurd cc
formed_carried_next store g (t ∷ ts) id index e h = go (formed_carried_next store g ts id index e) (carried_at id index (stands store g t)) refl h where
  go : (carried_next store g ts id index ≡ Some e → IsFormed e.body) → (o : Option Entry) → carried_at id index (stands store g t) ≡ o → first_some o (carried_next store g ts id index) ≡ Some e → IsFormed e.body
  go rest None q k = rest k
  go rest (Some x) q k = formed_carried_at id index (stands store g t) e (q ∙ k)

formed_next : (store : Store) (g : Applied) (id : ℕ) (r : Made) (e : Entry) → IsFormedStore store → next store g id r ≡ Some e → IsFormed e.body
formed_next store g id r e formed h = go (own_next (own store id) r.applied) refl h where
  go : (o : Option Entry) → own_next (own store id) r.applied ≡ o → first_some o (carried_next store g (ids_of store) id (r.applied + 1)) ≡ Some e → IsFormed e.body
  go None q k = formed_carried_next store g (ids_of store) id (r.applied + 1) e k
  go (Some x) q k = formed id (r.applied - 5) e (q ∙ k)

module _ (b : ℕ) (five : 5 ≤ b) (store : Store) (formed : IsFormedStore store) (f : ByRegion) (within : IsWithin b f) where
  stay : Leads (b + 64) (Moved f)
  stay = leads (b + 64) f (within_more b (b + 64) f (omega arith) within)

  pub step_leads : (id : ℕ) → Leads (b + 64) (forget (step store (bare f) id))
  step_leads id = go (f id) refl where
    with_entry : (r : Made) → f id ≡ Some r → (o : Option Entry) → next store (bare f) id r ≡ o → Leads (b + 64) (forget (step_with store (bare f) id r o))
    with_entry r q None n = stay
    with_entry r q (Some e) n = by_leads b five store f within id r (within id r q) (verdict r.state e) e (formed_next store (bare f) id r e formed n)

    go : (o : Option Made) → f id ≡ o → Leads (b + 64) (forget (step_in store (bare f) id o))
    go None q = stay
    go (Some r) q = with_entry r q (next store (bare f) id r) refl

  pub advance_leads : Leads (b + 64) (forget (advance store (bare f)))
  advance_leads = go (least_ready store (bare f)) where
    go : (o : Option ℕ) → Leads (b + 64) (forget (advance_by store (bare f) o))
    go None = stay
    go (Some id) = step_leads id
