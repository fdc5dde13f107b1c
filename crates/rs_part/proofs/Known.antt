-- Each region that a store makes is one that its bootstrap regions or its logs name.
use Rattle.std.proofs.Common.{◌≡◌, ℕ, ◌+◌, ◌-◌, ◌==◌, Bool, true, false, cond, List, [], ◌∷◌, map, Option, Some, None, refl, ap, sym, ◌∙◌, ◌⊎◌, subst, inl, inr}
use Rattle.std.specs.List.{AllByRecursion, find, flat_map}
use Rattle.std.proofs.lemmas.Bool.{cases_eq, eqb-true}
use Rattle.rs_entry.specs.Entries.{body_of, entry_of}
use Rattle.rs_entry.specs.declared.entry.Body.TheVariants as body
use Rattle.rs_entry.specs.declared.entry.Carried.{Carried}
use Rattle.rs_entry.specs.declared.entry.CarriedBody.{CarriedBody}
use Rattle.rs_entry.specs.declared.entry.CarriedBody.TheVariants as carried_body
use Rattle.rs_entry.specs.declared.entry.Entry.{Entry}
use Rattle.rs_entry.specs.declared.entry.Side.{Side}
use Rattle.rs_entry.specs.declared.input.Boot.{Boot}
use Rattle.rs_entry.specs.declared.input.Log.{Log}
use Rattle.rs_entry.specs.declared.input.Store.{Store}
use Rattle.rs_store.specs.declared.regions.Made.{Made}
use Rattle.rs_store.specs.declared.regions.Origin.TheVariants as origins
use Rattle.rs_store.specs.Stores.{Applied, Merge, add_all, carried_at, carried_next, entries_of, entry_at, first_some, goes_on, ids_in, ids_in_log, ids_of, is_ready, least_ready, merge_of, next, no_regions, opening, own, own_next, ready_in, stands, stands_in}
use Rattle.rs_part.specs.Counting.{IsAmong, MadeIn}
use Rattle.rs_part.specs.Effects.{Stepping}
use Rattle.rs_part.specs.Orders.{IsDone}
use Rattle.rs_part.specs.Scripts.{Script}
use Rattle.rs_part.specs.Telling.{boot_states}
use Rattle.rs_part.proofs.Meeting.{merge_is}
use Rattle.rs_part.proofs.Members.{among_added, among_find, among_flat, among_get, among_or, find_none}
use Rattle.rs_part.proofs.Regions.{regions_all}

-- a region's next entry is its own, or one that is carried
pub next_cases : (store : Store) (g : Applied) (id : ℕ) (r : Made) (e : Entry) → next store g id r ≡ Some e
    → (own_next (own store id) r.applied ≡ Some e) ⊎ (carried_next store g (ids_of store) id (r.applied + 1) ≡ Some e)
next_cases store g id r e h = go (own_next (own store id) r.applied) refl
  where
    go : (o : Option Entry) → own_next (own store id) r.applied ≡ o → (own_next (own store id) r.applied ≡ Some e) ⊎ (carried_next store g (ids_of store) id (r.applied + 1) ≡ Some e)
    go None o = inr (sym (ap (λ z. first_some z (carried_next store g (ids_of store) id (r.applied + 1))) o) ∙ h)
    go (Some x) o = inl (o ∙ (sym (ap (λ z. first_some z (carried_next store g (ids_of store) id (r.applied + 1))) o) ∙ h))

-- an entry that is carried, and the own entry of another region that carries it
pub record Brought (store : Store) (id index : ℕ) (e : Entry) : Type 0 where
  pub target : ℕ
  pub place : ℕ
  pub by : Entry
  pub merge : Merge
  pub carried : Carried
  pub stood : own_next (own store target) place ≡ Some by
  pub body : by.body ≡ body.Commit merge.source merge.commit merge.carried
  pub among : IsAmong carried merge.carried
  pub source : merge.source ≡ id
  pub at : carried.index ≡ index
  pub same : entry_of carried ≡ e

-- the commit that a region stands before is an own entry of it
standing : (store : Store) (t : ℕ) (m : Merge) (o : Option Made) → stands_in (own store t) o ≡ Some m
    → (k : ℕ) × (y : Entry) × (own_next (own store t) k ≡ Some y) × (y.body ≡ body.Commit m.source m.commit m.carried)
standing store t m None st = absurd cc
standing store t m (Some u) st = go (goes_on (own store t) u.state) refl
  where
    go : (b : Bool) → goes_on (own store t) u.state ≡ b → (k : ℕ) × (y : Entry) × (own_next (own store t) k ≡ Some y) × (y.body ≡ body.Commit m.source m.commit m.carried)
    go true b =
        let of : merge_of u.state (own_next (own store t) u.applied) ≡ Some m = sym (ap (λ z. cond z (merge_of u.state (own_next (own store t) u.applied)) None) b) ∙ st in
        let y = merge_is u.state (own_next (own store t) u.applied) m of in
        (u.applied, y.0, y.1, y.3)
    go false b = absurd (cc (sym (ap (λ z. cond z (merge_of u.state (own_next (own store t) u.applied)) None) b) ∙ st))

-- what is next and carried is brought so
pub brought : (store : Store) (g : Applied) (id index : ℕ) (e : Entry) (ids : List ℕ) → carried_next store g ids id index ≡ Some e → Brought store id index e
brought store g id index e [] c = absurd cc
brought store g id index e (t ∷ ts) c = pick (stands store g t) refl (brought store g id index e ts)
  where
    pick : (o : Option Merge) → stands store g t ≡ o → (carried_next store g ts id index ≡ Some e → Brought store id index e) → Brought store id index e
    pick None st rest = rest (sym (ap (λ z. first_some (carried_at id index z) (carried_next store g ts id index)) st) ∙ c)
    pick (Some m) st rest = by_source (m.source == id) refl (find (λ x. x.index == index) m.carried) refl
      where
        at : (b : Bool) → (m.source == id) ≡ b → (o : Option Carried) → find (λ x. x.index == index) m.carried ≡ o
            → first_some (cond b (entry_at o) None) (carried_next store g ts id index) ≡ Some e
        at b w o k =
            sym (ap (λ z. first_some (cond b (entry_at z) None) (carried_next store g ts id index)) k)
            ∙ (sym (ap (λ z. first_some (cond z (entry_at (find (λ x. x.index == index) m.carried)) None) (carried_next store g ts id index)) w)
            ∙ (sym (ap (λ z. first_some (carried_at id index z) (carried_next store g ts id index)) st) ∙ c))

        by_source : (b : Bool) → (m.source == id) ≡ b → (o : Option Carried) → find (λ x. x.index == index) m.carried ≡ o → Brought store id index e
        by_source false w o k = rest (at false w o k)
        by_source true w None k = rest (at true w None k)
        by_source true w (Some x) k =
            let found = among_find (λ x. x.index == index) m.carried x k in
            let stood = standing store t m (g.region t) st in
            record {
              target = t;
              place = stood.0;
              by = stood.1;
              merge = m;
              carried = x;
              stood = stood.2;
              body = stood.3;
              among = found.0;
              source = eqb-true m.source id w;
              at = eqb-true x.index index found.1;
              same = cc (at true w (Some x) k);
            }

-- nothing that is carried is a split
no_split : (b : CarriedBody) (side : Side) (ids : List ℕ) (keys : List (List ℕ)) → body_of b ≡ body.Split side ids keys → ⊥
no_split carried_body.Empty side ids keys e = cc e
no_split (carried_body.Write ops) side ids keys e = cc e
no_split (carried_body.Prepare target) side ids keys e = cc e

-- the log that an own entry stands in
pub own_among : (logs : List Log) (id k : ℕ) (e : Entry) → own_next (entries_of (find (λ log. log.region == id) logs)) k ≡ Some e
    → (log : Log) × IsAmong log logs × (log.region ≡ id) × (own_next log.entries k ≡ Some e)
own_among logs id k e h = go (find (λ log. log.region == id) logs) refl
  where
    go : (o : Option Log) → find (λ log. log.region == id) logs ≡ o → (log : Log) × IsAmong log logs × (log.region ≡ id) × (own_next log.entries k ≡ Some e)
    go None o = absurd (cc (sym (ap (λ z. own_next (entries_of z) k) o) ∙ h))
    go (Some log) o =
        let w = among_find (λ x. x.region == id) logs log o in
        (log, w.0, eqb-true log.region id w.1, sym (ap (λ z. own_next (entries_of z) k) o) ∙ h)

split_known : (store : Store) (id k : ℕ) (e : Entry) (side : Side) (ids : List ℕ) (keys : List (List ℕ)) (x : ℕ) → own_next (own store id) k ≡ Some e → e.body ≡ body.Split side ids keys
    → IsAmong x ids → IsAmong x (ids_of store)
split_known store id k e side ids keys x h is i =
    let w = own_among store.logs id k e h in
    among_added x (add_all [] (map (λ b. b.region) store.regions)) (flat_map ids_in_log store.logs)
    (inr (among_flat ids_in_log x w.0 store.logs
    (among_flat (λ y. ids_in y.body) x e w.0.entries (subst (λ b. IsAmong x (ids_in b)) (sym is) i) (among_get w.0.entries (k - 5) e w.3)) w.1))

boot_known : (store : Store) (x : ℕ) → IsAmong x (map (λ b. b.region) store.regions) → IsAmong x (ids_of store)
boot_known store x i =
    among_added x (add_all [] (map (λ b. b.region) store.regions)) (flat_map ids_in_log store.logs) (inl (among_added x [] (map (λ b. b.region) store.regions) (inr i)))

-- at the start
pub opening_known : (store : Store) → MadeIn store (opening store)
opening_known store x t e =
    regions_all (λ y z. IsAmong y (ids_of store)) no_regions origins.Boot (boot_states store.regions) (all store.regions (boot_known store)) (λ y z w. absurd cc) x t e
  where
    all : (bs : List Boot) → ((y : ℕ) → IsAmong y (map (λ b. b.region) bs) → IsAmong y (ids_of store)) → AllByRecursion (λ s. IsAmong s.region (ids_of store)) (boot_states bs)
    all [] f = tt
    all (b ∷ bs) f = (f b.region (inl refl), all bs (λ y i. f y (inr i)))

-- and after each step
pub step_known : (script : Script) (store : Store) (g k : Applied) (id : ℕ) → Stepping script store g id k → MadeIn store g → MadeIn store k
step_known script store g k id w known x t made =
    elim (cases_eq x id) [
      | inl p ↦ known x w.r (ap g.region p ∙ w.here)
      | inr ne ↦ go ne (g.region x) refl
    ]
  where
    go : (x ≡ id → ⊥) → (o : Option Made) → g.region x ≡ o → IsAmong x (ids_of store)
    go ne (Some u) some = known x u some
    go ne None none =
        let s = (w.effect.new x t ne made none).2 in
        elim (among_or x s.ids) [
          | inr a ↦ absurd (s.among a)
          | inl i ↦ elim (next_cases store g id w.r w.e w.taken) [
            | inl o ↦ split_known store id w.r.applied w.e s.side s.ids s.keys x o s.body i
            | inr c ↦
                (let b = brought store g id (w.r.applied + 1) w.e (ids_of store) c in
                absurd (no_split b.carried.body s.side s.ids s.keys (ap (λ z. z.body) b.same ∙ s.body)))
          ]
        ]

-- where no region that the store may have is ready, none is
pub done_known : (store : Store) (g : Applied) → MadeIn store g → least_ready store g ≡ None → IsDone store g
done_known store g known e id = go (g.region id) refl
  where
    go : (o : Option Made) → g.region id ≡ o → is_ready store g id ≡ false
    go None o = ap (ready_in store g id) o
    go (Some r) o = find_none (is_ready store g) (ids_of store) id e (known id r o)
