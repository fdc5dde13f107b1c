-- All rounds of a store, and their end: no region is ready, none waits, and none is unborn.
use Rattle.std.proofs.Common.{◌≡◌, ◌∙◌, refl, sym, ap, subst, ℕ, zero, suc, ◌+◌, ◌-◌, ◌*◌, ◌<◌, ◌≤◌, arith, false, cond, ◌&&◌, not, List, [], ◌∷◌, ◌++◌, length}
use Rattle.std.specs.Prelude.{None, Some, slice_get}
use Rattle.std.specs.List.{AllByRecursion, find, flat_map, range_with_len, sum_by}
use Rattle.std.specs.Option.{option_map}
use Rattle.std.proofs.lemmas.Bool.{ne_eqb}
use Rattle.std.proofs.lemmas.List.Sums.{sum_by-cons}
use Rattle.rs_entry.specs.declared.entry.Entry.{Entry}
use Rattle.rs_entry.specs.declared.input.Log.{Log}
use Rattle.rs_entry.specs.declared.input.Store.{Store}
use Rattle.rs_store.specs.declared.fault.StoreFault.TheVariants as faults
use Rattle.rs_store.specs.declared.regions.Made.{Made}
use Rattle.rs_store.specs.declared.regions.Origin.TheVariants as origins
use Rattle.rs_store.specs.Ends.{fault_at_end, first_of, first_unborn, is_unborn, waits, waits_with}
use Rattle.rs_store.specs.Stores.{Applied, Went, advance_by, after, carried_at, carried_in, carried_next, entries_in, first_some, ids_of, is_live, is_paused, is_ready, last, least_ready, merge_of, opening, own, own_next, ready_in, ready_with, stands, stands_in, then_advance}
use Rattle.rs_check.specs.Laws.{law_of, store_law}
use Rattle.rs_gen.specs.declared.kept.Kept.{Kept}
use Rattle.rs_gen.specs.Rounds.{child, main_entries, version}
use Rattle.rs_gen.specs.Inputs.{child_log, kept, main_log, rounds, rounds_of, store_of}
use Rattle.rs_gen.proofs.Lists.{all_rounds, sum_rounds_exact}
use Rattle.rs_gen.proofs.RoundSteps.{At, child_prepares, child_writes, child_writes_again, made, main_commits, main_writes, main_writes_again, splits}
use Rattle.rs_gen.proofs.RoundVerdicts.{all_keys, main_at}
use Rattle.rs_gen.proofs.Stages.{IsOver, Stage, none_of, over_rests}
use Rattle.rs_gen.proofs.StoreParts.{main_end, pieces, store_ids}

-- ---- where nothing stands before a merge

-- so it is of each of the first ids
pub all_children : (P : ℕ → Type 0) (a k : ℕ) → ((u : ℕ) → u < a + k → P (child u)) → AllByRecursion P (range_with_len (child a) k)
all_children P a zero each = tt
all_children P a (suc k) each =
    let next : child (a + 1) ≡ child a + 1 = omega arith in
    (each a (omega arith), subst (λ x. AllByRecursion P (range_with_len x k)) next (all_children P (a + 1) k (λ u h. each u (omega arith))))

none_carried : (store : Store) (g : Applied) (ids : List ℕ) (id index : ℕ) → AllByRecursion (λ x. stands store g x ≡ None) ids → carried_next store g ids id index ≡ None
none_carried store g [] id index quiet = refl
none_carried store g (x ∷ xs) id index quiet =
    ap (λ m. first_some (carried_at id index m) (carried_next store g xs id index)) quiet.0 ∙ none_carried store g xs id index quiet.1

none_waits : (store : Store) (g : Applied) (ids : List ℕ) → AllByRecursion (λ x. stands store g x ≡ None) ids → first_of (waits store g) ids ≡ None
none_waits store g [] quiet = refl
none_waits store g (x ∷ xs) quiet = ap (λ m. first_some (waits_with x (g.region x) m) (first_of (waits store g) xs)) quiet.0 ∙ none_waits store g xs quiet.1

over_stands : (store : Store) (g : Applied) (x : ℕ) → IsOver (g.region x) → stands store g x ≡ None
over_stands store g x over =
    ap (stands_in (own store x)) over.here
    ∙ ap (λ m. cond (is_live m && not (is_paused (own store x) over.made.state)) (merge_of over.made.state (own_next (own store x) over.made.applied)) None) over.merged

-- ---- where each region of a log was made

abbrev WasMade : Applied → Log → Type 0
WasMade g log = (r : Made) × (g.region log.region ≡ Some r)

born_with : (es : List Entry) (r : Made) → is_unborn es (Some r) ≡ false
born_with [] r = refl
born_with (e ∷ es) r = refl

none_unborn : (g : Applied) (logs : List Log) → AllByRecursion (WasMade g) logs → first_unborn g logs ≡ None
none_unborn g [] all = refl
none_unborn g (log ∷ logs) all =
    ap (λ b. cond b (Some (faults.Unborn log.region)) (first_unborn g logs)) (ap (is_unborn log.entries) all.0.1 ∙ born_with log.entries all.0.0)
    ∙ none_unborn g logs all.1

-- ---- where none is ready

stays_so : (store : Store) (m : ℕ) (g : Applied) → least_ready store g ≡ None → after store m ≡ Went g → (k : ℕ) → after store (k + m) ≡ Went g
stays_so store m g none came zero = (let same : 0 + m ≡ m = omega arith in ap (after store) same ∙ came)
stays_so store m g none came (suc k) =
    let next : suc k + m ≡ suc (k + m) = omega arith in
    ap (after store) next ∙ (ap (then_advance store) (stays_so store m g none came k) ∙ ap (advance_by store g) none)

module _ (n : ℕ) (share : Kept) (id : ℕ) where
  abbrev store : Store
  store = store_of n id share

  -- ---- rounds

  -- the rounds before t are over
  abbrev Before : ℕ → List ℕ → Type 0
  Before t xs = At n share id (7 * t) t (6 * t) (made (main_at (version t) all_keys) (5 + 4 * t) origins.Boot xs) None

  round : (t : ℕ) (xs : List ℕ) → t < rounds_of n → Before t xs → (ys : List ℕ) × Before (suc t) ys
  round t xs here was =
      let m : ℕ = 7 * t in
      let i : ℕ = 5 + 4 * t in
      let w : ℕ = 6 * t in
      let a = main_writes n share id m t i w origins.Boot xs here refl was in
      let b = splits n share id (suc m) t (i + 1) (w + 2) origins.Boot xs here (omega arith) a in
      let c = main_writes_again n share id (suc (suc m)) t (i + 1 + 1) (w + 2) origins.Boot _ _ here (omega arith) b in
      let d = child_writes n share id (suc (suc (suc m))) t (i + 1 + 1 + 1) (w + 2 + 1) origins.Boot _ _ here (omega arith) c in
      let e = child_writes_again n share id (suc (suc (suc (suc m)))) t (i + 1 + 1 + 1) (w + 2 + 1 + 2) origins.Boot _ _ here (omega arith) d in
      let f = child_prepares n share id (suc (suc (suc (suc (suc m))))) t (i + 1 + 1 + 1) (w + 2 + 1 + 2 + 1) origins.Boot _ _ here (omega arith) e in
      let g = main_commits n share id (suc (suc (suc (suc (suc (suc m)))))) t (i + 1 + 1 + 1) (w + 2 + 1 + 2 + 1) origins.Boot _ _ here (omega arith) f in
      let ys : List ℕ = (xs ++ (i + 1 + 1) ∷ []) ++ (i + 1 + 1 + 1 + 1) ∷ [] in
      let steps : suc (suc (suc (suc (suc (suc (suc m)))))) ≡ 7 * suc t = omega arith in
      let index : i + 1 + 1 + 1 + 1 ≡ 5 + 4 * suc t = omega arith in
      let writes : w + 2 + 1 + 2 + 1 ≡ 6 * suc t = omega arith in
      let at : At n share id (suc (suc (suc (suc (suc (suc (suc m))))))) (suc t) (w + 2 + 1 + 2 + 1) (made (main_at (version (suc t)) all_keys) (5 + 4 * suc t) origins.Boot ys) None =
      subst (λ j. At n share id (suc (suc (suc (suc (suc (suc (suc m))))))) (suc t) (w + 2 + 1 + 2 + 1) (made (main_at (version (suc t)) all_keys) j origins.Boot ys) None) index g in
      let far : At n share id (7 * suc t) (suc t) (w + 2 + 1 + 2 + 1) (made (main_at (version (suc t)) all_keys) (5 + 4 * suc t) origins.Boot ys) None =
      subst (λ k. At n share id k (suc t) (w + 2 + 1 + 2 + 1) (made (main_at (version (suc t)) all_keys) (5 + 4 * suc t) origins.Boot ys) None) steps at in
      (ys, subst (λ v. At n share id (7 * suc t) (suc t) v (made (main_at (version (suc t)) all_keys) (5 + 4 * suc t) origins.Boot ys) None) writes far)

  all_before : (t : ℕ) → t ≤ rounds_of n → (xs : List ℕ) × Before t xs
  all_before zero few = (
    [],
    record {
      g = opening store;
      came = refl;
      stage = record {
        main = refl;
        new = refl;
        before = λ u h. absurd (omega arith);
        later = λ u h. ap (λ b. cond b ((opening store).region 1) None) (ne_eqb (child u) 1 (λ e. omega arith));
      };
      written = refl;
    },
  )
  all_before (suc t) few = (let w = all_before t (omega arith) in round t w.0 (omega arith) w.1)

  -- ---- the end

  abbrev pub main_of : List ℕ → Made
  main_of xs = made (main_at (version (rounds_of n)) all_keys) (5 + 4 * rounds_of n) origins.Boot xs

  module _ (g : Applied) (xs : List ℕ) (stage : Stage g.region (rounds_of n) (main_of xs) None) where
    none_own : own_next (own store 1) (main_of xs).applied ≡ None
    none_own = (let place : 5 + 4 * rounds_of n - 5 ≡ 4 * rounds_of n = omega arith in ap (slice_get (main_log n).entries) place ∙ main_end n)

    quiet : AllByRecursion (λ x. stands store g x ≡ None) (1 ∷ range_with_len 2 (rounds_of n))
    quiet = (
      ap (stands_in (own store 1)) stage.main ∙ ap (merge_of (main_of xs).state) none_own,
      all_children (λ x. stands store g x ≡ None) 0 (rounds_of n) (λ u h. over_stands store g (child u) (stage.before u (omega arith))),
    )

    main_rests : is_ready store g 1 ≡ false
    main_rests =
        ap (ready_in store g 1) stage.main
        ∙ ap (ready_with g (main_of xs).state) (
        ap (λ e. first_some e (carried_next store g (ids_of store) 1 ((main_of xs).applied + 1))) none_own
        ∙ (ap (λ ids. carried_next store g ids 1 ((main_of xs).applied + 1)) (store_ids n share id)
        ∙ none_carried store g (1 ∷ range_with_len 2 (rounds_of n)) 1 ((main_of xs).applied + 1) quiet)
        )

    none_ready : least_ready store g ≡ None
    none_ready =
        ap (find (is_ready store g)) (store_ids n share id)
        ∙ (ap (λ b. cond b (Some 1) (find (is_ready store g) (range_with_len 2 (rounds_of n)))) main_rests
        ∙ none_of (is_ready store g) 0 (rounds_of n) (λ u h. over_rests store g (child u) (stage.before u (omega arith))))

    piece_made : (t k : ℕ) → t < rounds_of n → AllByRecursion (WasMade g) (child_log n t k)
    piece_made t zero here = tt
    piece_made t (suc k) here = (let over = stage.before t here in ((over.made, over.here), tt))

    no_fault : fault_at_end store (Went g) ≡ None
    no_fault =
        ap (λ o. first_some o (first_unborn g store.logs)) (ap (first_of (waits store g)) (store_ids n share id) ∙ none_waits store g (1 ∷ range_with_len 2 (rounds_of n)) quiet)
        ∙ none_unborn g store.logs ((main_of xs, stage.main), all_rounds (WasMade g) (pieces n share) 0 (rounds_of n) (λ t h. piece_made t (kept share n t) (omega arith)))

  -- there are at least as many entries as steps
  enough : 7 * rounds_of n ≤ entries_in store
  enough =
      let lines : sum_by (λ (e : Entry). 1 + carried_in e.body) (main_log n).entries ≡ rounds_of n * 7 = sum_rounds_exact (λ (e : Entry). 1 + carried_in e.body) (main_entries n) 7 0 (rounds_of n) (λ t. refl) in
      let both : entries_in store ≡ sum_by (λ (e : Entry). 1 + carried_in e.body) (main_log n).entries + sum_by (λ (log : Log). sum_by (λ (e : Entry). 1 + carried_in e.body) log.entries) (flat_map (pieces n share) (rounds n)) =
      sum_by-cons (λ (log : Log). sum_by (λ (e : Entry). 1 + carried_in e.body) log.entries) (main_log n) (flat_map (pieces n share) (rounds n)) in
      omega (arith, lines, both)

  -- the store at the end of its order
  pub record Ended : Type 0 where
    pub g : Applied
    pub xs : List ℕ
    pub came : last store ≡ Went g
    pub stage : Stage g.region (rounds_of n) (main_of xs) None
    pub written : length g.writes ≡ 6 * rounds_of n

  pub ended : Ended
  ended =
      let w = all_before (rounds_of n) (omega arith) in
      let all : entries_in store - 7 * rounds_of n + 7 * rounds_of n ≡ entries_in store = (let most : 7 * rounds_of n ≤ entries_in store = enough in omega arith) in
      record {
        g = w.1.g;
        xs = w.0;
        came = ap (after store) (sym all) ∙ stays_so store (7 * rounds_of n) w.1.g (none_ready w.1.g w.0 w.1.stage) w.1.came (entries_in store - 7 * rounds_of n);
        stage = w.1.stage;
        written = w.1.written;
      }

  pub store_lawful : store_law store ≡ None
  unfolding store_law
  store_lawful = ap (option_map (law_of id)) (ap (fault_at_end store) ended.came ∙ no_fault ended.g ended.xs ended.stage)
