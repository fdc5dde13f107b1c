-- The seven steps of a round: region 1 writes, splits and writes, the new region writes twice and prepares, region 1 takes it over.
use Rattle.std.proofs.Common.{◌≡◌, ◌∙◌, refl, ap, ℕ, zero, suc, ◌+◌, ◌-◌, ◌*◌, ◌<◌, ◌==◌, leb, arith, true, false, cond, not, List, [], ◌∷◌, ◌++◌, map, take, drop, length, length-append}
use Rattle.std.specs.Prelude.{None, Option, Some, slice_get, max}
use Rattle.std.specs.List.{find, list_any, range_with_len}
use Rattle.std.proofs.lemmas.Bool.{and_from, eq-eqb}
use Rattle.rs_key.specs.declared.epoch.Epoch.{Epoch}
use Rattle.rs_entry.specs.declared.entry.Body.TheVariants as body
use Rattle.rs_entry.specs.declared.entry.Side.TheVariants as side
use Rattle.rs_entry.specs.declared.entry.Entry.{Entry}
use Rattle.rs_entry.specs.declared.input.Store.{Store}
use Rattle.rs_entry.specs.Entries.{entry_of}
use Rattle.rs_region.specs.declared.state.RegionState.{RegionState}
use Rattle.rs_region.specs.Reshapings.{prepared}
use Rattle.rs_region.specs.Verdicts.{verdict}
use Rattle.rs_region.specs.declared.verdict.Verdict.TheVariants as verdicts
use Rattle.rs_store.specs.declared.regions.Made.{Made}
use Rattle.rs_store.specs.declared.regions.Origin.{Origin}
use Rattle.rs_store.specs.declared.regions.Origin.TheVariants as origins
use Rattle.rs_store.specs.Stores.{Applied, Merge, Went, Wrote, accept, advance, advance_by, after, as_merged, carried_at, carried_next, commit_with, first_some, goes_on, has_applied, ids_of, is_accept, is_fitting, is_paused, is_prepared_for, is_ready, least_ready, merge_in, merge_of, moved, next, own, own_next, ready_in, ready_with, reshaped, source_is_there, stands, stands_in, step_by, step_in, step_with, then_advance, with_merged, with_new, with_region, wrote}
use Rattle.rs_store.specs.Stores as stores
use Rattle.rs_gen.specs.declared.kept.Kept.{Kept}
use Rattle.rs_gen.specs.Rounds.{child, child_entries, cut, entry_at, first_write, last_write, main_entries, main_write, second_write, version}
use Rattle.rs_gen.specs.Inputs.{kept, main_log, rounds_of, store_of}
use Rattle.rs_gen.proofs.RoundVerdicts.{all_keys, child_at, commit_accepts, first_accepts, from_cut, last_accepts, main_accepts, main_at, parts_meet, prepare_accepts, second_accepts, split_accepts}
use Rattle.rs_gen.proofs.Stages.{Stage, find_child, main_put, new_put, next_round, over_rests}
use Rattle.rs_gen.proofs.StoreParts.{child_own, main_entry, store_ids}

abbrev pub made : RegionState → ℕ → Origin → List ℕ → Made
made state applied origin reshapings = record { state = state; applied = applied; origin = origin; reshapings = reshapings }

module _ (n : ℕ) (share : Kept) (id : ℕ) where
  abbrev store : Store
  store = store_of n id share

  -- after so many steps, with so many single writes
  pub record At (m t writes : ℕ) (r : Made) (o : Option Made) : Type 0 where
    pub g : Applied
    pub came : after store m ≡ Went g
    pub stage : Stage g.region t r o
    pub written : length g.writes ≡ writes

  -- ---- whose turn it is

  module _ (g : Applied) (t : ℕ) where
    next_own : (r : Made) (e : Entry) → own_next (own store 1) r.applied ≡ Some e → next store g 1 r ≡ Some e
    next_own r e mine = ap (λ x. first_some x (carried_next store g (ids_of store) 1 (r.applied + 1))) mine

    main_turn : (r : Made) (o : Option Made) (e : Entry) → Stage g.region t r o → goes_on (own store 1) r.state ≡ true → own_next (own store 1) r.applied ≡ Some e
        → source_is_there g (merge_of r.state (Some e)) ≡ true → advance store g ≡ step_by (verdict r.state e) store g 1 r e
    main_turn r o e stage goes mine there =
        let ready : is_ready store g 1 ≡ true =
        ap (ready_in store g 1) stage.main
        ∙ and_from (goes_on (own store 1) r.state) (ready_with g r.state (next store g 1 r)) goes (ap (ready_with g r.state) (next_own r e mine) ∙ there) in
        let least : least_ready store g ≡ Some 1 =
        ap (find (is_ready store g)) (store_ids n share id)
        ∙ ap (λ b. cond b (Some 1) (find (is_ready store g) (range_with_len 2 (rounds_of n)))) ready in
        ap (advance_by store g) least ∙ (ap (step_in store g 1) stage.main ∙ ap (step_with store g 1 r) (next_own r e mine))

    child_turn : (r q : Made) (e : Entry) → t < rounds_of n → Stage g.region t r (Some q) → is_ready store g 1 ≡ false → goes_on (own store (child t)) q.state ≡ true
        → next store g (child t) q ≡ Some e → merge_of q.state (Some e) ≡ None → advance store g ≡ step_by (verdict q.state e) store g (child t) q e
    child_turn r q e here stage waits goes taken plain =
        let ready : is_ready store g (child t) ≡ true =
        ap (ready_in store g (child t)) stage.new
        ∙ and_from (goes_on (own store (child t)) q.state) (ready_with g q.state (next store g (child t) q)) goes
        (ap (ready_with g q.state) taken ∙ ap (source_is_there g) plain) in
        let least : least_ready store g ≡ Some (child t) =
        ap (find (is_ready store g)) (store_ids n share id)
        ∙ (ap (λ b. cond b (Some 1) (find (is_ready store g) (range_with_len 2 (rounds_of n)))) waits
        ∙ find_child (is_ready store g) t 0 (rounds_of n) (omega arith) (omega arith) (λ u h. over_rests store g (child u) (stage.before u h)) ready) in
        ap (advance_by store g) least ∙ (ap (step_in store g (child t)) stage.new ∙ ap (step_with store g (child t) q) taken)

  -- one step more
  steps_on : (m : ℕ) (g h : Applied) → after store m ≡ Went g → advance store g ≡ Went h → after store (suc m) ≡ Went h
  steps_on m g h came goes = ap (then_advance store) came ∙ goes

  more_written : (old new : List Wrote) (w k v : ℕ) → length old ≡ w → length new ≡ k → w + k ≡ v → length (old ++ new) ≡ v
  more_written old new w k v a b c = length-append old new ∙ omega (arith, a, b, c)

  -- an accepted entry
  taken_by : (g : Applied) (x : ℕ) (r : Made) (e : Entry) → verdict r.state e ≡ verdicts.Accept → step_by (verdict r.state e) store g x r e ≡ accept store g x r e.body
  taken_by g x r e ok = ap (λ v. step_by v store g x r e) ok

  no_merge : (s : RegionState) (e : Entry) → verdict s e ≡ verdicts.Accept → merge_in e.body ≡ None → merge_of s (Some e) ≡ None
  no_merge s e ok plain = ap (λ v. cond (is_accept v) (merge_in e.body) None) ok ∙ plain

  -- region 1's entry of the round
  own_at : (t j i : ℕ) (e : Entry) → t < rounds_of n → j < 4 → i ≡ 5 + 4 * t + j → slice_get (main_entries n t) j ≡ Some e → own_next (own store 1) i ≡ Some e
  own_at t j i e here below at is = (let place : i - 5 ≡ 4 * t + j = omega arith in ap (slice_get (main_log n).entries) place ∙ (main_entry n t j here below ∙ is))

  -- ---- region 1's first three steps

  pub main_writes : (m t a w : ℕ) (o : Origin) (xs : List ℕ) → t < rounds_of n → a ≡ 5 + 4 * t → At m t w (made (main_at (version t) all_keys) a o xs) None
      → At (suc m) t (w + 2) (made (main_at (version t) all_keys) (a + 1) o xs) None
  main_writes m t a w o xs here at was =
      let e : Entry = entry_at (6 + 4 * t) (version t) (body.Write (main_write n t)) in
      let r : Made = made (main_at (version t) all_keys) a o xs in
      let s : Made = made (main_at (version t) all_keys) (a + 1) o xs in
      let new : List Wrote = map (wrote 1 (a + 1)) (main_write n t) in
      let ok : verdict r.state e ≡ verdicts.Accept = main_accepts n t (version t) (6 + 4 * t) in
      record {
        g = moved was.g 1 s verdicts.Accept e.body new;
        came = steps_on m was.g (moved was.g 1 s verdicts.Accept e.body new) was.came
            (main_turn was.g t r None e was.stage refl (own_at t 0 a e here (omega arith) (omega arith) refl) (ap (source_is_there was.g) (no_merge r.state e ok refl))
            ∙ taken_by was.g 1 r e ok);
        stage = main_put was.g.region t r s None was.stage;
        written = more_written was.g.writes new w 2 (w + 2) was.written refl refl;
      }

  pub splits : (m t a w : ℕ) (o : Origin) (xs : List ℕ) → t < rounds_of n → a ≡ 6 + 4 * t → At m t w (made (main_at (version t) all_keys) a o xs) None
      → At (suc m) t w (made (main_at (version t + 1) (from_cut n t)) (a + 1) o (xs ++ (a + 1) ∷ [])) (Some (made (child_at n t (version t + 1)) 5 (origins.Split 1 (a + 1)) []))
  splits m t a w o xs here at was =
      let e : Entry = entry_at (7 + 4 * t) (version t) (body.Split side.Right (child t ∷ []) ((cut n t ∷ []) ∷ [])) in
      let r : Made = made (main_at (version t) all_keys) a o xs in
      let s : Made = made (main_at (version t + 1) (from_cut n t)) (a + 1) o (xs ++ (a + 1) ∷ []) in
      let q : Made = made (child_at n t (version t + 1)) 5 (origins.Split 1 (a + 1)) [] in
      let h : Applied = with_new (moved was.g 1 s verdicts.Accept e.body []) (child_at n t (version t + 1) ∷ []) (origins.Split 1 (a + 1)) in
      let ok : verdict r.state e ≡ verdicts.Accept = split_accepts n t (version t) (7 + 4 * t) in
      record {
        g = h;
        came = steps_on m was.g h was.came
            (main_turn was.g t r None e was.stage refl (own_at t 1 a e here (omega arith) (omega arith) refl) (ap (source_is_there was.g) (no_merge r.state e ok refl))
            ∙ taken_by was.g 1 r e ok);
        stage = new_put (with_region was.g.region 1 s) t s q None (main_put was.g.region t r s None was.stage);
        written = more_written was.g.writes [] w 0 w was.written refl (omega arith);
      }

  pub main_writes_again : (m t a w : ℕ) (o : Origin) (xs : List ℕ) (q : Option Made) → t < rounds_of n → a ≡ 7 + 4 * t → At m t w (made (main_at (version t + 1) (from_cut n t)) a o xs) q
      → At (suc m) t (w + 1) (made (main_at (version t + 1) (from_cut n t)) (a + 1) o xs) q
  main_writes_again m t a w o xs q here at was =
      let e : Entry = entry_at (8 + 4 * t) (version t + 1) (body.Write (last_write n t)) in
      let r : Made = made (main_at (version t + 1) (from_cut n t)) a o xs in
      let s : Made = made (main_at (version t + 1) (from_cut n t)) (a + 1) o xs in
      let new : List Wrote = map (wrote 1 (a + 1)) (last_write n t) in
      let ok : verdict r.state e ≡ verdicts.Accept = last_accepts n t (version t + 1) (8 + 4 * t) in
      record {
        g = moved was.g 1 s verdicts.Accept e.body new;
        came = steps_on m was.g (moved was.g 1 s verdicts.Accept e.body new) was.came
            (main_turn was.g t r q e was.stage refl (own_at t 2 a e here (omega arith) (omega arith) refl) (ap (source_is_there was.g) (no_merge r.state e ok refl))
            ∙ taken_by was.g 1 r e ok);
        stage = main_put was.g.region t r s q was.stage;
        written = more_written was.g.writes new w 1 (w + 1) was.written refl refl;
      }

  -- ---- region 1 stands before the commit

  abbrev commit_of : ℕ → Entry
  commit_of t = entry_at (9 + 4 * t) (version t + 1) (body.Commit (child t) 8 (child_entries n t))

  abbrev merge_at : ℕ → Merge
  merge_at t = record { source = child t; commit = 8; carried = child_entries n t }

  module _ (g : Applied) (t a : ℕ) (o : Origin) (xs : List ℕ) (here : t < rounds_of n) (at : a ≡ 8 + 4 * t) where
    abbrev standing : Made
    standing = made (main_at (version t + 1) (from_cut n t)) a o xs

    commit_next : own_next (own store 1) a ≡ Some (commit_of t)
    commit_next = own_at t 3 a (commit_of t) here (omega arith) (omega arith) refl

    merge_is : merge_of standing.state (Some (commit_of t)) ≡ Some (merge_at t)
    merge_is = ap (λ v. cond (is_accept v) (Some (merge_at t)) None) (commit_accepts n t (version t + 1) (9 + 4 * t))

    main_waits : (q : Made) → Stage g.region t standing (Some q) → leb 8 q.applied ≡ false → is_ready store g 1 ≡ false
    main_waits q stage less =
        ap (ready_in store g 1) stage.main
        ∙ (ap (ready_with g standing.state) (next_own g t standing (commit_of t) commit_next)
        ∙ (ap (source_is_there g) merge_is
        ∙ (ap (has_applied 8) stage.new ∙ less)))

    main_stands : (q : Option Made) → Stage g.region t standing q → stands store g 1 ≡ Some (merge_at t)
    main_stands q stage = ap (stands_in (own store 1)) stage.main ∙ (ap (merge_of standing.state) commit_next ∙ merge_is)

    -- what it carries for the round's region
    carried_is : (q : Option Made) → Stage g.region t standing q → (index : ℕ) (e : Entry) → stores.entry_at (find (λ c. c.index == index) (child_entries n t)) ≡ Some e
        → carried_next store g (ids_of store) (child t) index ≡ Some e
    carried_is q stage index e is =
        ap (λ ids. carried_next store g ids (child t) index) (store_ids n share id)
        ∙ (ap (λ m. first_some (carried_at (child t) index m) (carried_next store g (range_with_len 2 (rounds_of n)) (child t) index)) (main_stands q stage)
        ∙ (ap (λ b. first_some (cond b (stores.entry_at (find (λ c. c.index == index) (child_entries n t))) None) (carried_next store g (range_with_len 2 (rounds_of n)) (child t) index)) (eq-eqb (child t) (child t) refl)
        ∙ ap (λ y. first_some y (carried_next store g (range_with_len 2 (rounds_of n)) (child t) index)) is))

    -- the round's region takes its own entry, or the one that is carried
    child_next : (q : Made) → Stage g.region t standing (Some q) → (e : Entry) → stores.entry_at (find (λ c. c.index == q.applied + 1) (child_entries n t)) ≡ Some e
        → ((k : ℕ) → first_some (own_next (take k (map entry_of (child_entries n t))) q.applied) (Some e) ≡ Some e) → next store g (child t) q ≡ Some e
    child_next q stage e is own_or =
        ap (λ es. first_some (own_next es q.applied) (carried_next store g (ids_of store) (child t) (q.applied + 1))) (child_own n share id t here)
        ∙ (ap (first_some (own_next (take (kept share n t) (map entry_of (child_entries n t))) q.applied)) (carried_is (Some q) stage (q.applied + 1) e is)
        ∙ own_or (kept share n t))

  -- ---- the round's region

  abbrev first_of : ℕ → Entry
  first_of t = entry_at 6 (version t + 1) (body.Write (first_write n t))

  first_or : (t k : ℕ) → first_some (own_next (take k (map entry_of (child_entries n t))) 5) (Some (first_of t)) ≡ Some (first_of t)
  first_or t zero = refl
  first_or t (suc k) = refl

  abbrev second_of : ℕ → Entry
  second_of t = entry_at 7 (version t + 1) (body.Write (second_write n t))

  second_or : (t k : ℕ) → first_some (own_next (take k (map entry_of (child_entries n t))) 6) (Some (second_of t)) ≡ Some (second_of t)
  second_or t zero = refl
  second_or t (suc zero) = refl
  second_or t (suc (suc k)) = refl

  abbrev prepare_of : ℕ → Entry
  prepare_of t = entry_at 8 (version t + 1) (body.Prepare 1)

  prepare_or : (t k : ℕ) → first_some (own_next (take k (map entry_of (child_entries n t))) 7) (Some (prepare_of t)) ≡ Some (prepare_of t)
  prepare_or t zero = refl
  prepare_or t (suc zero) = refl
  prepare_or t (suc (suc zero)) = refl
  prepare_or t (suc (suc (suc k))) = refl

  pub child_writes : (m t a w : ℕ) (o p : Origin) (xs : List ℕ) → t < rounds_of n → a ≡ 8 + 4 * t
      → At m t w (made (main_at (version t + 1) (from_cut n t)) a o xs) (Some (made (child_at n t (version t + 1)) 5 p []))
      → At (suc m) t (w + 2) (made (main_at (version t + 1) (from_cut n t)) a o xs) (Some (made (child_at n t (version t + 1)) 6 p []))
  child_writes m t a w o p xs here at was =
      let r : Made = made (main_at (version t + 1) (from_cut n t)) a o xs in
      let q : Made = made (child_at n t (version t + 1)) 5 p [] in
      let s : Made = made (child_at n t (version t + 1)) 6 p [] in
      let new : List Wrote = map (wrote (child t) 6) (first_write n t) in
      let ok : verdict q.state (first_of t) ≡ verdicts.Accept = first_accepts n t (version t + 1) in
      record {
        g = moved was.g (child t) s verdicts.Accept (first_of t).body new;
        came = steps_on m was.g (moved was.g (child t) s verdicts.Accept (first_of t).body new) was.came
            (child_turn was.g t r q (first_of t) here was.stage (main_waits was.g t a o xs here at q was.stage refl) refl (child_next was.g t a o xs here at q was.stage (first_of t) refl (first_or t)) (no_merge q.state (first_of t) ok refl)
            ∙ taken_by was.g (child t) q (first_of t) ok);
        stage = new_put was.g.region t r s (Some q) was.stage;
        written = more_written was.g.writes new w 2 (w + 2) was.written refl refl;
      }

  pub child_writes_again : (m t a w : ℕ) (o p : Origin) (xs : List ℕ) → t < rounds_of n → a ≡ 8 + 4 * t
      → At m t w (made (main_at (version t + 1) (from_cut n t)) a o xs) (Some (made (child_at n t (version t + 1)) 6 p []))
      → At (suc m) t (w + 1) (made (main_at (version t + 1) (from_cut n t)) a o xs) (Some (made (child_at n t (version t + 1)) 7 p []))
  child_writes_again m t a w o p xs here at was =
      let r : Made = made (main_at (version t + 1) (from_cut n t)) a o xs in
      let q : Made = made (child_at n t (version t + 1)) 6 p [] in
      let s : Made = made (child_at n t (version t + 1)) 7 p [] in
      let new : List Wrote = map (wrote (child t) 7) (second_write n t) in
      let ok : verdict q.state (second_of t) ≡ verdicts.Accept = second_accepts n t (version t + 1) in
      record {
        g = moved was.g (child t) s verdicts.Accept (second_of t).body new;
        came = steps_on m was.g (moved was.g (child t) s verdicts.Accept (second_of t).body new) was.came
            (child_turn was.g t r q (second_of t) here was.stage (main_waits was.g t a o xs here at q was.stage refl) refl (child_next was.g t a o xs here at q was.stage (second_of t) refl (second_or t)) (no_merge q.state (second_of t) ok refl)
            ∙ taken_by was.g (child t) q (second_of t) ok);
        stage = new_put was.g.region t r s (Some q) was.stage;
        written = more_written was.g.writes new w 1 (w + 1) was.written refl refl;
      }

  abbrev pub child_prepared : ℕ → RegionState
  child_prepared t = prepared (child_at n t (version t + 1)) 1 8

  pub child_prepares : (m t a w : ℕ) (o p : Origin) (xs : List ℕ) → t < rounds_of n → a ≡ 8 + 4 * t
      → At m t w (made (main_at (version t + 1) (from_cut n t)) a o xs) (Some (made (child_at n t (version t + 1)) 7 p []))
      → At (suc m) t w (made (main_at (version t + 1) (from_cut n t)) a o xs) (Some (made (child_prepared t) 8 p (8 ∷ [])))
  child_prepares m t a w o p xs here at was =
      let r : Made = made (main_at (version t + 1) (from_cut n t)) a o xs in
      let q : Made = made (child_at n t (version t + 1)) 7 p [] in
      let s : Made = made (child_prepared t) 8 p (8 ∷ []) in
      let new : List Wrote = [] in
      let ok : verdict q.state (prepare_of t) ≡ verdicts.Accept = prepare_accepts n t (version t + 1) in
      record {
        g = moved was.g (child t) s verdicts.Accept (prepare_of t).body new;
        came = steps_on m was.g (moved was.g (child t) s verdicts.Accept (prepare_of t).body new) was.came
            (child_turn was.g t r q (prepare_of t) here was.stage (main_waits was.g t a o xs here at q was.stage refl) refl (child_next was.g t a o xs here at q was.stage (prepare_of t) refl (prepare_or t)) (no_merge q.state (prepare_of t) ok refl)
            ∙ taken_by was.g (child t) q (prepare_of t) ok);
        stage = new_put was.g.region t r s (Some q) was.stage;
        written = more_written was.g.writes new w 0 (w) was.written refl (omega arith);
      }

  -- ---- region 1 takes it over

  nothing_left : (t k : ℕ) (epoch : Epoch) → list_any (is_fitting 8 epoch) (drop 3 (take k (map entry_of (child_entries n t)))) ≡ false
  nothing_left t zero epoch = refl
  nothing_left t (suc zero) epoch = refl
  nothing_left t (suc (suc zero)) epoch = refl
  nothing_left t (suc (suc (suc zero))) epoch = refl
  nothing_left t (suc (suc (suc (suc k)))) epoch = refl

  pauses : (t : ℕ) → t < rounds_of n → is_paused (own store (child t)) (child_prepared t) ≡ true
  pauses t here =
      ap (λ es. is_paused es (child_prepared t)) (child_own n share id t here)
      ∙ ap not (nothing_left t (kept share n t) (child_prepared t).epoch)

  pub main_commits : (m t a w : ℕ) (o p : Origin) (xs : List ℕ) → t < rounds_of n → a ≡ 8 + 4 * t
      → At m t w (made (main_at (version t + 1) (from_cut n t)) a o xs) (Some (made (child_prepared t) 8 p (8 ∷ [])))
      → At (suc m) (suc t) w (made (main_at (version (suc t)) all_keys) (a + 1) o (xs ++ (a + 1) ∷ [])) None
  main_commits m t a w o p xs here at was =
      let r : Made = made (main_at (version t + 1) (from_cut n t)) a o xs in
      let q : Made = made (child_prepared t) 8 p (8 ∷ []) in
      let joined : ℕ → Made = λ v. made (main_at v all_keys) (a + 1) o (xs ++ (a + 1) ∷ []) in
      let over : Applied = with_merged was.g (child t) q 1 in
      let after_it : ℕ → Applied = λ v. moved over 1 (joined v) verdicts.Accept (commit_of t).body [] in
      let raised : max (version t + 1) (version t + 1 + 1) + 1 ≡ version (suc t) = omega arith in
      let ok : verdict r.state (commit_of t) ≡ verdicts.Accept = commit_accepts n t (version t + 1) (9 + 4 * t) in
      let there : source_is_there was.g (merge_of r.state (Some (commit_of t))) ≡ true =
      ap (source_is_there was.g) (merge_is was.g t a o xs here at) ∙ ap (has_applied 8) was.stage.new in
      let merges : accept store was.g 1 r (commit_of t).body ≡ Went (after_it (max (version t + 1) (version t + 1 + 1) + 1)) =
      ap (commit_with store was.g 1 r (commit_of t).body (child t) 8) was.stage.new ∙ rw (pauses t here, parts_meet n t) refl in
      record {
        g = after_it (version (suc t));
        came = steps_on m was.g (after_it (version (suc t))) was.came
            (main_turn was.g t r (Some q) (commit_of t) was.stage refl (commit_next was.g t a o xs here at) there
            ∙ (taken_by was.g 1 r (commit_of t) ok
            ∙ (merges ∙ ap (λ v. Went (after_it v)) raised)));
        stage = next_round (after_it (version (suc t))).region t (joined (version (suc t))) (as_merged q 1) refl refl
            (main_put over.region t r (joined (version (suc t))) (Some (as_merged q 1)) (new_put was.g.region t r (as_merged q 1) (Some q) was.stage));
        written = more_written was.g.writes [] w 0 w was.written refl (omega arith);
      }
