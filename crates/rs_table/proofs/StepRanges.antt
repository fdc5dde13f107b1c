-- One reshaping more leaves the ranges of a cut's table apart, and the same keys held.
use Rattle.std.proofs.Common.{◌≡◌, ℕ, ◌+◌, ◌<◌, Bool, true, false, cond, List, [], ◌∷◌, Option, Some, None, refl, ap, sym, ◌∙◌, arith}
use Rattle.std.specs.Prelude.{◌==◌, find}
use Rattle.std.specs.Option.{option_map}
use Rattle.rs_entry.specs.WellFormed.{WellFormed}
use Rattle.rs_entry.specs.declared.entry.Body.{Body}
use Rattle.rs_entry.specs.declared.entry.Body.TheVariants as body
use Rattle.rs_entry.specs.declared.entry.Carried.{Carried}
use Rattle.rs_entry.specs.declared.entry.Change.{Change}
use Rattle.rs_entry.specs.declared.entry.Side.{Side}
use Rattle.rs_entry.specs.declared.input.Input.{Input}
use Rattle.rs_region.specs.Reshapings.{committed, merged_into, prepared, reconfigured, removed, rolled_back, split_kept, split_new}
use Rattle.rs_region.specs.Verdicts.{verdict_on}
use Rattle.rs_region.specs.declared.state.RegionState.{RegionState}
use Rattle.rs_store.proofs.Verdicts.{split_good}
use Rattle.rs_store.specs.Stores.{conf_changed, is_removal_of, is_reshaping, is_unmerged}
use Rattle.rs_part.specs.Settled.{Commits}
use Rattle.rs_part.proofs.Modes.{live_unmerged}
use Rattle.rs_check.specs.Laws.{check}
use Rattle.rs_check.specs.Plans.{address_of, stop_of}
use Rattle.rs_check.specs.Scripts.{script_of}
use Rattle.rs_check.specs.Values.{region_of, reshaped_by}
use Rattle.rs_check.proofs.Addresses.{home, stops}
use Rattle.rs_check.proofs.PartLaws.{is_part, line_here}
use Rattle.rs_table.specs.Changes.{changes}
use Rattle.rs_table.specs.Covers.{is_boot_key}
use Rattle.rs_table.specs.Cuts.{Cut, beside, entry_of_nth, index_after, is_on}
use Rattle.rs_table.specs.Moves.{IsNext, raised}
use Rattle.rs_table.specs.Rows.{IsTable, commits, is_removed, marked, row_of, state_of, taker}
use Rattle.rs_table.proofs.Addressing.{one_address}
use Rattle.rs_table.proofs.Between.{Reshaped, laws, reshaped}
use Rattle.rs_table.proofs.CutRows.{commit_body, gone, some_there, taker_some}
use Rattle.rs_table.proofs.Moving.{below, r}
use Rattle.rs_table.proofs.NeedLists.{on_below}
use Rattle.rs_table.proofs.RangeSteps.{Sharing, States, merge_shares, same_range, sharing_same, split_shares_keys}
use Rattle.rs_table.proofs.Sources.{merged}
use Rattle.rs_table.proofs.StepTables.{base_source, changes_are, each_new, fresh_row, named, next_source, on_source, other_source, region_source, result_by, state_there, there_source}
use Rattle.rs_table.proofs.Tables.{or_else, over, over_find, put_over}

module _ (input : Input) (well : WellFormed input) (lawful : check input ≡ None) (place : ℕ) (n : Cut) (a : ℕ) (rows : List RegionState) (next : IsNext input place n a) (table : IsTable input place n rows) where
  abbrev R : Reshaped input well lawful a (below input well lawful place n a next) (n a)
  R = r input well lawful place n a next

  abbrev S : RegionState
  S = R.v.state

  abbrev store : ℕ
  store = (address_of input a).0

  abbrev index : ℕ
  index = index_after input a (n a + 1)

  abbrev keys : List ℕ → Bool
  keys = is_boot_key input place

  abbrev F : States
  F id = row_of input place n id

  abbrev Shares : Cut → Type 0
  Shares m = Sharing keys (λ id. row_of input place m id)

  region_S : S.region ≡ region_of input a
  region_S = named input well lawful place n a rows next table

  here : F S.region ≡ Some S
  here = sym (table.states S.region) ∙ (ap (state_of rows) region_S ∙ state_there input well lawful place n a rows next table)

  unmerged_S : is_unmerged S.mode ≡ true
  unmerged_S = live_unmerged S.mode ((laws input well lawful).live a R.j R.v (below input well lawful place n a next) R.accepted.part)

  result : (id : ℕ) → over (changes store index rows S R.e.body) id (F id) ≡ row_of input place (raised n a) id
  result = result_by input well lawful place n a rows next table R.e.body refl R.reshapes

  -- a change of the region alone, which keeps its range
  alone : (w : Shares n) (t : RegionState) → changes store index rows S R.e.body ≡ t ∷ [] → t.region ≡ S.region → t.range ≡ S.range → is_unmerged t.mode ≡ true → Shares (raised n a)
  alone w t is region range ut =
      sharing_same keys (λ id. put_over t id (F id)) (λ id. row_of input place (raised n a) id) (λ id. ap (λ ss. over ss id (F id)) (sym is) ∙ result id)
      (same_range keys F S t w (ap F region ∙ here) unmerged_S ut range)

  -- ---- a merge

  module _ (q c : ℕ) (l : List Carried) (is : R.e.body ≡ body.Commit q c l) (w : Shares n) where
    abbrev b : ℕ
    b = (merged input well lawful a (below input well lawful place n a next) R.j R.v R.e q c l R.accepted is).b

    on_b : is_on input place b ≡ true
    on_b = on_source input well lawful place n a rows next table q c l is

    abbrev U : RegionState
    U = marked (option_map (region_of input) (taker input place n (region_of input b))) (is_removed input n b) (base_source input well lawful place n a rows next table q c l is).part.state

    region_U : U.region ≡ q
    region_U = region_source input well lawful place n a rows next table q c l is

    -- no region is merged twice
    twice : (k : ℕ) → k < n a → commits (region_of input b) (entry_of_nth input a (k + 1)) ≡ true → ⊥
    twice k lt h =
        let below_a = below input well lawful place n a next in
        let len = next.cut.within a in
        let x = reshaped input well lawful a below_a k (omega (arith, lt, len)) in
        let cb = commit_body (region_of input b) x.e.body (ap (commits (region_of input b)) (sym x.entry) ∙ h) in
        let d = merged input well lawful a below_a R.j R.v R.e q c l R.accepted is in
        let e = merged input well lawful a below_a x.j x.v x.e (region_of input b) cb.0 cb.1 x.accepted cb.2 in
        let same : e.b ≡ d.b = cc (e.found, ap (λ z. beside input a z) d.region, d.found) in
        let at : cb.0 ≡ c = sym e.stop ∙ (ap (stop_of input) same ∙ d.stop) in
        let hm = home input well lawful a below_a in
        let top = stops input a hm in
        let one : Commits (script_of input) (region_of input a) R.j q c = record {
          past = R.accepted.from;
          part = R.v;
          entry = R.e;
          carried = l;
          is_part = is_part input well lawful a hm R.j R.v R.accepted.part;
          line = line_here input well lawful a hm R.j R.e R.accepted.from R.accepted.entry;
          body = is;
          accepted = R.accepted.accepted;
        } in
        let two : Commits (script_of input) (region_of input a) x.j q c = record {
          past = x.accepted.from;
          part = x.v;
          entry = x.e;
          carried = cb.1;
          is_part = is_part input well lawful a hm x.j x.v x.accepted.part;
          line = line_here input well lawful a hm x.j x.e x.accepted.from x.accepted.entry;
          body = cb.2 ∙ (ap (λ z. body.Commit z cb.0 cb.1) d.region ∙ ap (λ z. body.Commit q z cb.1) at);
          accepted = x.accepted.accepted;
        } in
        let rt = R.accepted.to in
        let xt = x.accepted.to in
        let j : R.j ≡ x.j = hm.end.invariant.settled.once (region_of input a) hm.r q c R.j x.j hm.made (omega (arith, top, rt)) (omega (arith, top, xt)) one two in
        let num : k + 1 ≡ n a + 1 = sym x.number ∙ (ap (λ z. reshaped_by input a (z + 1)) (sym j) ∙ R.number) in
        omega (arith, num, lt)

    not_taken : taker input place n (region_of input b) ≡ None
    not_taken = go (taker input place n (region_of input b)) refl where
      go : (o : Option ℕ) → taker input place n (region_of input b) ≡ o → taker input place n (region_of input b) ≡ None
      go None e = e
      go (Some t) e = absurd (
          let s = taker_some input place n (region_of input b) t e in
          let g = gone input well lawful place n next.cut b t on_b e in
          let d = merged input well lawful a (below input well lawful place n a next) R.j R.v R.e q c l R.accepted is in
          let same : region_of input t ≡ region_of input a = cc (g.ends, d.ends) in
          let one : t ≡ a = one_address input well place t a s.0 next.on same in
          let k = some_there (commits (region_of input b)) input t (n t) s.1 in
          let lt = k.1 in
          let f : n t ≡ n a = ap n one in
          twice k.0 (omega (arith, lt, f)) (ap (λ z. commits (region_of input b) (entry_of_nth input z (k.0 + 1))) (sym one) ∙ k.2))

    unmerged_U : is_unmerged U.mode ≡ true
    unmerged_U = go (option_map (region_of input) (taker input place n (region_of input b))) (ap (option_map (region_of input)) not_taken) (is_removed input n b) where
      base_live : is_unmerged (base_source input well lawful place n a rows next table q c l is).part.state.mode ≡ true
      base_live =
          let bs = base_source input well lawful place n a rows next table q c l is in
          live_unmerged bs.part.state.mode ((laws input well lawful).live b (index_after input b (n b)) bs.part (on_below input place b on_b) bs.is_part)

      go : (t : Option ℕ) → t ≡ None → (x : Bool) → is_unmerged (marked t x (base_source input well lawful place n a rows next table q c l is).part.state).mode ≡ true
      go (Some t) e x = absurd cc
      go None e true = refl
      go None e false = base_live

    there : F U.region ≡ Some U
    there = ap F region_U ∙ (sym (table.states q) ∙ there_source input well lawful place n a rows next table q c l is)

    other : U.region ≡ S.region → ⊥
    other e =
        let d = merged input well lawful a (below input well lawful place n a next) R.j R.v R.e q c l R.accepted is in
        other_source input well lawful place n a rows next table q c l is (one_address input well place b a on_b next.on (d.region ∙ (sym region_U ∙ (e ∙ region_S))))

    by_commit : Shares (raised n a)
    by_commit =
        sharing_same keys (λ id. put_over (merged_into U S.region) id (put_over (committed S U) id (F id))) (λ id. row_of input place (raised n a) id)
        (λ id. ap (λ ss. over ss id (F id)) (sym (changes_are input well lawful place n a rows next table q c l is)) ∙ result id)
        (merge_shares keys F w S U here there unmerged_S unmerged_U other (next_source input well lawful place n a rows next table q c l is))

  -- ---- a split

  by_split : (side : Side) (ids : List ℕ) (cuts : List (List ℕ)) → R.e.body ≡ body.Split side ids cuts → Shares n → Shares (raised n a)
  by_split side ids cuts is w =
      let each = each_new input well lawful place n a rows next table side ids cuts is in
      let even = (laws input well lawful).even a (R.j + 1) R.e side ids cuts (below input well lawful place n a next) R.accepted.entry is in
      sharing_same keys (λ id. or_else (find (λ t. t.region == id) (split_new S side ids cuts)) (put_over (split_kept S side cuts) id (F id))) (λ id. row_of input place (raised n a) id)
      (λ id. sym (over_find (split_new S side ids cuts) id (put_over (split_kept S side cuts) id (F id)) each) ∙ (ap (λ x. over (changes store index rows S x) id (F id)) (sym is) ∙ result id))
      (split_shares_keys keys F w S here unmerged_S side ids cuts (split_good S R.e.epoch side ids cuts (ap (verdict_on S R.e.epoch) (sym is) ∙ R.accepted.accepted)) even each
      (λ id t f. fresh_row input well lawful place n a rows next table side ids cuts is id t f))

  by_conf : (c : Change) → R.e.body ≡ body.Conf c → Shares n → Shares (raised n a)
  by_conf c is w = alone w (conf_changed store S c) (ap (changes store index rows S) is) (region (is_removal_of store c)) (range (is_removal_of store c)) (mode (is_removal_of store c)) where
    region : (x : Bool) → (cond x (removed (reconfigured S c)) (reconfigured S c)).region ≡ S.region
    region true = refl
    region false = refl

    range : (x : Bool) → (cond x (removed (reconfigured S c)) (reconfigured S c)).range ≡ S.range
    range true = refl
    range false = refl

    mode : (x : Bool) → is_unmerged (cond x (removed (reconfigured S c)) (reconfigured S c)).mode ≡ true
    mode true = refl
    mode false = refl

  by_body : (x : Body) → R.e.body ≡ x → is_reshaping x ≡ true → Shares n → Shares (raised n a)
  by_body (body.Split side ids cuts) is re w = by_split side ids cuts is w
  by_body (body.Prepare target) is re w = alone w (prepared S target index) (ap (changes store index rows S) is) refl refl refl
  by_body (body.Commit q c l) is re w = by_commit q c l is w
  by_body (body.Rollback c) is re w = alone w (rolled_back S) (ap (changes store index rows S) is) refl refl refl
  by_body (body.Conf c) is re w = by_conf c is w
  by_body body.Empty is re w = absurd cc
  by_body (body.Write ops) is re w = absurd cc

  pub step_shares : Shares n → Shares (raised n a)
  step_shares w = by_body R.e.body refl R.reshapes w
