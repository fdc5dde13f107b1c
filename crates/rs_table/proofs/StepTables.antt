-- The table of a cut after one reshaping more.
use Rattle.std.proofs.Common.{◌≡◌, ℕ, ◌+◌, ◌<◌, ◌^◌, Bool, true, false, cond, List, [], ◌∷◌, length, Option, Some, None, refl, ap, sym, ◌∙◌, arith, subst, inl, inr}
use Rattle.std.specs.Prelude.{◌==◌, find}
use Rattle.std.specs.Option.{option_map}
use Rattle.std.proofs.lemmas.Bool.{both_ways, cases_eq, eq-eqb, eqb-true, ne_eqb, le-leb, leb-true, lt-leb}
use Rattle.rs_key.specs.Epochs.{after_split}
use Rattle.rs_key.specs.Ranges.{is_next_to}
use Rattle.rs_key.specs.Ranges.{cut as cut_range}
use Rattle.rs_entry.specs.WellFormed.{WellFormed}
use Rattle.rs_entry.specs.declared.entry.Body.{Body}
use Rattle.rs_entry.specs.declared.entry.Body.TheVariants as body
use Rattle.rs_entry.specs.declared.entry.Carried.{Carried}
use Rattle.rs_entry.specs.declared.entry.Change.{Change}
use Rattle.rs_entry.specs.declared.entry.Side.{Side}
use Rattle.rs_entry.specs.declared.input.Input.{Input}
use Rattle.rs_region.specs.Reshapings.{committed, merged_into, new_ranges, prepared, reconfigured, removed, rolled_back, split_kept, split_new}
use Rattle.rs_region.specs.Verdicts.{verdict_on}
use Rattle.rs_region.specs.declared.state.RegionState.{RegionState}
use Rattle.rs_store.proofs.Verdicts.{split_good}
use Rattle.rs_store.specs.Runs.{IsFormed}
use Rattle.rs_store.specs.Stores.{conf_changed, is_removal_of, is_reshaping}
use Rattle.rs_part.specs.Items.{kept_items}
use Rattle.rs_part.specs.Parts.{Part}
use Rattle.rs_part.specs.Ranges.{EachId}
use Rattle.rs_part.specs.Scripts.{accepted, joined_part}
use Rattle.rs_part.proofs.Cutting.{each_id}
use Rattle.rs_part.proofs.Members.{among_all, among_find}
use Rattle.rs_check.specs.Laws.{check}
use Rattle.rs_check.specs.Lawfulness.{Born}
use Rattle.rs_check.specs.Plans.{address_of, reshapings_of}
use Rattle.rs_check.specs.Values.{part_at, part_on, region_of, reshaped_by}
use Rattle.rs_check.proofs.Addresses.{home}
use Rattle.rs_check.proofs.PartLaws.{line_here}
use Rattle.rs_table.specs.Changes.{changes, joined, with_states}
use Rattle.rs_table.specs.Cuts.{Cut, birth_in, birth_of, covers, entry_of_nth, index_after, is_on}
use Rattle.rs_table.specs.Moves.{IsNext, IsReady, MayChange, raised}
use Rattle.rs_table.specs.Rows.{IsTable, address_in, commits, is_commit_of, is_removal, is_removed, marked, row_at, row_by, row_if, row_of, state_of, taker}
use Rattle.rs_table.proofs.Addressing.{beside_is, found_by, found_is, on_beside}
use Rattle.rs_table.proofs.Between.{Base, Reshaped, base, last_state, laws}
use Rattle.rs_table.proofs.CutRows.{row_is, row_unfold}
use Rattle.rs_table.proofs.Cutting.{covers_more, raised_in, raised_other, raised_same}
use Rattle.rs_table.proofs.Forms.{formed_entry}
use Rattle.rs_table.proofs.Greatest.{birth_unfold}
use Rattle.rs_table.proofs.Moving.{After, Newborn, after, below, born_row, merged_row, newborn, not_own, r, row_before, stays}
use Rattle.rs_table.proofs.NeedLists.{on_below}
use Rattle.rs_table.proofs.Sources.{Merged, merged, prepare_is}
use Rattle.rs_table.proofs.Tables.{found_all, or_else, over, over_find, put_over, rise_of, ups_all, ups_of}

module _ (input : Input) (well : WellFormed input) (lawful : check input ≡ None) (place : ℕ) (n : Cut) (a : ℕ) (rows : List RegionState) (next : IsNext input place n a) (table : IsTable input place n rows) where
  abbrev R : Reshaped input well lawful a (below input well lawful place n a next) (n a)
  R = r input well lawful place n a next

  abbrev S : RegionState
  S = R.v.state

  abbrev index : ℕ
  index = index_after input a (n a + 1)

  abbrev store : ℕ
  store = (address_of input a).0

  abbrev A : After input well lawful place n a next
  A = after input well lawful place n a next

  found_a : address_in input place (region_of input a) ≡ Some a
  found_a = found_by input well place a next.on

  pub state_there : state_of rows (region_of input a) ≡ Some S
  state_there = table.states (region_of input a) ∙ (ap (row_by input place n) found_a ∙ row_before input well lawful place n a next)

  pub named : S.region ≡ region_of input a
  named = (laws input well lawful).named a R.j R.v (below input well lawful place n a next) R.accepted.part

  -- what the step makes of the state
  made : (w : Part) → accepted (part_on input a) (region_of input a) (R.j + 1) R.v R.e.body ≡ Some w → A.w ≡ w
  made w h = cc (A.step, h)

  -- what the table says of another region
  abbrev Keeps : Type 0
  Keeps = (b : ℕ) → is_on input place b ≡ true → (b ≡ a → ⊥) → row_at input place (raised n a) b ≡ row_at input place n b

  births_same : (b : ℕ) → is_on input place b ≡ true → (Newborn input well lawful place n a next b → ⊥) → covers (raised n a) (birth_of input b) ≡ covers n (birth_of input b)
  births_same b on none = go (covers n (birth_of input b)) refl (covers (raised n a) (birth_of input b)) refl where
    go : (x : Bool) → covers n (birth_of input b) ≡ x → (y : Bool) → covers (raised n a) (birth_of input b) ≡ y → covers (raised n a) (birth_of input b) ≡ covers n (birth_of input b)
    go true e true f = f ∙ sym e
    go false e false f = f ∙ sym e
    go false e true f = absurd (none (newborn input well lawful place n a next b on e f))
    go true e false f = absurd (both_ways (covers (raised n a) (birth_of input b)) f (covers_more n (raised n a) (birth_of input b) (raised_in n a) e))

  keeps : ((b : ℕ) → is_on input place b ≡ true → Newborn input well lawful place n a next b → ⊥) → ((region : ℕ) → is_commit_of region R.e.body ≡ false) → Keeps
  keeps none plain b on ne =
      stays input well lawful place n a next b on ne (births_same b on (none b on)) (ap (commits (region_of input b)) R.entry ∙ plain (region_of input b))

  no_split : ((side : Side) (ids : List ℕ) (keys : List (List ℕ)) → R.e.body ≡ body.Split side ids keys → ⊥) → (b : ℕ) → is_on input place b ≡ true → Newborn input well lawful place n a next b → ⊥
  no_split f b on x = f x.made.side x.made.ids x.made.keys x.made.body

  row_a : (s : RegionState) → marked None (is_removal store R.e.body) A.w.state ≡ s → row_at input place (raised n a) a ≡ Some s
  row_a s e = A.row ∙ ap Some e

  -- one state alone
  alone : (s : RegionState) → s.region ≡ region_of input a → row_at input place (raised n a) a ≡ Some s → (id : ℕ)
      → ((b : ℕ) → is_on input place b ≡ true → (b ≡ a → ⊥) → region_of input b ≡ id → row_at input place (raised n a) b ≡ row_at input place n b) → over (s ∷ []) id (row_of input place n id) ≡ row_of input place (raised n a) id
  alone s region row id others = elim (cases_eq id (region_of input a)) [
    | inl e ↦
        ap (λ b. cond b (Some s) (row_of input place n id)) (eq-eqb id s.region (e ∙ sym region))
        ∙ sym (ap (row_by input place (raised n a)) (ap (address_in input place) e ∙ found_a) ∙ row)
    | inr ne ↦
        ap (λ b. cond b (Some s) (row_of input place n id)) (ne_eqb id s.region (λ q. ne (q ∙ region)))
        ∙ go (address_in input place id) refl ne
  ] where
    go : (o : Option ℕ) → address_in input place id ≡ o → (id ≡ region_of input a → ⊥) → row_of input place n id ≡ row_of input place (raised n a) id
    go None e ne = ap (row_by input place n) e ∙ sym (ap (row_by input place (raised n a)) e)
    go (Some b) e ne =
        let w = found_is input well place id b e in
        ap (row_by input place n) e ∙ (sym (others b w.0 (λ q. ne (sym w.1 ∙ ap (region_of input) q)) w.1) ∙ sym (ap (row_by input place (raised n a)) e))

  -- the table that one more reshaping makes
  abbrev Result : Type 0
  Result = (id : ℕ) → over (changes store index rows S R.e.body) id (row_of input place n id) ≡ row_of input place (raised n a) id

  by_alone : (s : RegionState) → changes store index rows S R.e.body ≡ s ∷ [] → s.region ≡ region_of input a → row_at input place (raised n a) a ≡ Some s → Keeps → Result
  by_alone s is region row others id = ap (λ ss. over ss id (row_of input place n id)) is ∙ alone s region row id (λ b on ne same. others b on ne)

  by_prepare : (target : ℕ) → R.e.body ≡ body.Prepare target → Result
  by_prepare target is =
      by_alone (prepared S target index) (ap (changes store index rows S) is) named
      (row_a (prepared S target index) (ap (λ b. marked None (is_removal store b) A.w.state) is ∙ (ap (λ (p : Part). p.state) (made (record { state = prepared S target (R.j + 1); items = R.v.items }) (ap (accepted (part_on input a) (region_of input a) (R.j + 1) R.v) is)) ∙ ap (prepared S target) (sym R.index))))
      (keeps (no_split (λ side ids keys e. cc (is, e))) (λ region. ap (is_commit_of region) is))

  by_rollback : (c : ℕ) → R.e.body ≡ body.Rollback c → Result
  by_rollback c is =
      by_alone (rolled_back S) (ap (changes store index rows S) is) named
      (row_a (rolled_back S) (ap (λ b. marked None (is_removal store b) A.w.state) is ∙ ap (λ (p : Part). p.state) (made (record { state = rolled_back S; items = R.v.items }) (ap (accepted (part_on input a) (region_of input a) (R.j + 1) R.v) is))))
      (keeps (no_split (λ side ids keys e. cc (is, e))) (λ region. ap (is_commit_of region) is))

  by_conf : (c : Change) → R.e.body ≡ body.Conf c → Result
  by_conf c is =
      by_alone (conf_changed store S c) (ap (changes store index rows S) is) (region_conf (is_removal_of store c))
      (row_a (conf_changed store S c) (ap (λ b. marked None (is_removal store b) A.w.state) is
      ∙ (ap (λ (p : Part). marked None (is_removal_of store c) p.state) (made (record { state = reconfigured S c; items = R.v.items }) (ap (accepted (part_on input a) (region_of input a) (R.j + 1) R.v) is)) ∙ marked_conf (is_removal_of store c))))
      (keeps (no_split (λ side ids keys e. cc (is, e))) (λ region. ap (is_commit_of region) is))
    where
      marked_conf : (b : Bool) → marked None b (reconfigured S c) ≡ cond b (removed (reconfigured S c)) (reconfigured S c)
      marked_conf true = refl
      marked_conf false = refl

      region_conf : (b : Bool) → (cond b (removed (reconfigured S c)) (reconfigured S c)).region ≡ region_of input a
      region_conf true = named
      region_conf false = named

  -- ---- merges

  committed_marked : (s x : RegionState) (t : Option ℕ) (b : Bool) → committed s (marked t b x) ≡ committed s x
  committed_marked s x (Some t) b = refl
  committed_marked s x None true = refl
  committed_marked s x None false = refl

  merged_marked : (x : RegionState) (t : Option ℕ) (b : Bool) (target : ℕ) → merged_into (marked t b x) target ≡ merged_into x target
  merged_marked x (Some t) b target = refl
  merged_marked x None true target = refl
  merged_marked x None false target = refl

  next_marked : (s x : RegionState) (t : Option ℕ) (b : Bool) → is_next_to s.range (marked t b x).range ≡ is_next_to s.range x.range
  next_marked s x (Some t) b = refl
  next_marked s x None true = refl
  next_marked s x None false = refl

  small_marked : (x : RegionState) (t : Option ℕ) (b : Bool) → x.epoch.version < 2 ^ 62 → (marked t b x).epoch.version < 2 ^ 62
  small_marked x (Some t) b h = h
  small_marked x None true h = h
  small_marked x None false h = h

  module _ (q c : ℕ) (l : List Carried) (is : R.e.body ≡ body.Commit q c l) where
    abbrev D : Merged input well lawful a R.j R.v q c
    D = merged input well lawful a (below input well lawful place n a next) R.j R.v R.e q c l R.accepted is

    pub on_source : is_on input place D.b ≡ true
    on_source = on_beside input place a D.b next.on D.below D.same

    found_source : address_in input place q ≡ Some D.b
    found_source = sym (beside_is input place a q next.on) ∙ D.found

    commits_source : commits (region_of input D.b) (entry_of_nth input a (n a + 1)) ≡ true
    commits_source = ap (commits (region_of input D.b)) R.entry ∙ (ap (is_commit_of (region_of input D.b)) is ∙ eq-eqb q (region_of input D.b) (sym D.region))

    pub other_source : D.b ≡ a → ⊥
    other_source e = not_own input well lawful place n a next (subst (λ z. commits (region_of input z) (entry_of_nth input a (n a + 1)) ≡ true) e commits_source)

    all_source : n D.b ≡ length (reshapings_of input D.b)
    all_source =
        let need = prepare_is input well lawful a (n a) q c l R.e D.b R.entry is D.found in
        let le = leb-true (reshaped_by input D.b c) (n D.b) (ap (covers n) (sym need) ∙ next.prepare) in
        let last = D.last in
        let w = next.cut.within D.b in
        omega (arith, le, last, w)

    born_source : covers n (birth_of input D.b) ≡ true
    born_source = next.cut.born D.b (let all = all_source in let some = D.some in omega (arith, all, some))

    pub base_source : Base input well lawful D.b (on_below input place D.b on_source) (n D.b)
    base_source = base input well lawful D.b (on_below input place D.b on_source) (n D.b) (let all = all_source in omega (arith, all))

    abbrev T : Option ℕ
    T = option_map (region_of input) (taker input place n (region_of input D.b))

    abbrev U : RegionState
    U = marked T (is_removed input n D.b) base_source.part.state

    state_source : D.u.state ≡ base_source.part.state
    state_source =
        let whole : Base input well lawful D.b (on_below input place D.b on_source) (length (reshapings_of input D.b)) = subst (Base input well lawful D.b (on_below input place D.b on_source)) all_source base_source in
        let there : part_at input D.b (index_after input D.b (n D.b)) ≡ Some whole.part = ap (λ z. part_at input D.b (index_after input D.b z)) all_source ∙ whole.is_part in
        let one : whole.part ≡ base_source.part = cc (there, base_source.is_part) in
        last_state input well lawful D.b (on_below input place D.b on_source) whole D.u D.part ∙ ap (λ (p : Part). p.state) one

    pub there_source : state_of rows q ≡ Some U
    there_source = table.states q ∙ (ap (row_by input place n) found_source ∙ row_is input well lawful place n D.b (on_below input place D.b on_source) base_source T (is_removed input n D.b) born_source refl refl)

    pub next_source : is_next_to S.range U.range ≡ true
    next_source = next_marked S base_source.part.state T (is_removed input n D.b) ∙ (ap (λ (s : RegionState). is_next_to S.range s.range) (sym state_source) ∙ D.next)

    small_source : U.epoch.version < 2 ^ 62
    small_source = small_marked base_source.part.state T (is_removed input n D.b) ((laws input well lawful).small D.b (index_after input D.b (n D.b)) base_source.part (on_below input place D.b on_source) base_source.is_part).0

    abbrev C : RegionState
    C = committed S U

    abbrev M : RegionState
    M = merged_into U S.region

    pub changes_are : changes store index rows S R.e.body ≡ C ∷ M ∷ []
    changes_are = ap (changes store index rows S) is ∙ ap (joined S) there_source

    row_target : row_at input place (raised n a) a ≡ Some C
    row_target =
        let w : A.w ≡ joined_part R.v D.u = cc (A.part, D.joined) in
        row_a C (ap (λ b. marked None (is_removal store b) A.w.state) is
        ∙ (ap (λ (p : Part). p.state) w ∙ (ap (committed S) state_source ∙ sym (committed_marked S base_source.part.state T (is_removed input n D.b)))))

    row_source : row_at input place (raised n a) D.b ≡ Some M
    row_source =
        let eq = raised_other n a D.b other_source in
        let born_more = covers_more n (raised n a) (birth_of input D.b) (raised_in n a) born_source in
        let bs = subst (Base input well lawful D.b (on_below input place D.b on_source)) (sym eq) base_source in
        let there : part_at input D.b (index_after input D.b (n D.b)) ≡ Some bs.part = ap (λ z. part_at input D.b (index_after input D.b z)) (sym eq) ∙ bs.is_part in
        let one : bs.part ≡ base_source.part = cc (there, base_source.is_part) in
        merged_row input well lawful place n a next D.b on_source born_more commits_source bs
        ∙ ap Some (ap (λ (p : Part). merged_into p.state (region_of input a)) one
        ∙ (sym (merged_marked base_source.part.state T (is_removed input n D.b) (region_of input a)) ∙ ap (merged_into U) (sym named)))

    source_named : (t : Option ℕ) (b : Bool) (x : RegionState) → (marked t b x).region ≡ x.region
    source_named (Some t) b x = refl
    source_named None true x = refl
    source_named None false x = refl

    pub region_source : M.region ≡ q
    region_source =
        source_named T (is_removed input n D.b) base_source.part.state
        ∙ ((laws input well lawful).named D.b (index_after input D.b (n D.b)) base_source.part (on_below input place D.b on_source) base_source.is_part ∙ D.region)

    others_commit : (b : ℕ) → is_on input place b ≡ true → (b ≡ a → ⊥) → (region_of input b ≡ q → ⊥) → row_at input place (raised n a) b ≡ row_at input place n b
    others_commit b on ne other =
        stays input well lawful place n a next b on ne (births_same b on (no_split (λ side ids keys e. cc (is, e)) b on))
        (ap (commits (region_of input b)) R.entry ∙ (ap (is_commit_of (region_of input b)) is ∙ ne_eqb q (region_of input b) (λ e. other (sym e))))

    by_commit : Result
    by_commit id = ap (λ ss. over ss id (row_of input place n id)) changes_are ∙ elim (cases_eq id q) [
      | inl e ↦
          ap (λ b. cond b (Some M) (put_over C id (row_of input place n id))) (eq-eqb id M.region (e ∙ sym region_source))
          ∙ sym (ap (row_by input place (raised n a)) (ap (address_in input place) e ∙ found_source) ∙ row_source)
      | inr ne ↦
          ap (λ b. cond b (Some M) (put_over C id (row_of input place n id))) (ne_eqb id M.region (λ x. ne (x ∙ region_source)))
          ∙ alone C named row_target id (λ b on other same. others_commit b on other (λ x. ne (sym same ∙ x)))
    ]

  -- ---- splits

  module _ (side : Side) (ids : List ℕ) (keys : List (List ℕ)) (is : R.e.body ≡ body.Split side ids keys) where
    abbrev N : List RegionState
    N = split_new S side ids keys

    pub each_new : EachId N
    each_new =
        let h = home input well lawful a (below input well lawful place n a next) in
        each_id (after_split S.epoch (length keys)) S.peers ids (new_ranges side (cut_range S.range keys))
        (h.end.tells.distinct (region_of input a) (R.j + 1) R.e side ids keys (line_here input well lawful a h R.j R.e R.accepted.from R.accepted.entry) is)

    row_kept : row_at input place (raised n a) a ≡ Some (split_kept S side keys)
    row_kept = row_a (split_kept S side keys) (ap (λ b. marked None (is_removal store b) A.w.state) is
        ∙ ap (λ (p : Part). p.state) (made (record { state = split_kept S side keys; items = kept_items (split_kept S side keys).range R.v.items }) (ap (accepted (part_on input a) (region_of input a) (R.j + 1) R.v) is)))

    new_row : (id : ℕ) (s : RegionState) → find (λ t. t.region == id) N ≡ Some s → Some s ≡ row_of input place (raised n a) id
    new_row id s f =
        let w = among_find (λ t. t.region == id) N s f in
        let b = among_all (Born input a (R.j + 1) R.v) s N ((laws input well lawful).births a R.j R.v R.e side ids keys (below input well lawful place n a next) R.accepted is) w.0 in
        let region : s.region ≡ id = eqb-true s.region id w.1 in
        let on_b : is_on input place b.b ≡ true = on_beside input place a b.b next.on b.placed.within (ap (λ p. p.0) b.placed.address) in
        let birth : birth_of input b.b ≡ Some (a, n a + 1) = birth_unfold input b.b ∙ (ap (birth_in input) b.maker ∙ ap (λ (z : ℕ). let p : ℕ × ℕ = (a, z) in Some p) R.number) in
        let was : covers n (birth_of input b.b) ≡ false = ap (covers n) birth ∙ lt-leb (n a + 1) (n a) (omega arith) in
        let now : covers (raised n a) (birth_of input b.b) ≡ true = ap (covers (raised n a)) birth ∙ le-leb (n a + 1) (raised n a a) (let e = raised_same n a in omega (arith, e)) in
        let ne : b.b ≡ a → ⊥ = λ e. both_ways (covers n (birth_of input b.b)) was (ap (λ z. covers n (birth_of input z)) e ∙ next.birth) in
        let found : address_in input place id ≡ Some b.b = ap (address_in input place) (sym region) ∙ (sym (beside_is input place a s.region next.on) ∙ b.placed.found) in
        sym (ap (row_by input place (raised n a)) found ∙ born_row input well lawful place n a next b.b (record { state = s; items = kept_items s.range R.v.items }) on_b was now b.part ne)

    -- a new region isn't in the table before
    pub fresh_row : (id : ℕ) (s : RegionState) → find (λ t. t.region == id) N ≡ Some s → row_of input place n id ≡ None
    fresh_row id s f =
        let w = among_find (λ t. t.region == id) N s f in
        let b = among_all (Born input a (R.j + 1) R.v) s N ((laws input well lawful).births a R.j R.v R.e side ids keys (below input well lawful place n a next) R.accepted is) w.0 in
        let region : s.region ≡ id = eqb-true s.region id w.1 in
        let birth : birth_of input b.b ≡ Some (a, n a + 1) = birth_unfold input b.b ∙ (ap (birth_in input) b.maker ∙ ap (λ (z : ℕ). let p : ℕ × ℕ = (a, z) in Some p) R.number) in
        let was : covers n (birth_of input b.b) ≡ false = ap (covers n) birth ∙ lt-leb (n a + 1) (n a) (omega arith) in
        let found : address_in input place id ≡ Some b.b = ap (address_in input place) (sym region) ∙ (sym (beside_is input place a s.region next.on) ∙ b.placed.found) in
        ap (row_by input place n) found ∙ (row_unfold input place n b.b ∙ ap (λ x. row_if x input place n b.b) was)

    old_row : (id : ℕ) → find (λ t. t.region == id) N ≡ None → put_over (split_kept S side keys) id (row_of input place n id) ≡ row_of input place (raised n a) id
    old_row id f = alone (split_kept S side keys) named row_kept id (λ b on ne same.
        stays input well lawful place n a next b on ne
        (births_same b on (λ x. not_new b x same)) (ap (commits (region_of input b)) R.entry ∙ ap (is_commit_of (region_of input b)) is))
      where
        not_new : (b : ℕ) → Newborn input well lawful place n a next b → region_of input b ≡ id → ⊥
        not_new b x same =
            let bodies : body.Split x.made.side x.made.ids x.made.keys ≡ body.Split side ids keys = sym x.made.body ∙ is in
            let one : split_new S x.made.side x.made.ids x.made.keys ≡ N = ap (new_of S) bodies in
            cc (x.made.found, ap (λ ss. find (λ t. t.region == region_of input b) ss) one, ap (λ z. find (λ t. t.region == z) N) same, f)
          where
            new_of : RegionState → Body → List RegionState
            new_of s (body.Split side ids keys) = split_new s side ids keys
            new_of s b = []

    by_split : Result
    by_split id =
        ap (λ ss. over ss id (row_of input place n id)) (ap (changes store index rows S) is)
        ∙ (over_find N id (put_over (split_kept S side keys) id (row_of input place n id)) each_new ∙ go (find (λ t. t.region == id) N) refl) where
          go : (o : Option RegionState) → find (λ t. t.region == id) N ≡ o → or_else o (put_over (split_kept S side keys) id (row_of input place n id)) ≡ row_of input place (raised n a) id
          go None f = old_row id f
          go (Some s) f = new_row id s f

  -- ---- all of them

  pub result_by : (b : Body) → R.e.body ≡ b → is_reshaping b ≡ true → Result
  result_by (body.Split side ids keys) is re = by_split side ids keys is
  result_by (body.Prepare target) is re = by_prepare target is
  result_by (body.Commit q c l) is re = by_commit q c l is
  result_by (body.Rollback c) is re = by_rollback c is
  result_by (body.Conf c) is re = by_conf c is
  result_by body.Empty is re = absurd cc
  result_by (body.Write ops) is re = absurd cc

  pub moved_table : IsTable input place (raised n a) (with_states (changes store index rows S R.e.body) rows)
  moved_table = record {
    rise = rise_of (with_states (changes store index rows S R.e.body) rows) (ups_all (changes store index rows S R.e.body) rows (ups_of rows table.rise));
    states = λ id. found_all (changes store index rows S R.e.body) rows id ∙ (ap (over (changes store index rows S R.e.body) id) (table.states id) ∙ result_by R.e.body refl R.reshapes id);
  }

  may_by : (b : Body) → R.e.body ≡ b → MayChange rows S b
  may_by (body.Split side ids keys) is =
      let formed = subst IsFormed is (formed_entry input well lawful a (R.j + 1) R.e (below input well lawful place n a next) R.accepted.entry) in
      (formed.0, formed.1, split_good S R.e.epoch side ids keys (ap (verdict_on S R.e.epoch) (sym is) ∙ R.accepted.accepted))
  may_by (body.Commit q c l) is = (U q c l is, there_source q c l is, next_source q c l is, small_source q c l is)
  may_by body.Empty is = tt
  may_by (body.Write ops) is = tt
  may_by (body.Prepare target) is = tt
  may_by (body.Rollback c) is = tt
  may_by (body.Conf c) is = tt

  pub is_there : state_of rows (region_of input a) ≡ Some S
  is_there = state_there

  pub is_ready : IsReady rows S R.e.body
  is_ready = record { small = (laws input well lawful).small a R.j R.v (below input well lawful place n a next) R.accepted.part; may = may_by R.e.body refl }
