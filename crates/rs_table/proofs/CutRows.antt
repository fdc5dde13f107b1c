-- The rows of a cut.
use Rattle.std.proofs.Common.{◌≡◌, ℕ, zero, suc, ◌+◌, ◌≤◌, ◌<◌, Bool, true, false, cond, List, length, Option, Some, None, refl, ap, sym, ◌∙◌, arith, subst, ◌⊎◌, inl, inr}
use Rattle.std.specs.Prelude.{◌&&◌, ◌||◌}
use Rattle.std.specs.Option.{option_map}
use Rattle.std.proofs.lemmas.Bool.{and_from, and_parts, both_ways, cases_lt, eqb-true, leb-true, or_cases}
use Rattle.rs_entry.specs.WellFormed.{WellFormed}
use Rattle.rs_entry.specs.declared.entry.Body.{Body}
use Rattle.rs_entry.specs.declared.entry.Body.TheVariants as body
use Rattle.rs_entry.specs.declared.entry.Carried.{Carried}
use Rattle.rs_entry.specs.declared.entry.Change.{Change}
use Rattle.rs_entry.specs.declared.entry.Entry.{Entry}
use Rattle.rs_entry.specs.declared.input.Input.{Input}
use Rattle.rs_entry.specs.declared.outcome.Mode.TheVariants as mode
use Rattle.rs_store.specs.Stores.{is_removal_of}
use Rattle.rs_check.specs.Laws.{check}
use Rattle.rs_check.specs.Plans.{address_of, ends_of, reshapings_of}
use Rattle.rs_check.specs.Values.{count_of, region_of, reshaped_by}
use Rattle.rs_table.specs.Cuts.{Cut, IsCut, birth_of, covers, entry_of_nth, is_on, prepare_of}
use Rattle.rs_table.specs.Rows.{commits, is_commit_of, is_removal, is_removed, marked, marked_part, removes, row_at, row_if, some_of, taker, taker_below}
use Rattle.rs_table.proofs.Addressing.{on_beside, one_address}
use Rattle.rs_table.proofs.Between.{Base, Reshaped, reshaped}
use Rattle.rs_table.proofs.NeedLists.{on_below, or_right}
use Rattle.rs_table.proofs.PlanReshapings.{all_by_stop}
use Rattle.rs_table.proofs.Removals.{removal_last}
use Rattle.rs_table.proofs.Sources.{merged, prepare_is}

-- ---- some of the first

pub some_there : (test : Option Entry → Bool) (input : Input) (a n : ℕ) → some_of test input a n ≡ true → (k : ℕ) × (k < n) × (test (entry_of_nth input a (k + 1)) ≡ true)
some_there test input a zero h = absurd cc
some_there test input a (suc n) h = elim (or_cases (test (entry_of_nth input a (suc n))) (some_of test input a n) h) [
  | inl t ↦ (let s : suc n ≡ n + 1 = omega arith in (n, omega arith, ap (λ x. test (entry_of_nth input a x)) (sym s) ∙ t))
  | inr r ↦ (let w = some_there test input a n r in let l = w.1 in (w.0, omega (arith, l), w.2))
]

pub there_some : (test : Option Entry → Bool) (input : Input) (a n k : ℕ) → k < n → test (entry_of_nth input a (k + 1)) ≡ true → some_of test input a n ≡ true
there_some test input a zero k lt t = absurd (omega arith)
there_some test input a (suc n) k lt t = elim (cases_lt k n) [
  | inl l ↦ or_right (test (entry_of_nth input a (suc n))) (some_of test input a n) (there_some test input a n k l t)
  | inr ge ↦
      (let s : suc n ≡ k + 1 = omega (arith, lt, ge) in
      ap (λ b. b || some_of test input a n) (ap (λ x. test (entry_of_nth input a x)) s ∙ t))
]

pub some_next : (test : Option Entry → Bool) (input : Input) (a n : ℕ) → some_of test input a (n + 1) ≡ (test (entry_of_nth input a (n + 1)) || some_of test input a n)
some_next test input a n =
    let s : n + 1 ≡ suc n = omega arith in
    ap (some_of test input a) s ∙ ap (λ x. test (entry_of_nth input a x) || some_of test input a n) (sym s)

pub commit_body : (region : ℕ) (b : Body) → is_commit_of region b ≡ true → (c : ℕ) × (l : List Carried) × (b ≡ body.Commit region c l)
commit_body region (body.Commit source c l) h = (c, l, ap (λ q. body.Commit q c l) (eqb-true source region h))
commit_body region body.Empty h = absurd cc
commit_body region (body.Write ops) h = absurd cc
commit_body region (body.Split side ids keys) h = absurd cc
commit_body region (body.Prepare target) h = absurd cc
commit_body region (body.Rollback commit) h = absurd cc
commit_body region (body.Conf c) h = absurd cc

pub removal_body : (store : ℕ) (b : Body) → is_removal store b ≡ true → (c : Change) × (b ≡ body.Conf c) × (is_removal_of store c ≡ true)
removal_body store (body.Conf c) h = (c, refl, h)
removal_body store body.Empty h = absurd cc
removal_body store (body.Write ops) h = absurd cc
removal_body store (body.Split side ids keys) h = absurd cc
removal_body store (body.Prepare target) h = absurd cc
removal_body store (body.Commit source c l) h = absurd cc
removal_body store (body.Rollback commit) h = absurd cc

-- ---- takers

below_some : (input : Input) (place : ℕ) (n : Cut) (region k t : ℕ) → taker_below input place n region k ≡ Some t → (is_on input place t ≡ true) × (some_of (commits region) input t (n t) ≡ true)
below_some input place n region zero t h = absurd cc
below_some input place n region (suc b) t h = go (is_on input place b && some_of (commits region) input b (n b)) refl h (below_some input place n region b t) where
  go : (x : Bool) → (is_on input place b && some_of (commits region) input b (n b)) ≡ x → cond x (Some b) (taker_below input place n region b) ≡ Some t
      → (taker_below input place n region b ≡ Some t → (is_on input place t ≡ true) × (some_of (commits region) input t (n t) ≡ true)) → (is_on input place t ≡ true) × (some_of (commits region) input t (n t) ≡ true)
  go true e h rest = let one : b ≡ t = cc h in subst (λ z. (is_on input place z ≡ true) × (some_of (commits region) input z (n z) ≡ true)) one (and_parts (is_on input place b) (some_of (commits region) input b (n b)) e)
  go false e h rest = rest h

pub taker_some : (input : Input) (place : ℕ) (n : Cut) (region t : ℕ) → taker input place n region ≡ Some t → (is_on input place t ≡ true) × (some_of (commits region) input t (n t) ≡ true)
unfolding taker
taker_some input place n region t h = below_some input place n region (count_of input) t h

some_below : (input : Input) (place : ℕ) (n : Cut) (region k b : ℕ) → b < k → is_on input place b ≡ true → some_of (commits region) input b (n b) ≡ true → (t : ℕ) × (taker_below input place n region k ≡ Some t)
some_below input place n region zero b lt on some = absurd (omega arith)
some_below input place n region (suc x) b lt on some = go (is_on input place x && some_of (commits region) input x (n x)) refl (cases_lt b x) (λ l. some_below input place n region x b l on some) where
  go : (y : Bool) → (is_on input place x && some_of (commits region) input x (n x)) ≡ y → (b < x) ⊎ (x ≤ b) → ((b < x) → (t : ℕ) × (taker_below input place n region x ≡ Some t)) → (t : ℕ) × (cond y (Some x) (taker_below input place n region x) ≡ Some t)
  go true e c rest = (x, refl)
  go false e (inl l) rest = rest l
  go false e (inr ge) rest =
      let one : b ≡ x = omega (arith, lt, ge) in
      absurd (both_ways (is_on input place x && some_of (commits region) input x (n x)) e
      (and_from (is_on input place x) (some_of (commits region) input x (n x)) (ap (is_on input place) (sym one) ∙ on) (ap (λ z. some_of (commits region) input z (n z)) (sym one) ∙ some)))

pub some_taker : (input : Input) (place : ℕ) (n : Cut) (region b : ℕ) → is_on input place b ≡ true → some_of (commits region) input b (n b) ≡ true → (t : ℕ) × (taker input place n region ≡ Some t)
unfolding taker
some_taker input place n region b on some = some_below input place n region (count_of input) b (on_below input place b on) on some

below_same : (input : Input) (place : ℕ) (m n : Cut) (region k : ℕ) → ((b : ℕ) → is_on input place b ≡ true → some_of (commits region) input b (m b) ≡ some_of (commits region) input b (n b))
    → taker_below input place m region k ≡ taker_below input place n region k
below_same input place m n region zero same = refl
below_same input place m n region (suc b) same =
    ap (λ o. cond (is_on input place b && some_of (commits region) input b (m b)) (Some b) o) (below_same input place m n region b same)
    ∙ ap (λ x. cond x (Some b) (taker_below input place n region b)) (go (is_on input place b) refl) where
      go : (x : Bool) → is_on input place b ≡ x → (is_on input place b && some_of (commits region) input b (m b)) ≡ (is_on input place b && some_of (commits region) input b (n b))
      go true e = ap (λ y. is_on input place b && y) (same b e)
      go false e = ap (λ y. y && some_of (commits region) input b (m b)) e ∙ sym (ap (λ y. y && some_of (commits region) input b (n b)) e)

pub taker_same : (input : Input) (place : ℕ) (m n : Cut) (region : ℕ) → ((b : ℕ) → is_on input place b ≡ true → some_of (commits region) input b (m b) ≡ some_of (commits region) input b (n b))
    → taker input place m region ≡ taker input place n region
unfolding taker
taker_same input place m n region same = below_same input place m n region (count_of input) same

pub removed_is : (input : Input) (n : Cut) (a : ℕ) → is_removed input n a ≡ some_of (removes (address_of input a).0) input a (n a)
unfolding is_removed
removed_is input n a = refl

pub row_unfold : (input : Input) (place : ℕ) (n : Cut) (a : ℕ) → row_at input place n a ≡ row_if (covers n (birth_of input a)) input place n a
unfolding row_at
row_unfold input place n a = refl

module _ (input : Input) (well : WellFormed input) (lawful : check input ≡ None) (place : ℕ) where
  -- ---- a region that is merged has come to its stop

  pub record Taken (t k a : ℕ) : Type 0 where
    pub below : t < count_of input
    pub more : k < length (reshapings_of input t)
    pub r : Reshaped input well lawful t below k
    pub c : ℕ
    pub l : List Carried
    pub body : r.e.body ≡ body.Commit (region_of input a) c l
    pub ends : ends_of input a ≡ mode.Merged (region_of input t)
    pub some : 1 ≤ length (reshapings_of input a)
    pub needs : prepare_of input t (k + 1) ≡ Some (a, length (reshapings_of input a))

  pub taken : (t k a : ℕ) → is_on input place t ≡ true → is_on input place a ≡ true → k < length (reshapings_of input t) → commits (region_of input a) (entry_of_nth input t (k + 1)) ≡ true → Taken t k a
  taken t k a on_t on_a more h =
      let below = on_below input place t on_t in
      let r = reshaped input well lawful t below k more in
      let b = commit_body (region_of input a) r.e.body (ap (commits (region_of input a)) (sym r.entry) ∙ h) in
      let d = merged input well lawful t below r.j r.v r.e (region_of input a) b.0 b.1 r.accepted b.2 in
      let on_d : is_on input place d.b ≡ true = on_beside input place t d.b on_t d.below d.same in
      let one : d.b ≡ a = one_address input well place d.b a on_d on_a d.region in
      let needs = prepare_is input well lawful t k (region_of input a) b.0 b.1 r.e d.b r.entry b.2 d.found in
      record {
        below = below;
        more = more;
        r = r;
        c = b.0;
        l = b.1;
        body = b.2;
        ends = ap (ends_of input) (sym one) ∙ d.ends;
        some = subst (λ z. 1 ≤ length (reshapings_of input z)) one d.some;
        needs = needs ∙ (ap (λ (z : ℕ). let p : ℕ × ℕ = (d.b, z) in Some p) d.last ∙ ap (λ (z : ℕ). let p : ℕ × ℕ = (z, length (reshapings_of input z)) in Some p) one);
      }

  pub record Gone (n : Cut) (a t : ℕ) : Type 0 where
    pub on : is_on input place t ≡ true
    pub ends : ends_of input a ≡ mode.Merged (region_of input t)
    pub some : 1 ≤ length (reshapings_of input a)
    pub all : n a ≡ length (reshapings_of input a)

  gone_by : (n : Cut) → IsCut input place n → (a t k : ℕ) → is_on input place t ≡ true → is_on input place a ≡ true → k < n t → commits (region_of input a) (entry_of_nth input t (k + 1)) ≡ true → Gone n a t
  gone_by n cut a t k on_t on_a lt h =
      let w = cut.within t in
      let x = taken t k a on_t on_a (omega (arith, lt, w)) h in
      let c = cut.prepared t (k + 1) (omega arith) (omega (arith, lt)) in
      let le = leb-true (length (reshapings_of input a)) (n a) (ap (covers n) (sym x.needs) ∙ c) in
      let wa = cut.within a in
      record { on = on_t; ends = x.ends; some = x.some; all = omega (arith, le, wa) }

  pub gone : (n : Cut) → IsCut input place n → (a t : ℕ) → is_on input place a ≡ true → taker input place n (region_of input a) ≡ Some t → Gone n a t
  gone n cut a t on h =
      let w = taker_some input place n (region_of input a) t h in
      let s = some_there (commits (region_of input a)) input t (n t) w.1 in
      gone_by n cut a t s.0 w.0 on s.1 s.2

  -- so a region with more to come isn't
  pub not_taken : (n : Cut) → IsCut input place n → (a : ℕ) → is_on input place a ≡ true → n a < length (reshapings_of input a) → taker input place n (region_of input a) ≡ None
  not_taken n cut a on more = go (taker input place n (region_of input a)) refl where
    go : (o : Option ℕ) → taker input place n (region_of input a) ≡ o → taker input place n (region_of input a) ≡ None
    go None e = e
    go (Some t) e = absurd (let g = gone n cut a t on e in let all = g.all in omega (arith, all, more))

  pub not_begun : (n : Cut) → IsCut input place n → (a : ℕ) → is_on input place a ≡ true → n a ≡ 0 → taker input place n (region_of input a) ≡ None
  not_begun n cut a on none = go (taker input place n (region_of input a)) refl where
    go : (o : Option ℕ) → taker input place n (region_of input a) ≡ o → taker input place n (region_of input a) ≡ None
    go None e = e
    go (Some t) e = absurd (let g = gone n cut a t on e in let all = g.all in let some = g.some in omega (arith, all, some, none))

  -- ---- and a region that is removed

  pub removed_all : (n : Cut) → IsCut input place n → (a : ℕ) → is_on input place a ≡ true → is_removed input n a ≡ true → (n a ≡ length (reshapings_of input a)) × (ends_of input a ≡ mode.Removed)
  removed_all n cut a on h =
      let below = on_below input place a on in
      let s = some_there (removes (address_of input a).0) input a (n a) (sym (removed_is input n a) ∙ h) in
      let w = cut.within a in
      let lt = s.1 in
      let r = reshaped input well lawful a below s.0 (omega (arith, lt, w)) in
      let b = removal_body (address_of input a).0 r.e.body (ap (removes (address_of input a).0) (sym r.entry) ∙ s.2) in
      let last = removal_last input well lawful a below r.j r.v r.e b.0 r.accepted b.1 b.2 in
      let all = all_by_stop input well lawful a below in
      let num : length (reshapings_of input a) ≡ s.0 + 1 = sym all ∙ (ap (reshaped_by input a) last.0 ∙ r.number) in
      (omega (arith, num, lt, w), last.1)

  pub not_removed : (n : Cut) → IsCut input place n → (a : ℕ) → is_on input place a ≡ true → n a < length (reshapings_of input a) → is_removed input n a ≡ false
  not_removed n cut a on more = go (is_removed input n a) refl where
    go : (b : Bool) → is_removed input n a ≡ b → is_removed input n a ≡ false
    go false e = e
    go true e = absurd (let g = (removed_all n cut a on e).0 in omega (arith, g, more))

  -- ---- rows

  -- the row of a region that the cut has
  pub row_is : (n : Cut) (a : ℕ) (below : a < count_of input) (b : Base input well lawful a below (n a)) (target : Option ℕ) (out : Bool) → covers n (birth_of input a) ≡ true
      → option_map (region_of input) (taker input place n (region_of input a)) ≡ target → is_removed input n a ≡ out → row_at input place n a ≡ Some (marked target out b.part.state)
  row_is n a below b target out born t r =
      row_unfold input place n a
      ∙ (ap (λ x. row_if x input place n a) born
      ∙ (ap (λ o. marked_part (option_map (region_of input) (taker input place n (region_of input a))) (is_removed input n a) o) b.is_part
      ∙ (ap (λ x. Some (marked x (is_removed input n a) b.part.state)) t ∙ ap (λ x. Some (marked target x b.part.state)) r)))
