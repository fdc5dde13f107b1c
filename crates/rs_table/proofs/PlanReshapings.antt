-- The reshapings of an address of a lawful plan: they rise, and how many are at most an index.
use Rattle.std.proofs.Common.{◌≡◌, ℕ, zero, suc, ◌+◌, ◌≤◌, ◌<◌, Bool, true, false, cond, List, [], ◌∷◌, ◌++◌, length, Some, None, refl, ap, sym, arith, subst, inl, inr}
use Rattle.std.specs.Prelude.{leb, slice_get, ◌&&◌}
use Rattle.std.specs.List.{AllByRecursion, filter}
use Rattle.rs_region.specs.Verdicts.{verdict}
use Rattle.rs_region.specs.declared.state.RegionState.{RegionState}
use Rattle.rs_region.proofs.CutParts.{all_map}
use Rattle.rs_entry.specs.WellFormed.{WellFormed}
use Rattle.rs_entry.specs.declared.input.Input.{Input}
use Rattle.rs_entry.specs.declared.input.Store.{Store}
use Rattle.rs_store.specs.declared.regions.Made.{Made}
use Rattle.rs_store.specs.declared.regions.Origin.TheVariants as origins
use Rattle.rs_store.specs.Stores.{Applied, Went, born, is_accept, is_reshaping, last, no_regions, opening, step}
use Rattle.rs_part.specs.Effects.{Stepping}
use Rattle.rs_part.specs.Scripts.{Script}
use Rattle.rs_part.specs.Telling.{Begins, Tells, boot_states}
use Rattle.rs_part.proofs.Endings.{last_has}
use Rattle.rs_part.proofs.Regions.{regions_all}
use Rattle.rs_part.proofs.Reshapings.{count_to}
use Rattle.rs_part.proofs.Traces.{step_traces}
use Rattle.rs_check.specs.Laws.{check}
use Rattle.rs_check.specs.Plans.{reshapings_of, stop_of}
use Rattle.rs_check.specs.Scripts.{script_of}
use Rattle.rs_check.specs.Values.{count_of, region_of, reshaped_by}
use Rattle.rs_check.proofs.Addresses.{Home, home, reshapes, stops}
use Rattle.rs_table.specs.Cuts.{index_after, or_five}
use Rattle.rs_table.proofs.Ascending.{Ascend, ascend_more, count_at, count_before, count_grows, counted_there, get_above}

-- ---- they rise on a store

pub record Rises (r : Made) : Type 0 where
  pub since : 5 ≤ r.applied
  pub ascend : Ascend 5 r.reshapings
  pub within : AllByRecursion (λ i. i ≤ r.applied) r.reshapings

abbrev AllRise : Applied → Type 0
AllRise g = (x : ℕ) (r : Made) → g.region x ≡ Some r → Rises r

fresh_rises : (r : Made) → r.applied ≡ 5 → r.reshapings ≡ [] → Rises r
fresh_rises r at is = record { since = omega arith; ascend = subst (Ascend 5) (sym is) tt; within = subst (AllByRecursion (λ i. i ≤ r.applied)) (sym is) tt }

same_rises : (r t : Made) → t.applied ≡ r.applied → t.reshapings ≡ r.reshapings → Rises r → Rises t
same_rises r t at is old = record {
  since = let s = old.since in omega arith;
  ascend = subst (Ascend 5) (sym is) old.ascend;
  within = subst (AllByRecursion (λ i. i ≤ t.applied)) (sym is) (subst (λ n. AllByRecursion (λ i. i ≤ n) r.reshapings) (sym at) old.within);
}

all_append : (P : ℕ → Type 0) (xs : List ℕ) (y : ℕ) → AllByRecursion P xs → P y → AllByRecursion P (xs ++ y ∷ [])
all_append P [] y h p = (p, tt)
all_append P (x ∷ xs) y h p = (h.0, all_append P xs y h.1 p)

next_rises : (r t : Made) (b : Bool) → t.applied ≡ r.applied + 1 → t.reshapings ≡ cond b (r.reshapings ++ (r.applied + 1) ∷ []) r.reshapings → Rises r → Rises t
next_rises r t b at is old = go b is where
  later : AllByRecursion (λ i. i ≤ t.applied) r.reshapings
  later = all_map (λ i. i ≤ r.applied) (λ i. i ≤ t.applied) (λ i le. omega arith) r.reshapings old.within

  five : 5 ≤ t.applied
  five = let s = old.since in omega arith

  go : (b : Bool) → t.reshapings ≡ cond b (r.reshapings ++ (r.applied + 1) ∷ []) r.reshapings → Rises t
  go true is = record {
    since = five;
    ascend = subst (Ascend 5) (sym is) (ascend_more 5 r.applied (r.applied + 1) r.reshapings old.ascend old.within old.since (omega arith));
    within = subst (AllByRecursion (λ i. i ≤ t.applied)) (sym is) (all_append (λ i. i ≤ t.applied) r.reshapings (r.applied + 1) later (omega arith));
  }
  go false is = record { since = five; ascend = subst (Ascend 5) (sym is) old.ascend; within = subst (AllByRecursion (λ i. i ≤ t.applied)) (sym is) later }

opening_rises : (store : Store) → AllRise (opening store)
opening_rises store = regions_all (λ x r. Rises r) no_regions origins.Boot (boot_states store.regions) (all_fresh (boot_states store.regions)) (λ x r h. absurd cc) where
  all_fresh : (ss : List RegionState) → AllByRecursion (λ s. Rises (born s origins.Boot)) ss
  all_fresh [] = tt
  all_fresh (s ∷ ss) = (fresh_rises (born s origins.Boot) refl refl, all_fresh ss)

step_rises : (script : Script) (store : Store) → Tells script store → (g k : Applied) (id : ℕ) (w : Stepping script store g id k) → step store g id ≡ Went k → AllRise g → AllRise k
step_rises script store tells g k id w st old x t h = elim (step_traces script store tells g k id w st x t h) [
  | inl m ↦ next_rises w.r t (is_accept (verdict w.r.state w.e) && is_reshaping w.e.body) m.applied m.reshapings (old id w.r w.here)
  | inr c ↦ elim c [ inl f ↦ fresh_rises t f.applied f.reshapings | inr o ↦ same_rises o.was t o.applied o.reshapings (old x o.was o.here) ]
]

last_rises : (script : Script) (store : Store) → Tells script store → Begins script store → (h : Applied) → last store ≡ Went h → AllRise h
last_rises script store tells begins h e =
    last_has script store tells begins AllRise (opening_rises store) (λ g k id sound w st old. step_rises script store tells g k id w st old) h e

count_few : (index : ℕ) (xs : List ℕ) → count_to index xs ≤ length xs
count_few index [] = omega arith
count_few index (x ∷ xs) = go (leb x index) (count_few index xs) where
  go : (b : Bool) → count_to index xs ≤ length xs → length (cond b (x ∷ filter (λ i. leb i index) xs) (filter (λ i. leb i index) xs)) ≤ suc (length xs)
  go true r = omega (arith, r)
  go false r = omega (arith, r)

-- ---- of an address

module _ (input : Input) (well : WellFormed input) (lawful : check input ≡ None) (a : ℕ) (within : a < count_of input) where
  at_home : Home input a
  at_home = home input well lawful a within

  rises : Rises at_home.r
  rises = last_rises (script_of input) at_home.store at_home.end.tells at_home.end.begins at_home.end.g at_home.end.ends (region_of input a) at_home.r at_home.made

  pub ascend : Ascend 5 (reshapings_of input a)
  ascend = subst (Ascend 5) (sym (reshapes input a at_home)) rises.ascend

  all_within : AllByRecursion (λ i. i ≤ stop_of input a) (reshapings_of input a)
  all_within = subst (λ n. AllByRecursion (λ i. i ≤ n) (reshapings_of input a)) (sym (stops input a at_home)) (subst (AllByRecursion (λ i. i ≤ at_home.r.applied)) (sym (reshapes input a at_home)) rises.within)

  get_within : (n i : ℕ) (xs : List ℕ) (k : ℕ) → AllByRecursion (λ i. i ≤ n) xs → slice_get xs k ≡ Some i → i ≤ n
  get_within n i [] k w h = absurd cc
  get_within n i (x ∷ xs) zero w h = let e : x ≡ i = cc h in let l = w.0 in omega arith
  get_within n i (x ∷ xs) (suc k) w h = get_within n i xs k w.1 h

  -- the index of a reshaping
  pub record Nth (k : ℕ) : Type 0 where
    pub i : ℕ
    pub there : slice_get (reshapings_of input a) k ≡ Some i
    pub past : 6 ≤ i
    pub upto : i ≤ stop_of input a

  get_there : (xs : List ℕ) (k : ℕ) → k < length xs → (i : ℕ) × (slice_get xs k ≡ Some i)
  get_there [] k h = absurd (omega arith)
  get_there (x ∷ xs) zero h = (x, refl)
  get_there (x ∷ xs) (suc k) h = get_there xs k (omega arith)

  pub nth_at : (k : ℕ) → k < length (reshapings_of input a) → Nth k
  nth_at k h = let w = get_there (reshapings_of input a) k h in record {
    i = w.0;
    there = w.1;
    past = let l = get_above 5 k w.0 (reshapings_of input a) ascend w.1 in omega arith;
    upto = get_within (stop_of input a) w.0 (reshapings_of input a) k all_within w.1;
  }

  pub nth_past : (k i : ℕ) → slice_get (reshapings_of input a) k ≡ Some i → 6 ≤ i
  nth_past k i h = let l = get_above 5 k i (reshapings_of input a) ascend h in omega arith

  -- its number is how many are at most it
  pub number_at : (k i : ℕ) → slice_get (reshapings_of input a) k ≡ Some i → reshaped_by input a i ≡ k + 1
  number_at k i h = count_at 5 k i (reshapings_of input a) ascend h

  pub number_before : (k i j : ℕ) → slice_get (reshapings_of input a) k ≡ Some i → j < i → reshaped_by input a j ≤ k
  number_before k i j h lt = count_before 5 k i j (reshapings_of input a) ascend h lt

  pub index_there : (m index : ℕ) → m < reshaped_by input a index → (i : ℕ) × (slice_get (reshapings_of input a) m ≡ Some i) × (i ≤ index)
  index_there m index h = counted_there 5 index m (reshapings_of input a) ascend h

  pub all_by_stop : reshaped_by input a (stop_of input a) ≡ length (reshapings_of input a)
  all_by_stop = all_counted (reshapings_of input a) all_within where
    all_counted : (xs : List ℕ) → AllByRecursion (λ i. i ≤ stop_of input a) xs → count_to (stop_of input a) xs ≡ length xs
    all_counted [] w = refl
    all_counted (x ∷ xs) w = let t : leb x (stop_of input a) ≡ true = (let l = w.0 in grind arith) in rw t (let r : count_to (stop_of input a) xs ≡ length xs = all_counted xs w.1 in omega arith)

pub few_by : (input : Input) (a index : ℕ) → reshaped_by input a index ≤ length (reshapings_of input a)
few_by input a index = count_few index (reshapings_of input a)

pub numbers_grow : (input : Input) (a i j : ℕ) → i ≤ j → reshaped_by input a i ≤ reshaped_by input a j
numbers_grow input a i j h = count_grows i j (reshapings_of input a) h

-- the index after as many reshapings
pub nth_index : (input : Input) (a k i : ℕ) → slice_get (reshapings_of input a) k ≡ Some i → index_after input a (suc k) ≡ i
unfolding index_after
nth_index input a k i h = ap or_five h

ascend_length : (low top : ℕ) (xs : List ℕ) → Ascend low xs → AllByRecursion (λ i. i ≤ top) xs → low ≤ top → low + length xs ≤ top
ascend_length low top [] a w h = omega arith
ascend_length low top (x ∷ xs) a w h = let r = ascend_length x top xs a.1 w.1 w.0 in let l = a.0 in omega (arith, r, l)

-- there are fewer than the stop's index
pub few_of : (input : Input) (well : WellFormed input) (lawful : check input ≡ None) (a : ℕ) (within : a < count_of input) → length (reshapings_of input a) ≤ stop_of input a
few_of input well lawful a within =
    let h = at_home input well lawful a within in
    let five = (rises input well lawful a within).since in
    let top = stops input a h in
    let l = ascend_length 5 (stop_of input a) (reshapings_of input a) (ascend input well lawful a within) (all_within input well lawful a within) (omega (arith, five, top)) in
    omega (arith, l)
