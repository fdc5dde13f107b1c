-- A region's reshapings are the indexes of the accepted entries that change it.
use Rattle.std.proofs.Common.{◌≡◌, ℕ, ◌+◌, ◌≤◌, ◌<◌, Bool, true, false, ◌&&◌, List, [], ◌∷◌, ◌++◌, length, Some, refl, ap, sym, ◌∙◌, arith, subst, inl, inr}
use Rattle.std.specs.Prelude.{leb, if◌then◌else◌}
use Rattle.std.specs.List.{AllByRecursion, filter}
use Rattle.std.proofs.lemmas.Bool.{cases_lt, le-leb, lt-leb}
use Rattle.std.proofs.lemmas.List.{length-append}
use Rattle.std.proofs.lemmas.List.Elements.{filter-append}
use Rattle.rs_entry.specs.declared.entry.Entry.{Entry}
use Rattle.rs_entry.specs.declared.input.Store.{Store}
use Rattle.rs_region.specs.Verdicts.{verdict}
use Rattle.rs_region.specs.declared.state.RegionState.{RegionState}
use Rattle.rs_region.proofs.CutParts.{all_map}
use Rattle.rs_store.specs.declared.regions.Made.{Made}
use Rattle.rs_store.specs.declared.regions.Origin.TheVariants as origins
use Rattle.rs_store.specs.Stores.{Applied, Went, born, is_accept, is_reshaping, last, no_regions, opening, step}
use Rattle.rs_part.specs.Effects.{Stepping}
use Rattle.rs_part.specs.Parts.{Part, part_of}
use Rattle.rs_part.specs.Scripts.{IsPart, Script}
use Rattle.rs_part.specs.Sound.{Sound}
use Rattle.rs_part.specs.Telling.{Begins, Tells, boot_states}
use Rattle.rs_part.proofs.Endings.{last_has}
use Rattle.rs_part.proofs.Modes.{live_unmarked, live_unmerged}
use Rattle.rs_part.proofs.Parts.{one_part}
use Rattle.rs_part.proofs.Regions.{regions_all}
use Rattle.rs_part.proofs.Traces.{shapings_after, step_traces}

-- how many of the indexes are at most this
abbrev pub count_to : ℕ → List ℕ → ℕ
count_to index xs = length (filter (λ i. leb i index) xs)

-- by one more where the entry is accepted and changes its region
abbrev pub counted_by : Bool → ℕ → ℕ
counted_by b n = if b then n + 1 else n

-- the reshapings of region x count the accepted entries that change it
pub record AreCounted (script : Script) (x : ℕ) (r : Made) : Type 0 where
  pub since : 5 ≤ r.applied
  pub past : AllByRecursion (λ i. 5 < i) r.reshapings
  pub within : AllByRecursion (λ i. i ≤ r.applied) r.reshapings
  pub counted : (j : ℕ) (v : Part) (e : Entry) → 5 ≤ j → j + 1 ≤ r.applied → IsPart script x j v → script.line x (j + 1) ≡ Some e
      → count_to (j + 1) r.reshapings ≡ counted_by (is_accept (verdict v.state e) && is_reshaping e.body) (count_to j r.reshapings)

abbrev AllCounted : Script → Applied → Type 0
AllCounted script g = (x : ℕ) (r : Made) → g.region x ≡ Some r → AreCounted script x r

-- ---- counts

count_all : (index : ℕ) (xs : List ℕ) → AllByRecursion (λ i. i ≤ index) xs → count_to index xs ≡ length xs
count_all index [] h = refl
count_all index (x ∷ xs) h = rw (le-leb x index h.0) (let m : count_to index xs ≡ length xs = count_all index xs h.1 in omega arith)

pub count_none : (index : ℕ) (xs : List ℕ) → AllByRecursion (λ i. index < i) xs → count_to index xs ≡ 0
count_none index [] h = refl
count_none index (x ∷ xs) h = rw (lt-leb x index h.0) (count_none index xs h.1)

count_append : (index : ℕ) (xs ys : List ℕ) → count_to index (xs ++ ys) ≡ count_to index xs + count_to index ys
count_append index xs ys = ap length (filter-append (λ i. leb i index) xs ys) ∙ length-append (filter (λ i. leb i index) xs) (filter (λ i. leb i index) ys)

all_append : (P : ℕ → Type 0) (xs : List ℕ) (y : ℕ) → AllByRecursion P xs → P y → AllByRecursion P (xs ++ y ∷ [])
all_append P [] y h p = (p, tt)
all_append P (x ∷ xs) y h p = (h.0, all_append P xs y h.1 p)

-- the indexes so far, and the next where b
abbrev grown : Bool → ℕ → List ℕ → List ℕ
grown b n xs = if b then xs ++ (n + 1) ∷ [] else xs

grown_all : (P : ℕ → Type 0) (b : Bool) (n : ℕ) (xs : List ℕ) → AllByRecursion P xs → P (n + 1) → AllByRecursion P (grown b n xs)
grown_all P true n xs h p = all_append P xs (n + 1) h p
grown_all P false n xs h p = h

grown_below : (b : Bool) (index n : ℕ) (xs : List ℕ) → index ≤ n → count_to index (grown b n xs) ≡ count_to index xs
grown_below true index n xs le =
    let none : count_to index ((n + 1) ∷ []) ≡ 0 = count_none index ((n + 1) ∷ []) (omega arith, tt) in
    let all : count_to index (xs ++ (n + 1) ∷ []) ≡ count_to index xs + count_to index ((n + 1) ∷ []) = count_append index xs ((n + 1) ∷ []) in
    omega arith
grown_below false index n xs le = refl

grown_at : (b : Bool) (n : ℕ) (xs : List ℕ) → AllByRecursion (λ i. i ≤ n) xs → count_to (n + 1) (grown b n xs) ≡ counted_by b (count_to n (grown b n xs))
grown_at true n xs h =
    let top : count_to (n + 1) ((n + 1) ∷ []) ≡ 1 = count_all (n + 1) ((n + 1) ∷ []) (omega arith, tt) in
    let whole : count_to (n + 1) (xs ++ (n + 1) ∷ []) ≡ count_to (n + 1) xs + count_to (n + 1) ((n + 1) ∷ []) = count_append (n + 1) xs ((n + 1) ∷ []) in
    let a : count_to (n + 1) xs ≡ length xs = count_all (n + 1) xs (all_map (λ i. i ≤ n) (λ i. i ≤ n + 1) (λ i le. omega arith) xs h) in
    let b : count_to n xs ≡ length xs = count_all n xs h in
    let c : count_to n (xs ++ (n + 1) ∷ []) ≡ count_to n xs = grown_below true n n xs (omega arith) in
    omega arith
grown_at false n xs h =
    let a : count_to (n + 1) xs ≡ length xs = count_all (n + 1) xs (all_map (λ i. i ≤ n) (λ i. i ≤ n + 1) (λ i le. omega arith) xs h) in
    let b : count_to n xs ≡ length xs = count_all n xs h in
    omega arith

-- ---- steps

-- a region that applied nothing yet
fresh_counted : (script : Script) (x : ℕ) (r : Made) → r.applied ≡ 5 → r.reshapings ≡ [] → AreCounted script x r
fresh_counted script x r at is = record {
  since = omega arith;
  past = subst (AllByRecursion (λ i. 5 < i)) (sym is) tt;
  within = subst (AllByRecursion (λ i. i ≤ r.applied)) (sym is) tt;
  counted = λ j v e five le part line. absurd (omega arith);
}

opening_counted : (script : Script) (store : Store) → AllCounted script (opening store)
opening_counted script store =
    regions_all (λ x r. AreCounted script x r) no_regions origins.Boot (boot_states store.regions) (all_fresh (boot_states store.regions)) (λ x r h. absurd cc)
  where
    all_fresh : (ss : List RegionState) → AllByRecursion (λ s. AreCounted script s.region (born s origins.Boot)) ss
    all_fresh [] = tt
    all_fresh (s ∷ ss) = (fresh_counted script s.region (born s origins.Boot) refl refl, all_fresh ss)

module _ (script : Script) (store : Store) (g k : Applied) (sound : Sound script store g) (id : ℕ) (w : Stepping script store g id k) (old : AreCounted script id w.r) where
  abbrev accepts : Bool
  accepts = is_accept (verdict w.r.state w.e) && is_reshaping w.e.body

  -- the entry after the last index is that of the step
  this : (v : Part) (e : Entry) → IsPart script id w.r.applied v → script.line id (w.r.applied + 1) ≡ Some e → (is_accept (verdict v.state e) && is_reshaping e.body) ≡ accepts
  this v e part line =
      let one : v ≡ part_of g w.r = one_part script id w.r.applied v (part_of g w.r) part (sound.parts id w.r w.here (live_unmerged w.r.state.mode w.live)) in
      let state : v.state ≡ w.r.state = ap (λ z. z.state) one ∙ live_unmarked w.r.state w.live in
      let same : e ≡ w.e = cc (line, w.told) in
      ap (λ s. is_accept (verdict s e) && is_reshaping e.body) state ∙ ap (λ f. is_accept (verdict w.r.state f) && is_reshaping f.body) same

  mine_counted : (t : Made) → t.applied ≡ w.r.applied + 1 → t.reshapings ≡ shapings_after w.r w.e → AreCounted script id t
  mine_counted t up is = record {
    since = let five : 5 ≤ w.r.applied = old.since in omega arith;
    past = subst (AllByRecursion (λ i. 5 < i)) (sym is) (grown_all (λ i. 5 < i) accepts w.r.applied w.r.reshapings old.past (let five : 5 ≤ w.r.applied = old.since in omega arith));
    within = subst (AllByRecursion (λ i. i ≤ t.applied)) (sym is) (grown_all (λ i. i ≤ t.applied) accepts w.r.applied w.r.reshapings
        (all_map (λ i. i ≤ w.r.applied) (λ i. i ≤ t.applied) (λ i le. omega arith) w.r.reshapings old.within) (omega arith));
    counted = λ j v e five le part line. subst (λ xs. count_to (j + 1) xs ≡ counted_by (is_accept (verdict v.state e) && is_reshaping e.body) (count_to j xs)) (sym is)
        (elim (cases_lt j w.r.applied) [
          | inl lt ↦
              grown_below accepts (j + 1) w.r.applied w.r.reshapings (omega arith)
              ∙ (old.counted j v e five (omega arith) part line
              ∙ ap (counted_by (is_accept (verdict v.state e) && is_reshaping e.body)) (sym (grown_below accepts j w.r.applied w.r.reshapings (omega arith))))
          | inr ge ↦
              (let at : j ≡ w.r.applied = omega arith in
              let now : (is_accept (verdict v.state e) && is_reshaping e.body) ≡ accepts = this v e (subst (λ i. IsPart script id i v) at part) (ap (λ i. script.line id (i + 1)) (sym at) ∙ line) in
              subst (λ i. count_to (i + 1) (grown accepts w.r.applied w.r.reshapings) ≡ counted_by (is_accept (verdict v.state e) && is_reshaping e.body) (count_to i (grown accepts w.r.applied w.r.reshapings))) (sym at)
              (grown_at accepts w.r.applied w.r.reshapings old.within ∙ ap (λ b. counted_by b (count_to w.r.applied (grown accepts w.r.applied w.r.reshapings))) (sym now)))
        ]);
  }

-- a region that is as it was
kept_counted : (script : Script) (x : ℕ) (r t : Made) → t.applied ≡ r.applied → t.reshapings ≡ r.reshapings → AreCounted script x r → AreCounted script x t
kept_counted script x r t at is old = record {
  since = subst (λ n. 5 ≤ n) (sym at) old.since;
  past = subst (AllByRecursion (λ i. 5 < i)) (sym is) old.past;
  within = subst (λ n. AllByRecursion (λ i. i ≤ n) t.reshapings) (sym at) (subst (AllByRecursion (λ i. i ≤ r.applied)) (sym is) old.within);
  counted = λ j v e five le part line. subst (λ xs. count_to (j + 1) xs ≡ counted_by (is_accept (verdict v.state e) && is_reshaping e.body) (count_to j xs)) (sym is)
      (old.counted j v e five (subst (λ n. j + 1 ≤ n) at le) part line);
}

step_counted : (script : Script) (store : Store) → Tells script store → (g k : Applied) (id : ℕ) → Sound script store g → (w : Stepping script store g id k) → step store g id ≡ Went k
    → AllCounted script g → AllCounted script k
step_counted script store tells g k id sound w st old x t h = elim (step_traces script store tells g k id w st x t h) [
  | inl m ↦ subst (λ y. AreCounted script y t) (sym m.same) (mine_counted script store g k sound id w (old id w.r w.here) t m.applied m.reshapings)
  | inr c ↦ elim c [
    | inl f ↦ fresh_counted script x t f.applied f.reshapings
    | inr o ↦ kept_counted script x o.was t o.applied o.reshapings (old x o.was o.here)
  ]
]

-- at the end of the canonical order
pub last_counted : (script : Script) (store : Store) → Tells script store → Begins script store → (h : Applied) → last store ≡ Went h → (x : ℕ) (r : Made) → h.region x ≡ Some r
    → AreCounted script x r
last_counted script store tells begins h e =
    last_has script store tells begins (AllCounted script) (opening_counted script store) (λ g k id sound w st old. step_counted script store tells g k id sound w st old) h e
