-- A step keeps what merges and splits leave behind.
use Rattle.std.proofs.Common.{◌≡◌, ℕ, ◌+◌, ◌≤◌, ◌<◌, true, List, Option, Some, None, refl, ap, sym, ◌∙◌, arith, ◌⊎◌, subst, inl, inr}
use Rattle.std.specs.List.{AllByRecursion}
use Rattle.std.proofs.lemmas.Bool.{both_ways, cases_eq, cases_lt}
use Rattle.rs_entry.specs.declared.entry.Body.TheVariants as body
use Rattle.rs_entry.specs.declared.entry.Entry.{Entry}
use Rattle.rs_entry.specs.declared.entry.Side.{Side}
use Rattle.rs_entry.specs.declared.input.Store.{Store}
use Rattle.rs_entry.specs.declared.outcome.Mode.TheVariants as mode
use Rattle.rs_region.specs.Verdicts.{verdict}
use Rattle.rs_region.specs.declared.verdict.Verdict.TheVariants as verdicts
use Rattle.rs_region.proofs.CutParts.{all_map}
use Rattle.rs_store.specs.declared.regions.Made.{Made}
use Rattle.rs_store.specs.Stores.{Applied, is_live, is_paused, is_unmerged, own}
use Rattle.rs_part.specs.Effects.{Effect, Merges}
use Rattle.rs_part.specs.Parts.{Part, mode_before, part_of}
use Rattle.rs_part.specs.Scripts.{IsPart, Script}
use Rattle.rs_part.specs.Settled.{Commits, Ended, IsMade, Merger, Settled}
use Rattle.rs_part.specs.Sound.{Sound}
use Rattle.rs_part.proofs.Modes.{live_unmarked, live_unmerged}
use Rattle.rs_part.proofs.Parts.{one_part}
use Rattle.rs_part.proofs.Regions.{same_region}

-- what is merged isn't live
merged_dead : (r : Made) (t : ℕ) → r.state.mode ≡ mode.Merged t → is_live r.state.mode ≡ true → ⊥
merged_dead r t dead live = both_ways (is_live r.state.mode) (ap is_live dead) live

-- nor unmerged
merged_gone : (r : Made) (t : ℕ) → r.state.mode ≡ mode.Merged t → is_unmerged r.state.mode ≡ true → ⊥
merged_gone r t dead own = both_ways (is_unmerged r.state.mode) (ap is_unmerged dead) own

-- the part that an unmerged region ends with when it is merged
merged_end : (script : Script) (store : Store) (g : Applied) → Sound script store g → (id : ℕ) (r : Made) (e : Entry) (x : ℕ) (t : Made) (n : Made) → g.region x ≡ Some t → Merges store id r e x t n
    → Ended script store x n id
merged_end script store g sound id r e x t n here m = record {
  part = part_of g t;
  is_part = subst (λ z. IsPart script x z.applied (part_of g t)) (sym m.now) (sound.parts x t here (ap is_unmerged m.merging));
  state = ap (λ z. z.state) m.now;
  merging = ap mode_before m.merging ∙ ap (λ z. mode.Merging id z.applied) (sym m.now);
  paused = ap (is_paused (own store x)) (live_unmarked t.state (ap is_live m.merging)) ∙ m.paused;
}

module _ (script : Script) (store : Store) (g : Applied) (sound : Sound script store g) (settled : Settled script store g)
    (id : ℕ) (r : Made) (here : g.region id ≡ Some r) (live : is_live r.state.mode ≡ true)
    (e : Entry) (told : script.line id (r.applied + 1) ≡ Some e) (h : Applied) (effect : Effect store g id r e h) where
  unmerged : is_unmerged r.state.mode ≡ true
  unmerged = live_unmerged r.state.mode live

  abbrev Was : ℕ → Made → Type 0
  Was x n = (t : Made) × (g.region x ≡ Some t) × (t.applied ≡ n.applied)

  abbrev IsNew : ℕ → Made → Type 0
  IsNew x n = (g.region x ≡ None) × (n.applied ≡ 5) × (is_live n.state.mode ≡ true)

  -- what was made before is still made
  made_stays : (x : ℕ) → IsMade g x → IsMade h x
  made_stays x m = elim (cases_eq x id) [
    | inl p ↦ (effect.mine.0, ap h.region p ∙ effect.mine.1)
    | inr ne ↦ elim (effect.others x m.0 ne m.1) [ inl s ↦ (m.0, s) | inr s ↦ (s.0, s.1) ]
  ]

  -- what is merged stays as it is
  merged_stays : (x t : ℕ) (n : Made) → g.region x ≡ Some n → n.state.mode ≡ mode.Merged t → h.region x ≡ Some n
  merged_stays x t n made dead = elim (cases_eq x id) [
    | inl p ↦ absurd (merged_dead n t dead (ap (λ z. is_live z.state.mode) (same_region (g.region x) (g.region id) n r made (ap g.region p) here) ∙ live))
    | inr ne ↦ elim (effect.others x n ne made) [ inl s ↦ s | inr s ↦ absurd (cc (s.2.merging, dead)) ]
  ]

  -- the region that stepped isn't merged
  mine_unmerged : (x : ℕ) (n : Made) → x ≡ id → h.region x ≡ Some n → is_unmerged n.state.mode ≡ true
  mine_unmerged x n p made = ap (λ z. is_unmerged z.state.mode) (same_region (h.region x) (h.region id) n effect.mine.0 made (ap h.region p) effect.mine.1) ∙ effect.mine.3

  mine_applied : (x : ℕ) (n : Made) → x ≡ id → h.region x ≡ Some n → n.applied ≡ r.applied + 1
  mine_applied x n p made = ap (λ z. z.applied) (same_region (h.region x) (h.region id) n effect.mine.0 made (ap h.region p) effect.mine.1) ∙ effect.mine.2

  -- another region is new, or had applied as much
  before : (x : ℕ) (n : Made) → (x ≡ id → ⊥) → h.region x ≡ Some n → Was x n ⊎ IsNew x n
  before x n ne made = go (g.region x) refl
    where
      go : (o : Option Made) → g.region x ≡ o → Was x n ⊎ IsNew x n
      go None none = (let w = effect.new x n ne made none in inr (none, w.0, w.1))
      go (Some t) some = elim (effect.others x t ne some) [
        | inl s ↦ inl (t, some, ap (λ z. z.applied) (same_region (h.region x) (h.region x) t n s refl made))
        | inr s ↦ inl (t, some, ap (λ z. z.applied) (sym s.2.now) ∙ ap (λ z. z.applied) (same_region (h.region x) (h.region x) s.0 n s.1 refl made))
      ]

  -- a merged region was so before, or is merged by this step
  merged_cases : (x : ℕ) (n : Made) (t : ℕ) → h.region x ≡ Some n → n.state.mode ≡ mode.Merged t
      → (g.region x ≡ Some n) ⊎ ((u : Made) × (g.region x ≡ Some u) × (id ≡ t) × Merges store id r e x u n)
  merged_cases x n t made dead = elim (cases_eq x id) [ inl p ↦ absurd (merged_gone n t dead (mine_unmerged x n p made)) | inr ne ↦ go ne (g.region x) refl ]
    where
      go : (x ≡ id → ⊥) → (o : Option Made) → g.region x ≡ o → (g.region x ≡ Some n) ⊎ ((u : Made) × (g.region x ≡ Some u) × (id ≡ t) × Merges store id r e x u n)
      go ne None none = absurd (merged_dead n t dead (effect.new x n ne made none).1)
      go ne (Some u) some = elim (effect.others x u ne some) [
        | inl s ↦ inl (some ∙ ap Some (same_region (h.region x) (h.region x) u n s refl made))
        | inr s ↦ (let one : s.0 ≡ n = same_region (h.region x) (h.region x) s.0 n s.1 refl made in
            let into : id ≡ t = cc (ap (λ z. z.state.mode) s.2.now, ap (λ z. z.state.mode) one, dead) in
            inr (u, some, into, subst (Merges store id r e x u) one s.2))
      ]

  ended : (x : ℕ) (n : Made) (t : ℕ) → h.region x ≡ Some n → n.state.mode ≡ mode.Merged t → Ended script store x n t
  ended x n t made dead = elim (merged_cases x n t made dead) [
    | inl old ↦ settled.ended x n t old dead
    | inr w ↦ subst (Ended script store x n) w.2 (merged_end script store g sound id r e x w.0 n w.1 w.3)
  ]

  -- the entry of a commit right after the region's index is the one of this step
  commits_now : (q c : ℕ) → Commits script id r.applied q c
      → (n : Made) × (h.region q ≡ Some n) × (n.applied ≡ c) × (n.state.mode ≡ mode.Merged id) × ((t : Made) × (g.region q ≡ Some t) × (t.state.mode ≡ mode.Merging id c))
  commits_now q c k =
      let one : k.part ≡ part_of g r = one_part script id r.applied k.part (part_of g r) k.is_part (sound.parts id r here unmerged) in
      let same : k.entry ≡ e = cc (k.line, told) in
      let state : k.part.state ≡ r.state = ap (λ z. z.state) one ∙ live_unmarked r.state live in
      effect.merges q c k.carried (ap (λ z. z.body) (sym same) ∙ k.body) (ap (verdict r.state) (sym same) ∙ (ap (λ z. verdict z k.entry) (sym state) ∙ k.accepted))

  abbrev IsSource : ℕ → ℕ → ℕ → Type 0
  IsSource t q c = (n : Made) × (h.region q ≡ Some n) × (n.applied ≡ c) × (n.state.mode ≡ mode.Merged t)

  merged : (t : ℕ) (n : Made) (k q c : ℕ) → h.region t ≡ Some n → k + 1 ≤ n.applied → Commits script t k q c → IsSource t q c
  merged t n k q c made le commits = elim (cases_eq t id) [ inl p ↦ stepped p (cases_lt k r.applied) | inr ne ↦ old (before t n ne made) ]
    where
      keep : (m : Made) × (g.region q ≡ Some m) × (m.applied ≡ c) × (m.state.mode ≡ mode.Merged t) → IsSource t q c
      keep w = (w.0, merged_stays q t w.0 w.1 w.3, w.2, w.3)

      old : Was t n ⊎ IsNew t n → IsSource t q c
      old (inl w) = keep (settled.merged t w.0 k q c w.1 (let a : w.0.applied ≡ n.applied = w.2 in omega arith) commits)
      old (inr w) = absurd (let a : n.applied ≡ 5 = w.1 in let b : 5 ≤ k = commits.past in omega arith)

      stepped : t ≡ id → (k < r.applied) ⊎ (r.applied ≤ k) → IsSource t q c
      stepped p (inl lt) = keep (settled.merged t r k q c (ap g.region p ∙ here) (omega arith) commits)
      stepped p (inr ge) =
          let top : n.applied ≡ r.applied + 1 = mine_applied t n p made in
          let now : k ≡ r.applied = omega arith in
          let w = commits_now q c (subst (λ y. Commits script y r.applied q c) p (subst (λ i. Commits script t i q c) now commits)) in
          (w.0, w.1, w.2, w.3 ∙ ap mode.Merged (sym p))

  children : (t : ℕ) (n : Made) (k : ℕ) (v : Part) (f : Entry) (side : Side) (ids : List ℕ) (keys : List (List ℕ)) → h.region t ≡ Some n → 5 ≤ k → k + 1 ≤ n.applied → IsPart script t k v
      → script.line t (k + 1) ≡ Some f → f.body ≡ body.Split side ids keys → verdict v.state f ≡ verdicts.Accept → AllByRecursion (IsMade h) ids
  children t n k v f side ids keys made five le part line is accepted = elim (cases_eq t id) [ inl p ↦ stepped p (cases_lt k r.applied) | inr ne ↦ old (before t n ne made) ]
    where
      keep : AllByRecursion (IsMade g) ids → AllByRecursion (IsMade h) ids
      keep w = all_map (IsMade g) (IsMade h) (λ x m. made_stays x m) ids w

      old : Was t n ⊎ IsNew t n → AllByRecursion (IsMade h) ids
      old (inl w) = keep (settled.children t w.0 k v f side ids keys w.1 five (let a : w.0.applied ≡ n.applied = w.2 in omega arith) part line is accepted)
      old (inr w) = absurd (let a : n.applied ≡ 5 = w.1 in omega arith)

      stepped : t ≡ id → (k < r.applied) ⊎ (r.applied ≤ k) → AllByRecursion (IsMade h) ids
      stepped p (inl lt) = keep (settled.children t r k v f side ids keys (ap g.region p ∙ here) five (omega arith) part line is accepted)
      stepped p (inr ge) =
          let top : n.applied ≡ r.applied + 1 = mine_applied t n p made in
          let now : k ≡ r.applied = omega arith in
          let here_part : IsPart script id r.applied v = subst (λ y. IsPart script y r.applied v) p (subst (λ i. IsPart script t i v) now part) in
          let one : v ≡ part_of g r = one_part script id r.applied v (part_of g r) here_part (sound.parts id r here unmerged) in
          let state : v.state ≡ r.state = ap (λ z. z.state) one ∙ live_unmarked r.state live in
          let same : f ≡ e = cc (line, told, ap (λ y. script.line y (k + 1)) p, ap (λ i. script.line id (i + 1)) now) in
          effect.splits side ids keys (ap (λ z. z.body) (sym same) ∙ is) (ap (verdict r.state) (sym same) ∙ (ap (λ z. verdict z f) (sym state) ∙ accepted))

  grows : (x : ℕ) (t : Made) → g.region x ≡ Some t → (n : Made) × (h.region x ≡ Some n) × (t.applied ≤ n.applied)
  grows x t made = elim (cases_eq x id) [
    | inl p ↦ (let one : t ≡ r = same_region (g.region x) (g.region id) t r made (ap g.region p) here in
        let up : effect.mine.0.applied ≡ r.applied + 1 = effect.mine.2 in
        (effect.mine.0, ap h.region p ∙ effect.mine.1, subst (λ z. z.applied ≤ effect.mine.0.applied) (sym one) (omega arith)))
    | inr ne ↦ elim (effect.others x t ne made) [
      | inl s ↦ (t, s, omega arith)
      | inr s ↦ (s.0, s.1, subst (λ z. t.applied ≤ z.applied) (sym s.2.now) (omega arith))
    ]
  ]

  merger : (x : ℕ) (n : Made) (t : ℕ) → h.region x ≡ Some n → n.state.mode ≡ mode.Merged t → Merger script h x n.applied t
  merger x n t made dead = elim (merged_cases x n t made dead) [
    | inl old ↦ (let m = settled.merger x n t old dead in
        let w = grows t m.r m.here in
        let a : m.k + 1 ≤ m.r.applied = m.below in
        let b : m.r.applied ≤ w.0.applied = w.2 in
        record { k = m.k; r = w.0; here = w.1; below = omega arith; commits = m.commits })
    | inr w ↦ (let up : effect.mine.0.applied ≡ r.applied + 1 = effect.mine.2 in
        let at : w.0.applied ≡ n.applied = ap (λ z. z.applied) (sym w.3.now) in
        record {
          k = r.applied;
          r = effect.mine.0;
          here = ap h.region (sym w.2) ∙ effect.mine.1;
          below = omega arith;
          commits = subst (λ y. Commits script y r.applied x n.applied) w.2 (now w.0 at w.3);
        })
  ]
    where
      now : (u : Made) → u.applied ≡ n.applied → Merges store id r e x u n → Commits script id r.applied x n.applied
      now u at m = record {
        past = sound.since id r here;
        part = part_of g r;
        entry = e;
        carried = m.carried;
        is_part = sound.parts id r here unmerged;
        line = told;
        body = m.body ∙ ap (λ y. body.Commit x y m.carried) at;
        accepted = ap (λ z. verdict z e) (live_unmarked r.state live) ∙ m.accepted;
      }

  -- a step that commits a merge finds its source not yet merged
  not_twice : (t q c j : ℕ) → t ≡ id → j + 1 ≤ r.applied → Commits script t j q c → Commits script t r.applied q c → ⊥
  not_twice t q c j p le a b =
      let old = settled.merged t r j q c (ap g.region p ∙ here) le a in
      let w = commits_now q c (subst (λ y. Commits script y r.applied q c) p b) in
      cc (w.4.2, old.3, ap (λ z. z.state.mode) (same_region (g.region q) (g.region q) w.4.0 old.0 w.4.1 refl old.1))

  once : (t : ℕ) (n : Made) (q c j k : ℕ) → h.region t ≡ Some n → j + 1 ≤ n.applied → k + 1 ≤ n.applied → Commits script t j q c → Commits script t k q c → j ≡ k
  once t n q c j k made lj lk a b = elim (cases_eq t id) [ inl p ↦ stepped p (mine_applied t n p made) (cases_lt j r.applied) (cases_lt k r.applied) | inr ne ↦ old (before t n ne made) ]
    where
      old : Was t n ⊎ IsNew t n → j ≡ k
      old (inl w) = (let x : w.0.applied ≡ n.applied = w.2 in settled.once t w.0 q c j k w.1 (omega arith) (omega arith) a b)
      old (inr w) = absurd (let x : n.applied ≡ 5 = w.1 in let y : 5 ≤ j = a.past in omega arith)

      stepped : t ≡ id → n.applied ≡ r.applied + 1 → (j < r.applied) ⊎ (r.applied ≤ j) → (k < r.applied) ⊎ (r.applied ≤ k) → j ≡ k
      stepped p z (inl x) (inl y) = settled.once t r q c j k (ap g.region p ∙ here) (omega arith) (omega arith) a b
      stepped p z (inl x) (inr y) = (let w : k ≡ r.applied = omega arith in absurd (not_twice t q c j p (omega arith) a (subst (λ i. Commits script t i q c) w b)))
      stepped p z (inr x) (inl y) = (let w : j ≡ r.applied = omega arith in absurd (not_twice t q c k p (omega arith) b (subst (λ i. Commits script t i q c) w a)))
      stepped p z (inr x) (inr y) = omega arith

  pub step_settled : Settled script store h
  step_settled = record { ended = ended; merged = merged; merger = merger; once = once; children = children }
