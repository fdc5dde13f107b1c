-- Two orders of a store that both end with no region ready agree.
use Rattle.std.proofs.Common.{◌≡◌, ℕ, ◌+◌, ◌-◌, ◌≤◌, true, cond, List, [], Option, Some, None, ap, sym, ◌∙◌, arith, subst, refl, inl, inr}
use Rattle.std.proofs.lemmas.Bool.{both_ways}
use Rattle.rs_key.specs.Ranges.{holds}
use Rattle.rs_entry.specs.declared.input.Store.{Store}
use Rattle.rs_entry.specs.declared.outcome.Mode.{Mode}
use Rattle.rs_entry.specs.declared.outcome.Mode.TheVariants as mode
use Rattle.rs_region.specs.Reshapings.{merged_into}
use Rattle.rs_store.specs.declared.regions.Made.{Made}
use Rattle.rs_store.specs.Stores.{Applied, is_unmerged, opening}
use Rattle.rs_part.specs.Agreed.{Agreed, SameMade}
use Rattle.rs_part.specs.Effects.{Below}
use Rattle.rs_part.specs.Held.{Held}
use Rattle.rs_part.specs.Items.{history_of}
use Rattle.rs_part.specs.Orders.{End, IsDone, follow}
use Rattle.rs_part.specs.Parts.{Part, part_of}
use Rattle.rs_part.specs.Scripts.{IsPart, Script}
use Rattle.rs_part.specs.Settled.{Settled}
use Rattle.rs_part.specs.Telling.{Begins, Tells}
use Rattle.rs_part.specs.Whole.{Answers, Invariant, replies_of}
use Rattle.rs_part.proofs.Opening.{lawful_orders_meet}
use Rattle.rs_part.proofs.Orders.{states_agree, stores_agree}
use Rattle.rs_part.proofs.Parts.{one_part}
use Rattle.rs_part.proofs.Regions.{same_region}
use Rattle.rs_part.proofs.Replies.{answers_one}
use Rattle.rs_part.proofs.Whole.{order_invariant}

-- what is merged in one state is merged so in one that has come no less far
merged_too : (script : Script) (store : Store) (g h : Applied) → Settled script store g → Settled script store h → Below g h → (x : ℕ) (s n : Made) (t : ℕ)
    → g.region x ≡ Some s → s.state.mode ≡ mode.Merged t → h.region x ≡ Some n → n.state.mode ≡ mode.Merged t
merged_too script store g h settled_g settled_h below x s n t here gone there =
    let m = settled_g.merger x s t here gone in
    let b = below t m.r m.here in
    let le : m.r.applied ≤ b.0.applied = b.2 in
    let lower : m.k + 1 ≤ m.r.applied = m.below in
    let w = settled_h.merged t b.0 m.k x s.applied b.1 (omega arith) m.commits in
    ap (λ z. z.state.mode) (same_region (h.region x) (h.region x) n w.0 there refl w.1) ∙ w.3

-- two states, each of which has come no less far than the other
module _ (script : Script) (store : Store) (h k : Applied) (inv_h : Invariant script store h) (inv_k : Invariant script store k) (to : Below h k) (from : Below k h) where
  applied_same : (x : ℕ) (r s : Made) → h.region x ≡ Some r → k.region x ≡ Some s → r.applied ≡ s.applied
  applied_same x r s p q =
      let a = to x r p in
      let b = from x s q in
      let u : r.applied ≤ a.0.applied = a.2 in
      let v : s.applied ≤ b.0.applied = b.2 in
      let m : a.0.applied ≡ s.applied = ap (λ z. z.applied) (same_region (k.region x) (k.region x) a.0 s a.1 refl q) in
      let n : b.0.applied ≡ r.applied = ap (λ z. z.applied) (same_region (h.region x) (h.region x) b.0 r b.1 refl p) in
      omega arith

  unmerged_too : (x : ℕ) (r s : Made) → h.region x ≡ Some r → k.region x ≡ Some s → is_unmerged r.state.mode ≡ true → is_unmerged s.state.mode ≡ true
  unmerged_too x r s p q unmerged = go s.state.mode refl
    where
      go : (m : Mode) → s.state.mode ≡ m → is_unmerged s.state.mode ≡ true
      go mode.Normal m = ap is_unmerged m
      go (mode.Merging t c) m = ap is_unmerged m
      go mode.Removed m = ap is_unmerged m
      go (mode.Merged t) m = absurd (both_ways (is_unmerged r.state.mode) (ap is_unmerged (merged_too script store k h inv_k.settled inv_h.settled from x s r t q m p)) unmerged)

  merged_same : (x : ℕ) (r s : Made) (t : ℕ) → h.region x ≡ Some r → k.region x ≡ Some s → r.state.mode ≡ mode.Merged t → r.state ≡ s.state
  merged_same x r s t p q gone =
      let a = inv_h.settled.ended x r t p gone in
      let b = inv_k.settled.ended x s t q (merged_too script store h k inv_h.settled inv_k.settled to x r s t p gone q) in
      let one : a.part ≡ b.part = one_part script x s.applied a.part b.part (subst (λ i. IsPart script x i a.part) (applied_same x r s p q) a.is_part) b.is_part in
      a.state ∙ (ap (λ z. merged_into z.state t) one ∙ sym b.state)

  states_same : (x : ℕ) (r s : Made) → h.region x ≡ Some r → k.region x ≡ Some s → r.state ≡ s.state
  states_same x r s p q = go r.state.mode refl
    where
      both : is_unmerged r.state.mode ≡ true → r.state ≡ s.state
      both u = states_agree script store h k inv_h.sound inv_k.sound x r s p q u (unmerged_too x r s p q u) (applied_same x r s p q)

      go : (m : Mode) → r.state.mode ≡ m → r.state ≡ s.state
      go mode.Normal m = both (ap is_unmerged m)
      go (mode.Merging t c) m = both (ap is_unmerged m)
      go mode.Removed m = both (ap is_unmerged m)
      go (mode.Merged t) m = merged_same x r s t p q m

  regions_same : (x : ℕ) → SameMade (h.region x) (k.region x)
  regions_same x = go (h.region x) refl (k.region x) refl
    where
      go : (a : Option Made) → h.region x ≡ a → (b : Option Made) → k.region x ≡ b → SameMade a b
      go None p None q = tt
      go None p (Some s) q = absurd (cc (p, (from x s q).1))
      go (Some r) p None q = absurd (cc (q, (to x r p).1))
      go (Some r) p (Some s) q = (states_same x r s p q, applied_same x r s p q)

  replies_same : (x : ℕ) → replies_of h.replies x ≡ replies_of k.replies x
  replies_same x = go (h.region x) refl (k.region x) refl
    where
      go : (a : Option Made) → h.region x ≡ a → (b : Option Made) → k.region x ≡ b → replies_of h.replies x ≡ replies_of k.replies x
      go None p None q = inv_h.whole.silent x p ∙ sym (inv_k.whole.silent x q)
      go None p (Some s) q = absurd (cc (p, (from x s q).1))
      go (Some r) p None q = absurd (cc (q, (to x r p).1))
      go (Some r) p (Some s) q =
          answers_one script x (s.applied - 5) (replies_of h.replies x) (replies_of k.replies x)
          (subst (λ n. Answers script x (n - 5) (replies_of h.replies x)) (applied_same x r s p q) (inv_h.whole.answered x r p)) (inv_k.whole.answered x s q)

  -- a key that a region holds has one history
  held_same : (key : List ℕ) → Held h key → history_of h.writes key ≡ history_of k.writes key
  held_same key w = by_region (to w.id w.r w.here)
    where
      by_region : (s : Made) × (k.region w.id ≡ Some s) × (w.r.applied ≤ s.applied) → history_of h.writes key ≡ history_of k.writes key
      by_region b =
          let one : part_of h w.r ≡ part_of k b.0 =
          stores_agree script store store h k inv_h.sound inv_k.sound w.id w.r b.0 w.here b.1 w.unmerged (unmerged_too w.id w.r b.0 w.here b.1 w.unmerged) (applied_same w.id w.r b.0 w.here b.1) in
          let has : holds b.0.state.range key ≡ true = ap (λ (z : Part). holds z.state.range key) (sym one) ∙ w.has in
          sym (ap (λ c. cond c (history_of h.writes key) []) w.has) ∙ (ap (λ (z : Part). z.items key) one ∙ ap (λ c. cond c (history_of k.writes key) []) has)

histories_same : (script : Script) (store : Store) (h k : Applied) → Invariant script store h → Invariant script store k → Below h k → Below k h
    → (key : List ℕ) → history_of h.writes key ≡ history_of k.writes key
histories_same script store h k inv_h inv_k to from key =
    elim (inv_h.whole.kept key) [
      | inr w ↦ held_same script store h k inv_h inv_k to from key w
      | inl n ↦ elim (inv_k.whole.kept key) [
        | inr w ↦ sym (held_same script store k h inv_k inv_h from to key w)
        | inl m ↦ n ∙ sym m
      ]
    ]

-- two orders that both end with no region ready agree on the regions, the replies and the histories
pub ends_agree : (script : Script) (store : Store) → Tells script store → Begins script store → (one other : List ℕ) (h k : Applied)
    → follow store 1 one (opening store) ≡ End h → IsDone store h → follow store 1 other (opening store) ≡ End k → IsDone store k → Agreed h k
ends_agree script store tells begins one other h k to_h done_h to_k done_k =
    let inv_h = order_invariant script store tells begins one h to_h in
    let inv_k = order_invariant script store tells begins other k to_k in
    let meet = lawful_orders_meet script store tells begins one other h k to_h done_h to_k done_k in
    record {
      regions = regions_same script store h k inv_h inv_k meet.0 meet.1;
      replies = replies_same script store h k inv_h inv_k meet.0 meet.1;
      histories = histories_same script store h k inv_h inv_k meet.0 meet.1;
    }
