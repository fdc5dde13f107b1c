-- The pair that is told is the least of those that overlap.
use Rattle.std.proofs.Common.{◌≡◌, ℕ, ◌==◌, ◌⊎◌, ltb, Bool, true, false, ◌&&◌, ◌||◌, List, [], ◌∷◌, Some, None, refl, sym, ap, ◌∙◌, subst, arith, inl, inr}
use Rattle.std.specs.Prelude.{if◌then◌else◌}
use Rattle.std.proofs.lemmas.Bool.{and_parts, cases_eq, eq-eqb, eqb-true, ltb-false, ltb-true}
use Rattle.rs_key.specs.Ranges.{Bounds, holds}
use Rattle.rs_entry.specs.declared.input.Boot.{Boot}
use Rattle.rs_part.specs.Counting.{IsAmong}
use Rattle.rs_check.specs.Laws.{is_lesser, least, lesser, or_least, overlaps, share_a_key}
use Rattle.rs_check.specs.Overlaps.{IsNotAbove, OverlapLaws}
use Rattle.rs_check.proofs.Sharing.{apart_of}

-- ---- the order of pairs

same_pair : (p : Boot × Boot) → IsNotAbove p p
same_pair p = inr (refl, omega arith)

through : (p q r : Boot × Boot) → IsNotAbove p q → IsNotAbove q r → IsNotAbove p r
through p q r (inl a) (inl b) = inl (omega (arith, a, b))
through p q r (inl a) (inr b) = inl (let e = b.0 in omega (arith, a, e))
through p q r (inr a) (inl b) = inl (let e = a.0 in omega (arith, b, e))
through p q r (inr a) (inr b) = inr (a.0 ∙ b.0, let x = a.1 in let y = b.1 in omega (arith, x, y))

lesser_first : (p q : Boot × Boot) → is_lesser p q ≡ true → IsNotAbove p q
lesser_first p q e = go (ltb p.0.region q.0.region) refl
  where
    go : (b : Bool) → ltb p.0.region q.0.region ≡ b → IsNotAbove p q
    go true b = inl (ltb-true p.0.region q.0.region b)
    go false b =
        let w = and_parts (p.0.region == q.0.region) (ltb p.1.region q.1.region) (sym (ap (λ z. z || ((p.0.region == q.0.region) && ltb p.1.region q.1.region)) b) ∙ e) in
        let lt = ltb-true p.1.region q.1.region w.1 in
        inr (eqb-true p.0.region q.0.region w.0, omega (arith, lt))

not_lesser : (p q : Boot × Boot) → is_lesser q p ≡ false → IsNotAbove p q
not_lesser p q e = go (ltb q.0.region p.0.region) refl
  where
    second : (d : Bool) → ltb q.1.region p.1.region ≡ d → q.0.region ≡ p.0.region → ltb q.0.region p.0.region ≡ false → IsNotAbove p q
    second false d same b = inr (sym same, ltb-false q.1.region p.1.region d)
    second true d same b =
        let lesser : is_lesser q p ≡ true = rw (b, eq-eqb q.0.region p.0.region same, d) refl in
        absurd (cc (sym e ∙ lesser))

    go : (b : Bool) → ltb q.0.region p.0.region ≡ b → IsNotAbove p q
    go true b =
        let lesser : is_lesser q p ≡ true = rw b refl in
        absurd (cc (sym e ∙ lesser))
    go false b =
        let le = ltb-false q.0.region p.0.region b in
        elim (cases_eq q.0.region p.0.region) [
          | inl same ↦ second (ltb q.1.region p.1.region) refl same b
          | inr ne ↦ inl (omega (arith, le, ne))
        ]

-- ---- the least pair

record Least (best : Boot × Boot) (ps : List (Boot × Boot)) (p : Boot × Boot) : Type 0 where
  pub is : (p ≡ best) ⊎ IsAmong p ps
  pub first : IsNotAbove p best
  pub each : (q : Boot × Boot) → IsAmong q ps → IsNotAbove p q

least_is : (ps : List (Boot × Boot)) (best p : Boot × Boot) → least (Some best) ps ≡ Some p → Least best ps p
least_is [] best p e =
    let one : best ≡ p = cc e in
    record { is = inl (sym one); first = subst (λ z. IsNotAbove z best) one (same_pair best); each = λ q i. absurd i }
least_is (x ∷ ps) best p e = go (is_lesser x best) refl (least_is ps)
  where
    go : (b : Bool) → is_lesser x best ≡ b → ((first r : Boot × Boot) → least (Some first) ps ≡ Some r → Least first ps r) → Least best (x ∷ ps) p
    go true b rest =
        let w = rest x p (sym (ap (λ z. least (Some (if z then x else best)) ps) b) ∙ e) in
        record {
          is = inr w.is;
          first = through p x best w.first (lesser_first x best b);
          each = λ q i. by_place q i w.first w.each;
        }
      where
        by_place : (q : Boot × Boot) → IsAmong q (x ∷ ps) → IsNotAbove p x → ((r : Boot × Boot) → IsAmong r ps → IsNotAbove p r) → IsNotAbove p q
        by_place q (inl same) first each = subst (IsNotAbove p) (sym same) first
        by_place q (inr i) first each = each q i
    go false b rest =
        let w = rest best p (sym (ap (λ z. least (Some (if z then x else best)) ps) b) ∙ e) in
        record {
          is = is_of w.is;
          first = w.first;
          each = λ q i. by_place q i (through p best x w.first (not_lesser best x b)) w.each;
        }
      where
        is_of : (p ≡ best) ⊎ IsAmong p ps → (p ≡ best) ⊎ IsAmong p (x ∷ ps)
        is_of (inl same) = inl same
        is_of (inr i) = inr (inr i)

        by_place : (q : Boot × Boot) → IsAmong q (x ∷ ps) → IsNotAbove p x → ((r : Boot × Boot) → IsAmong r ps → IsNotAbove p r) → IsNotAbove p q
        by_place q (inl same) first each = subst (IsNotAbove p) (sym same) first
        by_place q (inr i) first each = each q i

first_is : (ps : List (Boot × Boot)) (p : Boot × Boot) → least None ps ≡ Some p → IsAmong p ps × ((q : Boot × Boot) → IsAmong q ps → IsNotAbove p q)
first_is [] p e = absurd cc
first_is (x ∷ ps) p e = (let w = least_is ps x p e in (w.is, λ q i. by_place q i w.first w.each))
  where
    by_place : (q : Boot × Boot) → IsAmong q (x ∷ ps) → IsNotAbove p x → ((r : Boot × Boot) → IsAmong r ps → IsNotAbove p r) → IsNotAbove p q
    by_place q (inl same) first each = subst (IsNotAbove p) (sym same) first
    by_place q (inr i) first each = each q i

-- ---- a key in both

shared_key : (a b : Bounds) → share_a_key a b ≡ true → (key : List ℕ) × (holds a key ≡ true) × (holds b key ≡ true)
shared_key a b e = go (holds a (or_least b.start) && holds b (or_least b.start)) refl
  where
    go : (t : Bool) → (holds a (or_least b.start) && holds b (or_least b.start)) ≡ t → (key : List ℕ) × (holds a key ≡ true) × (holds b key ≡ true)
    go true t = (let w = and_parts (holds a (or_least b.start)) (holds b (or_least b.start)) t in (or_least b.start, w.0, w.1))
    go false t =
        let w = and_parts (holds a (or_least a.start)) (holds b (or_least a.start)) (sym (ap (λ z. z || (holds a (or_least a.start) && holds b (or_least a.start))) t) ∙ e) in
        (or_least a.start, w.0, w.1)

pub overlap_laws : OverlapLaws
overlap_laws = record {
  shared = shared_key;
  apart = apart_of;
  told = λ boots p e. (first_is (overlaps boots) p e).0;
  least = λ boots p q e i. (first_is (overlaps boots) p e).1 q i;
}
