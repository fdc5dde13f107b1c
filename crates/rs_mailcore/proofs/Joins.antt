-- A thread that comes, with nothing announced, keeps the invariant.
use Rattle.std.proofs.Common.{◌≡◌, ℕ, zero, suc, ◌+◌, ◌^◌, ◌≤◌, ◌⊎◌, List, [], ◌∷◌, ◌++◌, sym, ap, ◌∙◌, subst, inl, inr, ⊎_elim, arith}
use mathlib.Core.Option.{Option, some, some-injective, some-ne-none}
use lib.ListN.{get_elem?}
use Rattle.rs_mailcore.specs.declared.thread.Phase.TheVariants.{Calm}
use Rattle.rs_mailcore.specs.declared.thread.Stance.{Stance}
use Rattle.rs_mailcore.specs.Words.{IsHolding, IsReleasing, stance, announcements}
use Rattle.rs_mailcore.specs.Tidy.{Holds, IsTidy}

abbrev calm : Stance
calm = stance Calm 0 0

at_snoc : (l : List Stance) (a b : Stance) (j : ℕ) → get_elem? (l ++ a ∷ []) j ≡ some b → (get_elem? l j ≡ some b) ⊎ (a ≡ b)
at_snoc [] a b zero e = inr (some-injective a b e)
at_snoc [] a b (suc j) e = absurd (some-ne-none b (sym e))
at_snoc (x ∷ xs) a b zero e = inl e
at_snoc (x ∷ xs) a b (suc j) e = at_snoc xs a b j e

at_longer : (l m : List Stance) (i : ℕ) (a : Stance) → get_elem? l i ≡ some a → get_elem? (l ++ m) i ≡ some a
at_longer [] m i a e = absurd (some-ne-none a (sym e))
at_longer (x ∷ xs) m zero a e = e
at_longer (x ∷ xs) m (suc i) a e = at_longer xs m i a e

announcements-snoc : (l : List Stance) → announcements (l ++ calm ∷ []) ≡ announcements l
announcements-snoc [] = omega arith
announcements-snoc (x ∷ xs) = ap (λ (n : ℕ). x.announced + n) (announcements-snoc xs)

holder_was : (xs : List Stance) (j : ℕ) → Holds (xs ++ calm ∷ []) j → Holds xs j
holder_was xs j h = ⊎_elim (λ t. (h.0, t, h.2)) (λ t. absurd (subst (λ (s : Stance). IsHolding s.phase) (sym t) h.2)) (at_snoc xs calm h.0 j h.1)

pub joins : (xs : List Stance) (word announced : ℕ) (home : Option ℕ) → IsTidy word announced home xs → IsTidy word announced home (xs ++ calm ∷ [])
joins xs word announced home t = record {
  known = t.known;
  home_rests = t.home_rests;
  rests_home = t.rests_home;
  held_out = λ e. let h = t.held_out e in (h.0, (h.1.0, at_longer xs (calm ∷ []) h.0 h.1.0 h.1.1, h.1.2));
  rests_free = λ r j h. t.rests_free r j (holder_was xs j h);
  alone = λ i j h k. t.alone i j (holder_was xs i h) (holder_was xs j k);
  counted = t.counted ∙ sym (announcements-snoc xs);
  bounded = λ i x e. ⊎_elim (λ a. t.bounded i x a) (λ a. subst (λ (s : Stance). s.announced ≤ 2 ^ 50) a (omega arith)) (at_snoc xs calm x i e);
  behind_home = λ ne i x e r. ⊎_elim (λ a. t.behind_home ne i x a r) (λ a. absurd (subst (λ (s : Stance). IsReleasing s.phase) (sym a) r)) (at_snoc xs calm x i e);
  behind_holder = λ ne i x e r j y f h. ⊎_elim (λ a. ⊎_elim (λ b. t.behind_holder ne i x a r j y b h) (λ b. absurd (subst (λ (s : Stance). IsHolding s.phase) (sym b) h)) (at_snoc xs calm y j f))
      (λ a. absurd (subst (λ (s : Stance). IsReleasing s.phase) (sym a) r)) (at_snoc xs calm x i e);
  watched = λ e n at_home less. let o = t.watched e n at_home less in (o.0, o.1, at_longer xs (calm ∷ []) o.0 o.1 o.2, o.3);
}
