-- An idle mailbox of calm threads that have done nothing is lawful and in sender order.
use Rattle.std.proofs.Common.{◌≡◌, ℕ, zero, suc, ◌+◌, ◌^◌, ◌≤◌, ◌⊎◌, List, [], map, length, replicate, sym, refl, subst, inl, inr, arith}
use mathlib.Core.Option.{some, some-injective, some-ne-none}
use lib.ListN.{get_elem?}
use Rattle.rs_mailcore.specs.declared.thread.Phase.TheVariants.{Calm}
use Rattle.rs_mailcore.specs.declared.thread.Stance.{Stance}
use Rattle.rs_mailcore.specs.declared.thread.Thread.{Thread}
use Rattle.rs_mailcore.specs.declared.letter.Letter.{Letter}
use Rattle.rs_mailcore.specs.declared.letter.Place.TheVariants.{Home}
use Rattle.rs_mailcore.specs.Words.{IsHolding, IsReleasing, stance, announcements}
use Rattle.rs_mailcore.specs.Tidy.{Holds, IsTidy}
use Rattle.rs_mailcore.specs.Lawful.{pushes, stance_of}
use Rattle.rs_mailcore.specs.Keeping.{newcomer, opening, IsSound}

abbrev calm : Stance
calm = stance Calm 0 0

same_thread : (n i : ℕ) (x : Thread) → get_elem? (replicate n newcomer) i ≡ some x → newcomer ≡ x
same_thread zero i x e = absurd (some-ne-none x (sym e))
same_thread (suc n) zero x e = some-injective newcomer x e
same_thread (suc n) (suc i) x e = same_thread n i x e

same_stance : (n i : ℕ) (x : Stance) → get_elem? (map stance_of (replicate n newcomer)) i ≡ some x → calm ≡ x
same_stance zero i x e = absurd (some-ne-none x (sym e))
same_stance (suc n) zero x e = some-injective calm x e
same_stance (suc n) (suc i) x e = same_stance n i x e

none_announced : (n : ℕ) → announcements (map stance_of (replicate n newcomer)) ≡ 0
none_announced zero = refl
none_announced (suc n) = let r = none_announced n in omega arith

none_pushed : (n : ℕ) → pushes (replicate n newcomer) ≡ 0
none_pushed zero = refl
none_pushed (suc n) = let r = none_pushed n in omega arith

length_is : (n : ℕ) → length (replicate n newcomer) ≡ n
length_is zero = refl
length_is (suc n) = let r = length_is n in omega arith

not_holding : (n i : ℕ) → ¬ Holds (map stance_of (replicate n newcomer)) i
not_holding n i h = subst (λ (s : Stance). IsHolding s.phase) (sym (same_stance n i h.0 h.1)) h.2

tidy : (n : ℕ) → IsTidy 1 0 (some 0) (map stance_of (replicate n newcomer))
tidy n = record {
  known = omega arith;
  home_rests = λ k e. inr refl;
  rests_home = λ r. (0, refl);
  held_out = λ e. absurd (omega arith);
  rests_free = λ r j h. not_holding n j h;
  alone = λ i j h k. absurd (not_holding n i h);
  counted = sym (none_announced n);
  bounded = λ i x e. subst (λ (s : Stance). s.announced ≤ 2 ^ 50) (same_stance n i x e) (omega arith);
  behind_home = λ ne i x e r. absurd (subst (λ (s : Stance). IsReleasing s.phase) (sym (same_stance n i x e)) r);
  behind_holder = λ ne i x e r. absurd (subst (λ (s : Stance). IsReleasing s.phase) (sym (same_stance n i x e)) r);
  watched = λ e k at_home less. absurd (omega arith);
}

module _ {M : Type 0} where
  pub opens : (n : ℕ) → n ≤ 4096 → IsSound (opening {M = M} n)
  opens n few = (
    record {
      tidy = tidy n;
      few = subst (λ k. k ≤ 4096) (sym (length_is n)) few;
      has = λ i x e h. absurd (subst (λ (t : Thread). IsHolding t.stance.phase) (sym (same_thread n i x e)) h);
      in_step = λ i x e. subst (λ (t : Thread). (t.pushed ≡ t.stance.announced) ⊎ ((t.pushed ≡ t.stance.announced + 1) × (t.stance.phase ≡ Calm))) (same_thread n i x e) (inl refl);
      found_before = λ i x e h. absurd (subst (λ (t : Thread). IsHolding t.stance.phase) (sym (same_thread n i x e)) h);
      adds_up = sym (none_pushed n);
    },
    ((λ s x e. (0, refl, subst (λ (t : Thread). t.taken + 0 ≡ t.pushed) (same_thread n s x e) refl)), λ i d less. absurd (omega arith)),
  )

  pub opened : (n : ℕ) → n ≤ 4096 → (threads : List Thread) → threads ≡ replicate n newcomer → (queue : List (Letter M)) → queue ≡ []
      → IsSound (record { word = 1; announced = 0; place = Home; handled = 0; queue = queue; threads = threads })
  opened n few threads are queue nothing = subst (λ (p : List Thread × List (Letter M)). IsSound (record { word = 1; announced = 0; place = Home; handled = 0; queue = p.1; threads = p.0 })) (λ k. (sym are k, sym nothing k)) (opens n few)
