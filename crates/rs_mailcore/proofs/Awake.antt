-- In an open mailbox with messages someone is about to look after them.
use Rattle.std.proofs.Common.{◌≡◌, ◌≢◌, ℕ, zero, suc, ◌+◌, ◌<◌, ◌⊎◌, List, [], ◌∷◌, map, length, sym, refl, subst, inl, inr, ⊎_elim, arith}
use mathlib.Core.Logic.{dite}
use mathlib.Core.Option.{some, some-injective, some-ne-none}
use native.Mathlib.Decide.{ℕ_discrete}
use lib.ListN.{get_elem?}
use Rattle.rs_mailcore.specs.declared.thread.Stance.{Stance}
use Rattle.rs_mailcore.specs.declared.thread.Thread.{Thread}
use Rattle.rs_mailcore.specs.Words.{IsWatching, announcements}
use Rattle.rs_mailcore.specs.Moment.{Moment}
use Rattle.rs_mailcore.specs.Lawful.{IsLawful, pushes, stance_of}
use Rattle.rs_mailcore.proofs.Orders.{home_is}
use Rattle.rs_mailcore.specs.Keeping.{IsAwake}

told_or : (l : List Thread) → (pushes l ≡ announcements (map stance_of l)) ⊎ ((i : ℕ) × (x : Thread) × (get_elem? l i ≡ some x) × (x.pushed ≢ x.stance.announced))
told_or [] = inl refl
told_or (x ∷ xs) = dite (ℕ_discrete x.pushed x.stance.announced)
    (λ e. ⊎_elim (λ (r : pushes xs ≡ announcements (map stance_of xs)). inl (omega arith)) (λ w. inr (suc w.0, w.1, w.2, w.3)) (told_or xs))
    (λ n. inr (0, x, refl, n))

thread_of : (l : List Thread) (i : ℕ) (s : Stance) → get_elem? (map stance_of l) i ≡ some s → (x : Thread) × (get_elem? l i ≡ some x) × (x.stance ≡ s)
thread_of [] i s e = absurd (some-ne-none s (sym e))
thread_of (x ∷ xs) zero s e = (x, refl, some-injective x.stance s e)
thread_of (x ∷ xs) (suc i) s e = thread_of xs i s e

module _ {M : Type 0} (m : Moment M) (l : IsLawful m) where
  waits : m.word ≡ 1 → 0 < length m.queue → (i : ℕ) × (x : Thread) × (get_elem? m.threads i ≡ some x) × (IsWatching x.stance.phase ⊎ (x.pushed ≡ x.stance.announced + 1))
  waits idle some_left = let h = l.tidy.rests_home (inr idle) in let n = home_is m.place m.handled h.0 h.1 in let sum = l.tidy.counted in let all = l.adds_up in ⊎_elim
      (λ (told : pushes m.threads ≡ announcements (map stance_of m.threads)). let o = l.tidy.watched idle h.0 h.1 (omega arith) in let t = thread_of m.threads o.0 o.1 o.2 in
      (o.0, t.0, t.1, inl (subst (λ (s : Stance). IsWatching s.phase) (sym t.2) o.3)))
      (λ w. (w.0, w.1, w.2, ⊎_elim (λ same. absurd (w.3 same)) (λ more. inr more.0) (l.in_step w.0 w.1 w.2)))
      (told_or m.threads)

  pub awake : IsAwake m
  awake still some_left = dite (ℕ_discrete m.word 0) (λ e. inl e) (λ n. dite (ℕ_discrete m.word 3) (λ e. inr (inl e))
      (λ k. inr (inr (waits (let le = l.tidy.known in omega arith) some_left))))
