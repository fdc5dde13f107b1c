-- Each step on the state word or on the count of announcements keeps the invariant.
use Rattle.std.proofs.Common.{◌≡◌, ◌≢◌, ℕ, ◌^◌, ◌<◌, ◌≤◌, List, set, sym, refl, ap, ◌∙◌, subst, ⊎_elim, arith}
use mathlib.Core.Option.{Option, none, some, some-injective, some-ne-none}
use lib.ListN.{get_elem?}
use Rattle.rs_mailcore.specs.declared.thread.Phase.{Phase}
use Rattle.rs_mailcore.specs.declared.thread.Phase.TheVariants.{Calm, Notifying, Holding, Releasing}
use Rattle.rs_mailcore.specs.declared.thread.Stance.{Stance}
use Rattle.rs_mailcore.specs.Words.{IsResting, IsHolding, IsReleasing, IsWatching, announcements, idle, dropped, held}
use Rattle.rs_mailcore.specs.Tidy.{Holds, IsTidy}
use Rattle.rs_mailcore.proofs.Lists.{at_set, set_there, set_else, announcements-set}

module _ (xs : List Stance) (i : ℕ) (x w : Stance) (at : get_elem? xs i ≡ some x) where
  -- where the thread holds nothing after the step, the holders are the other ones
  holder_was : ¬ IsHolding w.phase → (j : ℕ) → Holds (set xs i w) j → (j ≢ i) × Holds xs j
  holder_was not j h = ⊎_elim (λ t. absurd (not (subst (λ (s : Stance). IsHolding s.phase) (sym t.1) h.2))) (λ t. (t.0, (h.0, t.1, h.2))) (at_set xs i j w h.0 h.1)

  holder_stays : (j : ℕ) → j ≢ i → Holds xs j → Holds (set xs i w) j
  holder_stays j ne h = (h.0, set_else xs i j w ne ∙ h.1, h.2)

  not_here : ¬ IsHolding x.phase → (j : ℕ) → Holds xs j → j ≢ i
  not_here not j h e = let same : x ≡ h.0 = some-injective x h.0 (sym at ∙ (ap (get_elem? xs) (sym e) ∙ h.1)) in not (subst (λ (s : Stance). IsHolding s.phase) (sym same) h.2)

  here : IsHolding w.phase → Holds (set xs i w) i
  here is = (w, set_there xs i x w at, is)

  bounded_after : ((j : ℕ) (y : Stance) → get_elem? xs j ≡ some y → y.announced ≤ 2 ^ 50) → w.announced ≤ 2 ^ 50 → (j : ℕ) (y : Stance) → get_elem? (set xs i w) j ≡ some y → y.announced ≤ 2 ^ 50
  bounded_after old new j y e = ⊎_elim (λ t. subst (λ (s : Stance). s.announced ≤ 2 ^ 50) t.1 new) (λ t. old j y t.1) (at_set xs i j w y e)

  not_resting : IsResting 3 → ⊥
  not_resting r = ⊎_elim (λ (e : 3 ≡ 0). omega arith) (λ (e : 3 ≡ 1). omega arith) r

  not_one : held ≡ idle → ⊥
  not_one e = omega arith

  resting_open : (word : ℕ) → IsResting word → word ≢ 2
  resting_open word r e = ⊎_elim (λ (f : word ≡ 0). omega arith) (λ (f : word ≡ 1). omega arith) r

  two_phases : (p : Phase) → IsHolding p → ¬ IsReleasing p
  two_phases Calm h r = h
  two_phases Notifying h r = h
  two_phases Holding h r = r
  two_phases Releasing h r = h

  -- where none held the machine before the step, the thread of the step is the only holder after it
  only_here : (word announced : ℕ) (home : Option ℕ) → IsTidy word announced home xs → IsResting word → (j : ℕ) → Holds (set xs i w) j → j ≡ i
  only_here word announced home t rests j h = ⊎_elim (λ s. s.0) (λ s. absurd (t.rests_free rests j (h.0, s.1, h.2))) (at_set xs i j w h.0 h.1)

  holder_is : (word announced : ℕ) (home : Option ℕ) → IsTidy word announced home xs → IsResting word → (j : ℕ) (z : Stance) → get_elem? (set xs i w) j ≡ some z → IsHolding z.phase → w ≡ z
  holder_is word announced home t rests j z f h = ⊎_elim (λ s. s.1) (λ s. absurd (t.rests_free rests j (z, s.1, h))) (at_set xs i j w z f)

  not_two : held ≢ dropped
  not_two e = omega arith

  two_three : dropped ≡ held → ⊥
  two_three e = omega arith

  two_one : dropped ≡ idle → ⊥
  two_one e = omega arith

  dropped_out : IsResting 2 → ⊥
  dropped_out r = ⊎_elim (λ (e : 2 ≡ 0). omega arith) (λ (e : 2 ≡ 1). omega arith) r

  is_watching : (p : Phase) → IsReleasing p → IsWatching p
  is_watching Calm r = absurd r
  is_watching Notifying r = tt
  is_watching Holding r = absurd r
  is_watching Releasing r = tt

  -- where the holder lets go, none holds the machine
  none_after : (word announced : ℕ) (home : Option ℕ) → IsTidy word announced home xs → IsHolding x.phase → ¬ IsHolding w.phase → (j : ℕ) → ¬ Holds (set xs i w) j
  none_after word announced home t was is j h = let old = holder_was is j h in old.0 (t.alone j i old.1 (x, at, was))

  -- A step by which nobody takes the machine or puts it home
  pub restances : (word word' announced announced' : ℕ) (home : Option ℕ) → IsTidy word announced home xs
      → ¬ IsHolding x.phase → ¬ IsHolding w.phase → word' ≤ 3 → (IsResting word → IsResting word') → (IsResting word' → IsResting word) → (word' ≡ 3 → word ≡ 3) → (word' ≢ 2 → word ≢ 2)
      → announced' ≡ announcements (set xs i w) → w.announced ≤ 2 ^ 50
      → (IsReleasing w.phase → IsReleasing x.phase × (w.remembered ≡ x.remembered))
      → (word' ≡ 1 → (n : ℕ) → home ≡ some n → n < announced' → (j : ℕ) × (y : Stance) × (get_elem? (set xs i w) j ≡ some y) × IsWatching y.phase)
      → IsTidy word' announced' home (set xs i w)
  restances word word' announced announced' home t was is known on back out still sum small releasing watched = record {
    known = known;
    home_rests = λ n e. on (t.home_rests n e);
    rests_home = λ r. t.rests_home (back r);
    held_out = λ e. let h = t.held_out (out e) in (h.0, holder_stays h.0 (not_here was h.0 h.1) h.1);
    rests_free = λ r j h. t.rests_free (back r) j (holder_was is j h).1;
    alone = λ j k h l. t.alone j k (holder_was is j h).1 (holder_was is k l).1;
    counted = sum;
    bounded = bounded_after t.bounded small;
    behind_home = λ ne j y e r n at_home. ⊎_elim
        (λ s. let rel : IsReleasing w.phase = subst (λ (v : Stance). IsReleasing v.phase) (sym s.1) r in let o = releasing rel in
        subst (λ (v : ℕ). v ≤ n) (sym o.1 ∙ ap (λ (v : Stance). v.remembered) s.1) (t.behind_home (still ne) i x at o.0 n at_home))
        (λ s. t.behind_home (still ne) j y s.1 r n at_home) (at_set xs i j w y e);
    behind_holder = λ ne j y e r k z f h. let old = holder_was is k (z, f, h) in
        let f' : get_elem? xs k ≡ some z = sym (set_else xs i k w old.0) ∙ f in ⊎_elim
        (λ s. let rel : IsReleasing w.phase = subst (λ (v : Stance). IsReleasing v.phase) (sym s.1) r in let o = releasing rel in
        subst (λ (v : ℕ). v ≤ z.remembered) (sym o.1 ∙ ap (λ (v : Stance). v.remembered) s.1) (t.behind_holder (still ne) i x at o.0 k z f' h))
        (λ s. t.behind_holder (still ne) j y s.1 r k z f' h) (at_set xs i j w y e);
    watched = watched;
  }

  -- A step by which a thread takes the machine out
  pub takes_out : (word announced n : ℕ) (home : Option ℕ) → IsTidy word announced home xs → IsResting word → home ≡ some n
      → IsHolding w.phase → (w.announced ≡ x.announced) → (w.remembered ≡ n) → IsTidy 3 announced none (set xs i w)
  takes_out word announced n home t rests at_home is same found = let only = only_here word announced home t rests in record {
    known = omega arith;
    home_rests = λ k e. absurd (some-ne-none k (sym e));
    rests_home = λ r. absurd (not_resting r);
    held_out = λ e. (i, here is);
    rests_free = λ r. absurd (not_resting r);
    alone = λ j k h l. only j h ∙ sym (only k l);
    counted = let sum = announcements-set xs i x w at in let old = t.counted in omega (arith, same);
    bounded = bounded_after t.bounded (subst (λ (v : ℕ). v ≤ 2 ^ 50) (sym same) (t.bounded i x at));
    behind_home = λ ne j y e r k at_none. absurd (some-ne-none k (sym at_none));
    behind_holder = λ ne j y e r k z f h. ⊎_elim (λ s. absurd (two_phases w.phase is (subst (λ (v : Stance). IsReleasing v.phase) (sym s.1) r)))
        (λ s. let z_is : w ≡ z = holder_is word announced home t rests k z f h in
        subst (λ (v : ℕ). y.remembered ≤ v) (sym found ∙ ap (λ (v : Stance). v.remembered) z_is) (t.behind_home (resting_open word rests) j y s.1 r n at_home)) (at_set xs i j w y e);
    watched = λ e. absurd (not_one e);
  }

  -- A step by which the holder puts the machine home
  pub puts_home : (word' announced n : ℕ) (home : Option ℕ) → IsTidy 3 announced home xs → IsHolding x.phase → ¬ IsHolding w.phase → IsResting word'
      → (w.announced ≡ x.announced) → x.remembered ≤ n → (IsReleasing w.phase → w.remembered ≡ n) → (word' ≡ 1 → n < announced → IsReleasing w.phase) → IsTidy word' announced (some n) (set xs i w)
  puts_home word' announced n home t was is rests same fits remembers releases = let none_left = none_after 3 announced home t was is in record {
    known = ⊎_elim (λ (e : word' ≡ 0). omega arith) (λ (e : word' ≡ 1). omega arith) rests;
    home_rests = λ k e. rests;
    rests_home = λ r. (n, refl);
    held_out = λ e. absurd (⊎_elim (λ (f : word' ≡ 0). omega arith) (λ (f : word' ≡ 1). omega arith) rests);
    rests_free = λ r j h. none_left j h;
    alone = λ j k h l. absurd (none_left j h);
    counted = let sum = announcements-set xs i x w at in let old = t.counted in omega (arith, same);
    bounded = bounded_after t.bounded (subst (λ (v : ℕ). v ≤ 2 ^ 50) (sym same) (t.bounded i x at));
    behind_home = λ ne j y e r k at_home. let k_is : n ≡ k = some-injective n k at_home in ⊎_elim
        (λ s. let eq : w.remembered ≡ n = remembers (subst (λ (v : Stance). IsReleasing v.phase) (sym s.1) r) in let eq' : w.remembered ≡ y.remembered = ap (λ (v : Stance). v.remembered) s.1 in omega arith)
        (λ s. let le : y.remembered ≤ x.remembered = t.behind_holder not_two j y s.1 r i x at was in omega arith) (at_set xs i j w y e);
    behind_holder = λ ne j y e r k z f h. absurd (none_left k (z, f, h));
    watched = λ e k at_home less. (i, w, set_there xs i x w at, is_watching w.phase (releases e (subst (λ (v : ℕ). v < announced) (sym (some-injective n k at_home)) less)));
  }

  -- A step by which the machine that is at home is handed out for good
  pub closes : (word announced : ℕ) (home : Option ℕ) → IsTidy word announced home xs → IsResting word → ¬ IsHolding w.phase → (w.announced ≡ x.announced) → IsTidy 2 announced none (set xs i w)
  closes word announced home t rests is same = let none_left = λ (j : ℕ) (h : Holds (set xs i w) j). t.rests_free rests j (holder_was is j h).1 in record {
    known = omega arith;
    home_rests = λ k e. absurd (some-ne-none k (sym e));
    rests_home = λ r. absurd (dropped_out r);
    held_out = λ e. absurd (two_three e);
    rests_free = λ r. absurd (dropped_out r);
    alone = λ j k h l. absurd (none_left j h);
    counted = let sum = announcements-set xs i x w at in let old = t.counted in omega (arith, same);
    bounded = bounded_after t.bounded (subst (λ (v : ℕ). v ≤ 2 ^ 50) (sym same) (t.bounded i x at));
    behind_home = λ ne j y e r k at_none. absurd (ne refl);
    behind_holder = λ ne j y e r k z f h. absurd (ne refl);
    watched = λ e. absurd (two_one e);
  }

  -- A step by which the holder finds the word Drop and hands the machine out
  pub hands_out : (announced : ℕ) (home : Option ℕ) → IsTidy 2 announced home xs → IsHolding x.phase → ¬ IsHolding w.phase → (w.announced ≡ x.announced) → IsTidy 2 announced home (set xs i w)
  hands_out announced home t was is same = let none_left = none_after 2 announced home t was is in record {
    known = t.known;
    home_rests = t.home_rests;
    rests_home = t.rests_home;
    held_out = λ e. absurd (two_three e);
    rests_free = λ r j h. none_left j h;
    alone = λ j k h l. absurd (none_left j h);
    counted = let sum = announcements-set xs i x w at in let old = t.counted in omega (arith, same);
    bounded = bounded_after t.bounded (subst (λ (v : ℕ). v ≤ 2 ^ 50) (sym same) (t.bounded i x at));
    behind_home = λ ne j y e r k at_none. absurd (ne refl);
    behind_holder = λ ne j y e r k z f h. absurd (ne refl);
    watched = λ e. absurd (two_one e);
  }
