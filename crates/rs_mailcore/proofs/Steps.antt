-- Each step of a mailbox keeps what holds of it.
use Rattle.std.proofs.Common.{◌≡◌, ◌≢◌, ℕ, zero, suc, ◌+◌, ◌≤◌, ◌⊎◌, true, false, eqb, leb, List, [], ◌∷◌, map, length, length-set, set, sym, refl, ap, ◌∙◌, subst, inl, inr, ⊎_elim, eq-eqb, ne_eqb, arith}
use Rattle.std.proofs.lemmas.List.{length-append}
use mathlib.Core.Logic.{dite}
use mathlib.Core.Option as opt
use mathlib.Core.Option.{none, some, some-injective, some-ne-none}
use native.Mathlib.Decide.{dec_le, ℕ_discrete}
use Rattle.std.proofs.lemmas.Bool.Decides.{nat_tests}
use lib.ListN.{get_elem?}
use lib.Seq.{map-set}
use Rattle.rs_mailcore.specs.declared.thread.Phase.{Phase}
use Rattle.rs_mailcore.specs.declared.thread.Phase.TheVariants.{Calm, Notifying, Holding, Releasing}
use Rattle.rs_mailcore.specs.declared.thread.Stance.{Stance}
use Rattle.rs_mailcore.specs.declared.letter.Place.{Place}
use Rattle.rs_mailcore.specs.declared.letter.Place.TheVariants.{Home, With, Given}
use Rattle.rs_mailcore.specs.declared.letter.Letter.{Letter}
use Rattle.rs_mailcore.specs.declared.thread.Thread.{Thread}
use Rattle.rs_mailcore.specs.declared.step.Step.TheVariants.{Announce, Notify, Take, Release, Recheck, Retake, Close, Look, Reschedule, Push, Pop}
use Rattle.rs_mailcore.specs.Words.{IsResting, IsHolding, IsReleasing, stance, announcements, notified, idle, dropped}
use Rattle.rs_mailcore.specs.Tidy.{IsTidy}
use Rattle.rs_mailcore.specs.Moment.{Moment, pick, restanced, raise_taken, given_from, popped, goes, after, Enabled}
use Rattle.rs_mailcore.specs.Lawful.{stance_of, home_count, pushes, IsLawful}
use Rattle.rs_mailcore.proofs.Lists.{at_set, set_there, announcements-set}
use Rattle.rs_mailcore.proofs.Keeps.{restances, takes_out, puts_home, closes, hands_out}

pub at_map : {A B : Type 0} (f : A → B) (l : List A) (i : ℕ) (a : A) → get_elem? l i ≡ some a → get_elem? (map f l) i ≡ some (f a)
at_map f [] i a e = absurd (some-ne-none a (sym e))
at_map f (x ∷ xs) zero a e = ap (λ (y : _). some (f y)) (some-injective x a e)
at_map f (x ∷ xs) (suc i) a e = at_map f xs i a e

pushes-set : (l : List Thread) (i : ℕ) (x w : Thread) → get_elem? l i ≡ some x → pushes (set l i w) + x.pushed ≡ pushes l + w.pushed
pushes-set [] i x w e = absurd (some-ne-none x (sym e))
pushes-set (y ∷ ys) zero x w e = let is : y.pushed ≡ x.pushed = ap (λ (m : Thread). m.pushed) (some-injective y x e) in omega arith
pushes-set (y ∷ ys) (suc i) x w e = let r = pushes-set ys i x w e in omega arith

set_again : {A : Type 0} (l : List A) (i : ℕ) (a : A) → get_elem? l i ≡ some a → set l i a ≡ l
set_again [] i a e = refl
set_again (x ∷ xs) zero a e = λ k. sym (some-injective x a e) k ∷ xs
set_again (x ∷ xs) (suc i) a e = λ k. x ∷ set_again xs i a e k

abbrev is_calm : Phase → Type 0
is_calm Calm = Unit {0}
is_calm Notifying = ⊥
is_calm Holding = ⊥
is_calm Releasing = ⊥

releasing_not_calm : Releasing ≡ Calm → ⊥
releasing_not_calm e = subst is_calm (sym e) tt

holding_not_calm : Holding ≡ Calm → ⊥
holding_not_calm e = subst is_calm (sym e) tt

pub leb_yes : (a b : ℕ) → a ≤ b → leb a b ≡ true
leb_yes a b h = grind (arith, nat_tests)

pub leb_no : (a b : ℕ) → ¬ (a ≤ b) → leb a b ≡ false
leb_no a b h = grind (arith, nat_tests)

out_is_dropped : (word : ℕ) → word ≤ 3 → word ≢ 3 → ¬ IsResting word → word ≡ 2
out_is_dropped word le miss not = let a : word ≢ 0 = λ e. not (inl e) in let b : word ≢ 1 = λ e. not (inr e) in omega arith

dropped_out : IsResting dropped → ⊥
dropped_out r = ⊎_elim (λ (e : dropped ≡ notified). omega arith) (λ (e : dropped ≡ idle). omega arith) r

rests? : (word : ℕ) → Dec (IsResting word)
rests? word = dite (ℕ_discrete word 0) (λ e. yes (inl e)) (λ n. dite (ℕ_discrete word 1) (λ e. yes (inr e)) (λ m. no (λ r. ⊎_elim n m r)))

raised_stances : (l : List Thread) (s : ℕ) → map stance_of (raise_taken l s) ≡ map stance_of l
raised_stances [] s = refl
raised_stances (x ∷ xs) zero = refl
raised_stances (x ∷ xs) (suc s) = ap (λ r. x.stance ∷ r) (raised_stances xs s)

pub raised_length : (l : List Thread) (s : ℕ) → length (raise_taken l s) ≡ length l
raised_length [] s = refl
raised_length (x ∷ xs) zero = refl
raised_length (x ∷ xs) (suc s) = let r = raised_length xs s in omega arith

raised_pushes : (l : List Thread) (s : ℕ) → pushes (raise_taken l s) ≡ pushes l
raised_pushes [] s = refl
raised_pushes (x ∷ xs) zero = refl
raised_pushes (x ∷ xs) (suc s) = let r = raised_pushes xs s in omega arith

-- raising a count of messages taken changes nothing else
pub raised_at : (l : List Thread) (s j : ℕ) (y : Thread) → get_elem? (raise_taken l s) j ≡ some y → (x : Thread) × (get_elem? l j ≡ some x) × (y.stance ≡ x.stance) × (y.pushed ≡ x.pushed)
raised_at [] s j y e = absurd (some-ne-none y (sym e))
raised_at (x ∷ xs) zero zero y e = let t = some-injective (record x { taken = x.taken + 1 }) y e in (x, refl, ap (λ (z : Thread). z.stance) (sym t), ap (λ (z : Thread). z.pushed) (sym t))
raised_at (x ∷ xs) zero (suc j) y e = (y, e, refl, refl)
raised_at (x ∷ xs) (suc s) zero y e = let t = some-injective x y e in (x, refl, ap (λ (z : Thread). z.stance) (sym t), ap (λ (z : Thread). z.pushed) (sym t))
raised_at (x ∷ xs) (suc s) (suc j) y e = raised_at xs s j y e

module _ {M : Type 0} (m : Moment M) (l : IsLawful m) (i : ℕ) (x : Thread) (at : get_elem? m.threads i ≡ some x) where
  abbrev xs : List Stance
  xs = map stance_of m.threads

  at_stance : get_elem? xs i ≡ some x.stance
  at_stance = at_map stance_of m.threads i x at

  -- a step that changes the thread's stance, the word, the place and the count of announcements
  goes_on : (word : ℕ) (place : Place) (announced : ℕ) (phase : Phase) (own remembered : ℕ)
      → IsTidy word announced (home_count place m.handled) (set xs i (stance phase own remembered))
      → (IsHolding phase → place ≡ With i) → ((j : ℕ) (y : Thread) → j ≢ i → get_elem? m.threads j ≡ some y → IsHolding y.stance.phase → place ≡ With j)
      → ((x.pushed ≡ own) ⊎ ((x.pushed ≡ own + 1) × (phase ≡ Calm))) → (IsHolding phase → remembered ≤ m.handled)
      → IsLawful (goes m i x word place announced phase own remembered)
  goes_on word place announced phase own remembered tidy mine others step found = let w : Thread = restanced x phase own remembered in record {
    tidy = subst (IsTidy word announced (home_count place m.handled)) (sym (map-set stance_of m.threads i w)) tidy;
    few = subst (λ n. n ≤ 4096) (sym (length-set m.threads i w)) l.few;
    has = λ j y e h. ⊎_elim (λ t. subst (λ (k : ℕ). place ≡ With k) (sym t.0) (mine (subst (λ (z : Thread). IsHolding z.stance.phase) (sym t.1) h))) (λ t. others j y t.0 t.1 h) (at_set m.threads i j w y e);
    in_step = λ j y e. ⊎_elim (λ t. subst (λ (z : Thread). (z.pushed ≡ z.stance.announced) ⊎ ((z.pushed ≡ z.stance.announced + 1) × (z.stance.phase ≡ Calm))) t.1 step) (λ t. l.in_step j y t.1) (at_set m.threads i j w y e);
    found_before = λ j y e h. ⊎_elim (λ t. subst (λ (z : Thread). z.stance.remembered ≤ m.handled) t.1 (found (subst (λ (z : Thread). IsHolding z.stance.phase) (sym t.1) h))) (λ t. l.found_before j y t.1 h) (at_set m.threads i j w y e);
    adds_up = let p = pushes-set m.threads i x w at in let a = l.adds_up in omega arith;
  }

  same_sum : (w : Stance) → w.announced ≡ x.stance.announced → m.announced ≡ announcements (set xs i w)
  same_sum w same = let s = announcements-set xs i x.stance w at_stance in let c = l.tidy.counted in omega arith

  free : (phase : Phase) → x.stance.phase ≡ phase → ¬ IsHolding phase → ¬ IsHolding x.stance.phase
  free phase is not h = not (subst IsHolding is h)

  -- the place stays, and so do the other threads
  others_stay : (j : ℕ) (y : Thread) → j ≢ i → get_elem? m.threads j ≡ some y → IsHolding y.stance.phase → m.place ≡ With j
  others_stay j y ne e h = l.has j y e h

  to_calm : (x.pushed ≡ x.stance.announced) ⊎ ((x.pushed ≡ x.stance.announced + 1) × (Calm ≡ Calm))
  to_calm = ⊎_elim (λ t. inl t) (λ t. inr (t.0, refl)) (l.in_step i x at)

  pub announce : Enabled {M = M} x Announce → IsLawful (after m i x Announce)
  announce on = let w : Stance = stance Notifying (x.stance.announced + 1) x.stance.remembered in
      goes_on m.word m.place (m.announced + 1) Notifying (x.stance.announced + 1) x.stance.remembered
      (restances xs i x.stance w at_stance m.word m.word m.announced (m.announced + 1) (home_count m.place m.handled) l.tidy (free Calm on.0 (λ h. h)) (λ h. h) l.tidy.known (λ r. r) (λ r. r) (λ e. e) (λ n. n)
      (let s = announcements-set xs i x.stance w at_stance in let c = l.tidy.counted in omega arith) (let few = on.2 in omega arith) (λ r. absurd r) (λ e n at_home less. (i, w, set_there xs i x.stance w at_stance, tt)))
      (λ h. absurd h) others_stay (inl on.1) (λ h. absurd h)

  pub notify : Enabled {M = M} x Notify → IsLawful (after m i x Notify)
  notify on = let w : Stance = stance Calm x.stance.announced x.stance.remembered in let small = l.tidy.bounded i x.stance at_stance in
      dite (ℕ_discrete m.word 1)
      (λ hit. subst (λ b. IsLawful (goes m i x (pick b 0 m.word) m.place m.announced Calm x.stance.announced x.stance.remembered)) (sym (eq-eqb m.word 1 hit))
      (goes_on 0 m.place m.announced Calm x.stance.announced x.stance.remembered
      (restances xs i x.stance w at_stance m.word 0 m.announced m.announced (home_count m.place m.handled) l.tidy (free Notifying on (λ h. h)) (λ h. h) (omega arith) (λ r. inl refl) (λ r. inr hit) (λ e. absurd (omega arith)) (λ n e. absurd (omega arith)) (same_sum w refl) small (λ r. absurd r) (λ e. absurd (omega arith)))
      (λ h. absurd h) others_stay to_calm (λ h. absurd h)))
      (λ miss. subst (λ b. IsLawful (goes m i x (pick b 0 m.word) m.place m.announced Calm x.stance.announced x.stance.remembered)) (sym (ne_eqb m.word 1 miss))
      (goes_on m.word m.place m.announced Calm x.stance.announced x.stance.remembered
      (restances xs i x.stance w at_stance m.word m.word m.announced m.announced (home_count m.place m.handled) l.tidy (free Notifying on (λ h. h)) (λ h. h) l.tidy.known (λ r. r) (λ r. r) (λ e. e) (λ n. n) (same_sum w refl) small (λ r. absurd r) (λ e. absurd (miss e)))
      (λ h. absurd h) others_stay to_calm (λ h. absurd h)))

  -- a thread that isn't calm has announced all that it pushed
  all_announced : (phase : Phase) → x.stance.phase ≡ phase → (phase ≡ Calm → ⊥) → x.pushed ≡ x.stance.announced
  all_announced phase is not = ⊎_elim (λ t. t) (λ t. absurd (not (sym is ∙ t.1))) (l.in_step i x at)

  at_home : (n : ℕ) (p : Place) (k : ℕ) → home_count p n ≡ some k → (home_count p n ≡ some n) × (p ≡ Home)
  at_home n Home k e = (refl, refl)
  at_home n (With j) k e = absurd (some-ne-none k (sym e))
  at_home n Given k e = absurd (some-ne-none k (sym e))

  -- the machine is at home, and thread i takes it
  takes : IsResting m.word → x.pushed ≡ x.stance.announced → IsLawful (goes m i x 3 (With i) m.announced Holding x.stance.announced m.handled)
  takes rests settled = let h = l.tidy.rests_home rests in let p = at_home m.handled m.place h.0 h.1 in goes_on 3 (With i) m.announced Holding x.stance.announced m.handled
      (takes_out xs i x.stance (stance Holding x.stance.announced m.handled) at_stance m.word m.announced m.handled (home_count m.place m.handled) l.tidy rests p.0 tt refl refl)
      (λ h. refl) (λ j y ne e g. absurd (l.tidy.rests_free rests j (y.stance, at_map stance_of m.threads j y e, g))) (inl settled) (λ h. omega arith)

  pub take : Enabled {M = M} x Take → IsLawful (after m i x Take)
  take on = dite (ℕ_discrete m.word 0)
      (λ hit. subst (λ b. IsLawful (pick b (goes m i x 3 (With i) m.announced Holding x.stance.announced m.handled) m)) (sym (eq-eqb m.word 0 hit)) (takes (inl hit) on.1))
      (λ miss. subst (λ b. IsLawful (pick b (goes m i x 3 (With i) m.announced Holding x.stance.announced m.handled) m)) (sym (ne_eqb m.word 0 miss)) l)

  pub retake : Enabled {M = M} x Retake → IsLawful (after m i x Retake)
  retake on = let w : Stance = stance Calm x.stance.announced x.stance.remembered in let no_more = goes m i x m.word m.place m.announced Calm x.stance.announced x.stance.remembered in
      dite (ℕ_discrete m.word 1)
      (λ hit. subst (λ b. IsLawful (pick b (goes m i x 3 (With i) m.announced Holding x.stance.announced m.handled) no_more)) (sym (eq-eqb m.word 1 hit)) (takes (inr hit) (all_announced Releasing on (λ e. releasing_not_calm e))))
      (λ miss. subst (λ b. IsLawful (pick b (goes m i x 3 (With i) m.announced Holding x.stance.announced m.handled) no_more)) (sym (ne_eqb m.word 1 miss))
      (goes_on m.word m.place m.announced Calm x.stance.announced x.stance.remembered
      (restances xs i x.stance w at_stance m.word m.word m.announced m.announced (home_count m.place m.handled) l.tidy (free Releasing on (λ h. h)) (λ h. h) l.tidy.known (λ r. r) (λ r. r) (λ e. e) (λ n. n) (same_sum w refl) (l.tidy.bounded i x.stance at_stance) (λ r. absurd r) (λ e. absurd (miss e)))
      (λ h. absurd h) others_stay to_calm (λ h. absurd h)))

  pub recheck : Enabled {M = M} x Recheck → IsLawful (after m i x Recheck)
  recheck on = let w : Stance = stance Calm x.stance.announced x.stance.remembered in let done = goes m i x m.word m.place m.announced Calm x.stance.announced x.stance.remembered in
      dite (dec_le m.announced x.stance.remembered)
      (λ low. subst (λ b. IsLawful (pick b done m)) (sym (leb_yes m.announced x.stance.remembered low))
      (goes_on m.word m.place m.announced Calm x.stance.announced x.stance.remembered
      (restances xs i x.stance w at_stance m.word m.word m.announced m.announced (home_count m.place m.handled) l.tidy (free Releasing on (λ h. h)) (λ h. h) l.tidy.known (λ r. r) (λ r. r) (λ e. e) (λ n. n) (same_sum w refl) (l.tidy.bounded i x.stance at_stance) (λ r. absurd r)
      (λ e n home less. let le = l.tidy.behind_home (λ two. omega arith) i x.stance at_stance (subst IsReleasing (sym on) tt) n home in absurd (omega arith)))
      (λ h. absurd h) others_stay to_calm (λ h. absurd h)))
      (λ high. subst (λ b. IsLawful (pick b done m)) (sym (leb_no m.announced x.stance.remembered high)) l)

  -- the thread that holds the machine lets it go
  module _ (is : x.stance.phase ≡ Holding) where
    holding : IsHolding x.stance.phase
    holding = subst IsHolding (sym is) tt

    no_other : (place : Place) (j : ℕ) (y : Thread) → j ≢ i → get_elem? m.threads j ≡ some y → IsHolding y.stance.phase → place ≡ With j
    no_other place j y ne e h = absurd (ne (l.tidy.alone j i (y.stance, at_map stance_of m.threads j y e, h) (x.stance, at_stance, holding)))

    lets_go : (next : ℕ) (phase : Phase) → IsResting next → ¬ IsHolding phase → (IsReleasing phase → m.handled ≡ m.handled) → (next ≡ 1 → IsReleasing phase)
        → IsLawful (pick (eqb m.word 3) (goes m i x next Home m.announced phase x.stance.announced m.handled) (goes m i x m.word Given m.announced Calm x.stance.announced m.handled))
    lets_go next phase rests not same releases = let home' = goes m i x next Home m.announced phase x.stance.announced m.handled in let out = goes m i x m.word Given m.announced Calm x.stance.announced m.handled in
        let settled = all_announced Holding is (λ e. holding_not_calm e) in
        dite (ℕ_discrete m.word 3)
        (λ hit. subst (λ b. IsLawful (pick b home' out)) (sym (eq-eqb m.word 3 hit))
        (goes_on next Home m.announced phase x.stance.announced m.handled
        (puts_home xs i x.stance (stance phase x.stance.announced m.handled) at_stance next m.announced m.handled (home_count m.place m.handled) (subst (λ n. IsTidy n m.announced (home_count m.place m.handled) xs) hit l.tidy) holding not rests refl (l.found_before i x at holding) (λ r. refl) (λ e less. releases e))
        (λ h. absurd (not h)) (no_other Home) (inl settled) (λ h. absurd (not h))))
        (λ miss. let gone : m.word ≡ 2 = out_is_dropped m.word l.tidy.known miss (λ r. l.tidy.rests_free r i (x.stance, at_stance, holding)) in
        let nowhere : home_count m.place m.handled ≡ none = ap (λ p. home_count p m.handled) (l.has i x at holding) in
        subst (λ b. IsLawful (pick b home' out)) (sym (ne_eqb m.word 3 miss))
        (goes_on m.word Given m.announced Calm x.stance.announced m.handled
        (subst (λ (h : opt.Option ℕ). IsTidy m.word m.announced h (set xs i (stance Calm x.stance.announced m.handled))) nowhere
        (subst (λ n. IsTidy n m.announced (home_count m.place m.handled) (set xs i (stance Calm x.stance.announced m.handled))) (sym gone)
        (hands_out xs i x.stance (stance Calm x.stance.announced m.handled) at_stance m.announced (home_count m.place m.handled) (subst (λ n. IsTidy n m.announced (home_count m.place m.handled) xs) gone l.tidy) holding (λ h. h) refl)))
        (λ h. absurd h) (no_other Given) (inl settled) (λ h. absurd h)))

  pub release : Enabled {M = M} x Release → IsLawful (after m i x Release)
  release on = lets_go on 1 Releasing (inr refl) (λ h. h) (λ r. refl) (λ e. tt)

  pub reschedule : Enabled {M = M} x Reschedule → IsLawful (after m i x Reschedule)
  reschedule on = lets_go on 0 Calm (inl refl) (λ h. h) (λ r. refl) (λ e. absurd (omega arith))

  pub look : Enabled {M = M} x Look → IsLawful (after m i x Look)
  look on = l

  pub push : (message : M) → Enabled {M = M} x (Push message) → IsLawful (after m i x (Push message))
  push message on = let w : Thread = record x { pushed = x.pushed + 1 } in let q : Letter M = record { sender = i; number = x.pushed + 1; message = message } in
      let same : map stance_of (set m.threads i w) ≡ xs = map-set stance_of m.threads i w ∙ set_again xs i x.stance at_stance in record {
        tidy = subst (IsTidy m.word m.announced (home_count m.place m.handled)) (sym same) l.tidy;
        few = subst (λ n. n ≤ 4096) (sym (length-set m.threads i w)) l.few;
        has = λ j y e h. ⊎_elim (λ t. subst (λ (k : ℕ). m.place ≡ With k) (sym t.0) (l.has i x at (subst (λ (z : Thread). IsHolding z.stance.phase) (sym t.1) h))) (λ t. l.has j y t.1 h) (at_set m.threads i j w y e);
        in_step = λ j y e. ⊎_elim (λ t. subst (λ (z : Thread). (z.pushed ≡ z.stance.announced) ⊎ ((z.pushed ≡ z.stance.announced + 1) × (z.stance.phase ≡ Calm))) t.1 (inr (ap (λ n. n + 1) on.0.1, on.0.0))) (λ t. l.in_step j y t.1) (at_set m.threads i j w y e);
        found_before = λ j y e h. ⊎_elim (λ t. subst (λ (z : Thread). z.stance.remembered ≤ m.handled) t.1 (l.found_before i x at (subst (λ (z : Thread). IsHolding z.stance.phase) (sym t.1) h))) (λ t. l.found_before j y t.1 h) (at_set m.threads i j w y e);
        adds_up = let p = pushes-set m.threads i x w at in let a = l.adds_up in let n = length-append m.queue (q ∷ []) in omega arith;
      }

  nowhere_now : (p : Place) → home_count (given_from p) m.handled ≡ none
  nowhere_now Home = refl
  nowhere_now (With j) = refl
  nowhere_now Given = refl

  not_home : (p : Place) → p ≡ m.place → ¬ IsResting m.word → home_count m.place m.handled ≡ none
  not_home Home e not = absurd (not (l.tidy.home_rests m.handled (ap (λ p. home_count p m.handled) (sym e))))
  not_home (With j) e not = ap (λ p. home_count p m.handled) (sym e)
  not_home Given e not = ap (λ p. home_count p m.handled) (sym e)

  pub close : Enabled {M = M} x Close → IsLawful (after m i x Close)
  close on = let same = set_again xs i x.stance at_stance in record {
    tidy = subst (λ (h : opt.Option ℕ). IsTidy 2 m.announced h xs) (sym (nowhere_now m.place)) (subst (IsTidy 2 m.announced none) same (dite (rests? m.word)
        (λ rests. closes xs i x.stance x.stance at_stance m.word m.announced (home_count m.place m.handled) l.tidy rests (free Calm on.0 (λ h. h)) refl)
        (λ not. subst (λ (h : opt.Option ℕ). IsTidy 2 m.announced h (set xs i x.stance)) (not_home m.place refl not)
        (restances xs i x.stance x.stance at_stance m.word 2 m.announced m.announced (home_count m.place m.handled) l.tidy (free Calm on.0 (λ h. h)) (free Calm on.0 (λ h. h)) (omega arith) (λ r. absurd (not r)) (λ r. absurd (dropped_out r)) (λ e. absurd (omega arith)) (λ n. absurd (n refl)) (same_sum x.stance refl) (l.tidy.bounded i x.stance at_stance)
        (λ r. (r, refl)) (λ e. absurd (omega arith))))));
    few = l.few;
    has = λ j y e h. ap given_from (l.has j y e h);
    in_step = l.in_step;
    found_before = l.found_before;
    adds_up = l.adds_up;
  }

  out : Enabled {M = M} x Pop → (n : ℕ) → home_count m.place n ≡ none
  out on n = ap (λ p. home_count p n) (l.has i x at (subst IsHolding (sym on) tt))

  pub pop : (q : List (Letter M)) → m.queue ≡ q → Enabled {M = M} x Pop → IsLawful (popped m q)
  pop [] is on = l
  pop (a ∷ rest) is on = record {
    tidy = subst (IsTidy m.word m.announced (home_count m.place (m.handled + 1))) (sym (raised_stances m.threads a.sender)) (subst (λ (h : opt.Option ℕ). IsTidy m.word m.announced h xs) (out on m.handled ∙ sym (out on (m.handled + 1))) l.tidy);
    few = subst (λ n. n ≤ 4096) (sym (raised_length m.threads a.sender)) l.few;
    has = λ j y e h. let o = raised_at m.threads a.sender j y e in l.has j o.0 o.1 (subst (λ (s : Stance). IsHolding s.phase) o.2 h);
    in_step = λ j y e. let o = raised_at m.threads a.sender j y e in subst (λ (z : ℕ × Stance). (z.0 ≡ z.1.announced) ⊎ ((z.0 ≡ z.1.announced + 1) × (z.1.phase ≡ Calm))) (λ k. (sym o.3 k, sym o.2 k)) (l.in_step j o.0 o.1);
    found_before = λ j y e h. let o = raised_at m.threads a.sender j y e in let le = l.found_before j o.0 o.1 (subst (λ (s : Stance). IsHolding s.phase) o.2 h) in let s = ap (λ (z : Stance). z.remembered) o.2 in omega arith;
    adds_up = let t = l.adds_up in let n = ap length is in let p = raised_pushes m.threads a.sender in omega arith;
  }
