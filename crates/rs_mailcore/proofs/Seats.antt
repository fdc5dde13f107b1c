-- Where the machine of a desk is after each step.
use Rattle.std.proofs.Common.{◌≡◌, ◌≢◌, ℕ, ◌==◌, Bool, true, false, leb, List, [], ◌∷◌, Option, Some, None, is_some, IsSome, sym, refl, ap, ◌∙◌, subst, eq-eqb, ne_eqb, arith}
use mathlib.Core.Option as opt
use Rattle.rs_mailcore.specs.declared.thread.Phase.TheVariants.{Calm, Holding, Releasing}
use Rattle.rs_mailcore.specs.declared.thread.Thread.{Thread}
use Rattle.rs_mailcore.specs.declared.letter.Place.{Place}
use Rattle.rs_mailcore.specs.declared.letter.Place.TheVariants.{Home, With, Given}
use Rattle.rs_mailcore.specs.declared.letter.Letter.{Letter}
use Rattle.rs_mailcore.specs.declared.step.Step.{Step}
use Rattle.rs_mailcore.specs.declared.step.Step.TheVariants.{Announce, Notify, Take, Release, Recheck, Retake, Close, Look, Reschedule, Push, Pop}
use Rattle.rs_mailcore.specs.Words.{IsResting, IsHolding}
use Rattle.rs_mailcore.specs.Moment.{Moment, pick, given_from, popped, goes, hands_out, after}
use Rattle.rs_mailcore.specs.Lawful.{home_count}
use Rattle.rs_mailcore.specs.Keeping.{MayStep, Steps}
use Rattle.rs_mailcore.specs.Sitting.{is_home, IsSeated}

-- a step by which the machine neither comes nor goes
abbrev pub LeavesMachine : {M : Type 0} → Step M → Type 0
LeavesMachine Announce = Unit {0}
LeavesMachine Notify = Unit {0}
LeavesMachine Take = ⊥
LeavesMachine Release = ⊥
LeavesMachine Recheck = Unit {0}
LeavesMachine Retake = ⊥
LeavesMachine Close = ⊥
LeavesMachine Look = Unit {0}
LeavesMachine Reschedule = ⊥
LeavesMachine (Push message) = Unit {0}
LeavesMachine Pop = Unit {0}

home_is_home : (p : Place) (n k : ℕ) → home_count p n ≡ opt.some k → is_home p ≡ true
home_is_home Home n k e = refl
home_is_home (With i) n k e = absurd (opt.some-ne-none k (sym e))
home_is_home Given n k e = absurd (opt.some-ne-none k (sym e))

module _ {F M : Type 0} (m n : Moment M) (i : ℕ) (machine : Option F) (seated : IsSeated m machine) where
  abbrev nobody : Option F
  nobody = None

  abbrev release : Step M
  release = Release

  place_stays : (x : Thread) (s : Step M) → LeavesMachine s → (after m i x s).place ≡ m.place
  place_stays x Announce l = refl
  place_stays x Notify l = refl
  place_stays x Take l = absurd l
  place_stays x Release l = absurd l
  place_stays x Recheck l = rechecked (leb m.announced x.stance.remembered)
    where
      rechecked : (b : Bool) → (pick b (goes m i x m.word m.place m.announced Calm x.stance.announced x.stance.remembered) m).place ≡ m.place
      rechecked true = refl
      rechecked false = refl
  place_stays x Retake l = absurd l
  place_stays x Close l = absurd l
  place_stays x Look l = refl
  place_stays x Reschedule l = absurd l
  place_stays x (Push message) l = refl
  place_stays x Pop l = popped_place m.queue
    where
      popped_place : (q : List (Letter M)) → (popped m q).place ≡ m.place
      popped_place [] = refl
      popped_place (a ∷ rest) = refl

  pub stays_seated : (s : Step M) → LeavesMachine s → Steps m i s n → IsSeated n machine
  stays_seated s l t = (t.1, ap is_home (ap (λ (k : Moment M). k.place) t.0.2 ∙ place_stays t.0.0 s l) ∙ seated.1)

  pub same_seated : n ≡ m → IsSeated n machine
  same_seated e = subst (λ (k : Moment M). IsSeated k machine) (sym e) seated

  at_rest : IsResting m.word → is_home m.place ≡ true
  at_rest rests = let h = seated.0.0.tidy.rests_home rests in home_is_home m.place m.handled h.0 h.1

  pub there_at_rest : IsResting m.word → IsSome machine
  there_at_rest rests = sym seated.1 ∙ at_rest rests

  -- where the place after the step is this one
  placed : (s : Step M) (p : Place) (now : Option F) → Steps m i s n → ((x : Thread) → (after m i x s).place ≡ p) → is_home p ≡ is_some now → IsSeated n now
  placed s p now t is fits = (t.1, ap is_home (ap (λ (k : Moment M). k.place) t.0.2 ∙ is t.0.0) ∙ fits)

  pub taken_out : Steps m i Take n → m.word ≡ 0 → IsSeated n nobody
  taken_out t e = placed Take (With i) None t (λ x. ap (λ b. (pick b (goes m i x 3 (With i) m.announced Holding x.stance.announced m.handled) m).place) (eq-eqb m.word 0 e)) refl

  pub not_taken : Steps m i Take n → m.word ≢ 0 → IsSeated n machine
  not_taken t e = placed Take m.place machine t (λ x. ap (λ b. (pick b (goes m i x 3 (With i) m.announced Holding x.stance.announced m.handled) m).place) (ne_eqb m.word 0 e)) seated.1

  pub retaken_out : Steps m i Retake n → m.word ≡ 1 → IsSeated n nobody
  retaken_out t e = placed Retake (With i) None t (λ x. ap (λ b. (pick b (goes m i x 3 (With i) m.announced Holding x.stance.announced m.handled) (goes m i x m.word m.place m.announced Calm x.stance.announced x.stance.remembered)).place) (eq-eqb m.word 1 e)) refl

  pub not_retaken : Steps m i Retake n → m.word ≢ 1 → IsSeated n machine
  not_retaken t e = placed Retake m.place machine t (λ x. ap (λ b. (pick b (goes m i x 3 (With i) m.announced Holding x.stance.announced m.handled) (goes m i x m.word m.place m.announced Calm x.stance.announced x.stance.remembered)).place) (ne_eqb m.word 1 e)) seated.1

  pub put_home : (now : F) → Steps m i Release n → m.word ≡ 3 → IsSeated n (Some now)
  put_home now t e = placed Release Home (Some now) t (λ x. ap (λ b. (pick b (goes m i x 1 Home m.announced Releasing x.stance.announced m.handled) (hands_out m i x)).place) (eq-eqb m.word 3 e)) refl

  pub rescheduled_home : (now : F) → Steps m i Reschedule n → m.word ≡ 3 → IsSeated n (Some now)
  rescheduled_home now t e = placed Reschedule Home (Some now) t (λ x. ap (λ b. (pick b (goes m i x 0 Home m.announced Calm x.stance.announced m.handled) (hands_out m i x)).place) (eq-eqb m.word 3 e)) refl

  -- the holder's machine isn't there
  gone : MayStep m i release → is_some machine ≡ false
  gone may = sym seated.1 ∙ ap is_home (seated.0.0.has i may.0 may.1 (subst IsHolding (sym may.2) tt))

  other_word : m.word ≡ 2 → (m.word == 3) ≡ false
  other_word e = ne_eqb m.word 3 (λ f. omega arith)

  pub handed_out : MayStep m i release → Steps m i Release n → m.word ≡ 2 → IsSeated n machine
  handed_out may t e = placed Release Given machine t (λ x. ap (λ b. (pick b (goes m i x 1 Home m.announced Releasing x.stance.announced m.handled) (hands_out m i x)).place) (other_word e)) (sym (gone may))

  pub rescheduled_out : MayStep m i release → Steps m i Reschedule n → m.word ≡ 2 → IsSeated n machine
  rescheduled_out may t e = placed Reschedule Given machine t (λ x. ap (λ b. (pick b (goes m i x 0 Home m.announced Calm x.stance.announced m.handled) (hands_out m i x)).place) (other_word e)) (sym (gone may))

  nowhere : (p : Place) → is_home (given_from p) ≡ false
  nowhere Home = refl
  nowhere (With i) = refl
  nowhere Given = refl

  pub closed : Steps m i Close n → IsSeated n nobody
  closed t = (t.1, ap is_home (ap (λ (k : Moment M). k.place) t.0.2) ∙ nowhere m.place)
