-- Each kind of step keeps the rule.
use Rattle.std.proofs.Common.{◌≡◌, ◌≢◌, ℕ, suc, ◌+◌, ◌*◌, ◌%◌, ◌^◌, ◌<◌, ◌≤◌, ◌⊎◌, eqb, true, true≢false, List, [], ◌∷◌, length, set, Option, Some, None, sym, refl, ap, ◌∙◌, subst, inl, inr, ⊎_elim, arith}
use mathlib.Core.Option.{none, some, some-injective, some-ne-none}
use mathlib.Core.Logic.{dite}
use native.Mathlib.Decide.{dec_le, ℕ_discrete}
use prog.Atomic.{either}
use lib.ListN.{get_elem?}
use Rattle.atomic_table.specs.Table.{Me, keeps, takes, gives, rest, put_back, Allows}
use Rattle.atomic_table.proofs.Lists.{exchanged}
use Rattle.rs_mailcore.specs.declared.thread.Phase.{Phase}
use Rattle.rs_mailcore.specs.declared.thread.Phase.TheVariants.{Calm, Notifying, Holding, Releasing}
use Rattle.rs_mailbox.specs.declared.view.Kind.{Kind}
use Rattle.rs_mailbox.specs.declared.view.Kind.TheVariants.{Announce, Notify, Take, Release, Recheck, Retake, Close, Look, Reschedule}
use Rattle.rs_mailcore.specs.declared.thread.Stance.{Stance}
use Rattle.rs_mailbox.specs.declared.view.Deed.{Deed}
use Rattle.rs_mailcore.specs.Words.{IsResting, IsHolding, IsReleasing, IsWatching, stance, announcements, notified, idle, dropped}
use Rattle.rs_mailcore.specs.Tidy.{Holds, IsTidy}
use Rattle.rs_mailcore.proofs.Lists.{set_there, set_else, announcements-set}
use Rattle.rs_mailcore.proofs.Keeps.{restances, takes_out, puts_home, closes, hands_out}
use Rattle.rs_mailbox.specs.declared.view.View.{View}
use Rattle.rs_mailbox.specs.declared.stored.Stored.{Stored}
use Rattle.rs_mailbox.specs.Order.{Place, home_count, IsOrderly}
use Rattle.rs_mailbox.specs.Steps as told
use Rattle.rs_mailbox.specs.Steps.{deed, moved, turns, brought, Gets}
use Rattle.rs_mailbox.specs.Stood.{looked_at}
use Rattle.rs_mailbox.proofs.Opens.{Goes, Finds, on_state, on_count}

all_below : (xs : List Stance) → ((i : ℕ) (x : Stance) → get_elem? xs i ≡ some x → x.announced ≤ 2 ^ 50) → announcements xs ≤ length xs * 2 ^ 50
all_below [] h = omega arith
all_below (x ∷ xs) h = let a = h 0 x refl in let r = all_below xs (λ i y e. h (suc i) y e) in omega arith

pub no_wrap : (xs : List Stance) (n : ℕ) → n ≡ announcements xs → length xs ≤ 4096 → ((i : ℕ) (x : Stance) → get_elem? xs i ≡ some x → x.announced ≤ 2 ^ 50) → n ≤ 2 ^ 62
no_wrap xs n e few h = let r = all_below xs h in omega arith

abbrev inner : {A : Type 0} → A → Option A → A
inner d None = d
inner d (Some y) = y

pub some_inner : {A : Type 0} (x y : A) → Some x ≡ Some y → x ≡ y
some_inner x y e = ap (inner x) e

out_is_dropped : (word : ℕ) → word ≤ 3 → word ≢ 3 → ¬ IsResting word → word ≡ 2
out_is_dropped word le miss not = let a : word ≢ 0 = λ e. not (inl e) in let b : word ≢ 1 = λ e. not (inr e) in omega arith

out_word : (word : ℕ) → word ≤ 3 → ¬ IsResting word → (word ≡ 2) ⊎ (word ≡ 3)
out_word word le not = dite (ℕ_discrete word 3) (λ e. inr e) (λ ne. inl (out_is_dropped word le ne not))

not_both : (word : ℕ) → IsResting word → (word ≡ 2) ⊎ (word ≡ 3) → ⊥
not_both word r out = ⊎_elim (λ (e : word ≡ 0). ⊎_elim (λ (f : word ≡ 2). omega arith) (λ (f : word ≡ 3). omega arith) out) (λ (e : word ≡ 1). ⊎_elim (λ (f : word ≡ 2). omega arith) (λ (f : word ≡ 3). omega arith) out) r

dropped_out : IsResting dropped → ⊥
dropped_out r = ⊎_elim (λ (e : dropped ≡ notified). omega arith) (λ (e : dropped ≡ idle). omega arith) r

not_resting_two : {word : ℕ} → word ≡ 2 → IsResting word → ⊥
not_resting_two {word} e r = ⊎_elim (λ (f : word ≡ 0). omega arith) (λ (f : word ≡ 1). omega arith) r

rests? : (word : ℕ) → Dec (IsResting word)
rests? word = dite (ℕ_discrete word 0) (λ e. yes (inl e)) (λ n. dite (ℕ_discrete word 1) (λ e. yes (inr e)) (λ m. no (λ r. ⊎_elim n m r)))

module _ {T N : Type 0} (name_of : T → N) (count_of : T → ℕ) (key : T) where
  abbrev M : Type 0
  M = Me (Option (Stored T)) (View N)

  module _ (slots id : ℕ) (me : M) where
    abbrev v : View N
    v = me.0

    -- the sum of the announcements after a step that leaves them
    same_sum : (stances : List Stance) (announced : ℕ) (w : Stance) → get_elem? stances id ≡ some v.stance → announced ≡ announcements stances → w.announced ≡ v.stance.announced → announced ≡ announcements (set stances id w)
    same_sum stances announced w at sum same = let s = announcements-set stances id v.stance w at in omega arith

    pub announces : (v.stance.phase ≡ Calm) → v.stance.announced < 2 ^ 50 → Allows (IsOrderly name_of count_of key) slots id me 1 (λ n. (n + 1) % 2 ^ 64) (told.announced me)
    announces calm few = on_count name_of count_of key slots id me (λ n. (n + 1) % 2 ^ 64) (told.announced me) (λ home stances word announced f.
        let w : Stance = stance Notifying (v.stance.announced + 1) v.stance.remembered in let sum = announcements-set stances id v.stance w f.at in let room = no_wrap stances announced f.tidy.counted f.few f.tidy.bounded in
        let old = f.tidy.counted in record {
          view = moved v Notifying (v.stance.announced + 1) v.stance.remembered (deed Announce announced 0);
          act = keeps;
          left = home;
          valid = tt;
          lands = refl;
          tidy = restances stances id v.stance w f.at word word announced ((announced + 1) % 2 ^ 64) (home_count home) f.tidy (λ h. subst IsHolding calm h) (λ h. h) f.tidy.known (λ r. r) (λ r. r) (λ e. e) (λ n. n) (omega arith) (omega arith)
              (λ r. absurd r) (λ e n at_home less. (id, w, set_there stances id v.stance w f.at, tt));
          fits = f.fits;
          name = refl;
          number = refl;
          made = refl;
          born = λ e. absurd (true≢false (sym e));
          full = refl;
          gone = f.dropped;
          told = (refl, refl);
        })

    -- the step changes nothing but this hand's stance, which holds nothing before and after it
    still : (home : Place T) (stances : List Stance) (word word' announced : ℕ) (then : M → Type 0) → Finds name_of count_of key id me home stances word announced
        → (phase : Phase) (remembered : ℕ) (d : Deed) → (told.shuts d.kind v.shut ≡ true → word' ≡ 2) → ¬ IsHolding v.stance.phase → ¬ IsHolding phase → word' ≤ 3 → (IsResting word → IsResting word') → (IsResting word' → IsResting word) → (word' ≡ 3 → word ≡ 3) → (word' ≢ 2 → word ≢ 2)
        → (IsReleasing phase → IsReleasing v.stance.phase × (remembered ≡ v.stance.remembered))
        → (word' ≡ 1 → (n : ℕ) → home_count home ≡ some n → n < announced → (j : ℕ) × (y : Stance) × (get_elem? (set stances id (stance phase v.stance.announced remembered)) j ≡ some y) × IsWatching y.phase)
        → then (turns v phase remembered d, me.1) → Goes name_of count_of key id me home stances word' announced then
    still home stances word word' announced then f phase remembered d gone was is known on back out open' releasing watched told = let w : Stance = stance phase v.stance.announced remembered in record {
      view = turns v phase remembered d;
      act = keeps;
      left = home;
      valid = tt;
      lands = refl;
      tidy = restances stances id v.stance w f.at word word' announced announced (home_count home) f.tidy was is known on back out open' (same_sum stances announced w f.at f.tidy.counted refl) (f.tidy.bounded id v.stance f.at) releasing watched;
      fits = f.fits;
      name = refl;
      number = refl;
      made = refl;
      born = λ e. absurd (true≢false (sym e));
      full = refl;
      gone = gone;
      told = told;
    }

    calm_free : (phase : Phase) → v.stance.phase ≡ phase → ¬ IsHolding phase → ¬ IsHolding v.stance.phase
    calm_free phase is not h = not (subst IsHolding is h)

    -- where another hand watched before a step of this one, which did not, one watches after it
    watched_on : (home : Place T) (stances : List Stance) (word announced : ℕ) (w : Stance) → Finds name_of count_of key id me home stances word announced → ¬ IsWatching v.stance.phase
        → word ≡ 1 → (n : ℕ) → home_count home ≡ some n → n < announced → (j : ℕ) × (y : Stance) × (get_elem? (set stances id w) j ≡ some y) × IsWatching y.phase
    watched_on home stances word announced w f not e n at_home less = let o = f.tidy.watched e n at_home less in
        (o.0, o.1, set_else stances id o.0 w (λ same. not (subst (λ (s : Stance). IsWatching s.phase) (some-injective o.1 v.stance (sym o.2 ∙ (ap (get_elem? stances) same ∙ f.at))) o.3)) ∙ o.2, o.3)

    pub notifies : (v.stance.phase ≡ Notifying) → Allows (IsOrderly name_of count_of key) slots id me 0 (λ n. either (eqb n 1) 0 n) (told.notified me)
    notifies is = on_state name_of count_of key slots id me (λ n. either (eqb n 1) 0 n) (λ n _ e. subst (λ k. either (eqb k 1) 0 k ≡ 2) (sym e) refl) (told.notified me) (λ home stances word announced f.
        exchanged word 1 0 (λ k. Goes name_of count_of key id me home stances k announced (told.notified me word))
        (λ hit. still home stances word 0 announced (told.notified me word) f Calm v.stance.remembered (deed Notify word 0) (λ b. absurd (let e = f.dropped b in omega arith)) (calm_free Notifying is (λ h. h)) (λ h. h) (omega arith) (λ r. inl refl) (λ r. inr hit) (λ e. omega arith) (λ n e. omega arith) (λ r. absurd r) (λ e. absurd (omega arith)) (refl, refl))
        (λ miss. still home stances word word announced (told.notified me word) f Calm v.stance.remembered (deed Notify word 0) f.dropped (calm_free Notifying is (λ h. h)) (λ h. h) f.tidy.known (λ r. r) (λ r. r) (λ e. e) (λ n. n) (λ r. absurd r) (λ e. absurd (miss e)) (refl, refl)))

    pub looks : (v.stance.phase ≡ Calm) → Allows (IsOrderly name_of count_of key) slots id me 0 (λ n. n) (told.looked me)
    looks is = on_state name_of count_of key slots id me (λ n. n) (λ n _ e. e) (told.looked me) (λ home stances word announced f.
        still home stances word word announced (told.looked me word) f Calm v.stance.remembered (deed Look word 0) f.dropped (calm_free Calm is (λ h. h)) (λ h. h) f.tidy.known (λ r. r) (λ r. r) (λ e. e) (λ n. n) (λ r. absurd r)
        (watched_on home stances word announced (stance Calm v.stance.announced v.stance.remembered) f (λ h. subst IsWatching is h)) (refl, refl))

    -- the value comes out of the slot, and the hand holds it
    gets : (home : Place T) (stances : List Stance) (word announced : ℕ) (kind : Kind) (same : told.shuts kind v.shut ≡ v.shut) (then : M → Type 0) → Finds name_of count_of key id me home stances word announced → IsResting word
        → ((n : M) → Gets name_of count_of kind me word n → then n) → Goes name_of count_of key id me home stances 3 announced then
    gets none stances word announced kind same then f rests tell = let h = f.tidy.rests_home rests in absurd (some-ne-none h.0 (sym h.1))
    gets (some None) stances word announced kind same then f rests tell = let h = f.tidy.rests_home rests in absurd (some-ne-none h.0 (sym h.1))
    gets (some (Some x)) stances word announced kind same then f rests tell = let w : Stance = stance Holding v.stance.announced x.handled in let fits = f.fits x refl in record {
      view = turns v Holding x.handled (deed kind word x.handled);
      act = takes 0 (Some x);
      left = none;
      valid = refl;
      lands = refl;
      tidy = takes_out stances id v.stance w f.at word announced x.handled (some x.handled) f.tidy rests refl tt refl refl;
      fits = λ y e. absurd (some-ne-none (Some y) (sym e));
      name = refl;
      number = refl;
      made = refl;
      born = λ e. absurd (true≢false (sym e));
      full = refl;
      gone = (λ b. absurd (let e = f.dropped (sym same ∙ b) in not_resting_two e rests));
      told = tell (turns v Holding x.handled (deed kind word x.handled), (0, Some x) ∷ me.1) (x, refl, refl, fits.0 ∙ sym f.name, fits.1);
    }

    pub takings : (v.stance.phase ≡ Calm) → Allows (IsOrderly name_of count_of key) slots id me 0 (λ n. either (eqb n 0) 3 n) (told.taken name_of count_of me)
    takings is = on_state name_of count_of key slots id me (λ n. either (eqb n 0) 3 n) (λ n _ e. subst (λ k. either (eqb k 0) 3 k ≡ 2) (sym e) refl) (told.taken name_of count_of me) (λ home stances word announced f.
        exchanged word 0 3 (λ k. Goes name_of count_of key id me home stances k announced (told.taken name_of count_of me word))
        (λ hit. gets home stances word announced Take refl (told.taken name_of count_of me word) f (inl hit) (λ n g. ((λ _. g), (λ not. absurd (not hit)), f.dropped)))
        (λ miss. still home stances word word announced (told.taken name_of count_of me word) f Calm v.stance.remembered (deed Take word 0) f.dropped (calm_free Calm is (λ h. h)) (λ h. h) f.tidy.known (λ r. r) (λ r. r) (λ e. e) (λ n. n) (λ r. absurd r)
        (watched_on home stances word announced (stance Calm v.stance.announced v.stance.remembered) f (λ h. subst IsWatching is h)) ((λ hit. absurd (miss hit)), (λ _. (refl, refl)), f.dropped)))

    pub retakes : (v.stance.phase ≡ Releasing) → Allows (IsOrderly name_of count_of key) slots id me 0 (λ n. either (eqb n 1) 3 n) (told.retaken name_of count_of me)
    retakes is = on_state name_of count_of key slots id me (λ n. either (eqb n 1) 3 n) (λ n _ e. subst (λ k. either (eqb k 1) 3 k ≡ 2) (sym e) refl) (told.retaken name_of count_of me) (λ home stances word announced f.
        exchanged word 1 3 (λ k. Goes name_of count_of key id me home stances k announced (told.retaken name_of count_of me word))
        (λ hit. gets home stances word announced Retake refl (told.retaken name_of count_of me word) f (inr hit) (λ n g. ((λ _. g), λ not. absurd (not hit))))
        (λ miss. still home stances word word announced (told.retaken name_of count_of me word) f Calm v.stance.remembered (deed Retake word 0) f.dropped (calm_free Releasing is (λ h. h)) (λ h. h) f.tidy.known (λ r. r) (λ r. r) (λ e. e) (λ n. n) (λ r. absurd r)
        (λ e. absurd (miss e)) ((λ hit. absurd (miss hit)), λ _. (refl, refl))))

    pub rechecks : (v.stance.phase ≡ Releasing) → Allows (IsOrderly name_of count_of key) slots id me 1 (λ n. n) (told.rechecked me)
    rechecks is = on_count name_of count_of key slots id me (λ n. n) (told.rechecked me) (λ home stances word announced f.
        dite (dec_le announced v.stance.remembered)
        (λ low. still home stances word word announced (told.rechecked me announced) f Calm v.stance.remembered (deed Recheck announced 0) f.dropped (calm_free Releasing is (λ h. h)) (λ h. h) f.tidy.known (λ r. r) (λ r. r) (λ e. e) (λ n. n) (λ r. absurd r)
        (λ e n at_home less. let le = f.tidy.behind_home (λ two. omega arith) id v.stance f.at (subst IsReleasing (sym is) tt) n at_home in absurd (omega arith))
        ((λ _. refl), (λ more. absurd (omega arith)), refl))
        (λ high. still home stances word word announced (told.rechecked me announced) f Releasing v.stance.remembered (deed Recheck announced 0) f.dropped (calm_free Releasing is (λ h. h)) (λ h. h) f.tidy.known (λ r. r) (λ r. r) (λ e. e) (λ n. n) (λ r. (subst IsReleasing (sym is) tt, refl))
        (λ e n at_home less. (id, stance Releasing v.stance.announced v.stance.remembered, set_there stances id v.stance (stance Releasing v.stance.announced v.stance.remembered) f.at, tt))
        ((λ low. absurd (high low)), (λ _. refl), refl)))

    holder : (stances : List Stance) → get_elem? stances id ≡ some v.stance → v.stance.phase ≡ Holding → Holds stances id
    holder stances at is = (v.stance, at, subst IsHolding (sym is) tt)

    held_phase : v.stance.phase ≡ Holding → IsHolding v.stance.phase
    held_phase is = subst IsHolding (sym is) tt

    -- the holder brings the value x home: the word becomes `next` where it was Held, and stays where it is Drop
    module _ (x : Stored T) (has : me.1 ≡ (0, Some x) ∷ rest me.1) (low : v.stance.remembered ≤ x.handled) (fits : (name_of x.value ≡ v.name) × (count_of x.value ≡ x.handled)) (is : v.stance.phase ≡ Holding) where
      brings : brought me.1 ≡ x.handled
      brings = ap brought has

      given_back : (home : Place T) (stances : List Stance) (announced : ℕ) (next : ℕ) (kind : Kind) (same : told.shuts kind v.shut ≡ v.shut) (phase : Phase) (then : M → Type 0) → Finds name_of count_of key id me home stances 3 announced → IsResting next → ¬ IsHolding phase
          → (next ≡ 1 → x.handled < announced → IsReleasing phase) → then (turns v phase (brought me.1) (deed kind 3 (brought me.1)), rest me.1) → Goes name_of count_of key id me home stances next announced then
      given_back home stances announced next kind same phase then f rests free releases tell = let w : Stance = stance phase v.stance.announced (brought me.1) in record {
        view = turns v phase (brought me.1) (deed kind 3 (brought me.1));
        act = gives;
        left = some (Some x);
        valid = tt;
        lands = ap (put_back (home ∷ [])) has;
        tidy = puts_home stances id v.stance w f.at next announced x.handled (home_count home) f.tidy (held_phase is) free rests refl low (λ r. brings) releases;
        fits = λ y e. let same : x ≡ y = some_inner x y (some-injective (Some x) (Some y) e) in subst (λ (z : Stored T). (name_of z.value ≡ name_of key) × (count_of z.value ≡ z.handled)) same (fits.0 ∙ f.name, fits.1);
        name = refl;
        number = refl;
        made = refl;
        born = λ e. absurd (true≢false (sym e));
        full = refl;
        gone = (λ b. absurd (let e = f.dropped (sym same ∙ b) in omega arith));
        told = tell;
      }

      kept_out : (home : Place T) (stances : List Stance) (announced : ℕ) (word : ℕ) (kind : Kind) (then : M → Type 0) → Finds name_of count_of key id me home stances word announced → word ≢ 3
          → ((word ≡ 2) → then (turns v Calm (brought me.1) (deed kind word (brought me.1)), me.1)) → Goes name_of count_of key id me home stances word announced then
      kept_out home stances announced word kind then f miss tell = let w : Stance = stance Calm v.stance.announced (brought me.1) in
          let gone : word ≡ 2 = out_is_dropped word f.tidy.known miss (λ r. f.tidy.rests_free r id (holder stances f.at is)) in record {
            view = turns v Calm (brought me.1) (deed kind word (brought me.1));
            act = keeps;
            left = home;
            valid = tt;
            lands = refl;
            tidy = subst (λ n. IsTidy n announced (home_count home) (set stances id w)) (sym gone)
                (hands_out stances id v.stance w f.at announced (home_count home) (subst (λ n. IsTidy n announced (home_count home) stances) gone f.tidy) (held_phase is) (λ h. h) refl);
            fits = f.fits;
            name = refl;
            number = refl;
            made = refl;
            born = λ e. absurd (true≢false (sym e));
            full = refl;
            gone = (λ b. gone);
            told = tell gone;
          }

      pub releases : Allows (IsOrderly name_of count_of key) slots id me 0 (λ n. either (eqb n 3) 1 n) (told.released me)
      releases = on_state name_of count_of key slots id me (λ n. either (eqb n 3) 1 n) (λ n _ e. subst (λ k. either (eqb k 3) 1 k ≡ 2) (sym e) refl) (told.released me) (λ home stances word announced f.
          exchanged word 3 1 (λ k. Goes name_of count_of key id me home stances k announced (told.released me word))
          (λ hit. subst (λ n. Goes name_of count_of key id me home stances 1 announced (told.released me n)) (sym hit)
          (given_back home stances announced 1 Release refl Releasing (told.released me 3) (subst (λ n. Finds name_of count_of key id me home stances n announced) hit f) (inr refl) (λ h. h) (λ _ _. tt) ((λ _. (refl, refl)), λ not. absurd (not refl))))
          (λ miss. kept_out home stances announced word Release (told.released me word) f miss (λ gone. ((λ hit. absurd (miss hit)), λ _. (gone, refl, refl)))))

      pub reschedules : Allows (IsOrderly name_of count_of key) slots id me 0 (λ n. either (eqb n 3) 0 n) (told.rescheduled me)
      reschedules = on_state name_of count_of key slots id me (λ n. either (eqb n 3) 0 n) (λ n _ e. subst (λ k. either (eqb k 3) 0 k ≡ 2) (sym e) refl) (told.rescheduled me) (λ home stances word announced f.
          exchanged word 3 0 (λ k. Goes name_of count_of key id me home stances k announced (told.rescheduled me word))
          (λ hit. subst (λ n. Goes name_of count_of key id me home stances 0 announced (told.rescheduled me n)) (sym hit)
          (given_back home stances announced 0 Reschedule refl Calm (told.rescheduled me 3) (subst (λ n. Finds name_of count_of key id me home stances n announced) hit f) (inl refl) (λ h. h) (λ e. absurd (omega arith)) ((λ _. (refl, refl)), λ not. absurd (not refl))))
          (λ miss. kept_out home stances announced word Reschedule (told.rescheduled me word) f miss (λ gone. ((λ hit. absurd (miss hit)), λ _. (gone, refl, refl)))))

    -- the value comes out of the slot for good
    shuts : (home : Place T) (stances : List Stance) (word announced : ℕ) → Finds name_of count_of key id me home stances word announced → v.stance.phase ≡ Calm → IsResting word
        → Goes name_of count_of key id me home stances 2 announced (told.closed name_of count_of me word)
    shuts none stances word announced f is rests = let h = f.tidy.rests_home rests in absurd (some-ne-none h.0 (sym h.1))
    shuts (some None) stances word announced f is rests = let h = f.tidy.rests_home rests in absurd (some-ne-none h.0 (sym h.1))
    shuts (some (Some x)) stances word announced f is rests = let w : Stance = stance Calm v.stance.announced v.stance.remembered in let fits = f.fits x refl in record {
      view = turns v Calm v.stance.remembered (deed Close word x.handled);
      act = takes 0 (Some x);
      left = none;
      valid = refl;
      lands = refl;
      tidy = closes stances id v.stance w f.at word announced (some x.handled) f.tidy rests (λ h. h) refl;
      fits = λ y e. absurd (some-ne-none (Some y) (sym e));
      name = refl;
      number = refl;
      made = refl;
      born = λ e. absurd (true≢false (sym e));
      full = refl;
      gone = (λ b. refl);
      told = ((λ _ _. (rests, (x, refl, refl, fits.0 ∙ sym f.name))), λ out. absurd (⊎_elim (λ (e : word ≡ 2). not_both word rests (inl e)) (λ (e : word ≡ 3). not_both word rests (inr e)) out));
    }

    pub shuttings : (v.stance.phase ≡ Calm) → Allows (IsOrderly name_of count_of key) slots id me 0 (λ _. 2) (told.closed name_of count_of me)
    shuttings is = on_state name_of count_of key slots id me (λ _. 2) (λ n _ e. refl) (told.closed name_of count_of me) (λ home stances word announced f.
        dite (rests? word)
        (λ rests. shuts home stances word announced f is rests)
        (λ not. still home stances word 2 announced (told.closed name_of count_of me word) f Calm v.stance.remembered (deed Close word 0) (λ b. refl) (calm_free Calm is (λ h. h)) (λ h. h) (omega arith) (λ r. absurd (not r)) (λ r. absurd (dropped_out r)) (λ e. absurd (omega arith)) (λ n. absurd (n refl)) (λ r. absurd r) (λ e. absurd (omega arith))
        ((λ a b. absurd (⊎_elim a b (out_word word f.tidy.known not))), λ _. (refl, refl))))

  pub carries : (me : M) (v : View N) (x : Option (Stored T)) (c : List (ℕ × Option (Stored T))) → me ≡ (v, (0, x) ∷ c) → me.1 ≡ (0, x) ∷ rest me.1
  carries me v x c e = let t : me.1 ≡ (0, x) ∷ c = ap (λ (m : M). m.1) e in t ∙ ap (λ l. (0, x) ∷ l) (sym (ap rest t))

  pub releases_at : (slots id : ℕ) (me : M) (v : View N) (x : Stored T) (c : List (ℕ × Option (Stored T))) → me ≡ (v, (0, Some x) ∷ c) → v.stance.remembered ≤ x.handled → (name_of x.value ≡ v.name) × (count_of x.value ≡ x.handled) → v.stance.phase ≡ Holding
      → Allows (IsOrderly name_of count_of key) slots id me 0 (λ n. either (eqb n 3) 1 n) (told.released me)
  releases_at slots id me v x c e low fits is = subst (λ (m : M). Allows (IsOrderly name_of count_of key) slots id m 0 (λ n. either (eqb n 3) 1 n) (told.released m)) (sym e) (releases slots id (v, (0, Some x) ∷ c) x refl low fits is)

  pub reschedules_at : (slots id : ℕ) (me : M) (v : View N) (x : Stored T) (c : List (ℕ × Option (Stored T))) → me ≡ (v, (0, Some x) ∷ c) → v.stance.remembered ≤ x.handled → (name_of x.value ≡ v.name) × (count_of x.value ≡ x.handled) → v.stance.phase ≡ Holding
      → Allows (IsOrderly name_of count_of key) slots id me 0 (λ n. either (eqb n 3) 0 n) (told.rescheduled me)
  reschedules_at slots id me v x c e low fits is = subst (λ (m : M). Allows (IsOrderly name_of count_of key) slots id m 0 (λ n. either (eqb n 3) 0 n) (told.rescheduled m)) (sym e) (reschedules slots id (v, (0, Some x) ∷ c) x refl low fits is)

  pub looks_at : (slots id : ℕ) (me : M) → me.0.stance.phase ≡ Calm → Allows (IsOrderly name_of count_of key) slots id me 0 (λ n. n) (looked_at name_of count_of me)
  looks_at slots id me is s o len at small = let t = looks slots id me is s o len at small in (t.0, t.1, t.2, t.3, (t.4, (s, key, id, sym (o.named id me.0 at).0, o, at, refl)))
