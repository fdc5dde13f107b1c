-- How a handover is made, and how its hands are split off.
use Rattle.std.proofs.Common.{◌≡◌, ℕ, zero, suc, ◌+◌, ◌^◌, ◌<◌, ◌≤◌, ◌⊎◌, true, false, true≢false, List, [], ◌∷◌, ◌++◌, map, length, length-set, set, Option, Some, None, sym, refl, ap, ◌∙◌, subst, inl, inr, ⊎_elim, arith}
use mathlib.Core.Option.{none, some, some-injective, some-ne-none}
use lib.ListN.{get_elem?}
use lib.Seq.{map-set}
use mathlib.Core.List.{map-append}
use Rattle.std.proofs.lemmas.List.{length-append}
use Rattle.atomic_table.specs.Table.{Me, takes, gives, rest, put_back, Allows, Splits, opening}
use Rattle.atomic_table.proofs.Lists.{at_set, at_map, set_again}
use Rattle.rs_mailcore.specs.declared.thread.Phase.TheVariants.{Calm, Holding}
use Rattle.rs_mailcore.specs.declared.thread.Stance.{Stance}
use Rattle.rs_mailcore.specs.Words.{IsResting, IsHolding, IsReleasing, stance, announcements, idle, held}
use Rattle.rs_mailcore.specs.Tidy.{IsTidy}
use Rattle.rs_mailcore.proofs.Keeps.{puts_home}
use Rattle.rs_mailcore.proofs.Joins.{joins}
use Rattle.rs_mailbox.specs.declared.view.View.{View}
use Rattle.rs_mailbox.specs.declared.stored.Stored.{Stored}
use Rattle.rs_mailbox.specs.Order.{stance_of, Place, home_count, newcomer, IsOrderly}
use Rattle.rs_mailbox.specs.Steps as told
use Rattle.rs_mailbox.specs.Making.{with_more, newest}
use Rattle.rs_mailbox.proofs.Opens.{Goes, on_state, below, not_two}
use Rattle.rs_mailbox.proofs.Steps.{some_inner}

-- an element of a list with one more at its end
at_end : {A : Type 0} (l : List A) (a : A) (j : ℕ) (b : A) → get_elem? (l ++ a ∷ []) j ≡ some b → (get_elem? l j ≡ some b) ⊎ ((j ≡ length l) × (a ≡ b))
at_end [] a zero b e = inr (refl, some-injective a b e)
at_end [] a (suc j) b e = absurd (some-ne-none b (sym e))
at_end (x ∷ xs) a zero b e = inl e
at_end (x ∷ xs) a (suc j) b e = ⊎_elim (λ t. inl t) (λ t. inr (ap suc t.0, t.1)) (at_end xs a j b e)

only_one : {A : Type 0} (x : A) (i : ℕ) (y : A) → get_elem? (x ∷ []) i ≡ some y → (i ≡ 0) × (x ≡ y)
only_one x zero y e = (refl, some-injective x y e)
only_one x (suc i) y e = absurd (some-ne-none y (sym e))

not_resting : IsResting held → ⊥
not_resting r = ⊎_elim (λ (e : held ≡ 0). omega arith) (λ (e : held ≡ 1). omega arith) r

not_idle : held ≡ idle → ⊥
not_idle e = omega arith

pub begins : IsTidy 3 0 none (stance Holding 0 0 ∷ [])
begins = let s : Stance = stance Holding 0 0 in record {
  known = omega arith;
  home_rests = λ n e. absurd (some-ne-none n (sym e));
  rests_home = λ r. absurd (not_resting r);
  held_out = λ e. (0, (s, refl, tt));
  rests_free = λ r. absurd (not_resting r);
  alone = λ i j h k. (only_one s i h.0 h.1).0 ∙ sym (only_one s j k.0 k.1).0;
  counted = omega arith;
  bounded = λ i x e. subst (λ (y : Stance). y.announced ≤ 2 ^ 50) (only_one s i x e).1 (omega arith);
  behind_home = λ ne i x e r. absurd (subst (λ (y : Stance). IsReleasing y.phase) (sym (only_one s i x e).1) r);
  behind_holder = λ ne i x e r. absurd (subst (λ (y : Stance). IsReleasing y.phase) (sym (only_one s i x e).1) r);
  watched = λ e. absurd (not_idle e);
}

single : (l : List Stance) (i : ℕ) (x : Stance) → length l ≡ 1 → get_elem? l i ≡ some x → announcements l ≡ x.announced
single [] i x one e = absurd (some-ne-none x (sym e))
single (y ∷ []) i x one e = let same : y.announced ≡ x.announced = ap (λ (s : Stance). s.announced) (only_one y i x e).1 in omega arith
single (y ∷ (z ∷ zs)) i x one e = absurd (omega arith)

abbrev is_none : {A : Type 0} → Option A → Type 0
is_none None = Unit {0}
is_none (Some x) = ⊥

none_some : {A : Type 0} (x : A) → None ≡ Some x → ⊥
none_some x e = subst is_none e tt

module _ {T N : Type 0} (name_of : T → N) (count_of : T → ℕ) (key : T) where
  abbrev M : Type 0
  M = Me (Option (Stored T)) (View N)

  pub opens : IsOrderly {N = N} name_of count_of key (opening (3 ∷ 0 ∷ []) (None ∷ []) (newcomer (name_of key)))
  opens = let v : View N = newcomer (name_of key) in record {
    word = 3;
    announced = 0;
    home = some None;
    words = refl;
    homes = refl;
    tidy = begins;
    fits = λ x e. absurd (none_some x (some-injective None (Some x) e));
    named = λ i u e. let o = only_one v i u e in (ap (λ (w : View N). w.name) (sym o.1), ap (λ (w : View N). w.number) (sym o.1) ∙ sym o.0);
    few = omega arith;
    all_made = λ u e. ap (λ (w : View N). w.made) (sym (only_one v 0 u e).1);
    gone = λ i u e b. absurd (true≢false (sym b ∙ ap (λ (w : View N). w.shut) (sym (only_one v i u e).1)));
    unborn = λ i u e b. (refl, refl);
    empty = λ i u e b. (refl, refl);
  }

  pub empties : (slots id : ℕ) (me : M) → me.0.unborn ≡ true → me.0.empty ≡ true → Allows (IsOrderly name_of count_of key) slots id me 0 (λ n. n) (told.emptied me)
  empties slots id me u e = on_state name_of count_of key slots id me (λ n. n) (λ n _ e. e) (told.emptied me) (λ home stances word announced f.
      let is = f.empty e in subst (λ (h : Place T). Goes name_of count_of key id me h stances word announced (told.emptied me word)) (sym is) (record {
        view = record me.0 { empty = false };
        act = takes 0 None;
        left = none;
        valid = refl;
        lands = refl;
        tidy = subst (IsTidy word announced none) (sym (set_again stances id me.0.stance f.at)) (subst (λ (h : Place T). IsTidy word announced (home_count h) stances) is f.tidy);
        fits = λ x e'. absurd (some-ne-none (Some x) (sym e'));
        name = refl;
        number = refl;
        made = refl;
        born = λ b. ((f.unborn u).0, u);
        full = refl;
        gone = f.dropped;
        told = (refl, refl);
      }))

  pub settles : (slots id : ℕ) (me : M) (x : Stored T) → me.1 ≡ (0, Some x) ∷ rest me.1 → me.0.unborn ≡ true → me.0.empty ≡ false → me.0.stance ≡ stance Holding 0 0 → x.handled ≡ 0 → name_of x.value ≡ me.0.name → count_of x.value ≡ 0
      → Allows (IsOrderly name_of count_of key) slots id me 0 (λ _. 1) (λ _. told.settled me 1)
  settles slots id me x has u full is none_yet named uncounted = on_state name_of count_of key slots id me (λ _. 1) (λ n three e. absurd (let t = three u in omega arith)) (λ _. told.settled me 1) (λ home stances word announced f.
      let w : Stance = stance Calm 0 0 in let one = f.unborn u in let sum : announcements stances ≡ 0 = single stances id me.0.stance one.1 f.at ∙ ap (λ (s : Stance). s.announced) is in let counted = f.tidy.counted in record {
        view = record me.0 { unborn = false; stance = w };
        act = gives;
        left = some (Some x);
        valid = tt;
        lands = ap (put_back (home ∷ [])) has;
        tidy = puts_home stances id me.0.stance w f.at 1 announced x.handled (home_count home) (subst (λ n. IsTidy n announced (home_count home) stances) one.0 f.tidy) (subst (λ (s : Stance). IsHolding s.phase) (sym is) tt) (λ h. h) (inr refl)
            (ap (λ (s : Stance). s.announced) (sym is)) (let zero_found = ap (λ (s : Stance). s.remembered) is in omega arith) (λ r. absurd r) (λ e less. absurd (omega arith));
        fits = λ y e. let same : x ≡ y = some_inner x y (some-injective (Some x) (Some y) e) in subst (λ (z : Stored T). (name_of z.value ≡ name_of key) × (count_of z.value ≡ z.handled)) same (named ∙ f.name, uncounted ∙ sym none_yet);
        name = refl;
        number = refl;
        made = refl;
        born = λ e. absurd (true≢false (sym e));
        full = full;
        gone = λ b. absurd (let t = one.0 in let e = f.dropped b in omega arith);
        told = (refl, refl);
      })

  pub settles_at : (slots id : ℕ) (me : M) (v : View N) (x : Stored T) (c : List (ℕ × Option (Stored T))) → me ≡ (v, (0, Some x) ∷ c) → v.unborn ≡ true → v.empty ≡ false → v.stance ≡ stance Holding 0 0 → x.handled ≡ 0 → name_of x.value ≡ v.name → count_of x.value ≡ 0
      → Allows (IsOrderly name_of count_of key) slots id me 0 (λ _. 1) (λ _. told.settled me 1)
  settles_at slots id me v x c e u full is none_yet named uncounted = subst (λ (m : M). Allows (IsOrderly name_of count_of key) slots id m 0 (λ _. 1) (λ _. told.settled m 1)) (sym e) (settles slots id (v, (0, Some x) ∷ c) x refl u full is none_yet named uncounted)

  -- the first hand splits off the next one
  pub splits : (v : View N) → v.unborn ≡ false → v.empty ≡ false → v.made < 4096 → Splits (IsOrderly name_of count_of key) 0 v (with_more v) (newest v)
  splits v born full room s o at = let l : List (View N) = set s.views 0 (with_more v) in let long : length l ≡ length s.views = length-set s.views 0 (with_more v) in
      let n : v.made ≡ length s.views = o.all_made v at in let longer : length (l ++ newest v ∷ []) ≡ length l + 1 = length-append l (newest v ∷ []) in
      let same : map stance_of (l ++ newest v ∷ []) ≡ map stance_of s.views ++ stance Calm 0 0 ∷ [] = map-append stance_of l (newest v ∷ []) ∙ ap (λ xs. xs ++ stance Calm 0 0 ∷ []) (map-set stance_of s.views 0 (with_more v) ∙ set_again (map stance_of s.views) 0 v.stance (at_map stance_of s.views 0 v at)) in record {
        word = o.word;
        announced = o.announced;
        home = o.home;
        words = o.words;
        homes = o.homes;
        tidy = subst (IsTidy o.word o.announced (home_count o.home)) (sym same) (joins (map stance_of s.views) o.word o.announced (home_count o.home) o.tidy);
        fits = o.fits;
        named = λ i u e. ⊎_elim (λ a. ⊎_elim (λ t. let m = o.named 0 v at in (ap (λ (w : View N). w.name) (sym t.1) ∙ m.0, ap (λ (w : View N). w.number) (sym t.1) ∙ m.1 ∙ sym t.0)) (λ t. o.named i u t.1) (at_set s.views 0 i (with_more v) u a))
            (λ t. let m = o.named 0 v at in (ap (λ (w : View N). w.name) (sym t.1) ∙ m.0, ap (λ (w : View N). w.number) (sym t.1) ∙ n ∙ sym long ∙ sym t.0)) (at_end l (newest v) i u e);
        few = omega arith;
        all_made = λ u e. ⊎_elim (λ a. ⊎_elim (λ t. let k : u.made ≡ v.made + 1 = ap (λ (w : View N). w.made) (sym t.1) in omega arith) (λ t. absurd (t.0 refl)) (at_set s.views 0 0 (with_more v) u a))
            (λ t. absurd (let short : length l ≡ 0 = sym t.0 in let there = below s.views 0 v at in omega arith)) (at_end l (newest v) 0 u e);
        gone = λ i u e b. ⊎_elim (λ a. ⊎_elim (λ t. o.gone 0 v at (ap (λ (w : View N). w.shut) t.1 ∙ b)) (λ t. o.gone i u t.1 b) (at_set s.views 0 i (with_more v) u a))
            (λ t. absurd (true≢false (sym b ∙ ap (λ (w : View N). w.shut) (sym t.1)))) (at_end l (newest v) i u e);
        unborn = λ i u e b. absurd (⊎_elim (λ a. ⊎_elim (λ t. true≢false (sym b ∙ ap (λ (w : View N). w.unborn) (sym t.1) ∙ born)) (λ t. not_two s.views 0 i v u at t.1 t.0 (o.unborn i u t.1 b).1) (at_set s.views 0 i (with_more v) u a))
            (λ t. true≢false (sym b ∙ ap (λ (w : View N). w.unborn) (sym t.1))) (at_end l (newest v) i u e));
        empty = λ i u e b. absurd (⊎_elim (λ a. ⊎_elim (λ t. true≢false (sym b ∙ ap (λ (w : View N). w.empty) (sym t.1) ∙ full)) (λ t. not_two s.views 0 i v u at t.1 t.0 (o.empty i u t.1 b).1) (at_set s.views 0 i (with_more v) u a))
            (λ t. true≢false (sym b ∙ ap (λ (w : View N). w.empty) (sym t.1))) (at_end l (newest v) i u e));
      }
