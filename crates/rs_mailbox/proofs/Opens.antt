-- A step on one of the two words keeps the rule where it keeps the invariant of the words.
use Rattle.std.proofs.Common.{◌≡◌, ◌≢◌, ℕ, zero, suc, ◌<◌, ◌≤◌, true, false, true≢false, List, [], ◌∷◌, map, length, length-set, get_or, set, Option, None, sym, ap, ◌∙◌, subst, ⊎_elim, arith}
use mathlib.Core.Option.{some, some-ne-none}
use lib.ListN.{get_elem?}
use lib.Seq.{map-set}
use Rattle.std.proofs.lemmas.List.{length-map}
use Rattle.atomic_table.specs.Table.{State, Me, Act, Valid, homes_after, carried_after, Allows}
use Rattle.atomic_table.proofs.Lists.{at_set, at_map}
use Rattle.rs_mailcore.specs.declared.thread.Stance.{Stance}
use Rattle.rs_mailcore.specs.Tidy.{IsTidy}
use Rattle.rs_mailbox.specs.declared.view.View.{View}
use Rattle.rs_mailbox.specs.declared.stored.Stored.{Stored}
use Rattle.rs_mailbox.specs.Order.{stance_of, Place, home_count, Fits, IsOrderly}

pub below : {A : Type 0} (l : List A) (i : ℕ) (a : A) → get_elem? l i ≡ some a → i < length l
below [] i a e = absurd (some-ne-none a (sym e))
below (x ∷ xs) zero a e = omega arith
below (x ∷ xs) (suc i) a e = let r = below xs i a e in omega arith

-- a list of one has no two places
pub not_two : {A : Type 0} (l : List A) (i j : ℕ) (a b : A) → get_elem? l i ≡ some a → get_elem? l j ≡ some b → j ≢ i → length l ≡ 1 → ⊥
not_two l i j a b e f n one = let p = below l i a e in let q = below l j b f in n (omega arith)

module _ {T N : Type 0} (name_of : T → N) (count_of : T → ℕ) (key : T) where
  abbrev M : Type 0
  M = Me (Option (Stored T)) (View N)

  abbrev St : Type 0
  St = State (Option (Stored T)) (View N)

  -- how a hand goes on: its new view, what it does with the slot, and what is at home afterwards
  pub record Goes (id : ℕ) (me : M) (home : Place T) (stances : List Stance) (word announced : ℕ) (then : M → Type 0) : Type 0 where
    pub view : View N
    pub act : Act (Option (Stored T))
    pub left : Place T
    pub valid : Valid (home ∷ []) me.1 act
    pub lands : homes_after (home ∷ []) me.1 act ≡ left ∷ []
    pub tidy : IsTidy word announced (home_count left) (set stances id view.stance)
    pub fits : Fits name_of count_of key left
    pub name : view.name ≡ me.0.name
    pub number : view.number ≡ me.0.number
    pub made : view.made ≡ me.0.made
    pub born : view.unborn ≡ true → (word ≡ 3) × (me.0.unborn ≡ true)
    pub full : view.empty ≡ false
    pub gone : view.shut ≡ true → word ≡ 2
    pub told : then (view, carried_after me.1 act)

  -- what a step may take for granted
  pub record Finds (id : ℕ) (me : M) (home : Place T) (stances : List Stance) (word announced : ℕ) : Type 0 where
    pub tidy : IsTidy word announced (home_count home) stances
    pub at : get_elem? stances id ≡ some me.0.stance
    pub fits : Fits name_of count_of key home
    pub name : me.0.name ≡ name_of key
    pub few : length stances ≤ 4096
    pub unborn : me.0.unborn ≡ true → (word ≡ 3) × (length stances ≡ 1)
    pub empty : me.0.empty ≡ true → home ≡ some None
    pub dropped : me.0.shut ≡ true → word ≡ 2

  -- `before` and `after` are the lists of the words
  orderly : (s : St) (o : IsOrderly name_of count_of key s) (id : ℕ) (me : M) → get_elem? s.views id ≡ some me.0 → (words : List ℕ) (word announced : ℕ) (stays : o.word ≡ 2 → word ≡ 2) (then : M → Type 0)
      → words ≡ word ∷ announced ∷ [] → (g : Goes id me o.home (map stance_of s.views) word announced then)
      → IsOrderly name_of count_of key (record { words = words; homes = homes_after s.homes me.1 g.act; views = set s.views id g.view })
  orderly s o id me at words word announced stays then is g = let long = length-set s.views id g.view in record {
    word = word;
    announced = announced;
    home = g.left;
    words = is;
    homes = ap (λ hs. homes_after hs me.1 g.act) o.homes ∙ g.lands;
    tidy = subst (IsTidy word announced (home_count g.left)) (sym (map-set stance_of s.views id g.view)) g.tidy;
    fits = g.fits;
    named = λ i v e. ⊎_elim (λ t. let same = o.named id me.0 at in (ap (λ (u : View N). u.name) (sym t.1) ∙ g.name ∙ same.0, ap (λ (u : View N). u.number) (sym t.1) ∙ g.number ∙ same.1 ∙ sym t.0))
        (λ t. o.named i v t.1) (at_set s.views id i g.view v e);
    few = subst (λ n. n ≤ 4096) (sym long) o.few;
    all_made = λ v e. ⊎_elim (λ t. ap (λ (u : View N). u.made) (sym t.1) ∙ g.made ∙ o.all_made me.0 (ap (get_elem? s.views) t.0 ∙ at) ∙ sym long) (λ t. o.all_made v t.1 ∙ sym long) (at_set s.views id 0 g.view v e);
    gone = λ i v e u. ⊎_elim (λ t. g.gone (ap (λ (w : View N). w.shut) t.1 ∙ u)) (λ t. stays (o.gone i v t.1 u)) (at_set s.views id i g.view v e);
    unborn = λ i v e u. ⊎_elim (λ t. let b = g.born (ap (λ (w : View N). w.unborn) t.1 ∙ u) in (b.0, long ∙ (o.unborn id me.0 at b.1).1))
        (λ t. absurd (not_two s.views id i me.0 v at t.1 t.0 (o.unborn i v t.1 u).1)) (at_set s.views id i g.view v e);
    empty = λ i v e u. ⊎_elim (λ t. absurd (true≢false (sym u ∙ ap (λ (w : View N). w.empty) (sym t.1) ∙ g.full)))
        (λ t. absurd (not_two s.views id i me.0 v at t.1 t.0 (o.empty i v t.1 u).1)) (at_set s.views id i g.view v e);
  }

  finds : (s : St) (o : IsOrderly name_of count_of key s) (id : ℕ) (me : M) → get_elem? s.views id ≡ some me.0 → Finds id me o.home (map stance_of s.views) o.word o.announced
  finds s o id me at = record {
    tidy = o.tidy;
    at = at_map stance_of s.views id me.0 at;
    fits = o.fits;
    name = (o.named id me.0 at).0;
    few = subst (λ n. n ≤ 4096) (sym (length-map s.views stance_of)) o.few;
    unborn = λ u. let r = o.unborn id me.0 at u in (r.0, length-map s.views stance_of ∙ r.1);
    empty = λ u. (o.empty id me.0 at u).0;
    dropped = o.gone id me.0 at;
  }

  -- a step on the state word
  pub on_state : (slots id : ℕ) (me : M) (f : ℕ → ℕ) (stays : (n : ℕ) → (me.0.unborn ≡ true → n ≡ 3) → n ≡ 2 → f n ≡ 2) (then : ℕ → M → Type 0)
      → ((home : Place T) (stances : List Stance) (word announced : ℕ) → Finds id me home stances word announced → Goes id me home stances (f word) announced (then word))
      → Allows (IsOrderly name_of count_of key) slots id me 0 f then
  on_state slots id me f stays then go s o _ at _ = let found : get_or s.words 0 0 ≡ o.word = ap (λ ws. get_or ws 0 0) o.words in
      let g = go o.home (map stance_of s.views) o.word o.announced (finds s o id me at) in (
        g.view,
        g.act,
        subst (λ hs. Valid hs me.1 g.act) (sym o.homes) g.valid,
        orderly s o id me at (set s.words 0 (f (get_or s.words 0 0))) (f o.word) o.announced (stays o.word (λ u. (o.unborn id me.0 at u).0)) (then o.word) (ap (λ ws. set ws 0 (f (get_or ws 0 0))) o.words) g,
        subst (λ n. then n (g.view, carried_after me.1 g.act)) (sym found) g.told,
      )

  -- a step on the count of announcements
  pub on_count : (slots id : ℕ) (me : M) (f : ℕ → ℕ) (then : ℕ → M → Type 0)
      → ((home : Place T) (stances : List Stance) (word announced : ℕ) → Finds id me home stances word announced → Goes id me home stances word (f announced) (then announced))
      → Allows (IsOrderly name_of count_of key) slots id me 1 f then
  on_count slots id me f then go s o _ at _ = let found : get_or s.words 1 0 ≡ o.announced = ap (λ ws. get_or ws 1 0) o.words in
      let g = go o.home (map stance_of s.views) o.word o.announced (finds s o id me at) in (
        g.view,
        g.act,
        subst (λ hs. Valid hs me.1 g.act) (sym o.homes) g.valid,
        orderly s o id me at (set s.words 1 (f (get_or s.words 1 0))) o.word (f o.announced) (λ e. e) (then o.announced) (ap (λ ws. set ws 1 (f (get_or ws 1 0))) o.words) g,
        subst (λ n. then n (g.view, carried_after me.1 g.act)) (sym found) g.told,
      )
