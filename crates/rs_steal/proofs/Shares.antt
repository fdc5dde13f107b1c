-- Each push, each pop or steal and each new pass keeps the rule.
use Rattle.std.proofs.Common.{◌≡◌, ◌≢◌, ℕ, zero, suc, ◌+◌, ◌<◌, ◌≤◌, ◌⊎◌, Bool, true, false, true≢false, eqb, All, List, [], ◌∷◌, ◌++◌, length, length-set, set, sym, refl, ap, ◌∙◌, subst, inl, inr, ⊎_elim, append_assoc, append-nil, eq-eqb, ne_eqb, arith}
use Rattle.std.proofs.lemmas.List.Elements.{All-push}
use Rattle.std.proofs.lemmas.List.{length-append}
use mathlib.Core.Option.{some, some-injective, some-ne-none}
use lib.ListN.{get_elem?}
use Rattle.atomic_table.proofs.Lists.{at_set}
use Rattle.crossbeam_deque.specs.Tasks.{Pushes, Takes, Finds, FindsFew, Forks}
use Rattle.rs_steal.specs.declared.deque_rule.DequeView.{DequeView}
use Rattle.rs_steal.proofs.Onces.{each_once}
use Rattle.rs_steal.specs.Rule.{kept, of, beginning, puts, gets, founder, member, made_another, IsShared, PutIn, TakenOut, WasEmpty}

pub below_length : {A : Type 0} (l : List A) (i : ℕ) (a : A) → get_elem? l i ≡ some a → i < length l
below_length [] i a e = absurd (some-ne-none a (sym e))
below_length (x ∷ xs) zero a e = omega arith
below_length (x ∷ xs) (suc i) a e = let r = below_length xs i a e in omega arith

pub at_end : {A : Type 0} (l : List A) (a : A) (j : ℕ) (b : A) → get_elem? (l ++ a ∷ []) j ≡ some b → (get_elem? l j ≡ some b) ⊎ ((j ≡ length l) × (a ≡ b))
at_end [] a zero b e = inr (refl, some-injective a b e)
at_end [] a (suc j) b e = absurd (some-ne-none b (sym e))
at_end (x ∷ xs) a zero b e = inl e
at_end (x ∷ xs) a (suc j) b e = ⊎_elim (λ t. inl t) (λ t. inr (ap suc t.0, t.1)) (at_end xs a j b e)

all_head : {X : Type 0} (P : X → Type 0) (x : X) (xs : List X) → All P (x ∷ xs) → P x
all_head P x xs h = h 0 x (omega arith)

all_tail : {X : Type 0} (P : X → Type 0) (x : X) (xs : List X) → All P (x ∷ xs) → All P xs
all_tail P x xs h = λ k d less. h (suc k) d (omega arith)

all_one : {X : Type 0} (P : X → Type 0) (x : X) → P x → All P (x ∷ [])
all_one P x h zero d less = h
all_one P x h (suc k) d less = absurd (omega arith)

module _ {A : Type 0} where
  kept-append : (b : Bool) (x : A) (l m : List A) → kept b x (l ++ m) ≡ kept b x l ++ m
  kept-append true x l m = refl
  kept-append false x l m = refl

  of-snoc : (p : ℕ) (ss : List ℕ) (s : ℕ) (xs : List A) (x : A) → length ss ≡ length xs → of p (ss ++ s ∷ []) (xs ++ x ∷ []) ≡ of p ss xs ++ kept (eqb s p) x []
  of-snoc p [] s [] x e = refl
  of-snoc p [] s (y ∷ ys) x e = absurd (omega arith)
  of-snoc p (t ∷ ts) s [] x e = absurd (omega arith)
  of-snoc p (t ∷ ts) s (y ∷ ys) x e = ap (kept (eqb t p) y) (of-snoc p ts s ys x (omega arith)) ∙ kept-append (eqb t p) y (of p ts ys) (kept (eqb s p) x [])

first_of : (p : ℕ) (v : DequeView) → get_elem? (beginning ∷ []) p ≡ some v → ([] ≡ v.popped) × (0 ≡ v.bound) × (1 ≡ v.count)
first_of zero v e = let s = some-injective beginning v e in (ap (λ (u : DequeView). u.popped) s, ap (λ (u : DequeView). u.bound) s, ap (λ (u : DequeView). u.count) s)
first_of (suc p) v e = absurd (some-ne-none v (sym e))

pub begins : IsShared [] (beginning ∷ [])
begins = record {
  gone = [];
  takers = [];
  bound = 0;
  count = 1;
  tagged = refl;
  owner = λ v e. ap (λ (u : DequeView). u.pushed) (sym (some-injective beginning v e));
  each = λ p v e. let f = first_of p v e in (sym f.0, sym f.1, sym f.2);
  later = λ p le. refl;
  made = λ v e. ap (λ (u : DequeView). u.made) (sym (some-injective beginning v e));
  few = omega arith;
  fresh = λ v e f. (refl, refl, refl);
  below = λ k d less. absurd (omega arith);
}

-- the owner pushes
pub pushing : (port : ℕ) (v : DequeView) (x : ℕ) → port ≡ 0 → x < v.bound → Pushes IsShared port v (x ∷ []) (PutIn v (x ∷ []))
pushing port v x is small items views h at = let w : DequeView = puts v (x ∷ []) in let long = length-set views port w in let here = h.each port v at in
    let first = ap (get_elem? views) (sym is) ∙ at in
    let after : IsShared (items ++ x ∷ []) (set views port w) = record {
      gone = h.gone;
      takers = h.takers;
      bound = h.bound;
      count = h.count;
      tagged = h.tagged;
      owner = λ u e. ⊎_elim (λ t. ap (λ (y : DequeView). y.pushed) (sym t.1) ∙ ap (λ l. l ++ x ∷ []) (h.owner v first) ∙ append_assoc h.gone items (x ∷ []))
          (λ t. absurd (t.0 (sym is))) (at_set views port 0 w u e);
      each = λ p u e. ⊎_elim (λ t. subst (λ (y : DequeView). (y.popped ≡ of p h.takers h.gone) × (y.bound ≡ h.bound) × (y.count ≡ h.count)) t.1 (subst (λ (q : ℕ). (v.popped ≡ of q h.takers h.gone) × (v.bound ≡ h.bound) × (v.count ≡ h.count)) (sym t.0) here))
          (λ t. h.each p u t.1) (at_set views port p w u e);
      later = λ p le. h.later p (omega arith);
      made = λ u e. ⊎_elim (λ t. ap (λ (y : DequeView). y.made) (sym t.1) ∙ h.made v first ∙ sym long) (λ t. absurd (t.0 (sym is))) (at_set views port 0 w u e);
      few = let a = h.few in omega (arith, a, long);
      fresh = λ u e f. ⊎_elim (λ t. let o = (h.fresh v first (ap (λ (y : DequeView). y.fresh) t.1 ∙ f)).0 in let b = here.1 in absurd (omega (arith, o, b, small)))
          (λ t. absurd (t.0 (sym is))) (at_set views port 0 w u e);
      below = All-push (λ (y : ℕ). y < h.bound) items x h.below (subst (λ (b : ℕ). x < b) here.1 small);
    } in (
      w,
      after,
      (let at_owner = subst (λ (q : ℕ). IsShared (items ++ x ∷ []) (set views q w)) is after in (refl, (items, views, h, first, at_owner, each_once (items ++ x ∷ []) (set views 0 w) at_owner))),
    )

abbrev is_empty : List ℕ → Type 0
is_empty [] = Unit {0}
is_empty (x ∷ xs) = ⊥

-- any pass takes the ticket at the front
one_leaves : (port : ℕ) (v : DequeView) (x : ℕ) (items : List ℕ) (views : List DequeView) → IsShared (x ∷ items) views → get_elem? views port ≡ some v → IsShared items (set views port (gets v (x ∷ [])))
one_leaves port v x items views h at = let w : DequeView = gets v (x ∷ []) in let long = length-set views port w in let here = h.each port v at in
    let line : (h.gone ++ x ∷ []) ++ items ≡ h.gone ++ x ∷ items = append_assoc h.gone (x ∷ []) items in
    let after = λ (p : ℕ). of-snoc p h.takers port h.gone x h.tagged in
    let mine : of port (h.takers ++ port ∷ []) (h.gone ++ x ∷ []) ≡ v.popped ++ x ∷ [] = after port ∙ ap (λ b. of port h.takers h.gone ++ kept b x []) (eq-eqb port port refl) ∙ ap (λ l. l ++ x ∷ []) (sym here.0) in
    let others = λ (p : ℕ) (ne : port ≢ p). after p ∙ ap (λ b. of p h.takers h.gone ++ kept b x []) (ne_eqb port p ne) ∙ append-nil (of p h.takers h.gone) in record {
      gone = h.gone ++ x ∷ [];
      takers = h.takers ++ port ∷ [];
      bound = h.bound;
      count = h.count;
      tagged = let a = length-append h.takers (port ∷ []) in let b = length-append h.gone (x ∷ []) in let t = h.tagged in omega arith;
      owner = λ u e. ⊎_elim (λ t. ap (λ (y : DequeView). y.pushed) (sym t.1) ∙ h.owner v (ap (get_elem? views) t.0 ∙ at) ∙ sym line)
          (λ t. h.owner u t.1 ∙ sym line) (at_set views port 0 w u e);
      each = λ p u e. ⊎_elim (λ t. (subst (λ (q : ℕ). u.popped ≡ of q (h.takers ++ port ∷ []) (h.gone ++ x ∷ [])) (sym t.0) (ap (λ (y : DequeView). y.popped) (sym t.1) ∙ sym mine), ap (λ (y : DequeView). y.bound) (sym t.1) ∙ here.1, ap (λ (y : DequeView). y.count) (sym t.1) ∙ here.2))
          (λ t. let o = h.each p u t.1 in (o.0 ∙ sym (others p (λ e'. t.0 (sym e'))), o.1, o.2)) (at_set views port p w u e);
      later = λ p le. others p (λ same. let r = below_length views port v at in absurd (omega arith)) ∙ h.later p (omega arith);
      made = λ u e. ⊎_elim (λ t. ap (λ (y : DequeView). y.made) (sym t.1) ∙ h.made v (ap (get_elem? views) t.0 ∙ at) ∙ sym long) (λ t. h.made u t.1 ∙ sym long) (at_set views port 0 w u e);
      few = let a = h.few in omega (arith, a, long);
      fresh = λ u e f. ⊎_elim (λ t. absurd (subst is_empty (sym (h.fresh v (ap (get_elem? views) t.0 ∙ at) (ap (λ (y : DequeView). y.fresh) t.1 ∙ f)).1) tt))
          (λ t. absurd (subst is_empty (sym (h.fresh u t.1 f).1) tt)) (at_set views port 0 w u e);
      below = all_tail (λ (y : ℕ). y < h.bound) x items h.below;
    }

pub taking : (port : ℕ) (v : DequeView) → Takes IsShared port v 1 (TakenOut v)
taking port v [] items views some_leave few h at = absurd (omega arith)
taking port v (x ∷ y ∷ xs) items views some_leave few h at = absurd (omega arith)
taking port v (x ∷ []) items views some_leave few h at = let after = one_leaves port v x items views h at in (
  gets v (x ∷ []),
  after,
  (refl, all_one (λ (y : ℕ). y < v.bound) x (subst (λ (b : ℕ). x < b) (sym (h.each port v at).1) (all_head (λ (y : ℕ). y < h.bound) x items h.below)), (items, views, port, h, at, after, each_once items (set views port (gets v (x ∷ []))) after)),
)

pub finding : (port : ℕ) (v : DequeView) → Finds IsShared port v (WasEmpty v)
finding port v views h at = (views, port, h, at)

pub finding_few : (most port : ℕ) (v : DequeView) → most ≡ 0 → FindsFew IsShared most port v (WasEmpty v)
finding_few most port v none [] views few h at = (views, port, h, at)
finding_few most port v none (x ∷ xs) views few h at = absurd (omega arith)

-- the first pass gives the deque its bound and its number, and makes another
pub founds : (port : ℕ) (v : DequeView) (b n : ℕ) → port ≡ 0 → v.fresh ≡ true → 2 ≤ n → Forks IsShared port v (founder b n v) (member b n)
founds port v b n is new room items views h at = let l : List DequeView = set views port (founder b n v) in let long : length l ≡ length views = length-set views port (founder b n v) in
    let first = ap (get_elem? views) (sym is) ∙ at in let f = h.fresh v first new in let one = f.2 in let longer : length (l ++ member b n ∷ []) ≡ length l + 1 = length-append l (member b n ∷ []) in
    let here = h.each port v at in let none_else : (j : ℕ) (u : DequeView) → j ≢ port → get_elem? views j ≡ some u → ⊥ = λ j u ne e. let q = below_length views j u e in ne (omega arith) in record {
      gone = h.gone;
      takers = h.takers;
      bound = b;
      count = n;
      tagged = h.tagged;
      owner = λ u e. ⊎_elim (λ a. ⊎_elim (λ t. ap (λ (y : DequeView). y.pushed) (sym t.1) ∙ h.owner v first) (λ t. absurd (t.0 (sym is))) (at_set views port 0 (founder b n v) u a))
          (λ t. absurd (let z : length l ≡ 0 = sym t.0 in omega arith)) (at_end l (member b n) 0 u e);
      each = λ p u e. ⊎_elim (λ a. ⊎_elim (λ t. (subst (λ (q : ℕ). u.popped ≡ of q h.takers h.gone) (sym t.0) (ap (λ (y : DequeView). y.popped) (sym t.1) ∙ here.0), ap (λ (y : DequeView). y.bound) (sym t.1), ap (λ (y : DequeView). y.count) (sym t.1)))
          (λ t. absurd (none_else p u t.0 t.1)) (at_set views port p (founder b n v) u a))
          (λ t. (ap (λ (y : DequeView). y.popped) (sym t.1) ∙ sym (h.later p (omega (arith, t.0))), ap (λ (y : DequeView). y.bound) (sym t.1), ap (λ (y : DequeView). y.count) (sym t.1))) (at_end l (member b n) p u e);
      later = λ p le. h.later p (omega arith);
      made = λ u e. ⊎_elim (λ a. ⊎_elim (λ t. ap (λ (y : DequeView). y.made) (sym t.1) ∙ omega (arith, longer, long, one)) (λ t. absurd (t.0 (sym is))) (at_set views port 0 (founder b n v) u a))
          (λ t. absurd (let z : length l ≡ 0 = sym t.0 in omega arith)) (at_end l (member b n) 0 u e);
      few = omega (arith, longer, long, one, room);
      fresh = λ u e fr. ⊎_elim (λ a. ⊎_elim (λ t. absurd (true≢false (sym (ap (λ (y : DequeView). y.fresh) t.1 ∙ fr)))) (λ t. absurd (t.0 (sym is))) (at_set views port 0 (founder b n v) u a))
          (λ t. absurd (let z : length l ≡ 0 = sym t.0 in omega arith)) (at_end l (member b n) 0 u e);
      below = subst (All (λ (x : ℕ). x < b)) (sym f.1) (λ k d less. absurd (omega arith));
    }

-- one more pass, which has taken nothing
pub joins : (port : ℕ) (v : DequeView) → port ≡ 0 → v.fresh ≡ false → v.made < v.count → Forks IsShared port v (made_another v) (member v.bound v.count)
joins port v is old room items views h at = let w : DequeView = made_another v in let m : DequeView = member v.bound v.count in let l : List DequeView = set views port w in let long : length l ≡ length views = length-set views port w in let longer : length (l ++ m ∷ []) ≡ length l + 1 = length-append l (m ∷ []) in
    let first = ap (get_elem? views) (sym is) ∙ at in let here = h.each port v at in let z = below_length views port v at in
    let was : (p : ℕ) (u : DequeView) → get_elem? l p ≡ some u → (t : DequeView) × (get_elem? views p ≡ some t) × (u.fresh ≡ t.fresh) × (u.bound ≡ t.bound) × (u.count ≡ t.count) × (u.pushed ≡ t.pushed) × (u.popped ≡ t.popped) =
    λ p u a. ⊎_elim (λ t. (v, ap (get_elem? views) t.0 ∙ at, ap (λ (y : DequeView). y.fresh) (sym t.1), ap (λ (y : DequeView). y.bound) (sym t.1), ap (λ (y : DequeView). y.count) (sym t.1), ap (λ (y : DequeView). y.pushed) (sym t.1), ap (λ (y : DequeView). y.popped) (sym t.1)))
    (λ t. (u, t.1, refl, refl, refl, refl, refl)) (at_set views port p w u a) in record {
      gone = h.gone;
      takers = h.takers;
      bound = h.bound;
      count = h.count;
      tagged = h.tagged;
      owner = λ u e. ⊎_elim (λ a. let o = was 0 u a in o.5 ∙ h.owner o.0 o.1) (λ t. absurd (let y : length l ≡ 0 = sym t.0 in omega arith)) (at_end l m 0 u e);
      each = λ p u e. ⊎_elim (λ a. let o = was p u a in let x = h.each p o.0 o.1 in (o.6 ∙ x.0, o.3 ∙ x.1, o.4 ∙ x.2))
          (λ t. (ap (λ (y : DequeView). y.popped) (sym t.1) ∙ sym (h.later p (omega (arith, t.0))), ap (λ (y : DequeView). y.bound) (sym t.1) ∙ here.1, ap (λ (y : DequeView). y.count) (sym t.1) ∙ here.2)) (at_end l m p u e);
      later = λ p le. h.later p (omega arith);
      made = λ u e. ⊎_elim (λ a. ⊎_elim (λ t. ap (λ (y : DequeView). y.made) (sym t.1) ∙ (let o = h.made v first in omega (arith, o, longer, long))) (λ t. absurd (t.0 (sym is))) (at_set views port 0 w u a))
          (λ t. absurd (let y : length l ≡ 0 = sym t.0 in omega arith)) (at_end l m 0 u e);
      few = let o = h.made v first in let c = here.2 in omega (arith, o, longer, long, room, c);
      fresh = λ u e fr. ⊎_elim (λ a. let o = was 0 u a in absurd (true≢false (sym fr ∙ o.2 ∙ ap (λ (y : DequeView). y.fresh) (sym (some-injective v o.0 (sym first ∙ o.1))) ∙ old))) (λ t. absurd (let y : length l ≡ 0 = sym t.0 in omega arith)) (at_end l m 0 u e);
      below = h.below;
    }
