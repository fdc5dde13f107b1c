-- What holds of each element holds of the last one, and of those before it.
use Rattle.std.proofs.Common.{◌≡◌, zero, suc, ◌+◌, All, List, [], ◌∷◌, ◌++◌, length, Option, Some, sym, ap, ◌∙◌, subst, arith}
use Rattle.std.specs.Option.{option_to_list}
use Rattle.std.proofs.lemmas.List.Elements.{All-push}

all_cons : {X : Type 0} (P : X → Type 0) (y : X) (ys : List X) → P y → All P ys → All P (y ∷ ys)
all_cons P y ys p q zero d less = p
all_cons P y ys p q (suc k) d less = q k d (omega arith)

unsnoc : {X : Type 0} (P : X → Type 0) (xs : List X) (x : X) → All P (xs ++ x ∷ []) → All P xs × P x
unsnoc P [] x h = ((λ k d less. absurd (omega arith)), h 0 x (omega arith))
unsnoc P (y ∷ ys) x h = let r = unsnoc P ys x (λ k d less. h (suc k) d (omega arith)) in (all_cons P y ys (h 0 y (omega arith)) r.0, r.1)

pub popped : {X : Type 0} (P : X → Type 0) (old new : List X) (o : Option X) (x : X) → old ≡ new ++ option_to_list o → o ≡ Some x → All P old → All P new × P x
popped P old new o x e is h = unsnoc P new x (subst (All P) (e ∙ ap (λ (z : Option _). new ++ option_to_list z) is) h)

one_more : {X : Type 0} (l : List X) (x : X) → length (l ++ x ∷ []) ≡ length l + 1
one_more [] x = omega arith
one_more (y ∷ ys) x = let r = one_more ys x in omega arith

pub shorter : {X : Type 0} (old new : List X) (o : Option X) (x : X) → old ≡ new ++ option_to_list o → o ≡ Some x → length old ≡ length new + 1
shorter old new o x e is = ap length (e ∙ ap (λ (z : Option _). new ++ option_to_list z) is) ∙ one_more new x

-- the last element moves over to another list, as something else
pub moves : {X Y : Type 0} (old new : List X) (o : Option X) (x : X) (list list' : List Y) (y : Y) → old ≡ new ++ option_to_list o → o ≡ Some x → list' ≡ list ++ y ∷ []
    → (P : X → Type 0) (Q : Y → Type 0) → All P old → All Q list → (P x → Q y) → All P new × All Q list'
moves old new o x list list' y e is put P Q h k t = let p = popped P old new o x e is h in (p.0, subst (All Q) (sym put) (All-push Q list y k (t p.1)))

-- the last elements of two lists become one element of a third
pub paired : {X Y Z : Type 0} (xs xs' : List X) (o : Option X) (x : X) (ys ys' : List Y) (p : Option Y) (y : Y) (zs zs' : List Z) (z : Z)
    → xs ≡ xs' ++ option_to_list o → o ≡ Some x → ys ≡ ys' ++ option_to_list p → p ≡ Some y → zs' ≡ zs ++ z ∷ []
    → (P : X → Type 0) (Q : Y → Type 0) (R : Z → Type 0) → All P xs → All Q ys → All R zs → (P x → Q y → R z) → All P xs' × All Q ys' × All R zs'
paired xs xs' o x ys ys' p y zs zs' z e is f js put P Q R h k l t = let a = popped P xs xs' o x e is h in let b = popped Q ys ys' p y f js k in (a.0, b.0, subst (All R) (sym put) (All-push R zs z l (t a.1 b.1)))
