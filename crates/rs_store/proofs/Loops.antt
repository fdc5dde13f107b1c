-- One step of the loops over lists, and over region ids.
use Rattle.std.proofs.Common.{◌≡◌, ℕ, suc, ◌+◌, ◌<◌, List, [], ◌∷◌, ◌++◌, length, get_or, take, take-suc, drop, refl, ap, sym, ◌∙◌, add-one, drop-cons, arith}
use Rattle.std.specs.Prelude.{Bool, true, Option, Some, None}
use Rattle.std.specs.List.{find}
use Rattle.rs_entry.specs.declared.entry.Entry.{Entry}
use Rattle.rs_entry.specs.declared.input.Store.{Store}
use Rattle.rs_store.specs.Ends.{first_of}
use Rattle.rs_store.specs.Stores.{Applied, carried_next, carried_at, stands, first_some}

pub take_here : {A : Type 0} (xs : List A) (i : ℕ) (x : A) → i < length xs → x ≡ get_or xs i x → take (i + 1) xs ≡ take i xs ++ x ∷ []
take_here xs i x h e = let one : i + 1 ≡ suc i = omega arith in ap (λ n. take n xs) one ∙ (take-suc xs i x h ∙ ap (λ y. take i xs ++ y ∷ []) (sym e))

at_drop : (xs : List ℕ) (i : ℕ) → i < length xs → drop i xs ≡ get_or xs i 0 ∷ drop (i + 1) xs
at_drop xs i h = rw (add-one, drop-cons xs i 0)

find_this : (p : ℕ → Bool) (x : ℕ) (xs : List ℕ) → p x ≡ true → find p (x ∷ xs) ≡ Some x
find_this p x xs e = rw e refl

pub find_yes : (p : ℕ → Bool) (xs : List ℕ) (i : ℕ) → i < length xs → p (get_or xs i 0) ≡ true → find p (drop i xs) ≡ Some (get_or xs i 0)
find_yes p xs i h e = ap (find p) (at_drop xs i h) ∙ find_this p (get_or xs i 0) (drop (i + 1) xs) e

pub carried_no : (store : Store) (g : Applied) (ids : List ℕ) (i id index : ℕ) → i < length ids
    → carried_at id index (stands store g (get_or ids i 0)) ≡ None
    → carried_next store g (drop i ids) id index ≡ carried_next store g (drop (i + 1) ids) id index
carried_no store g ids i id index h e =
    ap (λ xs. carried_next store g xs id index) (at_drop ids i h)
    ∙ ap (λ o. first_some o (carried_next store g (drop (i + 1) ids) id index)) e

pub carried_yes : (store : Store) (g : Applied) (ids : List ℕ) (i id index : ℕ) (e : Entry) → i < length ids
    → carried_at id index (stands store g (get_or ids i 0)) ≡ Some e
    → carried_next store g (drop i ids) id index ≡ Some e
carried_yes store g ids i id index e h f =
    ap (λ xs. carried_next store g xs id index) (at_drop ids i h)
    ∙ ap (λ o. first_some o (carried_next store g (drop (i + 1) ids) id index)) f

pub first_no : {X : Type 0} → (p : ℕ → Option X) (xs : List ℕ) (i : ℕ) → i < length xs → p (get_or xs i 0) ≡ None → first_of p (drop i xs) ≡ first_of p (drop (i + 1) xs)
first_no p xs i h e = ap (first_of p) (at_drop xs i h) ∙ ap (λ o. first_some o (first_of p (drop (i + 1) xs))) e

pub first_yes : {X : Type 0} → (p : ℕ → Option X) (xs : List ℕ) (i : ℕ) (x : X) → i < length xs → p (get_or xs i 0) ≡ Some x → first_of p (drop i xs) ≡ Some x
first_yes p xs i x h e = ap (first_of p) (at_drop xs i h) ∙ ap (λ o. first_some o (first_of p (drop (i + 1) xs))) e
