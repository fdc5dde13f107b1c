-- A push and a pop keep the order of each sender, and a mailbox that is open and has messages is looked after.
use Rattle.std.proofs.Common.{◌≡◌, ◌≢◌, ℕ, zero, suc, ◌+◌, ◌<◌, Bool, true, false, eqb, All, List, [], ◌∷◌, ◌++◌, map, length, length-set, sym, refl, ap, ◌∙◌, subst, ⊎_elim, append-nil, eq-eqb, ne_eqb, arith}
use Rattle.std.proofs.lemmas.List.Elements.{All-push}
use mathlib.Core.Logic.{dite}
use mathlib.Core.Option.{some, some-injective, some-ne-none}
use native.Mathlib.Decide.{ℕ_discrete}
use lib.ListN.{get_elem?}
use Rattle.rs_mailcore.specs.declared.thread.Stance.{Stance}
use Rattle.rs_mailcore.specs.declared.letter.Place.{Place}
use Rattle.rs_mailcore.specs.declared.letter.Place.TheVariants.{Home, With, Given}
use Rattle.rs_mailcore.specs.declared.letter.Letter.{Letter}
use Rattle.rs_mailcore.specs.declared.thread.Thread.{Thread}
use Rattle.rs_mailcore.specs.declared.step.Step.TheVariants.{Push}
use Rattle.rs_mailcore.specs.Words.{announcements}
use Rattle.rs_mailcore.specs.Moment.{Moment, pick, raise_taken, after, popped}
use Rattle.rs_mailcore.specs.Lawful.{stance_of, home_count, pushes, numbers, counting, InSenderOrder}
use Rattle.rs_mailcore.proofs.Lists.{at_set}
use Rattle.rs_mailcore.proofs.Steps.{raised_at, raised_length}

counting-snoc : (n k : ℕ) → counting n k ++ (n + k) ∷ [] ≡ counting n (suc k)
counting-snoc n zero = ap (λ (x : ℕ). x ∷ []) (omega arith)
counting-snoc n (suc k) = ap (λ (l : List ℕ). n ∷ l) (let e : n + suc k ≡ n + 1 + k = omega arith in ap (λ (x : ℕ). counting (n + 1) k ++ x ∷ []) e ∙ counting-snoc (n + 1) k)

raised_taken : (l : List Thread) (s j : ℕ) (x y : Thread) → get_elem? l j ≡ some x → get_elem? (raise_taken l s) j ≡ some y → (j ≡ s → y.taken ≡ x.taken + 1) × (j ≢ s → y.taken ≡ x.taken)
raised_taken [] s j x y e f = absurd (some-ne-none x (sym e))
raised_taken (z ∷ zs) zero zero x y e f = ((λ _. ap (λ (t : Thread). t.taken) (sym (some-injective (record z { taken = z.taken + 1 }) y f)) ∙ ap (λ (t : Thread). t.taken + 1) (some-injective z x e)), λ n. absurd (n refl))
raised_taken (z ∷ zs) zero (suc j) x y e f = ((λ h. absurd (omega arith)), λ _. ap (λ (t : Thread). t.taken) (some-injective y x (sym f ∙ e)))
raised_taken (z ∷ zs) (suc s) zero x y e f = ((λ h. absurd (omega arith)), λ _. ap (λ (t : Thread). t.taken) (sym (some-injective z y f) ∙ some-injective z x e))
raised_taken (z ∷ zs) (suc s) (suc j) x y e f = let r = raised_taken zs s j x y e f in ((λ h. r.0 (omega arith)), λ n. r.1 (λ h. n (ap suc h)))

abbrev is_nil : List ℕ → Type 0
is_nil [] = Unit {0}
is_nil (x ∷ xs) = ⊥

cons_nil : (a : ℕ) (l : List ℕ) → a ∷ l ≡ [] → ⊥
cons_nil a l e = subst is_nil (sym e) tt

abbrev tail_of : List ℕ → List ℕ
tail_of [] = []
tail_of (x ∷ xs) = xs

pick-append : (b : Bool) (x : ℕ) (l m : List ℕ) → pick b (x ∷ (l ++ m)) (l ++ m) ≡ pick b (x ∷ l) l ++ m
pick-append true x l m = refl
pick-append false x l m = refl

-- what is left once the first of a count is taken away
counted_on : (n k : ℕ) (a : ℕ) (l : List ℕ) → a ∷ l ≡ counting n k → (j : ℕ) × (k ≡ suc j) × (l ≡ counting (n + 1) j)
counted_on n zero a l e = absurd (cons_nil a l e)
counted_on n (suc j) a l e = (j, refl, ap tail_of e)

module _ {M : Type 0} where
  numbers-snoc : (s : ℕ) (q : List (Letter M)) (a : Letter M) → numbers s (q ++ a ∷ []) ≡ numbers s q ++ pick (eqb a.sender s) (a.number ∷ []) []
  numbers-snoc s [] a = refl
  numbers-snoc s (l ∷ ls) a = ap (λ (r : List ℕ). pick (eqb l.sender s) (l.number ∷ r) r) (numbers-snoc s ls a) ∙ pick-append (eqb l.sender s) l.number (numbers s ls) (pick (eqb a.sender s) (a.number ∷ []) [])

  pub push : (m : Moment M) (i : ℕ) (x : Thread) (message : M) → get_elem? m.threads i ≡ some x → InSenderOrder m → i < length m.threads → InSenderOrder (after m i x (Push message))
  push m i x message at o low = let w : Thread = record x { pushed = x.pushed + 1 } in let a : Letter M = record { sender = i; number = x.pushed + 1; message = message } in (
    (λ s y e. ⊎_elim (λ t. let h = o.0 i x at in let n : x.taken + 1 + h.0 ≡ x.pushed + 1 = omega (arith, h.2) in
        subst (λ (z : ℕ × Thread). (k : ℕ) × (numbers z.0 (m.queue ++ a ∷ []) ≡ counting (z.1.taken + 1) k) × (z.1.taken + k ≡ z.1.pushed)) (λ k. (sym t.0 k, t.1 k))
        (suc h.0, numbers-snoc i m.queue a ∙ ap (λ b. numbers i m.queue ++ pick b ((x.pushed + 1) ∷ []) []) (eq-eqb i i refl) ∙ ap (λ r. r ++ (x.pushed + 1) ∷ []) h.1 ∙ ap (λ (z : ℕ). counting (x.taken + 1) h.0 ++ z ∷ []) (sym n) ∙ counting-snoc (x.taken + 1) h.0, omega (arith, h.2)))
        (λ t. let h = o.0 s y t.1 in (h.0, numbers-snoc s m.queue a ∙ ap (λ b. numbers s m.queue ++ pick b ((x.pushed + 1) ∷ []) []) (ne_eqb i s (λ e'. t.0 (sym e'))) ∙ append-nil (numbers s m.queue) ∙ h.1, h.2)) (at_set m.threads i s w y e)),
    subst (λ n. All (λ (l : Letter M). l.sender < n) (m.queue ++ a ∷ [])) (sym (length-set m.threads i w)) (All-push (λ (l : Letter M). l.sender < length m.threads) m.queue a o.1 low),
  )

  pub pop : (m : Moment M) (q : List (Letter M)) → m.queue ≡ q → InSenderOrder m → InSenderOrder (popped m q)
  pop m [] is o = o
  pop m (a ∷ rest) is o = (
    (λ s y e. let u = raised_at m.threads a.sender s y e in let h = o.0 s u.0 u.1 in let line : numbers s (a ∷ rest) ≡ counting (u.0.taken + 1) h.0 = ap (numbers s) (sym is) ∙ h.1 in let k = raised_taken m.threads a.sender s u.0 y u.1 e in
        dite (ℕ_discrete a.sender s)
        (λ hit. let t = k.0 (sym hit) in let c = counted_on (u.0.taken + 1) h.0 a.number (numbers s rest) (sym (ap (λ b. pick b (a.number ∷ numbers s rest) (numbers s rest)) (eq-eqb a.sender s hit)) ∙ line) in
        (c.0, c.2 ∙ ap (λ (z : ℕ). counting (z + 1) c.0) (sym t), omega (arith, c.1, h.2, t, u.3)))
        (λ miss. let t = k.1 (λ e'. miss (sym e')) in
        (h.0, sym (ap (λ b. pick b (a.number ∷ numbers s rest) (numbers s rest)) (ne_eqb a.sender s miss)) ∙ line ∙ ap (λ (z : ℕ). counting (z + 1) h.0) (sym t), omega (arith, h.2, t, u.3)))),
    subst (λ n. All (λ (l : Letter M). l.sender < n) rest) (sym (raised_length m.threads a.sender)) (λ j d less. subst (λ (r : List (Letter M)). All (λ (l : Letter M). l.sender < length m.threads) r) is o.1 (suc j) d (omega arith)),
  )

pub home_is : (p : Place) (n k : ℕ) → home_count p n ≡ some k → n ≡ k
home_is Home n k e = some-injective n k e
home_is (With j) n k e = absurd (some-ne-none k (sym e))
home_is Given n k e = absurd (some-ne-none k (sym e))

at_thread : (l : List Thread) (i : ℕ) (s : Stance) → get_elem? (map stance_of l) i ≡ some s → ((x : Thread) → get_elem? l i ≡ some x → s ≡ x.stance → ⊥) → ⊥
at_thread [] i s e f = some-ne-none s (sym e)
at_thread (x ∷ xs) zero s e f = f x refl (sym (some-injective x.stance s e))
at_thread (x ∷ xs) (suc i) s e f = at_thread xs i s e f

all_told : (l : List Thread) → ((i : ℕ) (x : Thread) → get_elem? l i ≡ some x → x.pushed ≡ x.stance.announced) → pushes l ≡ announcements (map stance_of l)
all_told [] h = refl
all_told (x ∷ xs) h = let a = h 0 x refl in let r = all_told xs (λ i y e. h (suc i) y e) in omega arith
