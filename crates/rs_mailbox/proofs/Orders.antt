-- Each push, each pop and each new pass keeps the rule.
use Rattle.std.proofs.Common.{◌≡◌, ◌≢◌, ℕ, zero, suc, ◌+◌, ◌*◌, ◌^◌, ◌<◌, ◌≤◌, ◌⊎◌, Bool, true, false, eqb, All, List, [], ◌∷◌, ◌++◌, length, length-set, set, Option, Some, None, sym, refl, ap, ◌∙◌, subst, inl, inr, ⊎_elim, append_assoc, append-nil, eq-eqb, ne_eqb, arith}
use Rattle.std.proofs.lemmas.List.Elements.{All-push}
use Rattle.std.proofs.lemmas.List.{length-append}
use mathlib.Core.Option.{some, some-injective, some-ne-none}
use lib.ListN.{get_elem?}
use mathlib.Core.Logic.{dite}
use native.Mathlib.Decide.{dec_le, ℕ_discrete}
use Rattle.atomic_table.proofs.Lists.{at_set}
use Rattle.crossbeam_queue.specs.Fifo.{Pushes, Pops, Forks}
use Rattle.rs_mailbox.specs.declared.trail.Trail.{Trail}
use Rattle.rs_mailbox.specs.InOrder.{kept, of, beginning, sends, gets, founder, member, IsInOrder, Stands, StandsAt, Fronts}

abbrev is_none : {A : Type 0} → Option A → Type 0
is_none None = Unit {0}
is_none (Some x) = ⊥

none_some : {A : Type 0} (o : Option A) (x : A) → o ≡ None → o ≡ Some x → ⊥
none_some o x e f = subst is_none (sym e ∙ f) tt

below : {A : Type 0} (l : List A) (i : ℕ) (a : A) → get_elem? l i ≡ some a → i < length l
below [] i a e = absurd (some-ne-none a (sym e))
below (x ∷ xs) zero a e = omega arith
below (x ∷ xs) (suc i) a e = let r = below xs i a e in omega arith

at_end : {A : Type 0} (l : List A) (a : A) (j : ℕ) (b : A) → get_elem? (l ++ a ∷ []) j ≡ some b → (get_elem? l j ≡ some b) ⊎ ((j ≡ length l) × (a ≡ b))
at_end [] a zero b e = inr (refl, some-injective a b e)
at_end [] a (suc j) b e = absurd (some-ne-none b (sym e))
at_end (x ∷ xs) a zero b e = inl e
at_end (x ∷ xs) a (suc j) b e = ⊎_elim (λ t. inl t) (λ t. inr (ap suc t.0, t.1)) (at_end xs a j b e)

all_head : {X : Type 0} (P : X → Type 0) (x : X) (xs : List X) → All P (x ∷ xs) → P x
all_head P x xs h = h 0 x (omega arith)

all_tail : {X : Type 0} (P : X → Type 0) (x : X) (xs : List X) → All P (x ∷ xs) → All P xs
all_tail P x xs h = λ k d less. h (suc k) d (omega arith)

abbrev either_one : Bool → ℕ
either_one true = 1
either_one false = 0

nil_length : {A : Type 0} (l : List A) → length l ≡ 0 → l ≡ []
nil_length [] e = refl
nil_length (x ∷ xs) e = absurd (omega arith)

module _ {A : Type 0} where
  kept-append : (b : Bool) (x : A) (l m : List A) → kept b x (l ++ m) ≡ kept b x l ++ m
  kept-append true x l m = refl
  kept-append false x l m = refl

  of-snoc : (p : ℕ) (ss : List ℕ) (s : ℕ) (xs : List A) (x : A) → length ss ≡ length xs → of p (ss ++ s ∷ []) (xs ++ x ∷ []) ≡ of p ss xs ++ kept (eqb s p) x []
  of-snoc p [] s [] x e = refl
  of-snoc p [] s (y ∷ ys) x e = absurd (omega arith)
  of-snoc p (t ∷ ts) s [] x e = absurd (omega arith)
  of-snoc p (t ∷ ts) s (y ∷ ys) x e = ap (kept (eqb t p) y) (of-snoc p ts s ys x (omega arith)) ∙ kept-append (eqb t p) y (of p ts ys) (kept (eqb s p) x [])

  -- how many of the elements each of the first n senders sent, added up
  abbrev sent_by : ℕ → List ℕ → List A → ℕ
  sent_by zero ss xs = 0
  sent_by (suc n) ss xs = length (of n ss xs) + sent_by n ss xs

  kept-length : (b : Bool) (x : A) (l : List A) → length (kept b x l) ≡ either_one b + length l
  kept-length true x l = omega arith
  kept-length false x l = omega arith

  sent_none : (n : ℕ) (xs : List A) → sent_by n [] xs ≡ 0
  sent_none zero xs = refl
  sent_none (suc n) xs = let r = sent_none n xs in omega arith

  sent_other : (n s : ℕ) (ss : List ℕ) (x : A) (xs : List A) → n ≤ s → sent_by n (s ∷ ss) (x ∷ xs) ≡ sent_by n ss xs
  sent_other zero s ss x xs le = refl
  sent_other (suc n) s ss x xs le = let r = sent_other n s ss x xs (omega arith) in let k = kept-length (eqb s n) x (of n ss xs) in let e = ap either_one (ne_eqb s n (λ f. omega arith)) in omega arith

  sent_one : (n s : ℕ) (ss : List ℕ) (x : A) (xs : List A) → s < n → sent_by n (s ∷ ss) (x ∷ xs) ≡ 1 + sent_by n ss xs
  sent_one zero s ss x xs less = absurd (omega arith)
  sent_one (suc n) s ss x xs less = let k = kept-length (eqb s n) x (of n ss xs) in dite (ℕ_discrete s n)
      (λ hit. let r = sent_other n s ss x xs (omega arith) in let e = ap either_one (eq-eqb s n hit) in omega arith)
      (λ miss. let r = sent_one n s ss x xs (omega arith) in let e = ap either_one (ne_eqb s n miss) in omega arith)

  some_kept : (n : ℕ) (s : ℕ) (ss : List ℕ) (x : A) (xs : List A) → ((p : ℕ) → n ≤ p → of p (s ∷ ss) (x ∷ xs) ≡ []) → s < n
  some_kept n s ss x xs none = dite (dec_le n s) (λ le. let k = kept-length (eqb s s) x (of s ss xs) in let e = ap either_one (eq-eqb s s refl) in let z = ap length (none s le) in absurd (omega arith)) (λ gt. omega arith)

  rest_none : (p : ℕ) (s : ℕ) (ss : List ℕ) (x : A) (xs : List A) → of p (s ∷ ss) (x ∷ xs) ≡ [] → of p ss xs ≡ []
  rest_none p s ss x xs e = nil_length (of p ss xs) (let k = kept-length (eqb s p) x (of p ss xs) in let z = ap length e in omega arith)

  -- where all are of the first n senders, they are as many as these sent
  all_sent : (n : ℕ) (ss : List ℕ) (xs : List A) → length ss ≡ length xs → ((p : ℕ) → n ≤ p → of p ss xs ≡ []) → length xs ≡ sent_by n ss xs
  all_sent n [] [] e none = sym (sent_none n [])
  all_sent n [] (x ∷ xs) e none = absurd (omega arith)
  all_sent n (s ∷ ss) [] e none = absurd (omega arith)
  all_sent n (s ∷ ss) (x ∷ xs) e none = let r = all_sent n ss xs (omega arith) (λ p le. rest_none p s ss x xs (none p le)) in let o = sent_one n s ss x xs (some_kept n s ss x xs none) in omega arith

  sent_small : (n : ℕ) (ss : List ℕ) (xs : List A) → ((p : ℕ) → p < n → length (of p ss xs) ≤ 2 ^ 50) → sent_by n ss xs ≤ n * 2 ^ 50
  sent_small zero ss xs h = omega arith
  sent_small (suc n) ss xs h = let r = sent_small n ss xs (λ p less. h p (omega arith)) in let k = h n (omega arith) in omega arith

at_some : {A : Type 0} (l : List A) (i : ℕ) → i < length l → (a : A) × (get_elem? l i ≡ some a)
at_some [] i less = absurd (omega arith)
at_some (x ∷ xs) zero less = (x, refl)
at_some (x ∷ xs) (suc i) less = at_some xs i (omega arith)

module _ {N M : Type 0} (name_of : M → N) where
  -- fewer were popped than may be pushed
  not_many : (x : M) (rest : List M) (views : List (Trail N M)) → (h : IsInOrder name_of (x ∷ rest) views) → (v : Trail N M) → v.got ≡ h.got → length v.got < 4097 * 2 ^ 50
  not_many x rest views h v is = let all = all_sent (length views) h.senders (h.got ++ x ∷ rest) h.tagged h.later in
      let small = sent_small (length views) h.senders (h.got ++ x ∷ rest) (λ p less. let u = at_some views p less in let e = ap length (h.each_sent p u.0 u.1).0 in let b = h.bounded p u.0 u.1 in omega arith) in
      let n = length-append h.got (x ∷ rest) in let g = ap length is in let k = h.few in omega arith

  first : (p : ℕ) (v : Trail N M) → get_elem? (beginning ∷ []) p ≡ some v → ([] ≡ v.sent) × (v.number ≡ p) × (v.name ≡ None)
  first zero v e = let s = some-injective beginning v e in (ap (λ (u : Trail N M). u.sent) s, ap (λ (u : Trail N M). u.number) (sym s), ap (λ (u : Trail N M). u.name) (sym s))
  first (suc p) v e = absurd (some-ne-none v (sym e))

  pub begins : IsInOrder {N = N} name_of [] (beginning ∷ [])
  begins = record {
    got = [];
    senders = [];
    name = None;
    tagged = refl;
    each_sent = first;
    later = λ p le. refl;
    reader = λ v e. (ap (λ (u : Trail N M). u.got) (sym (some-injective beginning v e)), ap (λ (u : Trail N M). u.made) (sym (some-injective beginning v e)));
    unnamed = λ e. (refl, refl);
    named = λ k d less. absurd (omega arith);
    bounded = λ p v e. subst (λ (l : List M). length l ≤ 2 ^ 50) (first p v e).0 (omega arith);
    few = omega arith;
  }

  pub pushing : (n pass : ℕ) (v : Trail N M) (x : M) → v.name ≡ Some (name_of x) → length v.sent < 2 ^ 50 → Pushes (IsInOrder name_of) n pass v x (λ w. (w ≡ sends v x) × Stands name_of v)
  pushing n pass v x named room_left items views room h at = let w : Trail N M = sends v x in let long = length-set views pass w in let here = h.each_sent pass v at in
      let line : h.got ++ (items ++ x ∷ []) ≡ (h.got ++ items) ++ x ∷ [] = sym (append_assoc h.got items (x ∷ [])) in
      let after = λ (p : ℕ). ap (of p (h.senders ++ pass ∷ [])) line ∙ of-snoc p h.senders pass (h.got ++ items) x h.tagged in
      let mine : of pass (h.senders ++ pass ∷ []) (h.got ++ (items ++ x ∷ [])) ≡ v.sent ++ x ∷ [] = after pass ∙ ap (λ b. of pass h.senders (h.got ++ items) ++ kept b x []) (eq-eqb pass pass refl) ∙ ap (λ l. l ++ x ∷ []) here.0 in
      let others = λ (p : ℕ) (ne : pass ≢ p). after p ∙ ap (λ b. of p h.senders (h.got ++ items) ++ kept b x []) (ne_eqb pass p ne) ∙ append-nil (of p h.senders (h.got ++ items)) in (
        w,
        record {
          got = h.got;
          senders = h.senders ++ pass ∷ [];
          name = h.name;
          tagged = let a = length-append h.senders (pass ∷ []) in let b = ap length line ∙ length-append (h.got ++ items) (x ∷ []) in let t = h.tagged in omega arith;
          each_sent = λ p u e. ⊎_elim (λ t. (subst (λ (q : ℕ). of q (h.senders ++ pass ∷ []) (h.got ++ (items ++ x ∷ [])) ≡ u.sent) (sym t.0) (mine ∙ ap (λ (y : Trail N M). y.sent) t.1), ap (λ (y : Trail N M). y.number) (sym t.1) ∙ here.1 ∙ sym t.0, ap (λ (y : Trail N M). y.name) (sym t.1) ∙ here.2))
              (λ t. let o = h.each_sent p u t.1 in (others p (λ e'. t.0 (sym e')) ∙ o.0, o.1, o.2)) (at_set views pass p w u e);
          later = λ p le. others p (λ same. let r = below views pass v at in absurd (omega arith)) ∙ h.later p (omega arith);
          reader = λ u e. ⊎_elim (λ t. let r = h.reader v (ap (get_elem? views) t.0 ∙ at) in (ap (λ (y : Trail N M). y.got) (sym t.1) ∙ r.0, ap (λ (y : Trail N M). y.made) (sym t.1) ∙ r.1 ∙ sym long))
              (λ t. let r = h.reader u t.1 in (r.0, r.1 ∙ sym long)) (at_set views pass 0 w u e);
          unnamed = λ none_yet. absurd (none_some h.name (name_of x) none_yet (sym here.2 ∙ named));
          named = All-push (λ (y : M). h.name ≡ Some (name_of y)) items x h.named (sym here.2 ∙ named);
          bounded = λ p u e. ⊎_elim (λ t. subst (λ (y : Trail N M). length y.sent ≤ 2 ^ 50) t.1 (let a = length-append v.sent (x ∷ []) in omega arith)) (λ t. h.bounded p u t.1) (at_set views pass p w u e);
          few = subst (λ (k : ℕ). k ≤ 4097) (sym long) h.few;
        },
        (refl, (items, (views, pass, h, at))),
      )

  pub popping : (pass : ℕ) (v : Trail N M) → pass ≡ 0 → Pops (IsInOrder name_of) pass v (λ x w. (w ≡ gets v x) × Fronts name_of v x)
  popping pass v is x items views h at = let w : Trail N M = gets v x in let long = length-set views pass w in let here = h.each_sent pass v at in let r = h.reader v (ap (get_elem? views) (sym is) ∙ at) in
      let line : (h.got ++ x ∷ []) ++ items ≡ h.got ++ x ∷ items = append_assoc h.got (x ∷ []) items in (
        w,
        record {
          got = h.got ++ x ∷ [];
          senders = h.senders;
          name = h.name;
          tagged = h.tagged ∙ ap length (sym line);
          each_sent = λ p u e. ⊎_elim (λ t. (ap (of p h.senders) line ∙ subst (λ (q : ℕ). of q h.senders (h.got ++ x ∷ items) ≡ u.sent) (sym t.0) (here.0 ∙ ap (λ (y : Trail N M). y.sent) t.1), ap (λ (y : Trail N M). y.number) (sym t.1) ∙ here.1 ∙ sym t.0, ap (λ (y : Trail N M). y.name) (sym t.1) ∙ here.2))
              (λ t. let o = h.each_sent p u t.1 in (ap (of p h.senders) line ∙ o.0, o.1, o.2)) (at_set views pass p w u e);
          later = λ p le. ap (of p h.senders) line ∙ h.later p (omega arith);
          reader = λ u e. ⊎_elim (λ t. (ap (λ (y : Trail N M). y.got) (sym t.1) ∙ ap (λ l. l ++ x ∷ []) r.0, ap (λ (y : Trail N M). y.made) (sym t.1) ∙ r.1 ∙ sym long)) (λ t. absurd (t.0 (sym is))) (at_set views pass 0 w u e);
          unnamed = λ none_yet. absurd (none_some h.name (name_of x) none_yet (all_head (λ (y : M). h.name ≡ Some (name_of y)) x items h.named));
          named = all_tail (λ (y : M). h.name ≡ Some (name_of y)) x items h.named;
          bounded = λ p u e. ⊎_elim (λ t. subst (λ (y : Trail N M). length y.sent ≤ 2 ^ 50) t.1 (h.bounded pass v at)) (λ t. h.bounded p u t.1) (at_set views pass p w u e);
          few = subst (λ (k : ℕ). k ≤ 4097) (sym long) h.few;
        },
        (refl, ((items, (views, pass, h, at)), here.2 ∙ all_head (λ (y : M). h.name ≡ Some (name_of y)) x items h.named, not_many x items views h v r.0)),
      )

  pub standing : (pass : ℕ) (v : Trail N M) (items : List M) (views : List (Trail N M)) → IsInOrder name_of items views → get_elem? views pass ≡ some v → StandsAt name_of v items
  standing pass v items views h at = (views, pass, h, at)

  -- pass 0 makes one more pass, and so gives the queue its name where it had none
  pub founds : (pass : ℕ) (v : Trail N M) (n : N) → pass ≡ 0 → v.made < 4097 → (v.name ≡ None) ⊎ (v.name ≡ Some n) → Forks (IsInOrder name_of) pass v (founder (Some n) v) (member (Some n) v)
  founds pass v n is more fits items views h at = let l : List (Trail N M) = set views pass (founder (Some n) v) in let long : length l ≡ length views = length-set views pass (founder (Some n) v) in let here = h.each_sent pass v at in
      let r = h.reader v (ap (get_elem? views) (sym is) ∙ at) in let longer : length (l ++ member (Some n) v ∷ []) ≡ length l + 1 = length-append l (member (Some n) v ∷ []) in let there = below views pass v at in
      let same : (j : ℕ) (u : Trail N M) → j ≢ pass → get_elem? views j ≡ some u → u.name ≡ Some n = λ j u ne e. ⊎_elim (λ (none_yet : v.name ≡ None). let one = (h.unnamed (sym here.2 ∙ none_yet)).1 in let q = below views j u e in absurd (ne (omega arith)))
      (λ (some_yet : v.name ≡ Some n). (h.each_sent j u e).2 ∙ (sym here.2 ∙ some_yet)) fits in record {
        got = h.got;
        senders = h.senders;
        name = Some n;
        tagged = h.tagged;
        each_sent = λ p u e. ⊎_elim (λ a. ⊎_elim (λ t. (subst (λ (q : ℕ). of q h.senders (h.got ++ items) ≡ u.sent) (sym t.0) (here.0 ∙ ap (λ (y : Trail N M). y.sent) t.1), ap (λ (y : Trail N M). y.number) (sym t.1) ∙ here.1 ∙ sym t.0, ap (λ (y : Trail N M). y.name) (sym t.1)))
            (λ t. let o = h.each_sent p u t.1 in (o.0, o.1, same p u t.0 t.1)) (at_set views pass p (founder (Some n) v) u a))
            (λ t. (h.later p (omega (arith, t.0)) ∙ ap (λ (y : Trail N M). y.sent) t.1, ap (λ (y : Trail N M). y.number) (sym t.1) ∙ r.1 ∙ sym long ∙ sym t.0, ap (λ (y : Trail N M). y.name) (sym t.1))) (at_end l (member (Some n) v) p u e);
        later = λ p le. h.later p (omega arith);
        reader = λ u e. ⊎_elim (λ a. ⊎_elim (λ t. (ap (λ (y : Trail N M). y.got) (sym t.1) ∙ r.0, let k : u.made ≡ v.made + 1 = ap (λ (y : Trail N M). y.made) (sym t.1) in let m = r.1 in omega arith)) (λ t. absurd (t.0 (sym is))) (at_set views pass 0 (founder (Some n) v) u a))
            (λ t. let z : length l ≡ 0 = sym t.0 in absurd (omega arith)) (at_end l (member (Some n) v) 0 u e);
        unnamed = λ e. absurd (none_some (Some n) n e refl);
        named = ⊎_elim (λ (none_yet : v.name ≡ None). subst (All (λ (x : M). Some n ≡ Some (name_of x))) (sym (h.unnamed (sym here.2 ∙ none_yet)).0) (λ k d less. absurd (omega arith)))
            (λ (some_yet : v.name ≡ Some n). subst (λ (o : Option N). All (λ (x : M). o ≡ Some (name_of x)) items) (sym here.2 ∙ some_yet) h.named) fits;
        bounded = λ p u e. ⊎_elim (λ a. ⊎_elim (λ t. subst (λ (y : Trail N M). length y.sent ≤ 2 ^ 50) t.1 (h.bounded pass v at)) (λ t. h.bounded p u t.1) (at_set views pass p (founder (Some n) v) u a))
            (λ t. subst (λ (y : Trail N M). length y.sent ≤ 2 ^ 50) t.1 (omega arith)) (at_end l (member (Some n) v) p u e);
        few = let m = r.1 in omega arith;
      }
