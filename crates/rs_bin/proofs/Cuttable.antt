-- Readers that need the bytes that they take and the field that is bad, and no others: one law for all of them.
use Rattle.std.proofs.Common.{◌≡◌, ℕ, zero, suc, ◌≤◌, ◌<◌, Bool, true, false, cond, List, [], ◌∷◌, ◌++◌, length, take, drop, Result, Ok, Err, refl, sym, ap, ◌∙◌, arith, inl, inr, append_assoc}
use Rattle.std.specs.Prelude.{◌⊎◌}
use Rattle.std.proofs.lemmas.List.{take_at, drop_at, take-append-drop, length-append, length-take-le}
use Rattle.rs_bin.specs.Reading.{◌>>=◌, Rest, Read, past, many_at}
use Rattle.rs_bin.proofs.Steps.{bind_ok, ok_is, passed}

-- the same rest with other bytes
abbrev pub with_bytes : Rest → List ℕ → Rest
with_bytes r bytes = record r { bytes = bytes }

-- other bytes where a field of n bytes is to come: fewer than n, or with the same field in front
abbrev pub IsLike : ℕ → List ℕ → List ℕ → Type 0
IsLike n back other = (length other < n) ⊎ ((n ≤ length back) × (take n other ≡ take n back))

-- the reader's fault: what stands before the bad field, and from it on, and the number of the field's bytes
pub record IsFault {A : Type 0} (read : Rest → Read A) (r : Rest) (left : ℕ) : Type 0 where
  pub front : List ℕ
  pub back : List ℕ
  pub size : ℕ
  pub some : 0 < size
  pub parts : r.bytes ≡ front ++ back
  pub count : length back ≡ left
  -- it is the fault of all bytes that begin likewise through the field, and of those that end in it
  pub same : (other : List ℕ) → IsLike size back other → read (with_bytes r (front ++ other)) ≡ Err (length other)

-- the reader's value: the text that it takes, of which alone it depends
pub record IsValue {A : Type 0} (read : Rest → Read A) (r : Rest) (x : A) (after : Rest) : Type 0 where
  pub text : List ℕ
  pub parts : r.bytes ≡ text ++ after.bytes
  pub same : (other : List ℕ) → read (with_bytes r (text ++ other)) ≡ Ok (x, with_bytes after other)

pub record IsCuttable {A : Type 0} (read : Rest → Read A) : Type 0 where
  pub value : (r : Rest) (x : A) (after : Rest) → read r ≡ Ok (x, after) → IsValue read r x after
  pub fault : (r : Rest) (left : ℕ) → read r ≡ Err left → IsFault read r left

-- ---- one reading after another

pub bind_err : {A B : Type 0} (r : Result A ℕ) (f : A → Result B ℕ) (left : ℕ) → (r >>= f) ≡ Err left → (r ≡ Err left) ⊎ ((x : A) × (r ≡ Ok x) × (f x ≡ Err left))
bind_err (Ok x) f left e = inr (x, refl, e)
bind_err (Err k) f left e = inl cc

joined : (bytes t u rest more : List ℕ) → bytes ≡ t ++ rest → rest ≡ u ++ more → bytes ≡ (t ++ u) ++ more
joined bytes t u rest more p q = p ∙ (ap (λ (w : List ℕ). t ++ w) q ∙ sym (append_assoc t u more))

module _ {A B : Type 0} (read : Rest → Read A) (next : A × Rest → Read B) (f : IsCuttable read) (g : (x : A) → IsCuttable (λ r. next (x, r))) where
  -- both readings on other bytes
  on_other : (r : Rest) (x : A) (m : Rest) (v : IsValue read r x m) (u other : List ℕ) (y : Read B) → next (x, with_bytes m (u ++ other)) ≡ y → (read (with_bytes r ((v.text ++ u) ++ other)) >>= next) ≡ y
  on_other r x m v u other y e =
      ap (λ (w : List ℕ). read (with_bytes r w) >>= next) (append_assoc v.text u other) ∙ (ap (λ (q : Read A). q >>= next) (v.same (u ++ other)) ∙ e)

  then_value : (r : Rest) (y : B) (after : Rest) → (read r >>= next) ≡ Ok (y, after) → IsValue (λ r. read r >>= next) r y after
  then_value r y after e =
      let a = bind_ok (read r) next (y, after) e in
      let v = f.value r a.0.0 a.0.1 a.1 in
      let w = (g a.0.0).value a.0.1 y after a.2 in
      record {
        text = v.text ++ w.text;
        parts = joined r.bytes v.text w.text a.0.1.bytes after.bytes v.parts w.parts;
        same = λ other. on_other r a.0.0 a.0.1 v w.text other (Ok (y, with_bytes after other)) (w.same other);
      }

  then_fault : (r : Rest) (left : ℕ) → (read r >>= next) ≡ Err left → IsFault (λ r. read r >>= next) r left
  then_fault r left e =
      elim (bind_err (read r) next left e) [
        | inl bad ↦ (let k = f.fault r left bad in record {
          front = k.front;
          back = k.back;
          size = k.size;
          some = k.some;
          parts = k.parts;
          count = k.count;
          same = λ other h. ap (λ (q : Read A). q >>= next) (k.same other h);
        })
        | inr a ↦ (let v = f.value r a.0.0 a.0.1 a.1 in let k = (g a.0.0).fault a.0.1 left a.2 in record {
          front = v.text ++ k.front;
          back = k.back;
          size = k.size;
          some = k.some;
          parts = joined r.bytes v.text k.front a.0.1.bytes k.back v.parts k.parts;
          count = k.count;
          same = λ other h. on_other r a.0.0 a.0.1 v k.front other (Err (length other)) (k.same other h);
        })
      ]

  pub then : IsCuttable (λ r. read r >>= next)
  then = record { value = then_value; fault = then_fault }

-- ---- no reading, and a choice of two

abbrev done : {A : Type 0} → A → Rest → Read A
done x r = Ok (x, r)

pub nothing : {A : Type 0} (x : A) → IsCuttable (λ r. done x r)
nothing {A = A} x = record {
  value = λ r y after e. (let p = ok_is (x, r) (y, after) e in record {
    text = [];
    parts = ap (λ (q : A × Rest). q.1.bytes) p;
    same = λ other. ap (λ (q : A × Rest). done q.0 (with_bytes q.1 other)) p;
  });
  fault = λ r left e. absurd cc;
}

pub choice : {A : Type 0} (b : Bool) (f g : Rest → Read A) → IsCuttable f → IsCuttable g → IsCuttable (λ r. cond b (f r) (g r))
choice true f g x y = x
choice false f g x y = y

-- readers that agree on all bytes
pub alike : {A : Type 0} (f g : Rest → Read A) → ((r : Rest) → f r ≡ g r) → IsCuttable f → IsCuttable g
alike f g e x = record {
  value = λ r y after h. (let v = x.value r y after (e r ∙ h) in record {
    text = v.text;
    parts = v.parts;
    same = λ other. sym (e (with_bytes r (v.text ++ other))) ∙ v.same other;
  });
  fault = λ r left h. (let k = x.fault r left (e r ∙ h) in record {
    front = k.front;
    back = k.back;
    size = k.size;
    some = k.some;
    parts = k.parts;
    count = k.count;
    same = λ other l. sym (e (with_bytes r (k.front ++ other))) ∙ k.same other l;
  });
}

-- ---- a field of n bytes

abbrev ok : {A : Type 0} → A → Result A ℕ
ok x = Ok x

pub failed : {A : Type 0} (b : Bool) (x : A) (n left : ℕ) → cond b (ok x) (Err n) ≡ Err left → (b ≡ false) × (n ≡ left)
failed true x n left e = absurd cc
failed false x n left e = (refl, cc)

apart : (b : Bool) → b ≡ true → b ≡ false → ⊥
apart true e f = cc
apart false e f = cc

not_true : (b : Bool) → (b ≡ true → ⊥) → b ≡ false
not_true true h = absurd (h refl)
not_true false h = refl

abbrev pub field : {A : Type 0} → ℕ → (List ℕ → Bool) → (List ℕ → A) → Rest → Read A
field n test value r = cond (test r.bytes) (Ok (value r.bytes, past n r)) (Err (length r.bytes))

-- the test and the value of a field are those of its n bytes
pub record IsField {A : Type 0} (n : ℕ) (test : List ℕ → Bool) (value : List ℕ → A) : Type 0 where
  pub some : 0 < n
  pub long : (xs : List ℕ) → test xs ≡ true → n ≤ length xs
  pub tested : (xs ys : List ℕ) → n ≤ length xs → n ≤ length ys → take n xs ≡ take n ys → test xs ≡ test ys
  pub valued : (xs ys : List ℕ) → take n xs ≡ take n ys → value xs ≡ value ys

pub fields : {A : Type 0} (n : ℕ) (test : List ℕ → Bool) (value : List ℕ → A) → IsField n test value → IsCuttable (λ r. field n test value r)
fields {A} n test value is = record { value = taken; fault = refused } where
  taken : (r : Rest) (x : A) (after : Rest) → field n test value r ≡ Ok (x, after) → IsValue (λ r. field n test value r) r x after
  taken r x after e =
      let p = passed (test r.bytes) (value r.bytes, past n r) (x, after) (length r.bytes) e in
      let text = take n r.bytes in
      let long = is.long r.bytes p.0 in
      let len : length text ≡ n = length-take-le n r.bytes long in
      record {
        text = text;
        parts = sym (take-append-drop n r.bytes) ∙ ap (λ (q : A × Rest). text ++ q.1.bytes) p.1;
        same = λ other. (
            let front : take n (text ++ other) ≡ take n r.bytes = take_at text other n len in
            let longer : n ≤ length (text ++ other) = omega (arith, len, length-append text other) in
            let good : test (text ++ other) ≡ true = is.tested (text ++ other) r.bytes longer long front ∙ p.0 in
            let one : value (text ++ other) ≡ value r.bytes = is.valued (text ++ other) r.bytes front in
            let rest : drop n (text ++ other) ≡ other = drop_at text other n len in
            let here : field n test value (with_bytes r (text ++ other)) ≡ done (value r.bytes) (with_bytes r other) = rw (good, one, rest) refl in
            here ∙ ap (λ (q : A × Rest). done q.0 (with_bytes q.1 other)) p.1);
      }

  refused : (r : Rest) (left : ℕ) → field n test value r ≡ Err left → IsFault (λ r. field n test value r) r left
  refused r left e =
      let p = failed (test r.bytes) (value r.bytes, past n r) (length r.bytes) left e in
      record {
        front = [];
        back = r.bytes;
        size = n;
        some = is.some;
        parts = refl;
        count = p.1;
        same = λ other l. (
            let bad : test other ≡ false = not_true (test other) (λ good. elim l [
              | inl lt ↦ absurd (omega (arith, lt, is.long other good))
              | inr like ↦ (let q : test other ≡ false = is.tested other r.bytes (is.long other good) like.0 like.1 ∙ p.0 in absurd (apart (test other) good q))
            ]) in
            rw bad refl);
      }

-- ---- a total

-- one more of what is counted, if there is room for it, whatever the bytes are
abbrev pub counted : (Rest → Bool) → (Rest → Rest) → Rest → Read Unit
counted test up r = cond (test r) (Ok (tt, up r)) (Err (length r.bytes))

pub totals : (test : Rest → Bool) (up : Rest → Rest) → ((r : Rest) (bytes : List ℕ) → test (with_bytes r bytes) ≡ test r) → ((r : Rest) (bytes : List ℕ) → up (with_bytes r bytes) ≡ with_bytes (up r) bytes)
    → ((r : Rest) → (up r).bytes ≡ r.bytes) → IsCuttable (λ r. counted test up r)
totals test up one_test one_up kept = record { value = taken; fault = refused } where
  taken : (r : Rest) (x : Unit) (after : Rest) → counted test up r ≡ Ok (x, after) → IsValue (λ r. counted test up r) r x after
  taken r x after e =
      let p = passed (test r) (tt, up r) (x, after) (length r.bytes) e in
      record {
        text = [];
        parts = sym (kept r) ∙ ap (λ (q : Unit × Rest). q.1.bytes) p.1;
        same = λ other. (let good : test (with_bytes r other) ≡ true = one_test r other ∙ p.0 in
            let here : counted test up (with_bytes r other) ≡ done tt (with_bytes (up r) other) = rw (good, one_up r other) refl in
            here ∙ ap (λ (q : Unit × Rest). done q.0 (with_bytes q.1 other)) p.1);
      }

  refused : (r : Rest) (left : ℕ) → counted test up r ≡ Err left → IsFault (λ r. counted test up r) r left
  refused r left e =
      let p = failed (test r) (tt, up r) (length r.bytes) left e in
      record {
        front = [];
        back = r.bytes;
        size = 1;
        some = omega arith;
        parts = refl;
        count = p.1;
        same = λ other l. (let bad : test (with_bytes r other) ≡ false = one_test r other ∙ p.0 in rw bad refl);
      }

-- ---- a list

pub lists : {A : Type 0} (part : ℕ → ℕ → Rest → Read A) (next : ℕ → A → ℕ) → ((s left : ℕ) → IsCuttable (λ r. part s left r)) → (n s : ℕ) → IsCuttable (λ r. many_at part next s n r)
unfolding many_at
lists {A} part next is zero s = nothing []
lists {A} part next is (suc n) s =
    then (λ r. part s n r) (λ x. many_at part next (next s x.0) n x.1 >>= λ xs. Ok (x.0 ∷ xs.0, xs.1)) (is s n)
    (λ x. then (λ r. many_at part next (next s x) n r) (λ xs. Ok (x ∷ xs.0, xs.1)) (lists part next is n (next s x)) (λ xs. nothing (x ∷ xs)))
