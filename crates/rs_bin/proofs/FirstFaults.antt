-- What a first fault says of the bytes before it, and of all bytes that begin likewise through its field.
use Rattle.std.proofs.Common.{◌≡◌, ℕ, ◌+◌, ◌-◌, ◌<◌, ◌≤◌, Bool, true, false, cond, eqb, List, [], ◌∷◌, ◌++◌, length, take, drop, Result, Ok, Err, refl, sym, ap, subst, ◌∙◌, append_assoc, arith, inl, inr}
use Rattle.std.specs.Prelude.{◌⊎◌}
use Rattle.std.proofs.lemmas.List.{take_at, append-nil, length-append, length-take-le}
use Rattle.std.proofs.lemmas.Bool.{ne_eqb}
use Rattle.std.proofs.Math.Seq.{take-append-add}
use Rattle.rs_entry.specs.declared.input.Input.{Input}
use Rattle.rs_entry.specs.WellFormed.{AreBytes}
use Rattle.rs_bin.specs.declared.error.BinError.{BinError}
use Rattle.rs_bin.specs.declared.error.BinError.TheVariants as files
use Rattle.rs_bin.specs.Grammar.{Belongs}
use Rattle.rs_bin.specs.Reading.{◌>>=◌, Rest, start, input_at, whole_at, at_offset, read_form, GivesFile}
use Rattle.rs_bin.specs.FirstFault.{IsFaultless, NoneBefore, IsBadField, NoneBelongs}
use Rattle.rs_bin.proofs.Steps.{bytes_front}
use Rattle.rs_bin.proofs.Cuttable.{IsLike, bind_err, failed}
use Rattle.rs_bin.proofs.CuttableParts.{input}
use Rattle.rs_bin.proofs.Whole.{reads_only, reads_again}

-- a fault of a whole file, as that of a reader: the bytes before it end too early, or are a file
record IsRefused (bytes : List ℕ) (left : ℕ) : Type 0 where
  pub front : List ℕ
  pub back : List ℕ
  pub size : ℕ
  pub some : 0 < size
  pub parts : bytes ≡ front ++ back
  pub count : length back ≡ left
  pub before : (whole_at (start front) ≡ Err 0) ⊎ ((x : Input) × (whole_at (start front) ≡ Ok x))
  pub same : (other : List ℕ) → 0 < length other → IsLike size back other → whole_at (start (front ++ other)) ≡ Err (length other)

abbrev end_of : Input × Rest → Result Input ℕ
end_of x = cond (eqb (length x.1.bytes) 0) (Ok x.0) (Err (length x.1.bytes))

refused : (bytes : List ℕ) (left : ℕ) → whole_at (start bytes) ≡ Err left → IsRefused bytes left
unfolding whole_at
refused bytes left e =
    elim (bind_err (input_at (start bytes)) end_of left e) [
      | inl bad ↦ (let k = input.fault (start bytes) left bad in
          let none : whole_at (start (k.front ++ [])) ≡ Err 0 = ap (λ q. q >>= end_of) (k.same [] (inl k.some)) in
          record {
            front = k.front;
            back = k.back;
            size = k.size;
            some = k.some;
            parts = k.parts;
            count = k.count;
            before = inl (ap (λ (q : List ℕ). whole_at (start q)) (sym (append-nil k.front)) ∙ none);
            same = λ other h l. ap (λ q. q >>= end_of) (k.same other l);
          })
      | inr a ↦ (let v = input.value (start bytes) a.0.0 a.0.1 a.1 in
          let p = failed (eqb (length a.0.1.bytes) 0) a.0.0 (length a.0.1.bytes) left a.2 in
          let whole : whole_at (start (v.text ++ [])) ≡ Ok a.0.0 = ap (λ q. q >>= end_of) (v.same []) in
          record {
            front = v.text;
            back = a.0.1.bytes;
            size = 1;
            some = omega arith;
            parts = v.parts;
            count = p.1;
            before = inr (a.0.0, ap (λ (q : List ℕ). whole_at (start q)) (sym (append-nil v.text)) ∙ whole);
            same = λ other h l. (let more : eqb (length other) 0 ≡ false = ne_eqb (length other) 0 (λ q. omega (arith, h, q)) in
                ap (λ q. q >>= end_of) (v.same other) ∙ rw more refl);
          })
    ]

at_err : (n : ℕ) (r : Result Input ℕ) (offset : ℕ) → at_offset n r ≡ Err offset → (left : ℕ) × (r ≡ Err left) × (n - left ≡ offset)
at_err n (Ok x) offset e = absurd cc
at_err n (Err left) offset e = (left, refl, cc)

-- where the fault is: behind the front
module _ (bytes : List ℕ) (offset left : ℕ) (k : IsRefused bytes left) (is : length bytes - left ≡ offset) where
  long : length bytes ≡ length k.front + length k.back
  long = ap (λ (q : List ℕ). length q) k.parts ∙ length-append k.front k.back

  here : length k.front ≡ offset
  here = omega (arith, long, k.count, is)

  cut : take offset bytes ≡ k.front
  cut = ap (take offset) k.parts ∙ take_at k.front k.back offset here

  reads : (other : List ℕ) → 0 < length other → IsLike k.size k.back other → read_form (k.front ++ other) ≡ Err offset
  unfolding read_form
  reads other some like =
      let n : length (k.front ++ other) - length other ≡ offset = omega (arith, length-append k.front other, here) in
      ap (at_offset (length (k.front ++ other))) (k.same other some like) ∙ ap (λ (q : ℕ). Err q) n

  faultless : AreBytes bytes → IsFaultless offset k.front
  unfolding read_form
  faultless h =
      let all : length k.front - 0 ≡ offset = omega (arith, here) in
      elim k.before [
        | inl ends ↦ inl (ap (at_offset (length k.front)) ends ∙ ap (λ (q : ℕ). Err q) all)
        | inr x ↦ inr (x.0, reads_only k.front x.0 (bytes_front k.front k.back (subst AreBytes k.parts h)) (ap (at_offset (length k.front)) x.1))
      ]

  -- the front, the field and other bytes
  through : (rest : List ℕ) → k.size ≤ length k.back → read_form (k.front ++ (take k.size k.back ++ rest)) ≡ Err offset
  through rest le =
      let field = take k.size k.back in
      let n : length field ≡ k.size = length-take-le k.size k.back le in
      let some : 0 < length (field ++ rest) = omega (arith, length-append field rest, n, k.some) in
      reads (field ++ rest) some (inr (le, take_at field rest k.size n))

  field_cut : take (offset + k.size) bytes ≡ k.front ++ take k.size k.back
  field_cut = ap (λ (q : ℕ). take (q + k.size) bytes) (sym here) ∙ (ap (take (length k.front + k.size)) k.parts ∙ take-append-add k.front k.back k.size)

  bad_field : IsBadField bytes offset
  bad_field = record {
    size = k.size;
    short = λ field some lt. ap (λ (q : List ℕ). read_form (q ++ field)) cut ∙ reads field some (inl lt);
    none = λ le rest x b. (let value : read_form (take (offset + k.size) bytes ++ rest) ≡ Ok x = reads_again (take (offset + k.size) bytes ++ rest) x b in
        let fault = through rest (omega (arith, le, long, here)) in
        let there = ap (λ (q : List ℕ). read_form (q ++ rest)) field_cut ∙ (ap read_form (append_assoc k.front (take k.size k.back) rest) ∙ fault) in
        not_both (read_form (take (offset + k.size) bytes ++ rest)) x offset value there);
  } where
    not_both : (r : Result Input ℕ) (x : Input) (o : ℕ) → r ≡ Ok x → r ≡ Err o → ⊥
    not_both (Ok y) x o e f = absurd cc
    not_both (Err n) x o e f = absurd cc

-- ---- as clauses

pub none_before : (bytes : List ℕ) (result : Result Input BinError) → AreBytes bytes → GivesFile result (read_form bytes) → NoneBefore bytes result
unfolding read_form
none_before bytes (Ok x) h given = tt
none_before bytes (Err files.NoMemory) h given = tt
none_before bytes (Err (files.Bad offset)) h given =
    let a = at_err (length bytes) (whole_at (start bytes)) offset given in
    let k = refused bytes a.0 a.1 in
    (omega (arith, a.2), subst (IsFaultless offset) (sym (cut bytes offset a.0 k a.2)) (faultless bytes offset a.0 k a.2 h))

pub none_belongs : (bytes : List ℕ) (result : Result Input BinError) → GivesFile result (read_form bytes) → NoneBelongs bytes result
unfolding read_form
none_belongs bytes (Ok x) given = tt
none_belongs bytes (Err files.NoMemory) given = tt
none_belongs bytes (Err (files.Bad offset)) given =
    let a = at_err (length bytes) (whole_at (start bytes)) offset given in
    bad_field bytes offset a.0 (refused bytes a.0 a.1) a.2
