-- Where the first field of a line and the first line of a text end.
use Rattle.std.proofs.Common.{◌≡◌, ℕ, suc, ◌+◌, ◌<◌, Bool, true, false, not, eqb, ltb, List, [], ◌∷◌, length, take, drop, refl, sym, ap, ◌∙◌, arith, zero, ◌-◌, ◌≤◌, ◌||◌, get_or, inl, inr}
use Rattle.std.specs.List.{slice_split, filter, position_or_len, list_any}
use Rattle.std.proofs.lemmas.List.Sums.{fails_before_first}
use Rattle.std.proofs.lemmas.List.Splits.{slice_split_none, slice_split_first}
use Rattle.std.proofs.lemmas.List.{length-take, length-drop, get_or-take, get_or-drop}
use Rattle.std.proofs.lemmas.Bool.{lt-ltb, cases_lt}
use Rattle.rs_field.specs.Lines.{fields_of, parts_of}

one : (n : ℕ) → 1 + n ≡ suc n
one n = omega arith

abbrev filled : List (List ℕ) → List (List ℕ)
filled parts = filter (λ f. ltb 0 (length f)) parts

-- where the first element that passes stands, and the first that does not
abbrev first : (ℕ → Bool) → List ℕ → ℕ
first p bs = position_or_len p bs

abbrev other : (ℕ → Bool) → List ℕ → ℕ
other p bs = position_or_len (λ b. not (p b)) bs

abbrev pieces : (ℕ → Bool) → List ℕ → List (List ℕ)
pieces p bs = filled (slice_split p bs)

skip_at : (p : ℕ → Bool) (t : Bool) (b : ℕ) (bs : List ℕ) → p b ≡ t → pieces p bs ≡ pieces p (drop (other p bs) bs) → pieces p (b ∷ bs) ≡ pieces p (drop (other p (b ∷ bs)) (b ∷ bs))
skip_at p true b bs h ih = rw (h, one) ih
skip_at p false b bs h ih = rw h (rw h refl)

skip : (p : ℕ → Bool) (bs : List ℕ) → pieces p bs ≡ pieces p (drop (other p bs) bs)
skip p [] = refl
skip p (b ∷ bs) = skip_at p (p b) b bs refl (skip p bs)

front_at : (p : ℕ → Bool) (t : Bool) (b : ℕ) (bs : List ℕ) → p b ≡ t → slice_split p bs ≡ take (first p bs) bs ∷ drop 1 (slice_split p bs) → slice_split p (b ∷ bs) ≡ take (first p (b ∷ bs)) (b ∷ bs) ∷ drop 1 (slice_split p (b ∷ bs))
front_at p true b bs h ih = rw h refl
front_at p false b bs h ih = rw (h, one, ih) refl

front : (p : ℕ → Bool) (bs : List ℕ) → slice_split p bs ≡ take (first p bs) bs ∷ drop 1 (slice_split p bs)
front p [] = refl
front p (b ∷ bs) = front_at p (p b) b bs refl (front p bs)

rest_at : (p : ℕ → Bool) (t : Bool) (b : ℕ) (bs : List ℕ) → p b ≡ t → filled (drop 1 (slice_split p bs)) ≡ pieces p (drop (first p bs) bs) → filled (drop 1 (slice_split p (b ∷ bs))) ≡ pieces p (drop (first p (b ∷ bs)) (b ∷ bs))
rest_at p true b bs h ih = rw h (rw h refl)
rest_at p false b bs h ih = rw (h, one, front p bs) ih

rest : (p : ℕ → Bool) (bs : List ℕ) → filled (drop 1 (slice_split p bs)) ≡ pieces p (drop (first p bs) bs)
rest p [] = refl
rest p (b ∷ bs) = rest_at p (p b) b bs refl (rest p bs)

first_piece : (p : ℕ → Bool) (bs : List ℕ) → 0 < length (take (first p bs) bs) → pieces p bs ≡ take (first p bs) bs ∷ pieces p (drop (first p bs) bs)
first_piece p bs h =
    ap filled (front p bs) ∙ rw (lt-ltb 0 (length (take (first p bs) bs)) h, rest p bs) refl

pub skip_spaces : (bs : List ℕ) → fields_of bs ≡ fields_of (drop (position_or_len (λ b. not (eqb b 32)) bs) bs)
unfolding fields_of
skip_spaces bs = skip (λ b. eqb b 32) bs

pub no_field : fields_of [] ≡ []
unfolding fields_of
no_field = refl

pub first_field : (bs : List ℕ) → 0 < length (take (position_or_len (λ b. eqb b 32) bs) bs) → fields_of bs ≡ take (position_or_len (λ b. eqb b 32) bs) bs ∷ fields_of (drop (position_or_len (λ b. eqb b 32) bs) bs)
unfolding fields_of
first_field bs h = first_piece (λ b. eqb b 32) bs h

pub last_line : (text : List ℕ) → position_or_len (λ b. eqb b 10) text ≡ length text → parts_of text ≡ text ∷ []
unfolding parts_of
last_line text h = slice_split_none (λ b. eqb b 10) text (λ k d lt. fails_before_first (λ b. eqb b 10) text k d (omega arith))

pub first_line : (text : List ℕ) → position_or_len (λ b. eqb b 10) text < length text → parts_of text ≡ take (position_or_len (λ b. eqb b 10) text) text ∷ parts_of (drop (position_or_len (λ b. eqb b 10) text + 1) text)
unfolding parts_of
first_line text h = slice_split_first (λ b. eqb b 10) text 0 h

starts_at : (p : ℕ → Bool) (t : Bool) (b : ℕ) (bs : List ℕ) → p b ≡ t → (0 < length (drop (other p bs) bs) → 0 < first p (drop (other p bs) bs)) → 0 < length (drop (other p (b ∷ bs)) (b ∷ bs)) → 0 < first p (drop (other p (b ∷ bs)) (b ∷ bs))
starts_at p true b bs h ih = rw (h, one) ih
starts_at p false b bs h ih = rw h (rw h (λ _. omega arith))

-- what stands after the spaces begins with no space
starts : (p : ℕ → Bool) (bs : List ℕ) → 0 < length (drop (other p bs) bs) → 0 < first p (drop (other p bs) bs)
starts p [] lt = absurd (omega arith)
starts p (b ∷ bs) lt = starts_at p (p b) b bs refl (starts p bs) lt

-- the first field stands after the spaces, up to the next space
pub field_after : (line rest : List ℕ) (n : ℕ) → rest ≡ drop (position_or_len (λ b. not (eqb b 32)) line) line → 0 < length rest → n ≡ position_or_len (λ b. eqb b 32) rest → fields_of line ≡ take n rest ∷ fields_of (drop n rest)
field_after line rest n r lt e =
    let s : 0 < first (λ b. eqb b 32) rest = rw r (starts (λ b. eqb b 32) line (rw r at lt)) in
    rw e (skip_spaces line ∙ ap fields_of (sym r) ∙ first_field rest (omega (arith, length-take (first (λ b. eqb b 32) rest) rest)))

-- a text has a first part
pub some_parts : (text : List ℕ) → parts_of text ≡ take (position_or_len (λ b. eqb b 10) text) text ∷ drop 1 (parts_of text)
unfolding parts_of
some_parts text = front (λ b. eqb b 10) text

-- ---- bytes that are looked at together

or_false : (x y : Bool) → (x || y) ≡ false → (x ≡ false) × (y ≡ false)
or_false true y h = absurd cc
or_false false y h = (refl, h)

none_of : (p : ℕ → Bool) (xs : List ℕ) → list_any p xs ≡ false → (k : ℕ) → k < length xs → p (get_or xs k 0) ≡ false
none_of p [] h k lt = absurd (omega arith)
none_of p (x ∷ xs) h zero lt = (or_false (p x) (list_any p xs) h).0
none_of p (x ∷ xs) h (suc k) lt = none_of p xs (or_false (p x) (list_any p xs) h).1 k (omega arith)

-- no element before i passes, and none of the next n
pub none_more : (p : ℕ → Bool) (xs : List ℕ) (i n : ℕ) → i + n ≤ length xs → ((k : ℕ) → k < i → p (get_or xs k 0) ≡ false) → list_any p (take n (drop i xs)) ≡ false → (k : ℕ) → k < i + n → p (get_or xs k 0) ≡ false
none_more p xs i n fits before none k lt =
    elim (cases_lt k i) [
      | inl below ↦ before k below
      | inr here ↦
          let size : k - i < length (take n (drop i xs)) = omega (arith, length-take n (drop i xs), length-drop i xs) in
          let one = none_of p (take n (drop i xs)) none (k - i) size in
          let near : k - i < n = omega arith in
          let at : i + (k - i) ≡ k = omega arith in
          let same : get_or (take n (drop i xs)) (k - i) 0 ≡ get_or xs k 0 = get_or-take n (drop i xs) (k - i) 0 near ∙ get_or-drop i xs (k - i) 0 ∙ ap (λ (j : ℕ). get_or xs j 0) at in
          ap p (sym same) ∙ one
    ]
