-- Pairs of digits, one after the other, as a loop reads them.
use Rattle.std.proofs.Common.{◌≡◌, ℕ, ◌+◌, ◌*◌, ◌%◌, ◌<◌, ◌≤◌, List, [], ◌∷◌, ◌++◌, length, drop, slice_index, Option, Some, None, Result, Ok, Err, unwrap_or, refl, ap, ◌∙◌, arith, inl, inr}
use Rattle.std.specs.Prelude.{IsErr}
use Rattle.std.proofs.lemmas.Bool.{cases_lt}
use Rattle.std.proofs.lemmas.List.{append-nil, drop_all}
use Rattle.hex.specs.Hex.{decode_of, decode_pairs, pair_value, hex_digit_value, digit_or_error, ◌>>=◌}
use Rattle.hex.specs.declared.error.FromHexError.{FromHexError}
use Rattle.rs_field.specs.Digits.{Reads}
use Rattle.hex.proofs.Pairs.{prepend, cons_byte, prepend-cons_byte, drop-pair, decode_pairs-ok_pair}

low_some : (o : Option ℕ) → unwrap_or o 255 ≤ 15 → o ≡ Some (unwrap_or o 255)
low_some (Some v) h = refl
low_some None h = absurd (omega (arith, h))

-- a digit that is none
is_none : (o : Option ℕ) → ((v : ℕ) → o ≡ Some v → v ≤ 15) → 15 < unwrap_or o 255 → o ≡ None
is_none (Some v) small h = absurd (let x = small v refl in omega (arith, x, h))
is_none None small h = refl

small_digit : (c v : ℕ) → hex_digit_value c ≡ Some v → v ≤ 15
small_digit c v h = grind arith

none_at : (c : ℕ) → 15 < unwrap_or (hex_digit_value c) 255 → hex_digit_value c ≡ None
none_at c h = is_none (hex_digit_value c) (small_digit c) h

first_bad : (a b i : ℕ) (rest : List ℕ) → hex_digit_value a ≡ None → IsErr (decode_pairs i (a ∷ b ∷ rest))
unfolding decode_pairs
first_bad a b i rest h = rw h refl

second_bad : (a b i : ℕ) (rest : List ℕ) → unwrap_or (hex_digit_value a) 255 ≤ 15 → hex_digit_value b ≡ None → IsErr (decode_pairs i (a ∷ b ∷ rest))
unfolding decode_pairs
second_bad a b i rest h k = rw (low_some (hex_digit_value a) h, k) refl

front_bad : (front : List ℕ) (r : Result (List ℕ) FromHexError) → IsErr r → IsErr (prepend front r)
front_bad front (Err e) h = refl
front_bad front (Ok x) h = h

whole_bad : (s out : List ℕ) (i : ℕ) → 2 * i + 1 < length s → Reads s out i → IsErr (decode_pairs (2 * i) (slice_index s (2 * i) ∷ slice_index s (2 * i + 1) ∷ drop (2 * (i + 1)) s)) → IsErr (decode_pairs 0 s)
whole_bad s out i fits inv h = rw (inv, drop-pair s i fits) (front_bad out _ h)

pub stops_first : (s out : List ℕ) (i high : ℕ) → 2 * i + 1 < length s → high ≡ unwrap_or (hex_digit_value (slice_index s (2 * i))) 255
    → 15 < high → Reads s out i → IsErr (decode_pairs 0 s)
stops_first s out i high fits e h inv = whole_bad s out i fits inv (first_bad _ _ _ _ (none_at (slice_index s (2 * i)) (rw e at h)))

pub stops_second : (s out : List ℕ) (i high low : ℕ) → 2 * i + 1 < length s → high ≡ unwrap_or (hex_digit_value (slice_index s (2 * i))) 255
    → low ≡ unwrap_or (hex_digit_value (slice_index s (2 * i + 1))) 255 → high ≤ 15 → 15 < low → Reads s out i → IsErr (decode_pairs 0 s)
stops_second s out i high low fits e f h k inv = whole_bad s out i fits inv (second_bad _ _ _ _ (rw e at h) (none_at (slice_index s (2 * i + 1)) (rw f at k)))

-- an even number of digits
pub even : (s : List ℕ) → length s % 2 ≡ 0 → decode_of s ≡ decode_pairs 0 s
even s h = rw h refl

pair_of : (a b i : ℕ) → unwrap_or (hex_digit_value a) 255 ≤ 15 → unwrap_or (hex_digit_value b) 255 ≤ 15
    → pair_value a b i ≡ Ok (unwrap_or (hex_digit_value a) 255 * 16 + unwrap_or (hex_digit_value b) 255)
pair_of a b i x y = pair_from (hex_digit_value a) (hex_digit_value b) (low_some _ x) (low_some _ y) where
  pair_from : (o q : Option ℕ) → o ≡ Some (unwrap_or o 255) → q ≡ Some (unwrap_or q 255) → (digit_or_error a i o >>= λ h. digit_or_error b (i + 1) q >>= λ l. Ok (h * 16 + l)) ≡ Ok (unwrap_or o 255 * 16 + unwrap_or q 255)
  pair_from o q e f = rw (e, f) refl

-- one byte more
pub goes_on : (s out : List ℕ) (i high low : ℕ) → 2 * i + 1 < length s
    → high ≡ unwrap_or (hex_digit_value (slice_index s (2 * i))) 255 → low ≡ unwrap_or (hex_digit_value (slice_index s (2 * i + 1))) 255
    → high ≤ 15 → low ≤ 15 → Reads s out i → Reads s (out ++ (high * 16 + low) ∷ []) (i + 1)
goes_on s out i high low fits eh el h l inv =
    let rest : List ℕ = drop (2 * (i + 1)) s in
    let two : 2 * i + 2 ≡ 2 * (i + 1) = omega arith in
    let ok : pair_value (slice_index s (2 * i)) (slice_index s (2 * i + 1)) (2 * i) ≡ Ok (high * 16 + low) = rw (eh, el) (pair_of (slice_index s (2 * i)) (slice_index s (2 * i + 1)) (2 * i) (rw eh at h) (rw el at l)) in
    let pair = ap (decode_pairs (2 * i)) (drop-pair s i fits) ∙ decode_pairs-ok_pair (2 * i) _ _ (high * 16 + low) rest ok
    ∙ ap (λ (k : ℕ). cons_byte (high * 16 + low) (decode_pairs k rest)) two in
    inv ∙ ap (prepend out) pair ∙ prepend-cons_byte out (high * 16 + low) _

-- every pair is read
pub is_done : (s out : List ℕ) (i : ℕ) → length s ≤ 2 * i → Reads s out i → decode_pairs 0 s ≡ Ok out
unfolding decode_pairs
is_done s out i fits inv = inv ∙ ap (prepend out) (ap (decode_pairs (2 * i)) (drop_all (2 * i) s fits)) ∙ ap Ok (append-nil out)

-- all digits so far are good, or one was none, by the greatest of their values
pub record Told (s out : List ℕ) (i greatest : ℕ) : Type 0 where
  pub good : greatest ≤ 15 → Reads s out i
  pub bad : 15 < greatest → IsErr (decode_pairs 0 s)

-- one byte more
pub tells_on : (s out : List ℕ) (i high low before after : ℕ) → 2 * i + 1 < length s
    → high ≡ unwrap_or (hex_digit_value (slice_index s (2 * i))) 255 → low ≡ unwrap_or (hex_digit_value (slice_index s (2 * i + 1))) 255
    → (before ≤ after) × (high ≤ after) × (low ≤ after) → ((n : ℕ) → before ≤ n → high ≤ n → low ≤ n → after ≤ n)
    → Told s out i before → Told s (out ++ (high % 16 * 16 + low % 16) ∷ []) (i + 1) after
tells_on s out i high low before after fits eh el above least told = record {
  good = λ h.
      let a : high ≤ 15 = omega (arith, h, above) in
      let b : low ≤ 15 = omega (arith, h, above) in
      let c : high % 16 * 16 + low % 16 ≡ high * 16 + low = omega (arith, a, b) in
      rw c (goes_on s out i high low fits eh el a b (told.good (omega (arith, h, above))));
  bad = λ h. elim (cases_lt 15 before) [
    | inl bad ↦ told.bad bad
    | inr good ↦ elim (cases_lt 15 high) [
      | inl none ↦ stops_first s out i high fits eh none (told.good good)
      | inr first ↦ elim (cases_lt 15 low) [
        | inl none ↦ stops_second s out i high low fits eh el first none (told.good good)
        | inr second ↦ absurd (let l = least 15 good first second in omega (arith, h, l))
      ]
    ]
  ];
}
