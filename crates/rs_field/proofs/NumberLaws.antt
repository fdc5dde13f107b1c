-- A number field that is read is the number's digits, and these are read again.
use Rattle.std.proofs.Common.{◌≡◌, ℕ, ◌+◌, ◌-◌, ◌*◌, ◌^◌, ◌<◌, Bool, true, false, ◌&&◌, ◌||◌, cond, eqb, ltb, List, length, get_or, Some, None, Ok, Err, refl, sym, ap, subst, ◌∙◌, arith, rules, inl, inr}
use Rattle.std.specs.Fmt as fmt
use Rattle.std.specs.List.{fold}
use Rattle.std.specs.Str.{all_ascii_digits}
use Rattle.std.specs.Option.{ok_or}
use Rattle.std.proofs.lemmas.Str.Parse.{IsNumeralModel, numerals_by_fold}
use Rattle.std.proofs.lemmas.Fmt.{digits_decimal, digits_value-decimal, decimal_nonempty, first_decimal, decimal-digits_value, decimal_digit}
use Rattle.std.proofs.lemmas.Bool.{lt-ltb, le-ltb, ltb-true, ltb-false, eqb-false, ne_eqb, cases_eq, and_cases, and_left, and_right}
use Rattle.rs_field.specs.declared.fault.TextKind.TheVariants.{BadNumber}
use Rattle.rs_field.specs.Fields.{value_of_digits, decimal_of, starts_badly, number_of}

abbrev pub read_on : ℕ → List ℕ → ℕ
read_on n ds = fold (λ n c. 10 * n + (c - 48)) n ds

pub own : IsNumeralModel (λ ds. all_ascii_digits ds ≡ true) (read_on 0)
own = numerals_by_fold _ (search rules) read_on (search rules)

opened : (digits small bad : Bool) (v n : ℕ) → cond bad (Err BadNumber) (ok_or (cond (digits && small) (Some v) None) BadNumber) ≡ Ok n → (bad ≡ false) × (digits ≡ true) × (small ≡ true) × (v ≡ n)
opened true true false v n e = (refl, refl, refl, cc)
opened true true true v n e = absurd cc
opened true false true v n e = absurd cc
opened true false false v n e = absurd cc
opened false small true v n e = absurd cc
opened false small false v n e = absurd cc

or_false : (x y : Bool) → (x || y) ≡ false → (x ≡ false) × (y ≡ false)
or_false true y h = absurd cc
or_false false y h = (refl, h)

from_or : (x y : Bool) → x ≡ false → y ≡ false → (x || y) ≡ false
from_or x y h k = rw h k

good_start : (f : List ℕ) → starts_badly f ≡ false → (0 < length f) × (get_or f 0 0 ≡ 48 → length f ≡ 1)
good_start f h =
    let o = or_false (eqb (length f) 0) (ltb 1 (length f) && eqb (get_or f 0 0) 48) h in
    let some : 0 < length f = omega (arith, eqb-false _ _ o.0) in
    (some, λ z. elim (and_cases (ltb 1 (length f)) (eqb (get_or f 0 0) 48) o.1) [ inl l ↦ omega (arith, ltb-false _ _ l, some) | inr r ↦ absurd (eqb-false _ _ r z) ])

starts : (f : List ℕ) → 0 < length f → (get_or f 0 0 ≡ 48 → length f ≡ 1) → starts_badly f ≡ false
starts f some one =
    from_or (eqb (length f) 0) (ltb 1 (length f) && eqb (get_or f 0 0) 48) (ne_eqb _ _ (omega arith))
    (elim (cases_eq (get_or f 0 0) 48) [
      | inl z ↦ and_left (ltb 1 (length f)) (eqb (get_or f 0 0) 48) (le-ltb 1 (length f) (omega (arith, one z)))
      | inr z ↦ and_right (ltb 1 (length f)) (eqb (get_or f 0 0) 48) (ne_eqb _ _ z)
    ])

decimal_start : (n : ℕ) → n < 2 ^ 64 → get_or (fmt.decimal n) 0 0 ≡ 48 → length (fmt.decimal n) ≡ 1
decimal_start n lt z =
    elim (cases_eq n 0) [
      | inl e ↦ rw (e, decimal_digit 0 (omega arith)) refl
      | inr ne ↦ absurd (omega (arith, first_decimal n (omega arith) lt, z))
    ]

-- what is read is written so
pub number_spelled : (f : List ℕ) (n : ℕ) → number_of f ≡ Ok n → (f ≡ fmt.decimal n) × (n < 0x8000_0000_0000_0000)
unfolding number_of decimal_of
number_spelled f n e =
    let o = opened (all_ascii_digits f) (ltb (value_of_digits f) 0x8000_0000_0000_0000) (starts_badly f) (value_of_digits f) n e in
    let small : value_of_digits f < 0x8000_0000_0000_0000 = ltb-true _ _ o.2 in
    let s = good_start f o.0 in
    let same : fmt.decimal (value_of_digits f) ≡ f = decimal-digits_value own f o.1 s.0 s.1 (omega (arith, small)) in
    (sym same ∙ ap fmt.decimal o.3, subst (λ (m : ℕ). m < 0x8000_0000_0000_0000) o.3 small)

-- what is written is read again
pub number_again : (n : ℕ) → n < 0x8000_0000_0000_0000 → number_of (fmt.decimal n) ≡ Ok n
unfolding number_of decimal_of
number_again n lt =
    let d : all_ascii_digits (fmt.decimal n) ≡ true = digits_decimal own n (omega (arith, lt)) in
    let v : value_of_digits (fmt.decimal n) ≡ n = digits_value-decimal own n (omega (arith, lt)) in
    let b : starts_badly (fmt.decimal n) ≡ false = starts (fmt.decimal n) (decimal_nonempty n (omega (arith, lt))) (decimal_start n (omega (arith, lt))) in
    rw (b, d, v, lt-ltb n 0x8000_0000_0000_0000 lt) refl
