-- Which words spell a key.
use Rattle.std.proofs.Common.{◌≡◌, ◌∙◌, ℕ, ◌<◌, ◌≤◌, ◌/◌, ◌%◌, Bool, true, false, List, [], ◌∷◌, length, Some, None, Result, Ok, Err, refl, sym, ap, arith}
use Rattle.std.specs.Prelude.{◌==◌, if◌then◌else◌, IsErr}
use Rattle.std.proofs.lemmas.Bool.{lt-ltb, le-ltb, eq-eqb, ne_eqb, false≢true}
use Rattle.hex.specs.Hex.{decode_of, decode_sized, decode_pairs}
use Rattle.hex.specs.declared.error.FromHexError.{FromHexError}
use Rattle.hex.specs.declared.error.FromHexError.TheVariants.{OddLength, InvalidStringLength}
use Rattle.hex.proofs.HexLemmas.{decode_of-ok}
use Rattle.rs_field.specs.Fields.{hex_of, sized}
use Rattle.raftreplay.specs.Words.{key_word, value_in}

-- decoding into room for half as many bytes is decoding
sized_is : (word : List ℕ) → decode_sized word (length word / 2) ≡ decode_of word
sized_is word = go (length word % 2 == 1) (length word / 2 == length word / 2) (eq-eqb (length word / 2) (length word / 2) refl) where
  go : (odd same : Bool) → same ≡ true
      → (if odd then Err OddLength else if same then decode_pairs 0 word else Err InvalidStringLength)
      ≡ (if odd then Err OddLength else decode_pairs 0 word)
  go true same h = refl
  go false same h = rw h refl

by_decoding : (word : List ℕ) (r : Result (List ℕ) FromHexError) → decode_of word ≡ r → key_word word ≡ value_in (sized 256 r)
unfolding hex_of
by_decoding word r h = ap (λ q. value_in (sized 256 q)) h

-- fewer than two digits
pub too_short : (word : List ℕ) → length word / 2 ≡ 0 → key_word word ≡ None
unfolding hex_of decode_pairs
too_short [] h = refl
too_short (x ∷ []) h = refl
too_short (x ∷ y ∷ rest) h = absurd (omega (arith, h))

-- more than 512 digits
pub too_long : (word : List ℕ) → 256 < length word / 2 → key_word word ≡ None
too_long word h = go (decode_of word) refl where
  go : (r : Result (List ℕ) FromHexError) → decode_of word ≡ r → key_word word ≡ None
  go (Err e) d = by_decoding word (Err e) d
  go (Ok bytes) d =
      let twice = (decode_of-ok word bytes d).2 in
      by_decoding word (Ok bytes) d ∙ rw (ne_eqb (length bytes) 0 (λ e. omega (arith, e, twice, h)), lt-ltb 256 (length bytes) (omega (arith, twice, h))) refl

-- what has the length of a key, and decodes
pub spelled : (word bytes : List ℕ) → 0 < length word / 2 → length word / 2 ≤ 256 → decode_sized word (length word / 2) ≡ Ok bytes → key_word word ≡ Some bytes
spelled word bytes some most h =
    let d : decode_of word ≡ Ok bytes = sym (sized_is word) ∙ h in
    let twice = (decode_of-ok word bytes d).2 in
    by_decoding word (Ok bytes) d ∙ rw (ne_eqb (length bytes) 0 (λ e. omega (arith, e, twice, some)), le-ltb 256 (length bytes) (omega (arith, twice, most))) refl

-- what doesn't decode
pub no_digits : (word : List ℕ) → IsErr (decode_sized word (length word / 2)) → key_word word ≡ None
no_digits word none = go (decode_sized word (length word / 2)) refl none where
  go : (r : Result (List ℕ) FromHexError) → decode_sized word (length word / 2) ≡ r → IsErr r → key_word word ≡ None
  go (Ok bytes) h none = absurd (false≢true none)
  go (Err e) h _ = by_decoding word (Err e) (sym (sized_is word) ∙ h)
