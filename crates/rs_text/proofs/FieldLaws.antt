-- Fields both ways: what is read of a field is spelled so, and what is spelled so is read.
-- `X_takes` and `X_spelled`: the field that the reader X took is spelled as what it gave, and that keeps its form.
-- `X_again`: a field that is spelled so is read by X as that.
use Rattle.std.specs.Fmt as fmt
use Rattle.std.proofs.Common.{◌≡◌, ℕ, ◌<◌, Bool, true, false, cond, eqb, ltb, List, [], ◌∷◌, Result, Ok, Err, refl, sym, ap, subst, ◌∙◌, arith, suc, ◌≤◌, leb, length, codes, Option, Some, None, ◌&&◌, get_or}
use Rattle.std.specs.Fmt.{decimal}
use Rattle.std.proofs.lemmas.Bool.{eqb-false, ne_eqb, ltb-false, le-ltb, and_parts}
use Rattle.std.specs.Prelude.{IfSome}
use Rattle.std.specs.Str.{bytes_eq, all_ascii_digits}
use Rattle.std.proofs.lemmas.Slice.Eq.{bytes_eq-Decides}
use Rattle.std.proofs.lemmas.Fmt.{digits_decimal, decimal_nonempty}
use Rattle.rs_field.specs.declared.fault.TextKind.{TextKind}
use Rattle.rs_field.specs.declared.fault.TextKind.TheVariants.{BadNumber, Limit, BadKey}
use Rattle.rs_field.specs.Fields.{Fields, end_at, number_of, id_of, id_at, number_at, sized, hex_of, key_at, some, value_at, bound_at, is_digit}
use Rattle.rs_field.specs.Forms.{Form, number, Spells, SpellsFields, Hex, Forms, bound, value}
use Rattle.rs_entry.specs.WellFormed.{IsNumber, IsId, AreBytes, IsKey}
use Rattle.rs_field.proofs.NumberLaws.{number_spelled, number_again, own}
use Rattle.hex.specs.Hex.{decode_of, IsBytes}
use Rattle.hex.proofs.HexLemmas.{decode_of-ok}
use Rattle.hex.specs.declared.error.FromHexError.{FromHexError}
use Rattle.rs_field.proofs.ReadLaws.{bind_ok}

-- ---- what is read is spelled so

-- a word that is tested for
pub is_word : (f w : List ℕ) → bytes_eq f w ≡ true → f ≡ w
is_word f w h = (bytes_eq-Decides f w).0 h

pub not_zero : (n m : ℕ) → cond (eqb n 0) (Err BadNumber) (Ok n) ≡ Ok m → (n ≡ m) × (0 < m)
not_zero n m e = go (eqb n 0) refl e where
  go : (t : Bool) → eqb n 0 ≡ t → cond t (Err BadNumber) (Ok n) ≡ Ok m → (n ≡ m) × (0 < m)
  go true h e = absurd cc
  go false h e = let same : n ≡ m = cc in (same, omega (arith, eqb-false n 0 h, same))

pub id_spelled : (f : List ℕ) (n : ℕ) → id_of f ≡ Ok n → (f ≡ decimal n) × IsId n
unfolding id_of
id_spelled f n e =
    let b = bind_ok (number_of f) (λ m. cond (eqb m 0) (Err BadNumber) (Ok m)) n e in
    let s = number_spelled f b.0 b.1 in
    let z = not_zero b.0 n b.2 in
    subst (λ (m : ℕ). (f ≡ decimal m) × ((0 < n) × IsNumber m)) z.0 (s.0, (z.1, s.1))

-- what a reader of one field took
pub record TakesOne {A : Type 0} (spell : A → Form) (fields : Fields) (x : A) (rest : Fields) : Type 0 where
  pub field : List ℕ
  pub parts : fields ≡ field ∷ rest
  pub spelled : Spells field (spell x)

pub id_takes : (fields : Fields) (x : ℕ × Fields) → id_at fields ≡ Ok x → TakesOne number fields x.0 x.1 × IsId x.0
unfolding id_at
id_takes [] x e = absurd cc
id_takes (f ∷ fs) x e =
    let b = bind_ok (id_of f) (λ n. Ok (n, fs)) x e in
    let s = id_spelled f b.0 b.1 in
    let made : ℕ × Fields = (b.0, fs) in
    let same : made ≡ x = cc (b.2) in
    subst (λ (y : ℕ × Fields). TakesOne number (f ∷ fs) y.0 y.1 × IsId y.0) same (record { field = f; parts = refl; spelled = s.0 }, s.1)

pub number_takes : (fields : Fields) (x : ℕ × Fields) → number_at fields ≡ Ok x → TakesOne number fields x.0 x.1 × IsNumber x.0
unfolding number_at
number_takes [] x e = absurd cc
number_takes (f ∷ fs) x e =
    let b = bind_ok (number_of f) (λ n. Ok (n, fs)) x e in
    let s = number_spelled f b.0 b.1 in
    let made : ℕ × Fields = (b.0, fs) in
    let same : made ≡ x = cc (b.2) in
    subst (λ (y : ℕ × Fields). TakesOne number (f ∷ fs) y.0 y.1 × IsNumber y.0) same (record { field = f; parts = refl; spelled = s.0 }, s.1)

all_bytes : (bytes : List ℕ) → IsBytes bytes → AreBytes bytes
all_bytes [] h = tt
all_bytes (b ∷ bs) h = (h 0, all_bytes bs (λ i. h (suc i)))

sized_spelled : (most : ℕ) (r : Result (List ℕ) FromHexError) (k : List ℕ) → sized most r ≡ Ok k → (r ≡ Ok k) × (0 < length k) × (length k ≤ most)
sized_spelled most (Err x) k e = absurd cc
sized_spelled most (Ok bytes) k e = let g = go (eqb (length bytes) 0) (ltb most (length bytes)) refl refl e in (ap (λ (b : List ℕ). Ok b) g.0, g.1, g.2) where
  go : (t u : Bool) → eqb (length bytes) 0 ≡ t → ltb most (length bytes) ≡ u → cond t (Err BadKey) (cond u (Err Limit) (Ok bytes)) ≡ Ok k → (bytes ≡ k) × (0 < length k) × (length k ≤ most)
  go true u p q e = absurd cc
  go false true p q e = absurd cc
  go false false p q e =
      let same : bytes ≡ k = cc in
      let size = ap length same in
      let some : 0 < length bytes = omega (arith, eqb-false _ _ p) in
      let few : length bytes ≤ most = omega (arith, ltb-false _ _ q) in
      (same, omega arith, omega arith)

hex_spelled : (most : ℕ) (f k : List ℕ) → hex_of most f ≡ Ok k → (decode_of f ≡ Ok k) × (0 < length k) × (length k ≤ most) × AreBytes k
unfolding hex_of
hex_spelled most f k e =
    let s = sized_spelled most (decode_of f) k e in
    (s.0, s.1, s.2, all_bytes k (decode_of-ok f k s.0).3)

hex_key : (f k : List ℕ) → hex_of 256 f ≡ Ok k → (decode_of f ≡ Ok k) × IsKey k
hex_key f k e = let s = hex_spelled 256 f k e in (s.0, (s.1, s.2, s.3))

pub key_takes : (fields : Fields) (x : List ℕ × Fields) → key_at fields ≡ Ok x → TakesOne Hex fields x.0 x.1 × IsKey x.0
unfolding key_at
key_takes [] x e = absurd cc
key_takes (f ∷ fs) x e =
    let b = bind_ok (hex_of 256 f) (λ k. Ok (k, fs)) x e in
    let s = hex_key f b.0 b.1 in
    let made : List ℕ × Fields = (b.0, fs) in
    let same : made ≡ x = cc (b.2) in
    subst (λ (y : List ℕ × Fields). TakesOne Hex (f ∷ fs) y.0 y.1 × IsKey y.0) same (record { field = f; parts = refl; spelled = s.0 }, s.1)

spells_value : (f v : List ℕ) → decode_of f ≡ Ok v → 0 < length v → Spells f (value v)
spells_value f [] e some = absurd (omega arith)
spells_value f (b ∷ bs) e some = e

value_spelled : (t : Bool) (f v : List ℕ) → bytes_eq f (codes "-") ≡ t → cond t (Ok []) (hex_of 4096 f) ≡ Ok v → Spells f (value v) × (length v ≤ 4096) × AreBytes v
value_spelled true f v h e =
    let same : [] ≡ v = cc in
    subst (λ (u : List ℕ). Spells f (value u) × (length u ≤ 4096) × AreBytes u) same (is_word f (codes "-") h, omega arith, tt)
value_spelled false f v h e = let s = hex_spelled 4096 f v e in (spells_value f v s.0 s.1, s.2, s.3)

pub value_takes : (fields : Fields) (x : List ℕ × Fields) → value_at fields ≡ Ok x → TakesOne value fields x.0 x.1 × (length x.0 ≤ 4096) × AreBytes x.0
unfolding value_at
value_takes [] x e = absurd cc
value_takes (f ∷ fs) x e =
    let b = bind_ok (cond (bytes_eq f (codes "-")) (Ok []) (hex_of 4096 f)) (λ v. Ok (v, fs)) x e in
    let s = value_spelled (bytes_eq f (codes "-")) f b.0 refl b.1 in
    let made : List ℕ × Fields = (b.0, fs) in
    let same : made ≡ x = cc (b.2) in
    subst (λ (y : List ℕ × Fields). TakesOne value (f ∷ fs) y.0 y.1 × (length y.0 ≤ 4096) × AreBytes y.0) same (record { field = f; parts = refl; spelled = s.0 }, s.1, s.2)

some_spelled : (f : List ℕ) (r : Result (List ℕ) TextKind) (b : Option (List ℕ)) → hex_of 256 f ≡ r → some r ≡ Ok b → Spells f (bound b) × IfSome b IsKey
some_spelled f (Err x) b h e = absurd cc
some_spelled f (Ok k) b h e =
    let same : Some k ≡ b = cc in
    subst (λ (u : Option (List ℕ)). Spells f (bound u) × IfSome u IsKey) same (hex_key f k h)

bound_spelled : (t : Bool) (f : List ℕ) (b : Option (List ℕ)) → bytes_eq f (codes "-") ≡ t → cond t (Ok None) (some (hex_of 256 f)) ≡ Ok b → Spells f (bound b) × IfSome b IsKey
bound_spelled true f b h e =
    let same : None ≡ b = cc in
    subst (λ (u : Option (List ℕ)). Spells f (bound u) × IfSome u IsKey) same (is_word f (codes "-") h, tt)
bound_spelled false f b h e = some_spelled f (hex_of 256 f) b refl e

pub bound_takes : (fields : Fields) (x : Option (List ℕ) × Fields) → bound_at fields ≡ Ok x → TakesOne bound fields x.0 x.1 × IfSome x.0 IsKey
unfolding bound_at
bound_takes [] x e = absurd cc
bound_takes (f ∷ fs) x e =
    let b = bind_ok (cond (bytes_eq f (codes "-")) (Ok None) (some (hex_of 256 f))) (λ v. Ok (v, fs)) x e in
    let s = bound_spelled (bytes_eq f (codes "-")) f b.0 refl b.1 in
    let made : Option (List ℕ) × Fields = (b.0, fs) in
    let same : made ≡ x = cc (b.2) in
    subst (λ (y : Option (List ℕ) × Fields). TakesOne bound (f ∷ fs) y.0 y.1 × IfSome y.0 IsKey) same (record { field = f; parts = refl; spelled = s.0 }, s.1)

-- ---- several fields

-- one more field in front of fields that are spelled so
pub then_spelled : {A : Type 0} (spell : A → Form) (fields : Fields) (x : A) (rest : Fields) (forms : Forms) → TakesOne spell fields x rest → SpellsFields rest forms → SpellsFields fields (spell x ∷ forms)
then_spelled spell fields x rest forms t h = subst (λ (fs : Fields). SpellsFields fs (spell x ∷ forms)) (sym t.parts) (t.spelled, h)

pub none_left : (fields : Fields) (u : Unit {0}) → end_at fields ≡ Ok u → SpellsFields fields []
none_left [] u e = tt
none_left (f ∷ fs) u e = absurd cc

-- ---- what is spelled so is read

pub id_again : (n : ℕ) → IsId n → id_of (decimal n) ≡ Ok n
unfolding id_of
id_again n h = rw (number_again n h.1, ne_eqb n 0 (omega (arith, h.0))) refl

pub number_at_again : (n : ℕ) (fs : Fields) → IsNumber n → number_at (fmt.decimal n ∷ fs) ≡ Ok (n, fs)
unfolding number_at
number_at_again n fs h = rw (number_again n h) refl

pub id_at_again : (n : ℕ) (fs : Fields) → IsId n → id_at (fmt.decimal n ∷ fs) ≡ Ok (n, fs)
unfolding id_at
id_at_again n fs h = rw (id_again n h) refl

pub sized_again : (most : ℕ) (bytes : List ℕ) → 0 < length bytes → length bytes ≤ most → sized most (Ok bytes) ≡ Ok bytes
sized_again most bytes some le = rw (ne_eqb (length bytes) 0 (omega arith), le-ltb most (length bytes) le) refl

pub hex_again : (most : ℕ) (f bytes : List ℕ) → decode_of f ≡ Ok bytes → 0 < length bytes → length bytes ≤ most → hex_of most f ≡ Ok bytes
unfolding hex_of
hex_again most f bytes e some le = ap (sized most) e ∙ sized_again most bytes some le

pub key_again : (f k : List ℕ) (fs : Fields) → decode_of f ≡ Ok k → IsKey k → key_at (f ∷ fs) ≡ Ok (k, fs)
unfolding key_at
key_again f k fs e h = rw (hex_again 256 f k e h.0 h.1) refl

-- `-` is no hexadecimal text
pub no_dash : (f : List ℕ) (bytes : List ℕ) (t : Bool) → decode_of f ≡ Ok bytes → bytes_eq f (codes "-") ≡ t → t ≡ false
no_dash f bytes false e h = refl
no_dash f bytes true e h =
    let same : f ≡ codes "-" = (bytes_eq-Decides f (codes "-")).0 h in
    let no = sym (ap decode_of same) ∙ e in absurd cc

pub value_again : (f v : List ℕ) (fs : Fields) → Spells f (value v) → length v ≤ 4096 → value_at (f ∷ fs) ≡ Ok (v, fs)
unfolding value_at
value_again f [] fs s le = rw s refl
value_again f (b ∷ bs) fs s le = rw (no_dash f (b ∷ bs) (bytes_eq f (codes "-")) s refl, hex_again 4096 f (b ∷ bs) s (omega arith) le) refl

pub bound_again : (f : List ℕ) (b : Option (List ℕ)) (fs : Fields) → Spells f (bound b) → IfSome b IsKey → bound_at (f ∷ fs) ≡ Ok (b, fs)
unfolding bound_at
bound_again f None fs s h = rw s refl
bound_again f (Some k) fs s h = rw (no_dash f k (bytes_eq f (codes "-")) s refl, hex_again 256 f k s h.0 h.1) refl

-- ---- a number is no word

-- a number is no word
pub not_word : (n : ℕ) (w : List ℕ) → IsNumber n → all_ascii_digits w ≡ false → bytes_eq (fmt.decimal n) w ≡ false
not_word n w h other = go (bytes_eq (fmt.decimal n) w) refl where
  go : (t : Bool) → bytes_eq (fmt.decimal n) w ≡ t → t ≡ false
  go false e = refl
  go true e =
      let same : fmt.decimal n ≡ w = (bytes_eq-Decides (fmt.decimal n) w).0 e in
      let d : all_ascii_digits (fmt.decimal n) ≡ true = digits_decimal own n (omega (arith, h)) in
      sym d ∙ ap all_ascii_digits same ∙ other

first_is_digit : (f : List ℕ) → 0 < length f → all_ascii_digits f ≡ true → is_digit (get_or f 0 0) ≡ true
first_is_digit [] some h = absurd (omega arith)
first_is_digit (c ∷ cs) some h = (and_parts (leb 48 c && leb c 57) (all_ascii_digits cs) h).0

pub digit_first : (n : ℕ) → IsNumber n → is_digit (get_or (fmt.decimal n) 0 0) ≡ true
digit_first n h = first_is_digit (fmt.decimal n) (decimal_nonempty n (omega (arith, h))) (digits_decimal own n (omega (arith, h)))
