-- Reading decimal digits one by one.
use Rattle.std.proofs.Common.{◌≡◌, ℕ, ◌+◌, ◌-◌, ◌*◌, ◌<◌, ◌≤◌, Bool, true, false, ◌&&◌, cond, ltb, leb, List, [], ◌∷◌, length, get_or, drop, Option, Some, None, ◌⊎◌, inl, inr, refl, sym, ◌∙◌, arith}
use Rattle.std.specs.List.{fold}
use Rattle.std.specs.Str.{all_ascii_digits}
use Rattle.std.proofs.lemmas.Bool.{le-ltb, le-leb, lt-leb}
use Rattle.std.proofs.lemmas.List.{at_drop_more}
use Rattle.rs_field.specs.Fields.{decimal_of}

abbrev pub value_after : ℕ → List ℕ → ℕ
value_after n ds = fold (λ n c. 10 * n + (c - 48)) n ds

grows : (n : ℕ) (ds : List ℕ) → n ≤ value_after n ds
grows n [] = omega arith
grows n (c ∷ cs) = omega (arith, grows (10 * n + (c - 48)) cs)

abbrev pub read_after : ℕ → List ℕ → Option ℕ
read_after n ds = cond (all_ascii_digits ds && ltb (value_after n ds) 0x8000_0000_0000_0000) (Some (value_after n ds)) None

either : (a b : Bool) (x : Option ℕ) → b ≡ false → cond (a && b) x None ≡ None
either true b x h = rw h refl
either false b x h = refl

-- a byte that is no digit
pub no_digit : (n c : ℕ) (cs : List ℕ) → (leb 48 c && leb c 57) ≡ false → read_after n (c ∷ cs) ≡ None
no_digit n c cs h = rw h refl

-- a number that is too large already
pub too_large : (n : ℕ) (ds : List ℕ) → 0x8000_0000_0000_0000 ≤ n → read_after n ds ≡ None
too_large n ds h = either (all_ascii_digits ds) (ltb (value_after n ds) 0x8000_0000_0000_0000) (Some (value_after n ds)) (le-ltb _ _ (omega (arith, grows n ds)))

pub one_more : (n c : ℕ) (cs : List ℕ) → (leb 48 c && leb c 57) ≡ true → read_after n (c ∷ cs) ≡ read_after (10 * n + (c - 48)) cs
one_more n c cs h = rw h refl

large_at : (n c : ℕ) (cs : List ℕ) (t : Bool) → (leb 48 c && leb c 57) ≡ t → 922337203685477580 < n → read_after n (c ∷ cs) ≡ None
large_at n c cs true e h = one_more n c cs e ∙ too_large (10 * n + (c - 48)) cs (omega arith)
large_at n c cs false e h = no_digit n c cs e

pub decimal_of-is : (f : List ℕ) → decimal_of f ≡ read_after 0 f
unfolding decimal_of
decimal_of-is f = refl

below : (c : ℕ) → c < 48 → (leb 48 c && leb c 57) ≡ false
below c h = rw (lt-leb 48 c h) refl

above : (c : ℕ) → 57 < c → (leb 48 c && leb c 57) ≡ false
above c h = rw (le-leb 48 c (omega arith), lt-leb c 57 h) refl

within : (c : ℕ) → 48 ≤ c → c ≤ 57 → (leb 48 c && leb c 57) ≡ true
within c h k = rw (le-leb 48 c h, le-leb c 57 k) refl

pub stops : (field : List ℕ) (n i : ℕ) (total : Option ℕ) → i < length field → read_after n (drop i field) ≡ total → (get_or field i 0 < 48) ⊎ (57 < get_or field i 0) ⊎ (922337203685477580 < n) → None ≡ total
stops field n i total lt same (inl h) = sym (at_drop_more (read_after n) field i 0 lt ∙ no_digit n (get_or field i 0) (drop (i + 1) field) (below (get_or field i 0) h)) ∙ same
stops field n i total lt same (inr (inl h)) = sym (at_drop_more (read_after n) field i 0 lt ∙ no_digit n (get_or field i 0) (drop (i + 1) field) (above (get_or field i 0) h)) ∙ same
stops field n i total lt same (inr (inr h)) = sym (at_drop_more (read_after n) field i 0 lt ∙ large_at n (get_or field i 0) (drop (i + 1) field) (leb 48 (get_or field i 0) && leb (get_or field i 0) 57) refl h) ∙ same
