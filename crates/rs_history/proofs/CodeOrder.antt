use Rattle.std.proofs.Common.{◌≡◌, ◌≤◌, ◌<◌, ℕ, zero, suc, ◌+◌, ◌*◌, List, [], ◌∷◌, refl, sym, ap, ◌∙◌, arith, inl, inr, length, drop, ◌-◌, ◌^◌, ◌%◌, Fits, w8, slice_index}
use Rattle.std.specs.Cmp.{nat_cmp_is}
use Rattle.std.specs.Cmp.Lexicographic.{slice_cmp}
use Rattle.std.specs.Ordering.{nat_cmp, ordering_then, ordering_reverse}
use Rattle.std.specs.Cmp.{IsTotalOrder}
use Rattle.std.proofs.lemmas.Cmp.{nat_list_cmp_total, tied_itself}
use Rattle.std.specs.declared.cmp.Ordering.TheVariants.{Less, Equal, Greater}
use Rattle.std.proofs.lemmas.Bool.{cases_lt, lt-ltb, le-ltb}
use Rattle.std.proofs.lemmas.List.{drop_more, drop_all}
use Rattle.std.proofs.Math.Nat.{mul-le-mul_right}
use Rattle.rs_history.specs.KeyCodes.{AreBytes, byte_at, code, digits, places, told_length}

-- a larger digit outweighs all places after it
outweighs : (x y p c d : ℕ) → y < x → d < p → y * p + d < x * p + c
outweighs x y p c d h k = let m = mul-le-mul_right {m = y + 1} {n = x} p (omega (arith, h)) in omega (arith, m, k)

some_places : (n : ℕ) → 0 < places n
some_places zero = omega arith
some_places (suc n) = let m = some_places n in omega (arith, m)

digits_fit : (n : ℕ) (xs : List ℕ) → AreBytes xs → digits n xs < places n
digits_fit zero xs h = omega arith
digits_fit (suc n) [] h = some_places (suc n)
digits_fit (suc n) (x ∷ xs) h =
    let m = mul-le-mul_right {m = x + 1} {n = 256} (places n) (omega (arith, h.0)) in
    let r = digits_fit n xs h.1 in omega (arith, m, r)

less : (x y : ℕ) → x < y → nat_cmp x y ≡ Less
less x y h = sym (nat_cmp_is x y Less h)

tie : (x : ℕ) → nat_cmp x x ≡ Equal
tie x = sym (nat_cmp_is x x Equal refl)

-- the order of the numbers is that of the bytes
digits_below : (n : ℕ) (xs ys : List ℕ) → AreBytes xs → AreBytes ys → digits n xs < digits n ys → slice_cmp nat_cmp xs ys ≡ Less
digits_below zero xs ys a b h = absurd (omega (arith, h))
digits_below (suc n) [] [] a b h = absurd (omega (arith, h))
digits_below (suc n) [] (y ∷ ys) a b h = refl
digits_below (suc n) (x ∷ xs) [] a b h = absurd (omega (arith, h))
digits_below (suc n) (x ∷ xs) (y ∷ ys) a b h =
    elim (cases_lt x y) [
      | inl below ↦ rw (less x y below) refl
      | inr not_below ↦ elim (cases_lt y x) [
        | inl above ↦ absurd (let m = outweighs x y (places n) (digits n xs) (digits n ys) above (digits_fit n ys b.1) in omega (arith, m, h))
        | inr not_above ↦
            let e : x ≡ y = omega (arith, not_below, not_above) in
            same_first n x y xs ys e (digits_below n xs ys a.1 b.1) h
      ]
    ] where
      same_first : (n x y : ℕ) (xs ys : List ℕ) → x ≡ y → (digits n xs < digits n ys → slice_cmp nat_cmp xs ys ≡ Less) → x * places n + digits n xs < y * places n + digits n ys → ordering_then (nat_cmp x y) (slice_cmp nat_cmp xs ys) ≡ Less
      same_first n x y xs ys e more h = rw (e, tie y, more (let g = rw e at h in omega (arith, g))) refl

-- keys of one length that is told and of one number are the same
digits_same : (n : ℕ) (xs ys : List ℕ) → AreBytes xs → AreBytes ys → length xs ≤ n → length xs ≡ length ys → digits n xs ≡ digits n ys → xs ≡ ys
digits_same n [] [] a b s t h = refl
digits_same n [] (y ∷ ys) a b s t h = absurd (omega (arith, t))
digits_same n (x ∷ xs) [] a b s t h = absurd (omega (arith, t))
digits_same zero (x ∷ xs) (y ∷ ys) a b s t h = absurd (omega (arith, s))
digits_same (suc n) (x ∷ xs) (y ∷ ys) a b s t h =
    elim (cases_lt x y) [
      | inl below ↦ absurd (let m = outweighs y x (places n) (digits n ys) (digits n xs) below (digits_fit n xs a.1) in omega (arith, m, h))
      | inr not_below ↦ elim (cases_lt y x) [
        | inl above ↦ absurd (let m = outweighs x y (places n) (digits n xs) (digits n ys) above (digits_fit n ys b.1) in omega (arith, m, h))
        | inr not_above ↦
            let e : x ≡ y = omega (arith, not_below, not_above) in
            both x y xs ys e (digits_same n xs ys a.1 b.1 (omega (arith, s)) (omega (arith, t)) (let g = rw e at h in omega (arith, g)))
      ]
    ] where
      both : (x y : ℕ) (xs ys : List ℕ) → x ≡ y → xs ≡ ys → x ∷ xs ≡ y ∷ ys
      both x y xs ys e f = rw (e, f) refl

-- the loop that makes a number: what is made so far, then the rest, gives the whole
abbrev pub Makes : ℕ → List ℕ → ℕ → ℕ → Type 0
Makes n key i made = (i ≤ n) × (made < places i) × (made * places (n - i) + digits (n - i) (drop i key) ≡ digits n key)

places_more : (i : ℕ) → places (i + 1) ≡ 256 * places i
places_more i = let one : i + 1 ≡ suc i = omega arith in rw one refl

digits_nil : (m : ℕ) → digits m [] ≡ 0
digits_nil zero = refl
digits_nil (suc m) = refl

rest_more : (m i : ℕ) (key : List ℕ) → digits (suc m) (drop i key) ≡ byte_at key i * places m + digits m (drop (i + 1) key)
rest_more m i key =
    elim (cases_lt i (length key)) [
      | inl there ↦ rw (drop_more key i 0 there, lt-ltb i (length key) there) refl
      | inr past ↦ rw (drop_all i key past, drop_all (i + 1) key (omega (arith, past)), le-ltb i (length key) past, digits_nil m) (omega arith)
    ]

pub makes_more : (n : ℕ) (key : List ℕ) (i made : ℕ) → i < n → byte_at key i ≤ 255 → Makes n key i made → Makes n key (i + 1) (made * 256 + byte_at key i)
makes_more n key i made h d inv =
    let m : ℕ = n - (i + 1) in
    let left : n - i ≡ suc m = omega (arith, h) in
    let bound = inv.1 in
    let more = places_more i in
    let whole = rw (left, rest_more m i key) at inv.2 in
    (omega (arith, h), omega (arith, d, bound, more), omega (arith, whole))

up_to : (k i : ℕ) → i ≤ k → places i ≤ places k
up_to zero i h = let e : i ≡ 0 = omega (arith, h) in rw e (omega arith)
up_to (suc k) i h =
    elim (cases_lt i (suc k)) [
      | inl below ↦ let r = up_to k i (omega (arith, below)) in omega (arith, r)
      | inr top ↦ let e : i ≡ suc k = omega (arith, h, top) in rw e (omega arith)
    ]

pub made_fits : (key : List ℕ) (i made : ℕ) → i < 15 → Makes 15 key i made → made * 256 + 255 < 2 ^ 128
made_fits key i made h inv = let r = up_to 14 i (omega (arith, h)) in let b = inv.1 in omega (arith, r, b)

digits_tie : (n : ℕ) (xs ys : List ℕ) → AreBytes xs → AreBytes ys → length xs ≤ n → length xs ≡ length ys → digits n xs ≡ digits n ys → slice_cmp nat_cmp xs ys ≡ Equal
digits_tie n xs ys a b s t h = let e = digits_same n xs ys a b s t h in rw e (tied_itself nat_list_cmp_total ys)

-- what a slice of bytes says of itself, as a list
pub are_bytes : (xs : List ℕ) → ((k : ℕ) → Fits w8 (slice_index xs k)) → AreBytes xs
are_bytes [] h = tt
are_bytes (x ∷ xs) h = (let f = h 0 in omega (arith, f), are_bytes xs (λ k. h (suc k)))

-- ---- codes

-- of two keys of one number the shorter, whose length is told, begins the longer
digits_prefix : (n : ℕ) (xs ys : List ℕ) → AreBytes xs → AreBytes ys → length xs ≤ n → length xs < length ys → digits n xs ≡ digits n ys → slice_cmp nat_cmp xs ys ≡ Less
digits_prefix n xs [] a b s t h = absurd (omega (arith, t))
digits_prefix n [] (y ∷ ys) a b s t h = refl
digits_prefix zero (x ∷ xs) (y ∷ ys) a b s t h = absurd (omega (arith, s))
digits_prefix (suc n) (x ∷ xs) (y ∷ ys) a b s t h =
    elim (cases_lt x y) [
      | inl below ↦ rw (less x y below) refl
      | inr not_below ↦ elim (cases_lt y x) [
        | inl above ↦ absurd (let m = outweighs x y (places n) (digits n xs) (digits n ys) above (digits_fit n ys b.1) in omega (arith, m, h))
        | inr not_above ↦
            let e : x ≡ y = omega (arith, not_below, not_above) in
            rest n x y xs ys e (digits_prefix n xs ys a.1 b.1 (omega (arith, s)) (omega (arith, t))) h
      ]
    ] where
      rest : (n x y : ℕ) (xs ys : List ℕ) → x ≡ y → (digits n xs ≡ digits n ys → slice_cmp nat_cmp xs ys ≡ Less) → x * places n + digits n xs ≡ y * places n + digits n ys → ordering_then (nat_cmp x y) (slice_cmp nat_cmp xs ys) ≡ Less
      rest n x y xs ys e more h = rw (e, tie y, more (let g = rw e at h in omega (arith, g))) refl

-- the length that is told
short_length : (xs : List ℕ) → length xs ≤ 15 → told_length xs ≡ length xs
short_length xs s = rw (le-ltb 15 (length xs) s) refl

long_length : (xs : List ℕ) → 15 < length xs → told_length xs ≡ 16
long_length xs l = rw (lt-ltb 15 (length xs) l) refl

-- the order of the codes is that of the keys
pub code_below : (xs ys : List ℕ) → AreBytes xs → AreBytes ys → code xs < code ys → slice_cmp nat_cmp xs ys ≡ Less
code_below xs ys a b h = elim (cases_lt (digits 15 xs) (digits 15 ys)) [
  | inl below ↦ digits_below 15 xs ys a b below
  | inr not_below ↦ elim (cases_lt 15 (length xs)) [
    | inl long ↦ absurd (elim (cases_lt 15 (length ys)) [
      | inl too ↦ let e = long_length xs long in let f = long_length ys too in omega (arith, e, f, h, not_below)
      | inr short ↦ let e = long_length xs long in let f = short_length ys short in omega (arith, e, f, h, not_below, short)
    ])
    | inr short ↦ elim (cases_lt 15 (length ys)) [
      | inl long ↦
          let e = short_length xs short in
          let f = long_length ys long in
          digits_prefix 15 xs ys a b short (omega (arith, short, long)) (omega (arith, e, f, h, not_below))
      | inr too ↦
          let e = short_length xs short in
          let f = short_length ys too in
          digits_prefix 15 xs ys a b short (omega (arith, e, f, h, not_below, too)) (omega (arith, e, f, h, not_below, too))
    ]
  ]
]

pub code_above : (xs ys : List ℕ) → AreBytes xs → AreBytes ys → code ys < code xs → slice_cmp nat_cmp xs ys ≡ Greater
code_above xs ys a b h = IsTotalOrder.antisymm nat_list_cmp_total xs ys ∙ ap ordering_reverse (code_below ys xs b a h)

-- keys of one code that tells their length are the same
pub code_tie : (xs ys : List ℕ) → AreBytes xs → AreBytes ys → code xs ≡ code ys → (code xs % 256 ≡ 16 → ⊥) → slice_cmp nat_cmp xs ys ≡ Equal
code_tie xs ys a b h told = elim (cases_lt 15 (length xs)) [
  | inl long ↦ absurd (told (let e = long_length xs long in omega (arith, e)))
  | inr short ↦ elim (cases_lt 15 (length ys)) [
    | inl long ↦ absurd (let e = short_length xs short in let f = long_length ys long in omega (arith, e, f, h, short))
    | inr too ↦
        let e = short_length xs short in
        let f = short_length ys too in
        digits_tie 15 xs ys a b short (omega (arith, e, f, h, short, too)) (omega (arith, e, f, h, short, too))
  ]
]
