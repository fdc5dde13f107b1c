-- A cut that grows by what is told, and the greatest one.
use Rattle.std.proofs.Common.{◌≡◌, ℕ, zero, suc, ◌+◌, ◌-◌, ◌≤◌, ◌<◌, Bool, true, false, cond, List, [], ◌∷◌, ◌++◌, set, length, get_or, Option, Some, None, refl, ap, sym, ◌∙◌, arith, ◌⊎◌, subst, inl, inr, get_or-set_same, get_or-set_other}
use Rattle.std.specs.Prelude.{Err, Ok, OnErr, OnOk, Result, leb, ltb, ◌==◌, ◌&&◌, ◌||◌, if◌then◌else◌}
use mathlib.Core.Path.{fun_ext}
use Rattle.std.proofs.lemmas.Bool.{both_ways, cases_eq, cases_lt, and_parts, and_from, or_cases, eq-eqb, ne_eqb, eqb-true, leb-true, le-leb, lt-ltb}
use Rattle.rs_entry.specs.declared.input.Input.{Input}
use Rattle.rs_check.specs.Plans.{reshapings_of}
use Rattle.rs_check.specs.Values.{count_of}
use Rattle.rs_table.specs.Cuts.{AllTold, AreKnown, Cut, IsCut, IsFull, IsGreatest, IsIn, Reshaping, Telling, birth_of, covers, is_on, prepare_of}
use Rattle.rs_table.specs.Moves.{IsNext, nothing_covered, raised}
use Rattle.rs_table.proofs.NeedLists.{among_left, among_one, among_right, on_below}
use Rattle.rs_table.specs.Tellings.{AllWait, IsWaiting, has_needs, is_among, is_this, left_below, may_grow, numbers, open_below}

-- ---- one address further

pub raised_same : (n : Cut) (a : ℕ) → raised n a a ≡ n a + 1
raised_same n a = ap (λ b. cond b (n a + 1) (n a)) (eq-eqb a a refl)

pub raised_other : (n : Cut) (a x : ℕ) → (x ≡ a → ⊥) → raised n a x ≡ n x
raised_other n a x ne = ap (λ b. cond b (n x + 1) (n x)) (ne_eqb x a ne)

pub raised_cases : (n : Cut) (a x : ℕ) → ((x ≡ a) × (raised n a x ≡ n x + 1)) ⊎ ((x ≡ a → ⊥) × (raised n a x ≡ n x))
raised_cases n a x = elim (cases_eq x a) [
  | inl e ↦ inl (e, ap (λ b. cond b (n x + 1) (n x)) (eq-eqb x a e))
  | inr ne ↦ inr (ne, raised_other n a x ne)
]

pub numbers_raised : (ns : List ℕ) (a : ℕ) → a < length ns → numbers (set ns a (numbers ns a + 1)) ≡ raised (numbers ns) a
numbers_raised ns a lt = fun_ext (λ x. elim (cases_eq x a) [
  | inl e ↦ ap (numbers (set ns a (numbers ns a + 1))) e ∙ (get_or-set_same ns a (numbers ns a + 1) 0 lt ∙ (sym (raised_same (numbers ns) a) ∙ ap (raised (numbers ns) a) (sym e)))
  | inr ne ↦ get_or-set_other ns a x (numbers ns a + 1) 0 ne ∙ sym (raised_other (numbers ns) a x ne)
])

pub raised_in : (n : Cut) (a : ℕ) → IsIn n (raised n a)
raised_in n a x = elim (raised_cases n a x) [ inl p ↦ (let e = p.1 in omega (arith, e)) | inr p ↦ (let e = p.1 in omega (arith, e)) ]

-- what is covered stays so in a greater cut
pub covers_more : (m n : Cut) (o : Option Reshaping) → IsIn m n → covers m o ≡ true → covers n o ≡ true
covers_more m n None h e = refl
covers_more m n (Some r) h e = let a = leb-true r.1 (m r.0) e in let b = h r.0 in le-leb r.1 (n r.0) (omega (arith, a, b))

-- ---- a cut that may grow

module _ (input : Input) (place : ℕ) (told : Telling) (n : Cut) (a : ℕ) (grows : may_grow input told n a ≡ true) where
  pub told_next : told a (n a + 1) ≡ true
  told_next = (and_parts (told a (n a + 1)) (covers n (birth_of input a) && covers n (prepare_of input a (n a + 1))) grows).0

  both : (covers n (birth_of input a) ≡ true) × (covers n (prepare_of input a (n a + 1)) ≡ true)
  both = and_parts (covers n (birth_of input a)) (covers n (prepare_of input a (n a + 1))) ((and_parts (told a (n a + 1)) (covers n (birth_of input a) && covers n (prepare_of input a (n a + 1))) grows).1)

  -- what is told is of the store's addresses, and of those that the plan has
  pub known_next : AreKnown input place told → (is_on input place a ≡ true) × (n a < length (reshapings_of input a))
  known_next known =
      let k = and_parts (is_on input place a) (leb 1 (n a + 1) && leb (n a + 1) (length (reshapings_of input a))) (known a (n a + 1) told_next) in
      let l = and_parts (leb 1 (n a + 1)) (leb (n a + 1) (length (reshapings_of input a))) k.1 in
      let m = leb-true (n a + 1) (length (reshapings_of input a)) l.1 in
      (k.0, omega (arith, m))

  pub is_next : AreKnown input place told → IsCut input place n → IsNext input place n a
  is_next known cut = let k = known_next known in record { cut = cut; on = k.0; more = k.1; birth = both.0; prepare = both.1 }

  pub told_more : AllTold told n → AllTold told (raised n a)
  told_more all x nth from upto = elim (raised_cases n a x) [
    | inl p ↦ elim (cases_lt (n a) nth) [
      | inl lt ↦
          (let f : n x ≡ n a = ap n p.0 in
          let last : nth ≡ n a + 1 = (let e = p.1 in omega (arith, lt, upto, e, f)) in
          ap (λ z. told z nth) p.0 ∙ (ap (told a) last ∙ told_next))
      | inr le ↦ all x nth from (let f : n x ≡ n a = ap n p.0 in omega (arith, le, f))
    ]
    | inr p ↦ all x nth from (let e = p.1 in omega (arith, e, upto))
  ]

module _ (input : Input) (place : ℕ) (n : Cut) (a : ℕ) (next : IsNext input place n a) where
  further : (o : Option Reshaping) → covers n o ≡ true → covers (raised n a) o ≡ true
  further o = covers_more n (raised n a) o (raised_in n a)

  pub cut_more : IsCut input place (raised n a)
  cut_more = record {
    here = λ x off. elim (raised_cases n a x) [
      | inl p ↦ absurd (both_ways (is_on input place x) off (ap (is_on input place) p.0 ∙ next.on))
      | inr p ↦ p.1 ∙ next.cut.here x off
    ];
    within = λ x. elim (raised_cases n a x) [
      | inl p ↦ (let e = p.1 in let m = next.more in let f : n x ≡ n a = ap n p.0 in let l : length (reshapings_of input x) ≡ length (reshapings_of input a) = ap (λ z. length (reshapings_of input z)) p.0 in omega (arith, e, m, f, l))
      | inr p ↦ (let e = p.1 in let w = next.cut.within x in omega (arith, e, w))
    ];
    born = λ x from. elim (raised_cases n a x) [
      | inl p ↦ further (birth_of input x) (ap (λ z. covers n (birth_of input z)) p.0 ∙ next.birth)
      | inr p ↦ further (birth_of input x) (next.cut.born x (let e = p.1 in omega (arith, e, from)))
    ];
    prepared = λ x nth from upto. elim (raised_cases n a x) [
      | inl p ↦ elim (cases_lt (n a) nth) [
        | inl lt ↦
            (let f : n x ≡ n a = ap n p.0 in
            let last : nth ≡ n a + 1 = (let e = p.1 in omega (arith, lt, upto, e, f)) in
            further (prepare_of input x nth) (ap (λ z. covers n (prepare_of input z nth)) p.0 ∙ (ap (λ z. covers n (prepare_of input a z)) last ∙ next.prepare)))
        | inr le ↦ further (prepare_of input x nth) (next.cut.prepared x nth from (let f : n x ≡ n a = ap n p.0 in omega (arith, le, f)))
      ]
      | inr p ↦ further (prepare_of input x nth) (next.cut.prepared x nth from (let e = p.1 in omega (arith, e, upto)))
    ];
  }

-- nothing can follow the greatest cut
pub greatest_stuck : (input : Input) (place : ℕ) (told : Telling) (n : Cut) → AreKnown input place told → IsGreatest input place told n → (a : ℕ) → may_grow input told n a ≡ true → ⊥
greatest_stuck input place told n known g a grows =
    let m = g.greatest (raised n a) (cut_more input place n a (is_next input place told n a grows known g.cut)) (told_more input place told n a grows g.told_all) a in
    let e = raised_same n a in
    omega (arith, m, e)

-- ---- what can have become ready

-- after one address more, one that may grow could before, or is that address, or waits for the reshaping
pub woken : (input : Input) (place : ℕ) (told : Telling) (n : Cut) (f : ℕ → ℕ → List ℕ) (a x : ℕ) → AreKnown input place told → AllWait input place f → may_grow input told (raised n a) x ≡ true
    → (x ≡ a) ⊎ ((may_grow input told n x ≡ true) ⊎ (is_among x (f a (n a + 1)) ≡ true))
woken input place told n f a x known waits grows = elim (raised_cases n a x) [
  | inl p ↦ inl p.0
  | inr p ↦ (let same = p.1 in inr (go (birth_of input x) refl (prepare_of input x (n x + 1)) refl
      (ap (told x) (ap (λ z. z + 1) (sym same)) ∙ told_next input place told (raised n a) x grows)
      (both input place told (raised n a) x grows).0
      (ap (λ z. covers (raised n a) (prepare_of input x (z + 1))) (sym same) ∙ (both input place told (raised n a) x grows).1)))
] where
  k : (is_on input place x ≡ true) × (raised n a x < length (reshapings_of input x))
  k = known_next input place told (raised n a) x grows known

  w : IsWaiting input f x
  w = waits x k.0

  more : n x < length (reshapings_of input x)
  more = let l = k.1 in let r = raised_in n a x in omega (arith, l, r)

  -- what is covered only now is the reshaping that was added
  newly : (r : Reshaping) → covers (raised n a) (Some r) ≡ true → covers n (Some r) ≡ false → (r.0 ≡ a) × (r.1 ≡ n a + 1)
  newly r now was =
      let le = leb-true r.1 (raised n a r.0) now in
      elim (raised_cases n a r.0) [
        | inl p ↦
            (let e = p.1 in let g : n r.0 ≡ n a = ap n p.0 in
            let gt : n r.0 < r.1 = grind (arith, was) in
            (p.0, omega (arith, le, e, g, gt)))
        | inr p ↦ (let e = p.1 in let gt : n r.0 < r.1 = grind (arith, was) in absurd (omega (arith, le, e, gt)))
      ]

  among : (r : Reshaping) → (r.0 ≡ a) × (r.1 ≡ n a + 1) → is_among x (f r.0 r.1) ≡ true → is_among x (f a (n a + 1)) ≡ true
  among r e i = subst (λ z. is_among x (f a z) ≡ true) e.1 (subst (λ z. is_among x (f z r.1) ≡ true) e.0 i)

  go : (b : Option Reshaping) → birth_of input x ≡ b → (p : Option Reshaping) → prepare_of input x (n x + 1) ≡ p → told x (n x + 1) ≡ true → covers (raised n a) (birth_of input x) ≡ true
      → covers (raised n a) (prepare_of input x (n x + 1)) ≡ true → (may_grow input told n x ≡ true) ⊎ (is_among x (f a (n a + 1)) ≡ true)
  go b be p pe t cb cp = by (covers n b) refl (covers n p) refl where
    by : (y : Bool) → covers n b ≡ y → (z : Bool) → covers n p ≡ z → (may_grow input told n x ≡ true) ⊎ (is_among x (f a (n a + 1)) ≡ true)
    by true y true z = inl (and_from (told x (n x + 1)) (covers n (birth_of input x) && covers n (prepare_of input x (n x + 1))) t
        (and_from (covers n (birth_of input x)) (covers n (prepare_of input x (n x + 1))) (ap (covers n) be ∙ y) (ap (covers n) pe ∙ z)))
    by false y q z = inr (late b be (ap (covers (raised n a)) (sym be) ∙ cb) y) where
      late : (b : Option Reshaping) → birth_of input x ≡ b → covers (raised n a) b ≡ true → covers n b ≡ false → is_among x (f a (n a + 1)) ≡ true
      late None be now was = absurd cc
      late (Some r) be now was = among r (newly r now was) (w.birth r be)
    by true y false z = inr (late p pe (ap (covers (raised n a)) (sym pe) ∙ cp) z) where
      late : (p : Option Reshaping) → prepare_of input x (n x + 1) ≡ p → covers (raised n a) p ≡ true → covers n p ≡ false → is_among x (f a (n a + 1)) ≡ true
      late None pe now was = absurd cc
      late (Some r) pe now was = among r (newly r now was) (w.prepares (n x) r more pe)

-- ---- how much is left

left_same : (input : Input) (place : ℕ) (n : Cut) (a k : ℕ) → k ≤ a → left_below input place (raised n a) k ≡ left_below input place n k
left_same input place n a zero h = refl
left_same input place n a (suc k) h =
    let r : left_below input place (raised n a) k ≡ left_below input place n k = left_same input place n a k (omega arith) in
    let e : raised n a k ≡ n k = raised_other n a k (λ q. omega (arith, q, h)) in
    ap (λ z. z + (length (reshapings_of input k) - raised n a k)) r ∙ ap (λ z. left_below input place n k + (length (reshapings_of input k) - z)) e

pub left_falls : (input : Input) (place : ℕ) (n : Cut) (a k : ℕ) → a < k → n a < length (reshapings_of input a) → left_below input place (raised n a) k < left_below input place n k
left_falls input place n a zero h more = absurd (omega arith)
left_falls input place n a (suc k) h more = elim (cases_eq a k) [
  | inl e ↦
      (let s = left_same input place n a k (omega (arith, e)) in
      let r : raised n a k ≡ n k + 1 = (let q = raised_same n a in subst (λ z. raised n a z ≡ n z + 1) e q) in
      let m : n k < length (reshapings_of input k) = subst (λ z. n z < length (reshapings_of input z)) e more in
      omega (arith, s, r, m))
  | inr ne ↦
      (let s = left_falls input place n a k (omega (arith, ne, h)) more in
      let r : raised n a k ≡ n k = raised_other n a k (λ q. ne (sym q)) in
      omega (arith, s, r))
]

-- ---- how many addresses aren't finished

abbrev pub open_at : Input → ℕ → Cut → ℕ → ℕ
open_at input place n a = if is_on input place a && ltb (n a) (length (reshapings_of input a)) then 1 else 0

open_same : (input : Input) (place : ℕ) (n : Cut) (a k : ℕ) → k ≤ a → open_below input place (raised n a) k ≡ open_below input place n k
open_same input place n a zero h = refl
open_same input place n a (suc k) h =
    let r : open_below input place (raised n a) k ≡ open_below input place n k = open_same input place n a k (omega arith) in
    let e : raised n a k ≡ n k = raised_other n a k (λ q. omega (arith, q, h)) in
    ap (λ z. z + open_at input place (raised n a) k) r ∙ ap (λ z. open_below input place n k + cond (is_on input place k && ltb z (length (reshapings_of input k))) 1 0) e

-- an address that has more stays open, or is finished by this
pub open_moves : (input : Input) (place : ℕ) (n : Cut) (a k : ℕ) → a < k → open_below input place (raised n a) k + open_at input place n a ≡ open_below input place n k + open_at input place (raised n a) a
open_moves input place n a zero h = absurd (omega arith)
open_moves input place n a (suc k) h = elim (cases_eq a k) [
  | inl e ↦
      (let s = open_same input place n a k (omega (arith, e)) in
      let x : open_at input place n k ≡ open_at input place n a = ap (open_at input place n) (sym e) in
      let y : open_at input place (raised n a) k ≡ open_at input place (raised n a) a = ap (open_at input place (raised n a)) (sym e) in
      omega (arith, s, x, y))
  | inr ne ↦
      (let s = open_moves input place n a k (omega (arith, ne, h)) in
      let e : raised n a k ≡ n k = raised_other n a k (λ q. ne (sym q)) in
      let x : open_at input place (raised n a) k ≡ open_at input place n k = ap (λ z. cond (is_on input place k && ltb z (length (reshapings_of input k))) 1 0) e in
      omega (arith, s, x))
]

open_more : (input : Input) (place : ℕ) (n : Cut) (a : ℕ) → is_on input place a ≡ true → n a < length (reshapings_of input a) → open_at input place n a ≡ 1
open_more input place n a on more =
    let t : ltb (n a) (length (reshapings_of input a)) ≡ true = lt-ltb (n a) (length (reshapings_of input a)) more in
    ap (λ b. cond (b && ltb (n a) (length (reshapings_of input a))) 1 0) on ∙ ap (λ b. cond b 1 0) t

open_none : (input : Input) (place : ℕ) (n : Cut) (a : ℕ) → length (reshapings_of input a) ≤ n a → open_at input place n a ≡ 0
open_none input place n a full =
    let t : ltb (n a) (length (reshapings_of input a)) ≡ false = grind (arith, full) in
    ap (λ b. cond (is_on input place a && b) 1 0) t ∙ go (is_on input place a) where
      go : (b : Bool) → ◌≡◌ {A = ℕ} (cond (b && false) 1 0) 0
      go true = refl
      go false = refl

-- an address is finished by its last reshaping, and by no other
pub one_finished : (input : Input) (place : ℕ) (n : Cut) (a k : ℕ) → a < k → is_on input place a ≡ true → n a + 1 ≡ length (reshapings_of input a) → open_below input place (raised n a) k + 1 ≡ open_below input place n k
one_finished input place n a k h on last =
    let m = open_moves input place n a k h in
    let x = open_more input place n a on (omega (arith, last)) in
    let y = open_none input place (raised n a) a (let e = raised_same n a in omega (arith, e, last)) in
    omega (arith, m, x, y)

pub none_finished : (input : Input) (place : ℕ) (n : Cut) (a k : ℕ) → a < k → is_on input place a ≡ true → n a + 1 < length (reshapings_of input a) → open_below input place (raised n a) k ≡ open_below input place n k
none_finished input place n a k h on more =
    let m = open_moves input place n a k h in
    let x = open_more input place n a on (omega (arith, more)) in
    let y = open_more input place (raised n a) a on (let e = raised_same n a in omega (arith, e, more)) in
    omega (arith, m, x, y)

-- the same of a cut that a call has left
module _ (input : Input) (place : ℕ) (n : Cut) (input_after : Input) (place_after : ℕ) (after : Cut) (a : ℕ) (next : IsNext input place n a)
    (same_input : input_after ≡ input) (same_place : place_after ≡ place) (is : after ≡ raised n a) where
  moved : open_below input_after place_after after (count_of input_after) ≡ open_below input place (raised n a) (count_of input)
  moved = ap (λ (i : Input). open_below i place_after after (count_of i)) same_input ∙ (ap (λ (k : ℕ). open_below input k after (count_of input)) same_place ∙ ap (λ (m : Cut). open_below input place m (count_of input)) is)

  now : after a ≡ n a + 1
  now = ap (λ (m : Cut). m a) is ∙ raised_same n a

  total : length (reshapings_of input_after a) ≡ length (reshapings_of input a)
  total = ap (λ (i : Input). length (reshapings_of i a)) same_input

  pub finished_by : after a ≡ length (reshapings_of input_after a) → open_below input_after place_after after (count_of input_after) + 1 ≡ open_below input place n (count_of input)
  finished_by last =
      let f = one_finished input place n a (count_of input) (on_below input place a next.on) next.on (omega (arith, last, now, total)) in
      omega (arith, f, moved)

  pub unfinished_by : (after a ≡ length (reshapings_of input_after a) → ⊥) → open_below input_after place_after after (count_of input_after) ≡ open_below input place n (count_of input)
  unfinished_by more = elim (cases_eq (after a) (length (reshapings_of input_after a))) [
    | inl e ↦ absurd (more e)
    | inr ne ↦
        (let m = next.more in
        let f = none_finished input place n a (count_of input) (on_below input place a next.on) next.on (omega (arith, m, ne, now, total)) in
        omega (arith, f, moved))
  ]

-- either way of a call
pub either : {A E P Q R : Type 0} (r : Result A E) → OnOk r P → OnErr r Q → (P → R) → (Q → R) → R
either (Ok x) p q f g = f p
either (Err e) p q f g = g q

-- ---- reading

pub read : (ns : List ℕ) (k x : ℕ) → k < length ns → x ≡ get_or ns k x → x ≡ numbers ns k
read [] k x lt e = absurd (omega (arith, lt))
read (n ∷ ns) zero x lt e = e
read (n ∷ ns) (suc k) x lt e = read ns k x (omega (arith, lt)) e

pub after_set : (ns : List ℕ) (a x : ℕ) → a < length ns → x ≡ get_or ns a x → numbers (set ns a (x + 1)) ≡ raised (numbers ns) a
after_set ns a x lt e = ap (λ z. numbers (set ns a (z + 1))) (read ns a x lt e) ∙ numbers_raised ns a lt

pub off_stuck : (input : Input) (place : ℕ) (told : Telling) (n : Cut) (a : ℕ) → AreKnown input place told → is_on input place a ≡ false → false ≡ may_grow input told n a
off_stuck input place told n a known off = go (may_grow input told n a) refl where
  go : (b : Bool) → may_grow input told n a ≡ b → false ≡ b
  go true e = absurd (both_ways (is_on input place a) off (known_next input place told n a e known).0)
  go false e = refl

pub full_stuck : (input : Input) (place : ℕ) (told : Telling) (n : Cut) (a : ℕ) → AreKnown input place told → length (reshapings_of input a) ≤ n a → false ≡ may_grow input told n a
full_stuck input place told n a known full = go (may_grow input told n a) refl where
  go : (b : Bool) → may_grow input told n a ≡ b → false ≡ b
  go true e = let m = (known_next input place told n a e known).1 in absurd (omega (arith, m, full))
  go false e = refl

-- where all that may grow is this address, or stands in the work, the work with the address and with those that wait for the reshaping has all that may grow next
pub work_more : (input : Input) (place : ℕ) (told : Telling) (n : Cut) (f : ℕ → ℕ → List ℕ) (a : ℕ) (work : List ℕ) → AreKnown input place told → AllWait input place f
    → ((x : ℕ) → may_grow input told n x ≡ true → (x ≡ a) ⊎ (is_among x work ≡ true)) → (x : ℕ) → may_grow input told (raised n a) x ≡ true
    → is_among x ((work ++ a ∷ []) ++ f a (n a + 1)) ≡ true
work_more input place told n f a work known waits all x grows = elim (woken input place told n f a x known waits grows) [
  | inl e ↦ among_left x (work ++ a ∷ []) (f a (n a + 1)) (mine e)
  | inr p ↦ elim p [
    | inl was ↦ elim (all x was) [
      | inl e ↦ among_left x (work ++ a ∷ []) (f a (n a + 1)) (mine e)
      | inr i ↦ among_left x (work ++ a ∷ []) (f a (n a + 1)) (among_left x work (a ∷ []) i)
    ]
    | inr i ↦ among_right x (work ++ a ∷ []) (f a (n a + 1)) i
  ]
] where
  mine : x ≡ a → is_among x (work ++ a ∷ []) ≡ true
  mine e = among_right x work (a ∷ []) (subst (λ z. is_among x (z ∷ []) ≡ true) e (among_one x))

-- what may grow once one reshaping more was told is its address, where nothing could before
pub told_one : (input : Input) (old new : Telling) (n : Cut) (a nth : ℕ) → ((b m : ℕ) → new b m ≡ (old b m || is_this a nth b m)) → ((x : ℕ) → may_grow input old n x ≡ true → ⊥)
    → (x : ℕ) → may_grow input new n x ≡ true → x ≡ a
told_one input old new n a nth grown stuck x grows =
    let h = and_parts (new x (n x + 1)) (has_needs input n x (n x + 1)) grows in
    elim (or_cases (old x (n x + 1)) (is_this a nth x (n x + 1)) (sym (grown x (n x + 1)) ∙ h.0)) [
      | inl t ↦ absurd (stuck x (and_from (old x (n x + 1)) (has_needs input n x (n x + 1)) t h.1))
      | inr t ↦ sym (eqb-true a x (and_parts (a == x) (nth == n x + 1) t).0)
    ]

-- ---- the beginning

pub nothing_cut : (input : Input) (place : ℕ) → IsCut input place nothing_covered
nothing_cut input place = record {
  here = λ a off. refl;
  within = λ a. omega arith;
  born = λ a from. absurd (omega (arith, from));
  prepared = λ a nth from upto. absurd (omega (arith, from, upto));
}

pub nothing_told : (told : Telling) → AllTold told nothing_covered
nothing_told told a nth from upto = absurd (omega (arith, from, upto))

-- ---- all are covered

open_zero : (input : Input) (place : ℕ) (n : Cut) (k a : ℕ) → open_below input place n k ≡ 0 → a < k → open_at input place n a ≡ 0
open_zero input place n zero a h lt = absurd (omega arith)
open_zero input place n (suc k) a h lt = elim (cases_eq a k) [
  | inl e ↦ ap (open_at input place n) e ∙ omega (arith, h)
  | inr ne ↦ open_zero input place n k a (omega (arith, h)) (omega (arith, lt, ne))
]

pub full_of : (input : Input) (place : ℕ) (n : Cut) → IsCut input place n → open_below input place n (count_of input) ≡ 0 → IsFull input place n
full_of input place n cut none a on =
    let w = cut.within a in
    let z = open_zero input place n (count_of input) a none (on_below input place a on) in
    elim (cases_lt (n a) (length (reshapings_of input a))) [
      | inl lt ↦ absurd (let o = open_more input place n a on lt in omega (arith, z, o))
      | inr le ↦ omega (arith, w, le)
    ]

pub full_is : (input : Input) (place : ℕ) (n : Cut) (k : ℕ) → IsFull input place n → open_below input place n k ≡ 0
full_is input place n zero full = refl
full_is input place n (suc k) full =
    let r = full_is input place n k full in
    let z : open_at input place n k ≡ 0 = go (is_on input place k) refl in
    omega (arith, r, z) where
      go : (b : Bool) → is_on input place k ≡ b → open_at input place n k ≡ 0
      go true e = open_none input place n k (let f = full k e in omega (arith, f))
      go false e = ap (λ b. cond (b && ltb (n k) (length (reshapings_of input k))) 1 0) e
