-- A write more in the part that its key belongs to.
use Rattle.std.proofs.Common.{◌≡◌, ◌≤◌, ◌<◌, ◌+◌, ℕ, zero, suc, Bool, true, false, not, List, [], ◌∷◌, ◌++◌, length, drop, refl, ap, sym, ◌∙◌, arith, subst, append-nil, slice_index_or, slice_set}
use Rattle.std.specs.List.{AllByRecursion, AllWithin}
use Rattle.std.proofs.lemmas.List.{append_assoc}
use Rattle.rs_key.specs.Keys.{is_below, same_bytes}
use Rattle.rs_key.proofs.RangeLaws.{same_bytes_is}
use Rattle.rs_store.specs.Stores.{Wrote}
use Rattle.rs_part.specs.Items.{history_of}
use Rattle.rs_part.proofs.Items.{history_append}
use Rattle.rs_msg.specs.Maps.{Writes, NoneBelow, AllBelow, AreApart, begins_by, written}
use Rattle.rs_msg.specs.declared.part.Part.{Part}
use Rattle.rs_msg.proofs.Keys.{none_of, other_key}
use Rattle.rs_msg.proofs.Parted.{AreAbove, all_both, from_start, later, nothing_later}

abbrev pub more_writes : (d : Part) (w : Wrote) → Part
more_writes d w = record { start = d.start; writes = d.writes ++ w ∷ [] }

pub still_some : (xs : Writes) (w : Wrote) → 0 < length (xs ++ w ∷ [])
still_some [] w = omega arith
still_some (x ∷ xs) w = omega arith

-- a write goes before writes of other keys
pub goes_before : (xs ys : Writes) (w : Wrote) (q : List ℕ) → history_of ys w.key ≡ [] → history_of ((xs ++ w ∷ []) ++ ys) q ≡ history_of (xs ++ ys) q ++ history_of (w ∷ []) q
goes_before xs ys w q none = go (same_bytes q w.key) refl
  where
    parts : history_of ((xs ++ w ∷ []) ++ ys) q ≡ (history_of xs q ++ history_of (w ∷ []) q) ++ history_of ys q
    parts = history_append (xs ++ w ∷ []) ys q ∙ ap (λ l. l ++ history_of ys q) (history_append xs (w ∷ []) q)

    both : history_of (xs ++ ys) q ≡ history_of xs q ++ history_of ys q
    both = history_append xs ys q

    go : (b : Bool) → same_bytes q w.key ≡ b → history_of ((xs ++ w ∷ []) ++ ys) q ≡ history_of (xs ++ ys) q ++ history_of (w ∷ []) q
    go true e =
        let same : history_of ys q ≡ [] = ap (history_of ys) (same_bytes_is q w.key e) ∙ none in
        parts ∙ ap (λ l. (history_of xs q ++ history_of (w ∷ []) q) ++ l) same ∙ append-nil (history_of xs q ++ history_of (w ∷ []) q)
        ∙ ap (λ l. l ++ history_of (w ∷ []) q) (sym (append-nil (history_of xs q)) ∙ ap (λ l. history_of xs q ++ l) (sym same) ∙ sym both)
    go false e =
        let none_here : history_of (w ∷ []) q ≡ [] = other_key w q e in
        parts ∙ ap (λ l. (history_of xs q ++ l) ++ history_of ys q) none_here ∙ ap (λ l. l ++ history_of ys q) (append-nil (history_of xs q))
        ∙ sym both ∙ sym (append-nil (history_of (xs ++ ys) q)) ∙ ap (λ l. history_of (xs ++ ys) q ++ l) (sym none_here)

-- into the first part
pub first_apart : (first : Writes) (parts : List Part) (w : Wrote) → AreApart first parts → AreAbove w.key parts → AreApart (first ++ w ∷ []) parts
first_apart first [] w apart above = tt
first_apart first (p ∷ parts) w apart above = (all_both (λ v. is_below v.key p.start ≡ true) first (w ∷ []) apart.0 (above.0, tt), apart.1, apart.2, apart.3)

pub first_items : (first : Writes) (parts : List Part) (w : Wrote) → AreApart first parts → AreAbove w.key parts → (q : List ℕ) → history_of (written (first ++ w ∷ []) parts) q ≡ history_of (written first parts) q ++ history_of (w ∷ []) q
first_items first parts w apart above q = goes_before first (later parts) w q (nothing_later first parts w.key apart above)

-- into another
module _ (w : Wrote) (d : Part) (begins : begins_by w.key d ≡ true) where
  from : is_below w.key d.start ≡ false
  from = go (is_below w.key d.start) refl
    where
      go : (b : Bool) → is_below w.key d.start ≡ b → is_below w.key d.start ≡ false
      go true e = absurd (cc (begins, ap not e))
      go false e = e

  pub part_apart : (first : Writes) (parts : List Part) (i : ℕ) → i < length parts → AreApart first parts → d ≡ slice_index_or parts i d → AreAbove w.key (drop (suc i) parts) → AreApart first (slice_set parts i (more_writes d w))
  part_apart first [] i there apart is above = absurd (omega (arith, there))
  part_apart first (p ∷ parts) zero there apart is above = (
    subst (λ x. AllBelow x.start first) (sym is) apart.0,
    all_both (λ v. is_below v.key d.start ≡ false) d.writes (w ∷ []) (subst (λ x. NoneBelow x.start x.writes) (sym is) apart.1) (from, tt),
    still_some d.writes w,
    first_apart d.writes parts w (subst (λ x. AreApart x.writes parts) (sym is) apart.3) above,
  )
  part_apart first (p ∷ parts) (suc i) there apart is above = (apart.0, apart.1, apart.2, part_apart p.writes parts i (omega (arith, there)) apart.3 is above)

  pub part_items : (first : Writes) (parts : List Part) (i : ℕ) → i < length parts → AreApart first parts → d ≡ slice_index_or parts i d → AreAbove w.key (drop (suc i) parts)
      → (q : List ℕ) → history_of (written first (slice_set parts i (more_writes d w))) q ≡ history_of (written first parts) q ++ history_of (w ∷ []) q
  part_items first [] i there apart is above q = absurd (omega (arith, there))
  part_items first (p ∷ parts) zero there apart is above q =
      history_append first (written (d.writes ++ w ∷ []) parts) q
      ∙ ap (λ l. history_of first q ++ l) (first_items d.writes parts w (subst (λ x. AreApart x.writes parts) (sym is) apart.3) above q)
      ∙ sym (append_assoc (history_of first q) (history_of (written d.writes parts) q) (history_of (w ∷ []) q))
      ∙ ap (λ l. l ++ history_of (w ∷ []) q) (sym (history_append first (written d.writes parts) q) ∙ ap (λ x. history_of (first ++ written x.writes parts) q) is)
  part_items first (p ∷ parts) (suc i) there apart is above q =
      history_append first (written p.writes (slice_set parts i (more_writes d w))) q
      ∙ ap (λ l. history_of first q ++ l) (part_items p.writes parts i (omega (arith, there)) apart.3 is above q)
      ∙ sym (append_assoc (history_of first q) (history_of (written p.writes parts) q) (history_of (w ∷ []) q))
      ∙ ap (λ l. l ++ history_of (w ∷ []) q) (sym (history_append first (written p.writes parts) q))
