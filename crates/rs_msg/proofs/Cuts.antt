-- Parts that are cut at the place of a key.
use Rattle.std.proofs.Common.{◌≡◌, ◌≤◌, ◌<◌, ℕ, Bool, true, false, not, cond, List, [], ◌∷◌, ◌++◌, length, take, drop, refl, ap, sym, ◌∙◌, subst}
use Rattle.std.specs.List.{AllWithin, filter}
use Rattle.rs_key.specs.Keys.{is_below}
use Rattle.rs_part.specs.Items.{history_of}
use Rattle.rs_history.specs.Writes.{is_below as key_below, isnt_below}
use Rattle.rs_msg.specs.Maps.{Writes, AreApart, begins_by, written, some_part}
use Rattle.rs_msg.specs.declared.part.Part.{Part}
use Rattle.rs_msg.proofs.Parted.{AreAbove, above_behind, one_there}
use Rattle.rs_msg.proofs.Splitting.{cut_at, cut_first, first_below_items, first_others_items, last_begins, split_below_apart, split_below_items, kept_apart, split_others_apart, split_others_items}

module _ (k : List ℕ) (first : Writes) (seen parts behind : List Part) (n : ℕ) (same : seen ≡ parts) (apart : AreApart first parts) (tail : behind ≡ drop n parts) (point : AllWithin (λ x. begins_by k x ≡ false) seen n (length seen)) where
  above : AreAbove k behind
  above = subst (λ l. AreAbove k l) (sym tail) (subst (λ l. AreAbove k (drop n l)) same (above_behind k seen n point))

  -- no part begins by the key
  module _ (none : take n parts ≡ []) where
    all_behind : parts ≡ behind
    all_behind = cut_first parts n none ∙ sym tail

    apart_behind : AreApart first behind
    apart_behind = subst (λ l. AreApart first l) all_behind apart

    pub first_apart : AreApart (filter (isnt_below k) first) behind
    first_apart = kept_apart k first behind apart_behind

    pub first_below : (q : List ℕ) → history_of (written (filter (key_below k) first) []) q ≡ cond (is_below q k) (history_of (written first parts) q) []
    first_below q = first_below_items k first behind apart_behind above q ∙ ap (λ l. cond (is_below q k) (history_of (written first l) q) []) (sym all_behind)

    pub first_others : (q : List ℕ) → history_of (written (filter (isnt_below k) first) behind) q ≡ cond (is_below q k) [] (history_of (written first parts) q)
    first_others q = first_others_items k first behind apart_behind above q ∙ ap (λ l. cond (is_below q k) [] (history_of (written first l) q)) (sym all_behind)

  -- this one is the last that does
  module _ (left : List Part) (p : Part) (fits : n ≤ length seen) (begun : AllWithin (λ x. begins_by k x ≡ true) seen 0 n) (taken : take n parts ≡ left ++ p ∷ []) where
    begins : begins_by k p ≡ true
    begins = last_begins k seen n left p fits begun (ap (take n) same ∙ taken)

    all_three : parts ≡ left ++ p ∷ behind
    all_three = cut_at parts n left p taken ∙ ap (λ l. left ++ p ∷ l) (sym tail)

    apart_three : AreApart first (left ++ p ∷ behind)
    apart_three = subst (λ l. AreApart first l) all_three apart

    pub part_below_apart : AreApart first (left ++ some_part p.start (filter (key_below k) p.writes))
    part_below_apart = split_below_apart k first left p behind apart_three begins above

    pub part_others_apart : AreApart (filter (isnt_below k) p.writes) behind
    part_others_apart = split_others_apart k first left p behind apart_three begins above

    pub part_below : (q : List ℕ) → history_of (written first (left ++ some_part p.start (filter (key_below k) p.writes))) q ≡ cond (is_below q k) (history_of (written first parts) q) []
    part_below q = split_below_items k first left p behind apart_three begins above q ∙ ap (λ l. cond (is_below q k) (history_of (written first l) q) []) (sym all_three)

    pub part_others : (q : List ℕ) → history_of (written (filter (isnt_below k) p.writes) behind) q ≡ cond (is_below q k) [] (history_of (written first parts) q)
    part_others q = split_others_items k first left p behind apart_three begins above q ∙ ap (λ l. cond (is_below q k) [] (history_of (written first l) q)) (sym all_three)

    pub part_there : 0 < length parts
    part_there = subst (λ l. 0 < length l) (sym all_three) (one_there left p behind)
