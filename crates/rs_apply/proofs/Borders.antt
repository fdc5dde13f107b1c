-- Two ranges that lie side by side, and the maps of both.
use Rattle.std.proofs.Common.{◌≡◌, ⊎_elim, ℕ, Bool, true, false, List, [], ◌++◌, Some, refl, ap, sym, ◌∙◌, subst, append-nil}
use Rattle.rs_key.specs.Keys.{is_below}
use Rattle.rs_key.specs.Ranges.{Bounds, holds, is_next_to}
use Rattle.rs_region.proofs.KeyOrder.{is_below_end, not_below_start}
use Rattle.rs_msg.specs.Maps.{Writes, HasItems, LiesBelow, LiesFrom, LiesIn, items_at, items_of_both}
use Rattle.rs_apply.proofs.Commits.{next_apart}

-- what lies in a range lies below its end
pub below_end : (range : Bounds) (at : List ℕ) (map : Writes) → range.end ≡ Some at → LiesIn range map → LiesBelow at map
below_end range at map end inside q out = inside q (go (holds range q) refl)
  where
    go : (b : Bool) → holds range q ≡ b → holds range q ≡ false
    go true e = let h : is_below q at ≡ true = is_below_end range.start at q (subst (λ z. holds (record { start = range.start; end = z }) q ≡ true) end e) in absurd (cc (h, out))
    go false e = e

-- and from its start on
pub from_start : (range : Bounds) (at : List ℕ) (map : Writes) → range.start ≡ Some at → LiesIn range map → LiesFrom at map
from_start range at map start inside q under = inside q (go (holds range q) refl)
  where
    go : (b : Bool) → holds range q ≡ b → holds range q ≡ false
    go true e = let h : is_below q at ≡ false = not_below_start range.end at q (subst (λ z. holds (record { start = z; end = range.end }) q ≡ true) start e) in absurd (cc (h, under))
    go false e = e

-- which of the two is named first makes no difference
pub either_first : (x y : Bounds) (m n both : Writes) → is_next_to x y ≡ true → LiesIn x m → LiesIn y n → HasItems both (items_of_both (items_at n) (items_at m)) → HasItems both (items_of_both (items_at m) (items_at n))
either_first x y m n both next mine theirs items q = items q ∙ ⊎_elim
    (λ out. let none : items_at m q ≡ [] = mine q out in ap (λ l. items_at n q ++ l) none ∙ append-nil (items_at n q) ∙ ap (λ l. l ++ items_at n q) (sym none))
    (λ out. let none : items_at n q ≡ [] = theirs q out in ap (λ l. l ++ items_at m q) none ∙ sym (append-nil (items_at m q)) ∙ ap (λ l. items_at m q ++ l) (sym none))
    (next_apart x y next q)
