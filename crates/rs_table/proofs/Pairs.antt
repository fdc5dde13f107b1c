-- Pairs of numbers, compared.
use Rattle.std.proofs.Common.{◌≡◌, ℕ, refl, ap, ◌∙◌, Ordering, Less, Equal, Greater, arith}
use Rattle.std.specs.Prelude.{◌==◌, ◌&&◌}
use Rattle.std.specs.Ordering.{nat_cmp, ordering_then, is_eq}
use Rattle.std.proofs.lemmas.Grind.{common_steps}

both_parts : (o p : Ordering) → is_eq (ordering_then o p) ≡ (is_eq o && is_eq p)
both_parts Less p = refl
both_parts Equal p = refl
both_parts Greater p = refl

same_number : (a b : ℕ) → is_eq (nat_cmp a b) ≡ (a == b)
same_number a b = grind (arith, common_steps)

-- two pairs compare as equal where both parts are
pub pair_test : (r i x y : ℕ) → is_eq (ordering_then (nat_cmp r x) (nat_cmp i y)) ≡ ((r == x) && (i == y))
pair_test r i x y = both_parts (nat_cmp r x) (nat_cmp i y) ∙ (ap (λ b. b && is_eq (nat_cmp i y)) (same_number r x) ∙ ap (λ b. (r == x) && b) (same_number i y))
