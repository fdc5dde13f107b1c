use Rattle.std.proofs.Common.{◌∙◌, ◌≡◌, sym, subst}
use Rattle.std.specs.Prelude.{true}
use Rattle.rs_key.specs.Ranges.{Bounds, meets, is_next_to}
use Rattle.rs_key.proofs.RangeLaws.{joined_is_range, other_meets}
use Rattle.rs_key.proofs.range.Range.join.Goals as goal

pub invariant_of-result : goal.invariant_of-result
invariant_of-result c =
    joined_is_range c.self.inside.start c.self.inside.end c.other.inside.start c.other.inside.end
    c.self.invariant c.other.invariant (sym c.meets.ensures ∙ c.if-meets.true)

pub invariant_of-result-else-meets : goal.invariant_of-result-else-meets
invariant_of-result-else-meets c =
    joined_is_range c.other.inside.start c.other.inside.end c.self.inside.start c.self.inside.end
    c.other.invariant c.self.invariant
    (other_meets (meets c.self.inside.end c.other.inside.start) (meets c.other.inside.end c.self.inside.start)
    (subst (λ (o : Bounds). is_next_to (record { start = c.self.inside.start; end = c.self.inside.end }) o ≡ true) (sym c.other.view_is)
    (subst (λ (s : Bounds). is_next_to s c.args.other ≡ true) (sym c.self.view_is) c.requires))
    (sym c.meets.ensures ∙ c.if-meets.false))
