use Rattle.std.proofs.Common.{◌≡◌, true, false, ◌<◌, ◌≤◌, ◌++◌, ◌∷◌, [], ap, sym, ◌∙◌, arith, subst, length}
use Rattle.std.proofs.lemmas.List.{append_assoc}
use Rattle.rs_key.specs.Keys.{is_below}
use Rattle.rs_msg.specs.Maps.{AreApart, LiesBelow, LiesFrom, written}
use Rattle.rs_msg.proofs.Keys.{all_of}
use Rattle.rs_msg.proofs.Parted.{led}
use Rattle.rs_msg.proofs.Splitting.{joined_apart}
use Rattle.rs_msg.proofs.map.Map.join.Goals as goal

pub invariant_of-result : goal.invariant_of-result
invariant_of-result c =
    let some : 0 < length c.others.inside.first = led c.others.inside.first c.others.inside.parts.items c.others.invariant.1 (λ none. absurd (cc (c.if-is_empty-2.false, c.is_empty-2.ensures.1 (sym c.others.view_is ∙ none)))) in
    let led_still : 0 < length c.below.inside.first = led c.below.inside.first c.below.inside.parts.items c.below.invariant.1 (λ none. absurd (cc (c.if-is_empty.false, c.is_empty.ensures.1 (sym c.below.view_is ∙ none)))) in (
      subst (λ l. AreApart c.below.inside.first l) (sym (c.in_ok-append.ensures.items ∙ ap (λ l. l ++ c.others.inside.parts.items) c.in_ok-push.ensures.items ∙ append_assoc c.below.inside.parts.items (record { start = c.args.at; writes = c.others.inside.first } ∷ []) c.others.inside.parts.items))
          (joined_apart c.below.inside.first c.below.inside.parts.items c.args.at c.others.inside.first c.others.inside.parts.items c.below.invariant.0 (all_of (λ x. is_below x c.args.at) true (written c.below.inside.first c.below.inside.parts.items) (subst (λ m. LiesBelow c.args.at m) (sym c.below.view_is) c.requires.below)) some
          (all_of (λ x. is_below x c.args.at) false (written c.others.inside.first c.others.inside.parts.items) (subst (λ m. LiesFrom c.args.at m) (sym c.others.view_is) c.requires.others)) c.others.invariant.0),
      λ there. led_still,
    )
