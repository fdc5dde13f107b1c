use Rattle.std.proofs.Common.{rules, ◌≡◌, ◌<◌, ◌≤◌, ◌+◌, ◌-◌, ◌++◌, ◌∷◌, [], true, ap, sym, ◌∙◌, arith, subst, length, take, drop, append-nil, cond}
use Rattle.rs_key.specs.Keys.{is_below}
use Rattle.rs_msg.specs.Maps.{AreApart, AreParts, StartsRise, begins_by, items_at, items_below, items_from, some_part, written}
use Rattle.rs_msg.specs.declared.part.Part.{Part}
use Rattle.rs_msg.proofs.Cuts.{first_apart, first_below, first_others, part_below, part_below_apart, part_others, part_others_apart, part_there}
use Rattle.rs_msg.proofs.Parted.{starts_rise}
use Rattle.rs_msg.proofs.map.Map.split_at.Goals as goal

pub parts_to-place-requires : goal.parts_to-place-requires
parts_to-place-requires c = subst (λ l. StartsRise l) (sym c.as_slice.ensures.value) (starts_rise c.self.inside.first c.self.inside.parts.items c.self.invariant.0)

pub split_off-requires : goal.split_off-requires
split_off-requires c = omega (arith, c.parts_to-place.ensures.bound, c.as_slice.ensures.len)

pub led_by-requires-in-None : goal.led_by-requires-in-None
led_by-requires-in-None c =
    let empty : c.pop.new.self.items ≡ [] = c.in-None.ensures.rest ∙ ap (λ k. take (k - 1) c.split_off.new.self.items) c.in-None.ensures.cases.0 in
    let none : take c.parts_to-place.result c.self.inside.parts.items ≡ [] = sym c.in_ok-behind.ensures.items ∙ c.in-None.ensures.items ∙ append-nil c.pop.new.self.items ∙ empty in
    subst (λ w. AreApart w c.in_ok-behind.behind.items) (sym c.in_ok-below-in-None.ensures.others)
    (first_apart c.args.key.now c.self.inside.first c.as_slice.result.now c.self.inside.parts.items c.in_ok-behind.behind.items c.parts_to-place.result c.as_slice.ensures.value c.self.invariant.0 c.in_ok-behind.ensures.tail c.parts_to-place.ensures.point.1 none)

pub returns-in_ok-below-in-None-clause-below : goal.returns-in_ok-below-in-None-clause-below
returns-in_ok-below-in-None-clause-below c = λ q.
    let empty : c.pop.new.self.items ≡ [] = c.in-None.ensures.rest ∙ ap (λ k. take (k - 1) c.split_off.new.self.items) c.in-None.ensures.cases.0 in
    let none : take c.parts_to-place.result c.self.inside.parts.items ≡ [] = sym c.in_ok-behind.ensures.items ∙ c.in-None.ensures.items ∙ append-nil c.pop.new.self.items ∙ empty in
    ap (λ m. items_at m q) (c.led_by.ensures ∙ ap (written c.in_ok-below-in-None.below) empty ∙ ap (λ w. written w []) c.in_ok-below-in-None.ensures.below)
    ∙ first_below c.args.key.now c.self.inside.first c.as_slice.result.now c.self.inside.parts.items c.in_ok-behind.behind.items c.parts_to-place.result c.as_slice.ensures.value c.self.invariant.0 c.in_ok-behind.ensures.tail c.parts_to-place.ensures.point.1 none q
    ∙ ap (λ m. items_below c.args.key.now (items_at m) q) c.self.view_is

pub returns-in_ok-below-in-None-clause-others : goal.returns-in_ok-below-in-None-clause-others
returns-in_ok-below-in-None-clause-others c = λ q.
    let empty : c.pop.new.self.items ≡ [] = c.in-None.ensures.rest ∙ ap (λ k. take (k - 1) c.split_off.new.self.items) c.in-None.ensures.cases.0 in
    let none : take c.parts_to-place.result c.self.inside.parts.items ≡ [] = sym c.in_ok-behind.ensures.items ∙ c.in-None.ensures.items ∙ append-nil c.pop.new.self.items ∙ empty in
    ap (λ m. items_at m q) (c.led_by-in-None.ensures ∙ ap (λ w. written w c.in_ok-behind.behind.items) c.in_ok-below-in-None.ensures.others)
    ∙ first_others c.args.key.now c.self.inside.first c.as_slice.result.now c.self.inside.parts.items c.in_ok-behind.behind.items c.parts_to-place.result c.as_slice.ensures.value c.self.invariant.0 c.in_ok-behind.ensures.tail c.parts_to-place.ensures.point.1 none q
    ∙ ap (λ m. items_from c.args.key.now (items_at m) q) c.self.view_is

pub led_by-requires-in-Some : goal.led_by-requires-in-Some
led_by-requires-in-Some c =
    let taken : take c.parts_to-place.result c.self.inside.parts.items ≡ c.pop.new.self.items ++ c.in-Some.part ∷ [] = sym c.in_ok-behind.ensures.items ∙ c.in-Some.ensures.items in
    subst (λ w. AreApart w c.in_ok-behind.behind.items) (sym c.in_ok-below-in-Some.ensures.others)
    (part_others_apart c.args.key.now c.self.inside.first c.as_slice.result.now c.self.inside.parts.items c.in_ok-behind.behind.items c.parts_to-place.result c.as_slice.ensures.value c.self.invariant.0 c.in_ok-behind.ensures.tail c.parts_to-place.ensures.point.1
    c.pop.new.self.items c.in-Some.part c.parts_to-place.ensures.bound c.parts_to-place.ensures.point.0 taken)

pub invariant_of-result : goal.invariant_of-result
invariant_of-result c =
    let taken : take c.parts_to-place.result c.self.inside.parts.items ≡ c.pop.new.self.items ++ c.in-Some.part ∷ [] = sym c.in_ok-behind.ensures.items ∙ c.in-Some.ensures.items in (
      subst (λ l. AreApart c.self.inside.first l) (sym (c.in_ok-parts-in-Some.ensures ∙ ap (λ w. c.pop.new.self.items ++ some_part c.in-Some.part.start w) c.in_ok-below-in-Some.ensures.below))
          (part_below_apart c.args.key.now c.self.inside.first c.as_slice.result.now c.self.inside.parts.items c.in_ok-behind.behind.items c.parts_to-place.result c.as_slice.ensures.value c.self.invariant.0 c.in_ok-behind.ensures.tail c.parts_to-place.ensures.point.1
          c.pop.new.self.items c.in-Some.part c.parts_to-place.ensures.bound c.parts_to-place.ensures.point.0 taken),
      λ some. c.self.invariant.1
          (part_there c.args.key.now c.self.inside.first c.as_slice.result.now c.self.inside.parts.items c.in_ok-behind.behind.items c.parts_to-place.result c.as_slice.ensures.value c.self.invariant.0 c.in_ok-behind.ensures.tail c.parts_to-place.ensures.point.1
          c.pop.new.self.items c.in-Some.part c.parts_to-place.ensures.bound c.parts_to-place.ensures.point.0 taken),
    )

pub returns-in_ok-parts-in-Some-clause-below : goal.returns-in_ok-parts-in-Some-clause-below
returns-in_ok-parts-in-Some-clause-below c = λ q.
    let taken : take c.parts_to-place.result c.self.inside.parts.items ≡ c.pop.new.self.items ++ c.in-Some.part ∷ [] = sym c.in_ok-behind.ensures.items ∙ c.in-Some.ensures.items in
    ap (λ l. items_at (written c.self.inside.first l) q) (c.in_ok-parts-in-Some.ensures ∙ ap (λ w. c.pop.new.self.items ++ some_part c.in-Some.part.start w) c.in_ok-below-in-Some.ensures.below)
    ∙ part_below c.args.key.now c.self.inside.first c.as_slice.result.now c.self.inside.parts.items c.in_ok-behind.behind.items c.parts_to-place.result c.as_slice.ensures.value c.self.invariant.0 c.in_ok-behind.ensures.tail c.parts_to-place.ensures.point.1
    c.pop.new.self.items c.in-Some.part c.parts_to-place.ensures.bound c.parts_to-place.ensures.point.0 taken q
    ∙ ap (λ m. items_below c.args.key.now (items_at m) q) c.self.view_is

pub returns-in_ok-parts-in-Some-clause-others : goal.returns-in_ok-parts-in-Some-clause-others
returns-in_ok-parts-in-Some-clause-others c = λ q.
    let taken : take c.parts_to-place.result c.self.inside.parts.items ≡ c.pop.new.self.items ++ c.in-Some.part ∷ [] = sym c.in_ok-behind.ensures.items ∙ c.in-Some.ensures.items in
    ap (λ m. items_at m q) (c.led_by-in-Some.ensures ∙ ap (λ w. written w c.in_ok-behind.behind.items) c.in_ok-below-in-Some.ensures.others)
    ∙ part_others c.args.key.now c.self.inside.first c.as_slice.result.now c.self.inside.parts.items c.in_ok-behind.behind.items c.parts_to-place.result c.as_slice.ensures.value c.self.invariant.0 c.in_ok-behind.ensures.tail c.parts_to-place.ensures.point.1
    c.pop.new.self.items c.in-Some.part c.parts_to-place.ensures.bound c.parts_to-place.ensures.point.0 taken q
    ∙ ap (λ m. items_from c.args.key.now (items_at m) q) c.self.view_is
