use Rattle.std.proofs.Common.{rules, ◌≡◌, Some}
use Rattle.rs_msg.specs.Maps.{HasItems, items_at, items_of_both}
use Rattle.std.proofs.lemmas.Result.{IfOk-weaker}
use Rattle.rs_apply.proofs.Borders.{below_end, either_first, from_start}
use Rattle.rs_apply.proofs.merge.join.Goals as goal

pub join-requires-clause-below : goal.join-requires-clause-below
join-requires-clause-below c =
    let end : c.args.range.now.end ≡ Some c.in_ok-try_clone.field-0 = search rules in
    below_end c.args.range.now c.in_ok-try_clone.field-0 c.args.map end c.requires.map

pub join-requires-clause-others : goal.join-requires-clause-others
join-requires-clause-others c =
    let start : c.args.other.now.start ≡ Some c.in_ok-try_clone.field-0 = search rules in
    from_start c.args.other.now c.in_ok-try_clone.field-0 c.args.items start c.requires.items

pub join-requires-in-Some-border-clause-below : goal.join-requires-in-Some-border-clause-below
join-requires-in-Some-border-clause-below c =
    let end : c.args.other.now.end ≡ Some c.in_ok-try_clone-2.field-0 = search rules in
    below_end c.args.other.now c.in_ok-try_clone-2.field-0 c.args.items end c.requires.items

pub join-requires-in-Some-border-clause-others : goal.join-requires-in-Some-border-clause-others
join-requires-in-Some-border-clause-others c =
    let start : c.args.range.now.start ≡ Some c.in_ok-try_clone-2.field-0 = search rules in
    from_start c.args.range.now c.in_ok-try_clone-2.field-0 c.args.map start c.requires.map

pub returns-in-Some-border : goal.returns-in-Some-border
returns-in-Some-border c =
    IfOk-weaker c.join-in-Some-border.result (λ both. HasItems both (items_of_both (items_at c.args.items) (items_at c.args.map))) (λ both. HasItems both (items_of_both (items_at c.args.map) (items_at c.args.items)))
    (λ both. either_first c.args.range.now c.args.other.now c.args.map c.args.items both c.requires.next c.requires.map c.requires.items) c.join-in-Some-border.ensures
