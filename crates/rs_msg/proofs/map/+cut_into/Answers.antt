use Rattle.std.proofs.Common.{◌≡◌, ◌∙◌, ◌++◌, ◌∷◌, sym, ap, subst}
use Rattle.rs_msg.specs.Cuts.{AddsCuts}
use Rattle.rs_msg.proofs.Cutting.{both_cuts}
use Rattle.rs_msg.proofs.Results.{then_ok, with_ok}
use Rattle.rs_msg.proofs.map.+cut_into.Goals as goal

pub returns : goal.returns
returns t c =
    let before = c.split_at.result.0.now in
    let whole : c.args.keys.now ≡ before ++ c.in-Some.key.now ∷ c.in-Some.behind.now = c.split_at.ensures.by_index.0 ∙ ap (λ z. before ++ z) c.in-Some.ensures.cases.0 in
    then_ok c.cut_into-2.result
    (λ b. subst (λ ks. AddsCuts ks c.args.map c.args.maps.now.items c.cut_into-2.new.maps.items) (sym whole)
    (both_cuts before c.in-Some.key.now c.in-Some.behind.now c.args.map c.in_ok-left.left c.in_ok-left.right c.args.maps.now.items c.cut_into.new.maps.items c.cut_into-2.new.maps.items
    c.in_ok-left.ensures.below c.in_ok-left.ensures.others (with_ok c.cut_into.result c.in_ok-cut_into.field-0 c.in_ok-cut_into.was c.cut_into.ensures) b))
    c.cut_into-2.ensures
