use Rattle.std.proofs.Common.{◌+◌, [], ◌∷◌, All, length, length-append, sym, subst, ap, ◌∙◌}
use Rattle.std.proofs.lemmas.List.Elements.{All-push}
use Rattle.rs_steal.specs.Opening.{IsFresh}
use Rattle.rs_steal.proofs.opening.lonely_passes.Goals as goal

pub loop-k-preserved : goal.loop-k-preserved
loop-k-preserved c =
    let fresh = IsFresh c.args.addresses c.args.passes 0 in
    let grown = c.in_ok-push.ensures.items in (
      ap length grown ∙ length-append c.loop-k.list.items (c.in_ok-pass.pass ∷ []) ∙ ap (λ n. n + 1) c.loop-k.invariant.0,
      subst (All fresh) (sym grown) (All-push fresh c.loop-k.list.items c.in_ok-pass.pass c.loop-k.invariant.1 c.in_ok-pass.ensures),
    )
