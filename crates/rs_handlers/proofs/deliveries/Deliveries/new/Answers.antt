use Rattle.std.proofs.Common.{◌<◌, ◌++◌, ◌∷◌, [], All, ap, sym, subst, ◌∙◌, arith}
use Rattle.std.proofs.lemmas.List.Elements.{All-push}
use Rattle.std.proofs.lemmas.List.FromFn.{map-range_with_len_more}
use Rattle.rs_check.specs.Values.{count_of}
use Rattle.rs_handlers.specs.Delivering.{opening}
use Rattle.rs_handlers.proofs.deliveries.Deliveries.new.Goals as goal

pub loop-address-preserved : goal.loop-address-preserved
loop-address-preserved c =
    let i = c.loop-address.invariant in
    let added = c.in_ok-line_up.ensures in
    let told = opening c.loop-address.address in (
      subst (All (λ x. x.address < count_of c.args.plan.now)) (sym added) (All-push (λ x. x.address < count_of c.args.plan.now) c.loop-address.waiting.items told i.0 (omega arith)),
      added ∙ ap (λ l. l ++ told ∷ []) i.1 ∙ sym (map-range_with_len_more opening 0 c.loop-address.address c.loop-address.address (omega arith)),
    )
