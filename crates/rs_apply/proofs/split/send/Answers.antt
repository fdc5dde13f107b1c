use Rattle.std.proofs.Common.{rules, ◌≡◌, Some, ◌∷◌, []}
use Rattle.std.proofs.lemmas.Result.{on_ok_weaker}
use Rattle.rs_msg.specs.declared.messages.ApplyMsg.TheVariants as apply
use Rattle.rs_apply.specs.Findings.{find_on}
use Rattle.rs_apply.proofs.split.send.Goals as goal

pub returns : goal.returns
returns c =
    let found : find_on c.args.next.plan.now c.args.next.address c.args.state.region ≡ Some c.in-Some-find.place = search rules in
    on_ok_weaker c.push.result
    (λ e. record { sent = (c.in-Some-find.place, apply.Birth c.in_ok-piece.piece) ∷ []; is = e; births = (found, (search rules, search rules), tt) })
    c.push.ensures.ok
