use Rattle.std.proofs.Common.{ap, subst, ◌≡◌, ◌∙◌, false, option_to_list}
use Rattle.std.proofs.lemmas.Result.{IfOk-weaker}
use Rattle.rs_store.specs.Runs.{line_entry}
use Rattle.rs_store.specs.Stores.{is_accept, reply_to}
use Rattle.rs_apply.proofs.NextParts.{refused}
use Rattle.rs_apply.proofs.local_entries.refuse.Goals as goal

pub returns : goal.returns
returns c =
    let next = c.args.next in
    let r = c.requires in
    IfOk-weaker c.reply_to.result _ _ (λ reply h.
    refused next.plan.now r.laws next.address next.index (line_entry next.line) next.entry c.args.state.now c.args.map.now r.held (subst (λ z. is_accept z ≡ false) r.why r.refused) (option_to_list reply)
    (subst (λ z. option_to_list reply ≡ reply_to z (line_entry next.line).body c.args.state.now) r.why (h ∙ ap (λ b. reply_to c.args.why b c.args.state.now) c.action.ensures)))
    c.reply_to.ensures
