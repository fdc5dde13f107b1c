use Rattle.std.proofs.Common.{rules, ◌≡◌, ◌∙◌, ap, sym, Some}
use Rattle.std.proofs.lemmas.Result.{on_ok_weaker}
use Rattle.rs_entry.specs.declared.outcome.Mode.TheVariants as modes
use Rattle.rs_msg.specs.declared.messages.ApplyMsg.TheVariants as apply
use Rattle.rs_apply.specs.Findings.{find_on}
use Rattle.rs_apply.proofs.Ends.{merging_at_stop}
use Rattle.rs_apply.proofs.ending.hand_over.Goals as goal

pub unreachable-requires : goal.unreachable-requires
unreachable-requires c =
    let found = (c.requires.laws.merged c.args.address c.args.target c.requires.below c.requires.ends).placed.found in
    search (rules, found)

pub new-closed-requires-clause-merging : goal.new-closed-requires-clause-merging
new-closed-requires-clause-merging c =
    merging_at_stop c.args.plan.now c.requires.laws c.args.address c.args.target c.args.state c.args.map c.requires.below c.requires.ends c.requires.held
    ∙ ap (modes.Merging c.args.target) (sym c.stop.ensures)

pub returns : goal.returns
returns c =
    let found : find_on c.args.plan.now c.args.address c.args.target ≡ Some c.in-Some.place = search rules in
    on_ok_weaker c.push.result
    (λ e. record { place = c.in-Some.place; found = found; message = apply.SourceDone c.in_ok-closed.closed; is = e; tells = (search rules, search rules, search rules, search rules) })
    c.push.ensures.ok
