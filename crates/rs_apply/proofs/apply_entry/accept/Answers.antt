use Rattle.std.proofs.Common.{◌≡◌, ◌∙◌, sym, ap, subst, OnOk}
use Rattle.rs_entry.specs.declared.entry.Body.TheVariants as body
use Rattle.rs_region.specs.Actions.{body_for}
use Rattle.rs_region.specs.declared.verdict.Verdict.TheVariants as verdicts
use Rattle.rs_store.specs.Runs.{line_entry}
use Rattle.rs_apply.specs.Births.{AddsBirths, made_in}
use Rattle.rs_apply.proofs.apply_entry.accept.Goals as goal

pub returns-in-Splits-clause-births : goal.returns-in-Splits-clause-births
returns-in-Splits-clause-births c =
    let is : body.Split c.in-Splits.side c.in-Splits.ids.now c.in-Splits.keys.now ≡ (line_entry c.args.next.line).body = ap body_for (sym c.in-Splits.is) ∙ c.action.ensures in
    subst (λ l. OnOk c.split.result (AddsBirths c.args.next.plan.now c.args.next.address l c.args.out.now.applies c.split.new.applies)) (ap (made_in verdicts.Accept c.args.state.now) is) c.split.ensures.births
