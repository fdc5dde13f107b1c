use Rattle.std.proofs.Common.{sym, ◌∙◌, ap}
use Rattle.rs_store.specs.Runs.{line_entry}
use Rattle.rs_apply.specs.Merges.{unheld, merge_in}
use Rattle.rs_apply.proofs.Reading.{waits_here}
use Rattle.rs_apply.proofs.region.Region.waits.Goals as goal

pub returns : goal.returns
returns c =
    let self = c.args.self.now in
    let next = c.args.next_entry in
    let e = line_entry next.line in
    c.unheld.ensures ∙ ap (unheld self.plan.now self.address c.args.closed.now) (c.merge_in-merge.ensures ∙ ap (merge_in next.verdict) c.action.ensures ∙ ap (λ z. merge_in z e.body) c.requires.verdict)
    ∙ sym (waits_here self.plan.now self.address self.index self.state self.map e c.args.closed.now self.held c.requires.entry.entry)
