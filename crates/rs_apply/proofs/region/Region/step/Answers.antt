use Rattle.std.proofs.Common.{sym, ◌∙◌, ap, subst, ◌+◌, ◌++◌}
use Rattle.rs_store.specs.Runs.{line_entry}
use Rattle.rs_check.specs.Values.{reshaped_by}
use Rattle.rs_apply.specs.Births.{AddsBirths, made_in}
use Rattle.rs_apply.specs.Merges.{IsWithout, merge_in, merge_results, unheld}
use Rattle.rs_apply.specs.Reshapings.{reshaped_if, reshapes_by}
use Rattle.rs_apply.proofs.NextParts.{named}
use Rattle.rs_apply.proofs.Reading.{answered_more, made_here, merge_here, merged_more, counted_more, few_more, reshapes_here, waits_here}
use Rattle.rs_apply.proofs.region.Region.step.Goals as goal

pub change-requires-clause-ready : goal.change-requires-clause-ready
change-requires-clause-ready c =
    let self = c.args.self in
    let e = line_entry c.args.next_entry.line in
    ap (λ z. unheld self.plan.now self.address c.args.closed.now.items (merge_in z e.body)) c.requires.verdict
    ∙ sym (waits_here self.plan.now self.address self.index self.state self.map e c.args.closed.now.items self.held c.requires.entry.entry) ∙ c.requires.ready

pub invariant_of-result-clause-held : goal.invariant_of-result-clause-held
invariant_of-result-clause-held c = c.in_ok-reply.ensures.next.0

pub invariant_of-result-clause-answered : goal.invariant_of-result-clause-answered
invariant_of-result-clause-answered c =
    let self = c.args.self in
    answered_more self.plan.now self.address self.index c.change.new.state c.change.new.map self.state.region _ self.replies c.note_reply.new.replies self.since
    (named self.plan.now c.requires.laws self.address self.index (line_entry c.args.next_entry.line) c.requires.entry self.state self.map self.held) c.in_ok-reply.ensures.next self.answered c.in_ok-note_reply.ensures

pub invariant_of-result-clause-merges : goal.invariant_of-result-clause-merges
invariant_of-result-clause-merges c =
    let self = c.args.self in
    let e = line_entry c.args.next_entry.line in
    merged_more self.plan.now self.address self.index c.merge_in.result self.merged c.note_merge.new.merged self.since
    (merge_here self.plan.now self.address self.index self.state self.map e self.held c.requires.entry.entry ∙ sym (c.merge_in.ensures ∙ ap (merge_in c.args.next_entry.verdict) c.action-action.ensures ∙ ap (λ z. merge_in z e.body) c.requires.verdict)) self.merges c.in_ok-note_merge.ensures

pub invariant_of-result-clause-counted : goal.invariant_of-result-clause-counted
invariant_of-result-clause-counted c =
    let self = c.args.self in
    let e = line_entry c.args.next_entry.line in
    counted_more self.plan.now c.requires.laws self.address self.index self.state self.map e c.requires.entry self.held c.is_reshaping-is.result self.reshaped c.in_ok-reshaped.reshaped
    (c.is_reshaping-is.ensures ∙ ap (reshapes_by c.args.next_entry.verdict) c.action-action.ensures ∙ ap (λ z. reshapes_by z e.body) c.requires.verdict) self.counted c.in_ok-reshaped.ensures.count

pub invariant_of-result-clause-few : goal.invariant_of-result-clause-few
invariant_of-result-clause-few c = few_more c.is_reshaping-is.result c.args.self.reshaped c.in_ok-reshaped.reshaped c.args.self.index c.in_ok-reshaped.ensures.count c.args.self.few

pub returns-clause-done : goal.returns-clause-done
returns-clause-done c =
    let self = c.args.self in
    let e = line_entry c.args.next_entry.line in
    let entry = c.requires.entry.entry in
    let sent = c.in_ok-reply.ensures in
    let merge = ap (λ z. merge_in z e.body) c.requires.verdict ∙ sym (merge_here self.plan.now self.address self.index self.state self.map e self.held entry) in
    let made = ap (λ z. made_in z self.state e.body) c.requires.verdict ∙ sym (made_here self.plan.now self.address self.index self.state self.map e self.held entry) in
    let is = c.is_reshaping-is.ensures ∙ ap (reshapes_by c.args.next_entry.verdict) c.action-action.ensures ∙ ap (λ z. reshapes_by z e.body) c.requires.verdict in
    let nth = counted_more self.plan.now c.requires.laws self.address self.index self.state self.map e c.requires.entry self.held c.is_reshaping-is.result self.reshaped c.in_ok-reshaped.reshaped is self.counted c.in_ok-reshaped.ensures.count in
    let reshapes = is ∙ sym (reshapes_here self.plan.now self.address self.index self.state self.map e self.held entry) in
    record {
      closed = subst (λ z. IsWithout self.plan.now self.address z c.args.closed.now.items c.change.new.closed.items) merge sent.closed;
      peers = sent.peers ∙ ap (λ z. c.args.out.now.peers ++ merge_results self.plan self.address z) merge;
      births = subst (λ l. AddsBirths self.plan.now self.address l c.args.out.now.applies c.change.new.out.applies) made sent.births;
      stores =
          c.in_ok-reshaped.ensures.stores ∙ ap (λ l. l ++ reshaped_if self.plan self.address c.in_ok-reshaped.reshaped c.is_reshaping-is.result) sent.stores
          ∙ ap (λ z. c.args.out.now.stores ++ reshaped_if self.plan self.address z c.is_reshaping-is.result) nth
          ∙ ap (λ z. c.args.out.now.stores ++ reshaped_if self.plan self.address (reshaped_by self.plan.now self.address (self.index + 1)) z) reshapes;
    }
