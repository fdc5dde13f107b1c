use Rattle.std.proofs.Common.{◌∙◌, ◌++◌, ℕ, ap, drop, subst}
use Rattle.std.specs.Option.{option_to_list}
use Rattle.std.specs.Prelude.{MatchOption}
use Rattle.rs_entry.specs.declared.input.Input.{Input}
use Rattle.rs_check.specs.Tables.{owner}
use Rattle.rs_table.specs.Covers.{IsOwner, NoneOwns}
use Rattle.rs_table.specs.CutViews.{input_of}
use Rattle.rs_table.specs.Rows.{table_of}
use Rattle.rs_view.specs.Cuts.{cut_of}
use Rattle.rs_view.specs.Publishing.{pending_cut}
use Rattle.rs_view.proofs.Taking.{of_store}
use Rattle.rs_view.proofs.publisher.Publisher.find.Goals as goal

pub returns-clause-value : goal.returns-clause-value
returns-clause-value c =
    let p = c.args.self.now in
    let w = p.writer in
    let o = of_store p.pending (cut_of w.desk.shown.value) (drop w.behind w.log.items ++ option_to_list p.waiting) p.ahead in
    c.find.ensures.value
    ∙ (ap (λ (k : ℕ). owner (table_of (input_of p.pending) k (pending_cut p)) c.args.key.now) (o.1 ∙ p.of_store)
    ∙ ap (λ (i : Input). owner (table_of i p.place (pending_cut p)) c.args.key.now) (o.0 ∙ p.of_plan))

pub returns-clause-owner : goal.returns-clause-owner
returns-clause-owner c =
    let p = c.args.self.now in
    let n = pending_cut p in
    let key = c.args.key.now in
    let w = p.writer in
    let o = of_store p.pending (cut_of w.desk.shown.value) (drop w.behind w.log.items ++ option_to_list p.waiting) p.ahead in
    subst (λ (i : Input). MatchOption c.find.result (NoneOwns (table_of i p.place n) key) (IsOwner (table_of i p.place n) key)) (o.0 ∙ p.of_plan)
    (subst (λ (k : ℕ). MatchOption c.find.result (NoneOwns (table_of (input_of p.pending) k n) key) (IsOwner (table_of (input_of p.pending) k n) key)) (o.1 ∙ p.of_store) c.find.ensures.owner)
