use Rattle.std.proofs.Common.{◌≡◌, ◌∙◌, ◌+◌, ◌++◌, ℕ, drop, subst}
use Rattle.std.specs.Option.{option_to_list}
use Rattle.std.specs.Prelude.{MatchOption}
use Rattle.rs_entry.specs.declared.input.Input.{Input}
use Rattle.rs_table.specs.Cuts.{IsFull}
use Rattle.rs_table.specs.CutViews.{input_of}
use Rattle.rs_table.specs.Moves.{IsLeastNext}
use Rattle.rs_view.specs.Cuts.{cut_of}
use Rattle.rs_view.specs.Publishing.{pending_cut}
use Rattle.rs_view.proofs.Taking.{of_store}
use Rattle.rs_view.proofs.publisher.Publisher.next.Goals as goal

pub returns : goal.returns
returns c =
    let p = c.args.self.now in
    let n = pending_cut p in
    let w = p.writer in
    let o = of_store p.pending (cut_of w.desk.shown.value) (drop w.behind w.log.items ++ option_to_list p.waiting) p.ahead in
    subst (λ (i : Input). MatchOption c.next.result (IsFull i p.place n) (λ r. IsLeastNext i p.place n r.0 × (r.1 ≡ n r.0 + 1))) (o.0 ∙ p.of_plan)
    (subst (λ (k : ℕ). MatchOption c.next.result (IsFull (input_of p.pending) k n) (λ r. IsLeastNext (input_of p.pending) k n r.0 × (r.1 ≡ n r.0 + 1))) (o.1 ∙ p.of_store) c.next.ensures)
