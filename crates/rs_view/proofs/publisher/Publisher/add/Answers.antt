use Rattle.std.proofs.Common.{◌≡◌, ◌∙◌, ◌+◌, ◌++◌, ℕ, drop, subst}
use Rattle.std.specs.Option.{option_to_list}
use Rattle.std.specs.Prelude.{IsErrOf, ◌↔◌}
use Rattle.rs_entry.specs.declared.input.Input.{Input}
use Rattle.rs_table.specs.Cuts.{IsCut}
use Rattle.rs_table.specs.CutViews.{input_of}
use Rattle.rs_table.specs.Moves.{raised}
use Rattle.rs_view.specs.declared.add_error.AddError.TheVariants as why
use Rattle.rs_view.specs.Cuts.{cut_of}
use Rattle.rs_view.specs.Publishing.{pending_cut}
use Rattle.rs_view.proofs.Taking.{of_store}
use Rattle.rs_view.proofs.publisher.Publisher.add.Goals as goal

pub returns-clause-next : goal.returns-clause-next
returns-clause-next c =
    let p = c.args.self.now in
    let n = pending_cut p in
    let w = p.writer in
    let o = of_store p.pending (cut_of w.desk.shown.value) (drop w.behind w.log.items ++ option_to_list p.waiting) p.ahead in
    subst (λ (i : Input). IsErrOf c.add_in.result why.NotNext ↔ (IsCut i p.place (raised n c.args.address) × (c.args.nth ≡ n c.args.address + 1) → ⊥)) (o.0 ∙ p.of_plan)
    (subst (λ (k : ℕ). IsErrOf c.add_in.result why.NotNext ↔ (IsCut (input_of p.pending) k (raised n c.args.address) × (c.args.nth ≡ n c.args.address + 1) → ⊥)) (o.1 ∙ p.of_store) c.add_in.ensures.next)
