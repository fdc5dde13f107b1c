use Rattle.std.proofs.Common.{◌∙◌, ap, sym, subst}
use Rattle.rs_table.specs.Cuts.{Cut, IsCut, size_of}
use Rattle.rs_table.specs.Moves.{nothing_covered}
use Rattle.rs_table.specs.Rows.{IsTable}
use Rattle.rs_table.proofs.Cutting.{nothing_cut}
use Rattle.rs_table.proofs.Sizes.{none}
use Rattle.rs_table.proofs.cut_table.CutTable.new.Goals as goal

pub invariant_of-result-clause-cut : goal.invariant_of-result-clause-cut
invariant_of-result-clause-cut c = subst (λ (n : Cut). IsCut c.args.plan.now c.args.place n) (sym c.in_ok-taken.ensures.none) (nothing_cut c.args.plan.now c.args.place)

pub invariant_of-result-clause-tied : goal.invariant_of-result-clause-tied
invariant_of-result-clause-tied c =
    subst (λ (n : Cut). IsTable c.args.plan.now c.args.place n c.in_ok-table.table) (sym c.in_ok-taken.ensures.none)
    (subst (λ t. IsTable c.args.plan.now c.args.place nothing_covered t) (sym c.in_ok-table.ensures) c.moves.ensures.opens)

pub invariant_of-result-clause-summed : goal.invariant_of-result-clause-summed
invariant_of-result-clause-summed c = sym (ap (size_of c.args.plan.now) c.in_ok-taken.ensures.none ∙ none c.args.plan.now)
