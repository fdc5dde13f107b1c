use Rattle.std.proofs.Common.{◌≡◌, ◌∙◌, All, ap, drop, length, subst, sym}
use Rattle.rs_view.specs.declared.store_cut.StoreCut.{StoreCut}
use Rattle.rs_view.specs.Cuts.{cut_of, empty_cut}
use Rattle.rs_view.specs.Publishing.{IsNewView}
use Rattle.rs_view.proofs.Taking.{begun}
use Rattle.rs_view.proofs.opening.start.Goals as goal

pub invariant_of-publisher : goal.invariant_of-publisher
invariant_of-publisher g c =
    let e = c.in_ok-writer.ensures in
    let w = c.in_ok-writer.writer in
    record {
      of_plan = ap (λ (x : StoreCut). x.input) e.shown;
      of_store = ap (λ (x : StoreCut). x.place) e.shown;
      shows = e.known;
      ahead = c.in_ok-pending.ensures ∙ begun (cut_of w.desk.shown.value) (empty_cut c.args.plan.now c.args.place) (drop w.behind w.log.items) (sym e.shown) e.none;
    }

pub returns-in-Ok-clause-views : goal.returns-in-Ok-clause-views
returns-in-Ok-clause-views g c =
    subst (λ (x : StoreCut). (length c.in-Ok.views ≡ c.args.readers) × All (IsNewView c.args.plan.now c.args.place x) c.in-Ok.views) c.in_ok-writer.ensures.shown c.in-Ok.ensures.views
