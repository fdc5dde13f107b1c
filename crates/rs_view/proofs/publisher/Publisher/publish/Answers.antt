use Rattle.std.proofs.Common.{◌≡◌, ◌∙◌, ◌++◌, Some, ap, drop, subst, sym}
use Rattle.std.specs.Option.{option_to_list}
use Rattle.left_right.specs.Sides.{view}
use Rattle.rs_view.specs.declared.store_cut.StoreCut.{StoreCut}
use Rattle.rs_view.specs.Cuts.{cut_of}
use Rattle.rs_view.proofs.Taking.{after_show, shown}
use Rattle.rs_view.proofs.publisher.Publisher.publish.Goals as goal

pub invariant_of-self-2 : goal.invariant_of-self-2
invariant_of-self-2 g c =
    let p = c.args.self.now in
    let m = c.note.new.writer in
    let new = c.show_in.new.writer in
    let same : cut_of m.desk.shown.value ≡ cut_of p.writer.desk.shown.value = ap (λ d. cut_of d.shown.value) c.note.ensures.desk in
    let knows : view m.desk.place ≡ Some (cut_of m.desk.shown.value) = subst (λ d. view d.place ≡ Some (cut_of d.shown.value)) (sym c.note.ensures.desk) p.shows in
    let s = shown c.show_in.result m.desk.shown.value new.desk.shown.value (drop m.behind m.log.items) (drop new.behind new.log.items) (view m.desk.place) (view new.desk.place) knows c.show_in.ensures in
    record {
      of_plan = s.2 ∙ (ap (λ (x : StoreCut). x.input) same ∙ p.of_plan);
      of_store = s.3 ∙ (ap (λ (x : StoreCut). x.place) same ∙ p.of_store);
      shows = s.1;
      ahead = after_show (cut_of p.writer.desk.shown.value) (cut_of m.desk.shown.value) (cut_of new.desk.shown.value) (cut_of p.pending)
          (drop p.writer.behind p.writer.log.items ++ option_to_list p.waiting) (drop m.behind m.log.items) (drop new.behind new.log.items) c.note.new.waiting
          p.ahead same c.note.ensures.steps c.in_ok-note.ensures.ok s.0;
    }
