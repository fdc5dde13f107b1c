use Rattle.std.proofs.Common.{◌∙◌, sym, eq-eqb}
use Rattle.std.proofs.lemmas.Bool.{eqb-true}
use Rattle.rs_check.specs.Values.{count_of}
use Rattle.rs_table.specs.Tellings.{numbers}
use Rattle.rs_table.proofs.Cutting.{full_is, full_of}
use Rattle.rs_table.proofs.table.StoreTable.is_full.Goals as goal

pub returns : goal.returns
returns c =
    let g = c.args.self.now.growing in (
      λ t. full_of g.cut.plan.now g.cut.place (numbers g.cut.taken.items) g.cut.cut (sym g.counted ∙ eqb-true g.unfinished 0 t),
      λ f. eq-eqb g.unfinished 0 (g.counted ∙ full_is g.cut.plan.now g.cut.place (numbers g.cut.taken.items) (count_of g.cut.plan.now) f),
    )
