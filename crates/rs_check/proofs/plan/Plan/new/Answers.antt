use Rattle.std.proofs.Common.{◌∙◌, subst, sym}
use Rattle.rs_check.specs.Plans.{AreOrdered}
use Rattle.rs_check.proofs.RowPlaces.{rows_of_ordered}
use Rattle.rs_check.proofs.plan.Plan.new.Goals as goal

pub homes_of-requires : goal.homes_of-requires
homes_of-requires c = subst AreOrdered (sym (c.as_slice.ensures.value ∙ c.requires.rows)) (rows_of_ordered c.args.input c.requires.formed)
