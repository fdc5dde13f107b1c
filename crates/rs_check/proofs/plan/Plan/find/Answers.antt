use Rattle.std.proofs.Common.{◌∙◌, subst, sym}
use Rattle.rs_check.specs.Plans.{AreOrdered}
use Rattle.rs_check.proofs.RowPlaces.{rows_of_ordered}
use Rattle.rs_check.proofs.plan.Plan.find.Goals as goal

pub place_of-requires : goal.place_of-requires
place_of-requires c = subst AreOrdered (sym (c.as_slice.ensures.value ∙ c.self.invariant.0)) (rows_of_ordered c.self.inside.input c.self.invariant.3)
