use Rattle.std.proofs.Common.{subst, sym}
use Rattle.std.specs.Prelude.{Some}
use Rattle.rs_entry.specs.WellFormed.{WellFormed}
use Rattle.rs_check.specs.Plans.{address_of}
use Rattle.rs_check.proofs.Forming.{formed_line}
use Rattle.rs_check.proofs.plan.Plan.entry.Goals as goal

pub returns-in-Some-clause-formed : goal.returns-in-Some-clause-formed
returns-in-Some-clause-formed c =
    formed_line c.args.self.now (subst WellFormed c.self.view_is c.self.invariant.3) (address_of c.args.self.now c.args.a) c.args.index (Some c.in-Some.line) (sym c.in-Some.ensures)

pub returns-in-None-clause-formed : goal.returns-in-None-clause-formed
returns-in-None-clause-formed c =
    formed_line c.args.self.now (subst WellFormed c.self.view_is c.self.invariant.3) (address_of c.args.self.now c.args.a) c.args.index c.entry_anywhere.result c.entry_anywhere.ensures
