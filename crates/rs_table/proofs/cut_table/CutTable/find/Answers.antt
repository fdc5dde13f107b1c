use Rattle.std.proofs.Common.{◌∙◌, ap, sym, subst, Option, ℕ}
use Rattle.std.specs.Prelude.{MatchOption}
use Rattle.rs_check.specs.Tables.{owner}
use Rattle.rs_table.specs.Covers.{IsOwner, NoneOwns}
use Rattle.rs_table.specs.CutViews.{cut_of, input_of, place_of}
use Rattle.rs_table.specs.Rows.{table_of}
use Rattle.rs_table.proofs.Owners.{owner_is}
use Rattle.rs_table.proofs.cut_table.CutTable.find.Goals as goal

pub returns-clause-owner : goal.returns-clause-owner
returns-clause-owner c =
    let s = c.args.self.now in
    let rows = table_of (input_of s) (place_of s) (cut_of s) in
    subst (λ (o : Option ℕ). MatchOption o (NoneOwns rows c.args.key.now) (IsOwner rows c.args.key.now)) (sym (c.find.ensures ∙ ap (λ r. owner r c.args.key.now) c.table.ensures.table)) (owner_is rows c.args.key.now)
