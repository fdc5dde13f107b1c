use Rattle.std.proofs.Common.{sym, subst, Option, ℕ}
use Rattle.std.specs.Prelude.{MatchOption}
use Rattle.rs_table.specs.Covers.{IsOwner, NoneOwns}
use Rattle.rs_table.specs.Views.{rows_of}
use Rattle.rs_table.proofs.Owners.{owner_is}
use Rattle.rs_table.proofs.table.StoreTable.find.Goals as goal

pub returns-clause-owner : goal.returns-clause-owner
returns-clause-owner c =
    subst (λ (o : Option ℕ). MatchOption o (NoneOwns (rows_of c.args.self.now) c.args.key.now) (IsOwner (rows_of c.args.self.now) c.args.key.now)) (sym c.find.ensures) (owner_is (rows_of c.args.self.now) c.args.key.now)
