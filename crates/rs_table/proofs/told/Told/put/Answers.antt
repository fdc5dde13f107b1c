use Rattle.std.proofs.Common.{◌≡◌, ◌||◌, ◌∙◌, ap, true, false, cond, Bool, refl}
use Rattle.rs_table.proofs.Pairs.{pair_test}
use Rattle.rs_table.specs.Tellings.{has, is_this}
use Rattle.rs_table.proofs.told.Told.put.Goals as goal

either : (b c : Bool) → cond b true c ≡ (c || b)
either true true = refl
either true false = refl
either false true = refl
either false false = refl

pub returns-clause-ok : goal.returns-clause-ok
returns-clause-ok c a n =
    c.in_ok-insert.ensures.updates.0 (a, n)
    ∙ (ap (λ b. cond b true (has c.args.self.now a n)) (pair_test c.args.address c.args.nth a n)
    ∙ either (is_this c.args.address c.args.nth a n) (has c.args.self.now a n))
