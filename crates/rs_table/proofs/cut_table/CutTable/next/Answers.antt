use Rattle.std.proofs.Common.{arith, inl, inr}
use Rattle.std.proofs.lemmas.Bool.{cases_lt}
use Rattle.rs_check.specs.Values.{count_of}
use Rattle.rs_table.specs.CutViews.{cut_of}
use Rattle.rs_table.proofs.WholeCuts.{none_beyond}
use Rattle.rs_table.proofs.cut_table.CutTable.next.Goals as goal

pub returns : goal.returns
returns c =
    let s = c.args.self.now in
    let t = c.loop-a-test.false in
    let e = c.count-a-end.ensures in
    c.moves.ensures.full (cut_of s) s.cut (λ b. elim (cases_lt b (count_of s.plan.now)) [
      | inl lt ↦ c.loop-a.invariant b (omega (arith, lt, t, e))
      | inr far ↦ none_beyond s.plan.now s.place (cut_of s) b far
    ])
