use Rattle.std.proofs.Common.{arith, sym, ◌∙◌, ◌≡◌}
use Rattle.rs_history.proofs.CodeOrder.{code_below, code_above, code_tie}
use Rattle.rs_history.proofs.key_code.order_told.Goals as goal

pub returns-then-a-b : goal.returns-then-a-b
returns-then-a-b c = λ x y f g d e. sym (code_below x y f g (rw (d, e) at c.if-a-b.true))

pub returns-then-b-a : goal.returns-then-b-a
returns-then-b-a c = λ x y f g d e. sym (code_above x y f g (rw (d, e) at c.if-b-a.true))

pub returns : goal.returns
returns c = λ x y f g d e. sym (code_tie x y f g (sym d ∙ (let h : c.args.a ≡ c.args.b = omega arith in h) ∙ e) (λ odd. omega (arith, odd, d)))
