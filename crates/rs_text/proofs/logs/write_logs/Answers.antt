use Rattle.std.proofs.Common.{◌≡◌, List, ℕ, Ok, sym, subst}
use Rattle.rs_text.specs.Reading.{read_text}
use Rattle.rs_text.specs.Grammar.{Belongs}
use Rattle.rs_text.proofs.CanonLaws.{canonical_belongs}
use Rattle.rs_text.proofs.OnlyTexts.{read_again}
use Rattle.rs_text.proofs.logs.write_logs.Goals as goal

pub returns-clause-belongs : goal.returns-clause-belongs
returns-clause-belongs c = λ w. subst (λ (t : List ℕ). Belongs t c.args.input.now) (sym c.in_ok-text.ensures) (canonical_belongs c.args.input.now w)

pub returns-clause-again : goal.returns-clause-again
returns-clause-again c = λ w. subst (λ (t : List ℕ). read_text t ≡ Ok c.args.input.now) (sym c.in_ok-text.ensures) (read_again c.args.input.now w)
