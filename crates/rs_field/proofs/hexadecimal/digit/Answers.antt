use Rattle.std.proofs.Common.{refl, arith, ◌∙◌}
use Rattle.rs_field.proofs.DigitTable.{digit_values}
use Rattle.rs_field.proofs.DigitTable.{reads_at}
use Rattle.rs_field.proofs.hexadecimal.digit.Goals as goal

pub returns : goal.returns
unfolding digit_values
returns c = c.at.ensures ∙ reads_at digit_values 256 c.args.byte refl (omega arith)
