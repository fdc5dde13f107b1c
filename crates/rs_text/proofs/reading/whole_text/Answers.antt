use Rattle.std.proofs.Common.{◌≡◌, ◌∙◌, sym, subst, refl}
use Rattle.std.specs.Prelude.{None, Some}
use Rattle.rs_field.specs.Lines.{fields_of}
use Rattle.rs_text.specs.Reading.{GivesText, header_of}
use Rattle.rs_text.proofs.Whole.{no_lines, headed}
use Rattle.rs_text.proofs.reading.whole_text.Goals as goal

pub returns-in_default : goal.returns-in_default
returns-in_default c = no_lines c.args.text.now c.in_default.ensures.parts

pub returns-in_default-header_of : goal.returns-in_default-header_of
returns-in_default-header_of c =
    let e : header_of (fields_of c.in-Some.first.now) ≡ None = sym c.header_of.ensures ∙ c.in_default-header_of.is in
    headed c.args.text.now c.in-Some.first.now c.in-Some.rest.now c.in-Some.ensures.parts ∙ rw e refl

pub returns : goal.returns
returns c =
    let e : header_of (fields_of c.in-Some.first.now) ≡ Some c.in-Some-header_of.version = sym c.header_of.ensures ∙ c.in-Some-header_of.is in
    subst (GivesText c.lines.result) (sym (headed c.args.text.now c.in-Some.first.now c.in-Some.rest.now c.in-Some.ensures.parts ∙ rw e refl)) c.lines.ensures
