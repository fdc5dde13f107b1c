use Rattle.std.proofs.Common.{◌≡◌, ◌<◌, [], length, drop, sym, ap, arith, ◌∙◌, eqb-true}
use Rattle.std.proofs.lemmas.Bool.{eqb-false}
use Rattle.std.proofs.lemmas.List.{take_rest, nil_from_length}
use Rattle.rs_field.specs.Lines.{fields_of}
use Rattle.rs_field.proofs.CutLaws.{skip_spaces, no_field, field_after}
use Rattle.rs_field.proofs.cuts.next_field.Goals as goal

pub returns-then-is_empty : goal.returns-then-is_empty
returns-then-is_empty c =
    let line = c.args.line.now in
    let r = take_rest line c.spaces_of.result in
    let none : drop c.spaces_of.result line ≡ [] = nil_from_length _ (rw r at (eqb-true _ _ (sym c.is_empty.ensures ∙ c.if-is_empty.true))) in
    skip_spaces line ∙ ap fields_of (rw (← c.spaces_of.ensures.place) none) ∙ no_field

pub returns : goal.returns
returns c =
    let line = c.args.line.now in
    let r = take_rest line c.spaces_of.result in
    let some : 0 < length (drop c.spaces_of.result line) = omega (arith, rw r at (eqb-false _ _ (sym c.is_empty.ensures ∙ c.if-is_empty.false))) in
    rw (c.split_at.ensures.front, c.split_at.ensures.back, r)
    (field_after line (drop c.spaces_of.result line) c.place_of.result (ap (λ n. drop n line) c.spaces_of.ensures.place) some (rw r at c.place_of.ensures.place))
