use Rattle.std.proofs.Common.{arith, ◌+◌}
use Rattle.std.proofs.lemmas.List.{take_rest}
use Rattle.rs_field.proofs.CutLaws.{first_line, last_line}
use Rattle.rs_field.proofs.cuts.next_line.Goals as goal

pub returns-then-end-text-clause-parts : goal.returns-then-end-text-clause-parts
returns-then-end-text-clause-parts c = last_line c.args.text.now (omega (arith, c.place_of-end.ensures.place))

pub returns-clause-parts : goal.returns-clause-parts
returns-clause-parts c =
    rw (take_rest c.args.text.now (c.place_of-end.result + 1), c.place_of-end.ensures.place)
    (first_line c.args.text.now (omega (arith, c.place_of-end.ensures.place, c.place_of-end.ensures.bound)))
