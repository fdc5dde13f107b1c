use Rattle.std.proofs.Common.{arith}
use Rattle.rs_field.specs.Lines.{parts_of}
use Rattle.rs_text.specs.Reading.{read_from}
use Rattle.rs_text.specs.Steps.{start}
use Rattle.rs_text.proofs.Whole.{goes_on, bad_line, ends}
use Rattle.rs_text.proofs.reading.lines.Goals as goal

pub returns-in-Err : goal.returns-in-Err
returns-in-Err c =
    bad_line c.loop-this.line c.loop-this.p c.loop-this.rest.now c.in-Some.this.now c.in-Some.after.now c.in-Err.error c.at_line.result (read_from 2 (start c.args.version) (parts_of c.args.text.now)) c.in-Some.ensures.parts c.in-Err.ensures.value c.at_line.ensures c.loop-this.invariant.same

pub loop-this-preserved : goal.loop-this-preserved
loop-this-preserved c = record {
  counts = c.in-Ok.ensures.counts;
  number = omega (arith, c.in-Some.ensures.shorter, c.loop-this.invariant.number);
  same = goes_on c.loop-this.line c.loop-this.p c.step.new.p c.loop-this.rest.now c.in-Some.this.now c.in-Some.after.now (read_from 2 (start c.args.version) (parts_of c.args.text.now)) c.in-Some.ensures.parts c.in-Ok.ensures.value c.loop-this.invariant.same;
}

pub returns : goal.returns
returns c = ends c.loop-this.line c.loop-this.p c.loop-this.rest.now c.finish.result (read_from 2 (start c.args.version) (parts_of c.args.text.now)) c.in_default.ensures.parts c.finish.ensures c.loop-this.invariant.same
