use Rattle.std.proofs.Common.{◌++◌, ap, drop, refl}
use Rattle.std.specs.Option.{option_to_list}
use Rattle.rs_view.specs.Cuts.{cut_of}
use Rattle.rs_view.proofs.Taking.{one_ahead, still_ahead}
use Rattle.rs_view.proofs.publishing.add_next.Goals as goal

pub returns-clause-ahead : goal.returns-clause-ahead
returns-clause-ahead c =
    let w = c.args.writer.now in
    let v = c.note.new.writer in
    let u = c.put.new.writer in
    one_ahead (cut_of w.desk.shown.value) (cut_of v.desk.shown.value) (cut_of u.desk.shown.value) (cut_of c.args.pending.now) (cut_of c.take_next.new.table)
    (drop w.behind w.log.items ++ option_to_list c.args.waiting.now) (drop v.behind v.log.items) (drop u.behind u.log.items ++ option_to_list c.put.new.waiting) c.note.new.waiting c.args.step
    c.requires.ahead (ap (λ d. cut_of d.shown.value) c.note.ensures.desk) c.note.ensures.steps c.in_ok-note.ensures.ok c.in_ok-take_next.ensures.cut (ap (λ d. cut_of d.shown.value) c.put.ensures.desk) c.put.ensures.steps

pub returns-in_err-note-clause-ahead : goal.returns-in_err-note-clause-ahead
returns-in_err-note-clause-ahead c =
    let w = c.args.writer.now in
    let v = c.note.new.writer in
    still_ahead (cut_of w.desk.shown.value) (cut_of v.desk.shown.value) (cut_of c.args.pending.now) (cut_of c.args.pending.now)
    (drop w.behind w.log.items ++ option_to_list c.args.waiting.now) (drop v.behind v.log.items ++ option_to_list c.note.new.waiting)
    c.requires.ahead (ap (λ d. cut_of d.shown.value) c.note.ensures.desk) c.note.ensures.steps refl

pub returns-in_err-take_next-clause-ahead : goal.returns-in_err-take_next-clause-ahead
returns-in_err-take_next-clause-ahead c =
    let w = c.args.writer.now in
    let v = c.note.new.writer in
    still_ahead (cut_of w.desk.shown.value) (cut_of v.desk.shown.value) (cut_of c.args.pending.now) (cut_of c.take_next.new.table)
    (drop w.behind w.log.items ++ option_to_list c.args.waiting.now) (drop v.behind v.log.items ++ option_to_list c.note.new.waiting)
    c.requires.ahead (ap (λ d. cut_of d.shown.value) c.note.ensures.desk) c.note.ensures.steps c.in_err-take_next.ensures.cut
