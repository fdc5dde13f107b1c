use Rattle.std.proofs.Common.{◌≡◌, ◌∙◌, ◌++◌, [], ap, sym, subst}
use Rattle.std.specs.Prelude.{unwrap_or}
use Rattle.std.specs.Vec.Iter.{into_iter_items}
use Rattle.rs_meta.specs.Readings.{writes_left}
use Rattle.rs_meta.proofs.ReadSteps.{HasRead, one_read}
use Rattle.rs_meta.proofs.reading.read_all.Goals as goal

pub loop-ending-preserved : goal.loop-ending-preserved
loop-ending-preserved c =
    let state = c.loop-ending in
    let e = c.in-Some.ending in
    let rest = into_iter_items c.next.new.self in
    let read = subst (λ es. HasRead c.args.endings.items es state.replies state.writes) c.in-Some.ensures.steps.0 state.invariant in
    let replies : c.append.new.replies ≡ state.replies ++ e.replies = c.in_ok-append.ensures ∙ ap (λ ys. state.replies ++ ys) c.take-more.ensures.replies in
    let writes : c.take_over.new.writes ≡ state.writes ++ writes_left e = c.in_ok-take_over.ensures ∙ ap (λ left. state.writes ++ unwrap_or left []) c.take-more.ensures.map in
    subst (λ ys. HasRead c.args.endings.items rest ys c.take_over.new.writes) (sym replies)
    (subst (λ ws. HasRead c.args.endings.items rest (state.replies ++ e.replies) ws) (sym writes)
    (one_read c.args.endings.items e rest state.replies state.writes read))
