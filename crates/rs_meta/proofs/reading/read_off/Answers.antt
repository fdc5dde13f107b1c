use Rattle.std.proofs.Common.{◌∙◌, ap, sym, subst, All, map}
use Rattle.std.specs.Prelude.{slice_get}
use Rattle.std.specs.Option.{option_map}
use Rattle.rs_history.specs.Histories.{histories_of}
use Rattle.rs_table.specs.Views.{place_of}
use Rattle.rs_meta.specs.Readings.{IsEndingOn, line_of}
use Rattle.rs_meta.proofs.FinalStates.{endings_on}
use Rattle.rs_meta.proofs.ReadOff.{outcome_at}
use Rattle.rs_meta.proofs.reading.read_off.Goals as goal

pub lines_of-requires-clause-of : goal.lines_of-requires-clause-of
lines_of-requires-clause-of c =
    let facts = c.input-input.ensures in
    subst (λ es. All (IsEndingOn c.args.plan.now (place_of c.args.table.now)) es) (sym c.as_slice.ensures.value) (endings_on c.args.plan.now facts.formed (place_of c.args.table.now) c.requires.place c.args.endings.items c.requires.endings)

pub returns : goal.returns
returns c =
    let facts = c.input-input.ensures in
    let reading = c.in_ok-reading.ensures in
    let histories = c.in_ok-histories.ensures in
    outcome_at c.args.plan.now facts.formed facts.lawful (place_of c.args.table.now) c.args.endings.items c.requires.endings
    (record { id = c.id_of-id.result; regions = c.regions.inside.items.items; replies = c.in_ok-reading.reading.replies; pairs = c.in_ok-pairs_of.field-0; histories = c.in_ok-histories.histories })
    (ap (λ p. option_map (λ s. s.id) (slice_get c.args.plan.now.stores p)) (sym c.place.ensures) ∙ c.id_of-id.ensures)
    (record {
      regions = c.regions.view_is ∙ c.in_ok-regions.ensures ∙ ap (map (line_of c.args.plan.now)) c.as_slice.ensures.value;
      replies = reading.replies;
      histories = histories ∙ ap histories_of reading.writes;
      pairs = c.in_ok-pairs_of.ensures;
    })
