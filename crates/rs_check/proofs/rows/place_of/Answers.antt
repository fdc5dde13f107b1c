use Rattle.std.proofs.Common.{sym}
use Rattle.rs_check.proofs.RowPlaces.{no_place, past_all, place_at}
use Rattle.rs_check.proofs.rows.place_of.Goals as goal

pub returns-in_default-clause-place : goal.returns-in_default-clause-place
returns-in_default-clause-place c = past_all c.args.rows.now c.args.store c.args.region c.first_from-place.result c.requires c.first_from-place.ensures c.in_default.ensures

pub returns-then-not-is_at-clause-place : goal.returns-then-not-is_at-clause-place
returns-then-not-is_at-clause-place c =
    no_place c.args.rows.now c.args.store c.args.region c.first_from-place.result c.in-Some.row.now c.requires c.first_from-place.ensures c.in-Some.ensures (sym c.if-not-is_at.ensures)

pub returns-clause-place : goal.returns-clause-place
returns-clause-place c =
    place_at c.args.rows.now c.args.store c.args.region c.first_from-place.result c.in-Some.row.now c.requires c.in-Some.ensures (sym c.if-not-is_at.ensures)
