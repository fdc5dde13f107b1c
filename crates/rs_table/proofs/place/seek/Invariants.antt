use Rattle.std.proofs.Common.{◌≡◌, ◌+◌, drop}
use Rattle.rs_table.specs.Changes.{is_there, place_of}
use Rattle.rs_table.proofs.place.seek.Given as goal

abbrev pub invariant-loop-place : goal.invariant-loop-place
invariant-loop-place l = (place_of l.id l.rows ≡ l.place + place_of l.id (drop l.place l.rows)) × (is_there l.id l.rows ≡ is_there l.id (drop l.place l.rows))
