use Rattle.std.proofs.Common.{◌≡◌, drop}
use Rattle.std.specs.List.{list_any}
use Rattle.rs_store.specs.Stores.{is_fitting}
use Rattle.rs_store.proofs.rollbacks.has_fitting.Given as goal

abbrev pub invariant-loop-entry : goal.invariant-loop-entry
invariant-loop-entry l = list_any (is_fitting l.commit l.epoch) l.entries ≡ list_any (is_fitting l.commit l.epoch) (drop l.entry-index l.entries)
