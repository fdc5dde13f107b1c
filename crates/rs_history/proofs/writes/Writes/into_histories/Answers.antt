use Rattle.std.proofs.Common.{◌∙◌, ap}
use Rattle.rs_history.specs.Histories.{histories_of}
use Rattle.rs_history.specs.Runs.{groups}
use Rattle.rs_history.proofs.SortedWrites.{sorted_histories}
use Rattle.rs_history.proofs.writes.Writes.into_histories.Goals as goal

pub returns : goal.returns
returns c =
    c.in_ok-grouped.ensures ∙ ap groups c.as_slice.ensures.value
    ∙ sorted_histories _ _ c.in_ok-sort_by_key.ensures.sorted c.in_ok-sort_by_key.ensures.of_each_key ∙ ap histories_of c.self.view_is
