use Rattle.std.proofs.Common.{◌∙◌}
use Rattle.rs_fold.proofs.ReplyOrder.{sorted_replies}
use Rattle.rs_fold.proofs.replies.by_region.Goals as goal

pub returns : goal.returns
returns c =
    c.from_vec.ensures ∙ sorted_replies _ _ c.in_ok-sort_by_region.ensures.sorted c.in_ok-sort_by_region.ensures.of_each_region
