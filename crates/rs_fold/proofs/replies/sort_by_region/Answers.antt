use Rattle.std.proofs.Common.{rules}
use Rattle.std.proofs.lemmas.List.Sorted.{answers_always}
use Rattle.rs_fold.specs.Replies.{region_below}
use Rattle.rs_fold.proofs.ReplyOrder.{region_below_orders, same_replies}
use Rattle.rs_fold.proofs.replies.sort_by_region.Goals as goal

pub returns-clause-sorted : goal.returns-clause-sorted
returns-clause-sorted c =
    c.in_ok-sort_by.ensures.sorted region_below region_below_orders (answers_always _ _ _ (λ f a r g h. search rules))

pub returns-clause-of_each_region : goal.returns-clause-of_each_region
returns-clause-of_each_region c =
    same_replies _ _ (c.sort_by.ensures.stable region_below region_below_orders (answers_always _ _ _ (λ f a r g h. search rules)))
