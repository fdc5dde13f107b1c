use Rattle.std.proofs.Common.{rules}
use Rattle.std.proofs.lemmas.List.Sorted.{answers_always}
use Rattle.rs_history.specs.Writes.{key_below}
use Rattle.rs_history.proofs.KeyOrder.{key_below_orders, same_history}
use Rattle.rs_history.proofs.writes.sort_by_key.Goals as goal

pub returns-clause-sorted : goal.returns-clause-sorted
returns-clause-sorted c =
    c.in_ok-sort_by.ensures.sorted key_below key_below_orders (answers_always _ _ _ (λ f a r g h. search rules))

pub returns-clause-of_each_key : goal.returns-clause-of_each_key
returns-clause-of_each_key c =
    same_history _ _ (c.sort_by.ensures.stable key_below key_below_orders (answers_always _ _ _ (λ f a r g h. search rules)))
