use Rattle.std.proofs.Common.{rules, sym, subst}
use Rattle.atomic_table.specs.Table.{Splits}
use Rattle.rs_mailbox.specs.Making.{with_more, newest}
use Rattle.rs_mailbox.specs.Order.{IsOrderly}
use Rattle.rs_mailbox.proofs.Making.{splits}
use Rattle.rs_mailbox.proofs.handover.Handover.next_hand.Goals as goal

pub split_seat-seat-requires : goal.split_seat-seat-requires
split_seat-seat-requires g c = let r = c.requires.first in let v = c.args.first.now.me.0 in (
  r.0.0.0,
  search rules,
  subst (λ n. Splits (IsOrderly g.T.Named.name g.T.HasCount.count c.args.self.now.table.shared.key) n v (with_more v) (newest v)) (sym r.1) (splits g.T.Named.name g.T.HasCount.count c.args.self.now.table.shared.key v r.0.0.2 r.0.0.3 r.2),
)
