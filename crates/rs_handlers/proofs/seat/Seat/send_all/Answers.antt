use Rattle.std.proofs.Common.{◌≡◌, [], rules, sym, subst}
use Rattle.std.proofs.lemmas.Grind.{common_steps}
use Rattle.std.proofs.lemmas.List.{nil_from_length}
use Rattle.rs_poll.specs.Handing.{all_known, HandsAll}
use Rattle.rs_handlers.proofs.Handing.{hands_none}
use Rattle.rs_handlers.proofs.seat.Seat.send_all.Goals as goal

pub returns-then-is_empty-clause-sent : goal.returns-then-is_empty-clause-sent
returns-then-is_empty-clause-sent g c =
    let none : c.args.messages ≡ [] = nil_from_length c.args.messages (search (rules, common_steps)) in
    let stations = all_known c.args.self.now.desks.stations.items in
    subst (λ messages. HandsAll messages stations stations) (sym none) (hands_none stations)
