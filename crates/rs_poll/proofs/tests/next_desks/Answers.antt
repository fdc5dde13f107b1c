use Rattle.std.proofs.Common.{rules}
use Rattle.rs_router.specs.Desks.{AllCalm, AreDesksOf}
use Rattle.rs_router.proofs.Fronts.{front, last}
use Rattle.rs_poll.proofs.tests.next_desks.Goals as goal

pub returns-clause-rest : goal.returns-clause-rest
returns-clause-rest g c =
    front (λ d. AreDesksOf (λ t. 7) c.args.router.now.mailboxes.items d.stations.items) c.args.rows.now c.pop.new.self c.in_ok-desks.desks (search rules) c.requires.desks

pub returns-clause-rest_calm : goal.returns-clause-rest_calm
returns-clause-rest_calm g c = front (λ d. AllCalm d.stations.items) c.args.rows.now c.pop.new.self c.in_ok-desks.desks (search rules) c.requires.calm

pub returns-clause-desks : goal.returns-clause-desks
returns-clause-desks g c =
    last (λ d. AreDesksOf (λ t. 7) c.args.router.now.mailboxes.items d.stations.items) c.args.rows.now c.pop.new.self c.in_ok-desks.desks (search rules) c.requires.desks

pub returns-clause-calm : goal.returns-clause-calm
returns-clause-calm g c = last (λ d. AllCalm d.stations.items) c.args.rows.now c.pop.new.self c.in_ok-desks.desks (search rules) c.requires.calm
