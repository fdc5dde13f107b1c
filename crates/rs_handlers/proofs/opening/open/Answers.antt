use Rattle.rs_handlers.proofs.opening.open.Goals as goal

pub returns-clause-name : goal.returns-clause-name
returns-clause-name g c = c.in_ok-router.ensures.name c.args.plan.now c.requires.name
