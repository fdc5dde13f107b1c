use Rattle.rs_region.proofs.EpochSteps.{split_raises, prepare_raises, rollback_raises, commit_raises, conf_raises}
use Rattle.rs_region.proofs.laws.epoch_laws.Goals as goal

pub returns-clause-split : goal.returns-clause-split
returns-clause-split c = split_raises

pub returns-clause-prepare : goal.returns-clause-prepare
returns-clause-prepare c = prepare_raises

pub returns-clause-rollback : goal.returns-clause-rollback
returns-clause-rollback c = rollback_raises

pub returns-clause-commit : goal.returns-clause-commit
returns-clause-commit c = commit_raises

pub returns-clause-conf : goal.returns-clause-conf
returns-clause-conf c = conf_raises
