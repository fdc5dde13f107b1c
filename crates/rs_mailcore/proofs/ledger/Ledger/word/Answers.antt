use Rattle.rs_mailcore.specs.Keeping.{moment}
use Rattle.rs_mailcore.proofs.Awake.{awake}
use Rattle.rs_mailcore.proofs.ledger.Ledger.word.Goals as goal

pub returns-clause-awake : goal.returns-clause-awake
returns-clause-awake g c = awake (moment c.args.self.now) c.requires.0
