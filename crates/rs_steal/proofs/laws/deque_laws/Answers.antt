use Rattle.rs_steal.specs.Rule.{addresses}
use Rattle.rs_steal.proofs.Meaning.{in_turn, alone}
use Rattle.rs_steal.proofs.Onces.{each_once}
use Rattle.rs_steal.proofs.laws.deque_laws.Goals as goal

pub returns-clause-turn : goal.returns-clause-turn
returns-clause-turn c = λ items views v h at. in_turn (addresses items) views v h at

pub returns-clause-once : goal.returns-clause-once
returns-clause-once c = λ items views h. each_once (addresses items) views h

pub returns-clause-alone : goal.returns-clause-alone
returns-clause-alone c = alone
