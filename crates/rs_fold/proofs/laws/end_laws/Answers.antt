use Rattle.rs_fold.proofs.OrderLaws.{rests}
use Rattle.rs_fold.proofs.laws.end_laws.Goals as goal

pub returns : goal.returns
returns c = λ differ overlap reused store i. rests c.args.input.now c.requires.formed differ overlap reused store i
