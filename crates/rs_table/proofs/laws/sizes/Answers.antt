use Rattle.std.proofs.Common.{arith}
use Rattle.rs_table.proofs.Sizes.{size_few}
use Rattle.rs_table.proofs.laws.sizes.Goals as goal

pub returns : goal.returns
returns c n cut = size_few c.args.plan.now c.input.ensures.formed c.input.ensures.lawful c.args.place n cut (let e = c.count.ensures in omega (arith, e))
