use Rattle.std.proofs.Common.{rules, ◌≡◌, Some, ap}
use Rattle.rs_msg.specs.Maps.{items_at}
use Rattle.rs_apply.specs.Findings.{boot_of}
use Rattle.rs_apply.proofs.Opens.{held_at_start}
use Rattle.rs_apply.proofs.births.opened.Goals as goal

pub new-requires-2-clause-held : goal.new-requires-2-clause-held
new-requires-2-clause-held c =
    let found : boot_of c.args.plan.now c.args.address ≡ Some c.in-Some.boot.now = search rules in
    held_at_start c.args.plan.now c.args.address c.in-Some.boot.now c.boot-state.result c.new.result found (search rules) (λ q. ap (λ m. items_at m q) c.new.ensures)
