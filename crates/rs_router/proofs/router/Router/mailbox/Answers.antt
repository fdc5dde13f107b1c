use Rattle.std.proofs.Common.{sym, ◌∙◌}
use Rattle.rs_router.proofs.Places.{at_map}
use Rattle.rs_router.proofs.router.Router.mailbox.Goals as goal

pub returns-clause-address : goal.returns-clause-address
returns-clause-address g c =
    sym (at_map (λ b. b.address) c.args.self.now.mailboxes.items c.args.address c.index.result.now c.requires.below c.index.ensures) ∙ c.args.self.now.addressed c.args.address c.requires.below
