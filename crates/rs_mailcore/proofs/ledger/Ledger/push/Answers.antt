use Rattle.std.proofs.Common.{◌+◌, slice_set, ap, ◌∙◌}
use Rattle.rs_mailcore.specs.declared.step.Step.TheVariants.{Push}
use Rattle.rs_mailcore.specs.Keeping.{moment}
use Rattle.rs_mailcore.proofs.Kept.{kept}
use Rattle.rs_mailcore.proofs.ledger.Ledger.push.Goals as goal

pub returns-in-Ok-clause-step : goal.returns-in-Ok-clause-step
returns-in-Ok-clause-step g c = let m = moment c.args.self.now in let x = c.thread_at-was.result in
    kept m (moment c.put.new.self) c.args.thread (Push c.args.message) c.requires.sound c.requires.enabled x c.thread_at-was.ensures
    (c.put.ensures ∙ ap (λ q. record m { queue = q; threads = slice_set m.threads c.args.thread (record x { pushed = x.pushed + 1 }) }) c.in-Ok.ensures.items)
