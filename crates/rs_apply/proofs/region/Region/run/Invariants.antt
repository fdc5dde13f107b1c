use Rattle.std.proofs.Common.{◌≡◌, ◌+◌, ◌≤◌, ◌⊎◌}
use Rattle.std.specs.List.{All}
use Rattle.rs_apply.specs.Runs.{HasRun}
use Rattle.rs_apply.proofs.region.Region.run.Given as goal

abbrev pub invariant-loop-step : goal.invariant-loop-step
invariant-loop-step l =
    let self = l.fn.self in
    (l.region.plan ≡ self.plan) × (l.region.address ≡ self.address) × (l.region.index ≡ self.index + l.step)
    × ((l.region.index ≡ self.index) ⊎ (l.region.index ≤ l.last))
    × All (λ x. x.plan.now ≡ self.plan.now) l.closed.items
    × HasRun self.plan self.address self.index l.step l.initial.closed.items l.initial.out l.closed.items l.out
