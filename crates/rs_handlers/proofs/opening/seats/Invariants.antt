use Rattle.std.proofs.Common.{◌≡◌, ◌+◌, All, length}
use Rattle.rs_router.specs.Desks.{AreDesksOf, AllCalm}
use Rattle.rs_router.specs.Passes.{IsNewPass}
use Rattle.rs_handlers.proofs.opening.seats.Given as goal

abbrev pub invariant-loop-place : goal.invariant-loop-place
invariant-loop-place g l =
    (length l.desks.items + l.place ≡ l.count) × (length l.passes.items + l.place ≡ l.count) × (length l.seats.items ≡ l.place)
    × All (λ d. AreDesksOf g.F.Named.name l.router.mailboxes.items d.stations.items) l.desks.items
    × All (λ d. AllCalm d.stations.items) l.desks.items
    × All (IsNewPass l.router.scheduler.queue l.router.scheduler.addresses) l.passes.items
    × All (λ seat. seat.plan.now ≡ l.plan) l.seats.items
