use Rattle.std.proofs.Common.{◌≡◌, ◌<◌, All, map}
use Rattle.std.specs.List.{range_with_len}
use Rattle.rs_check.specs.Values.{count_of}
use Rattle.rs_handlers.specs.Delivering.{opening}
use Rattle.rs_handlers.proofs.deliveries.Deliveries.new.Given as goal

abbrev pub invariant-loop-address : goal.invariant-loop-address
invariant-loop-address l = All (λ told. told.address < count_of l.plan) l.waiting.items × (l.waiting.items ≡ map opening (range_with_len 0 l.address))
