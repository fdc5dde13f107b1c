use Rattle.std.proofs.Common.{◌≡◌, ℕ, length, get_or}
use Rattle.std.specs.Prelude.{None}
use Rattle.rs_handlers.proofs.gathered.Gathered.new.Given as goal

abbrev pub invariant-loop-place : goal.invariant-loop-place
invariant-loop-place l = (length l.outcomes.items ≡ l.place) × ((place : ℕ) → get_or l.outcomes.items place None ≡ None)
