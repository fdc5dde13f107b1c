use Rattle.std.proofs.Common.{◌≡◌, ℕ, take}
use Rattle.std.specs.Prelude.{map}
use Rattle.std.specs.List.{list_any}
use Rattle.rs_check.specs.Laws.{is_id}
use Rattle.rs_check.specs.Namings.{namings, is_there}
use Rattle.rs_check.proofs.reused_ids.boot_ids.Given as goal

abbrev pub invariant-loop-root : goal.invariant-loop-root
invariant-loop-root l = (id : ℕ) → is_there (namings l.boots id) ≡ list_any (is_id id) (map (λ b. b.region) (take l.root-index l.roots))
