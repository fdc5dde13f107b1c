use Rattle.std.proofs.Common.{◌≡◌, drop}
use Rattle.std.specs.Prelude.{map}
use Rattle.rs_store.specs.Stores.{add_all}
use Rattle.rs_store.proofs.ids.add_boots.Given as goal

abbrev pub invariant-loop-boot : goal.invariant-loop-boot
invariant-loop-boot l = add_all l.ids.items (map (λ b. b.region) (drop l.boot-index l.boots)) ≡ add_all l.fn.ids.items (map (λ b. b.region) l.boots)
