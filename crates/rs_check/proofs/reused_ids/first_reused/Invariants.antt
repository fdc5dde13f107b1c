use Rattle.std.proofs.Common.{◌≡◌, ℕ, take, drop, []}
use Rattle.std.specs.Prelude.{map}
use Rattle.std.specs.List.{list_any, flat_map}
use Rattle.rs_check.specs.Laws.{is_named, names_in, first_reused}
use Rattle.rs_check.specs.Namings.{namings, is_other}
use Rattle.rs_check.proofs.reused_ids.first_reused.Given as goal

abbrev pub invariant-loop-said : goal.invariant-loop-said
invariant-loop-said l = record {
  named : (id r x : ℕ) → is_other r x (namings l.names id) ≡ list_any (is_named id r x) (flat_map names_in (take l.said-index l.all));
  so_far : first_reused (map (λ b. b.region) l.roots) [] l.all ≡ first_reused (map (λ b. b.region) l.roots) (flat_map names_in (take l.said-index l.all)) (drop l.said-index l.all);
}
