-- Which writes are shown.
use Rattle.std.proofs.Common.{◌≡◌, refl, ap, List, [], ◌∷◌}
use Rattle.std.specs.Prelude.{length}
use Rattle.rs_key.specs.Ranges.{Bounds}
use Rattle.rs_store.specs.Stores.{Wrote}
use Rattle.rs_history.specs.Outcomes.{shown}

-- where there is no range all are
none_hidden : (ws : List Wrote) → ws ≡ shown [] ws
none_hidden [] = refl
none_hidden (w ∷ ws) = ap (λ (us : List Wrote). w ∷ us) (none_hidden ws)

pub all_shown : (ranges : List Bounds) (ws : List Wrote) → length ranges ≡ 0 → ws ≡ shown ranges ws
all_shown [] ws h = none_hidden ws
all_shown (r ∷ rs) ws h = absurd cc
