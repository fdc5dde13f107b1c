-- An input with addresses has stores.
use Rattle.std.proofs.Common.{ℕ, ◌<◌, ◌≡◌, List, [], ◌∷◌, length, refl, subst, arith}
use Rattle.std.specs.List.{flat_map}
use Rattle.rs_entry.specs.declared.input.Input.{Input}
use Rattle.rs_entry.specs.declared.input.Store.{Store}
use Rattle.rs_check.specs.Plans.{rows_of, store_rows}

stores_of : (stores : List Store) (a : ℕ) → a < length (flat_map store_rows stores) → 0 < length stores
stores_of [] a below = absurd (omega (arith, below))
stores_of (s ∷ ss) a below = omega arith

pub some_store : (input : Input) (a : ℕ) → a < length (rows_of input) → 0 < length input.stores
unfolding rows_of
some_store input a below = stores_of input.stores a below
