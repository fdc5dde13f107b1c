-- How much a check finds in the input of a number.
use Rattle.std.specs.Prelude.{◌≡◌, ℕ, ◌+◌, ◌-◌, ◌*◌, length}
use Rattle.std.specs.List.{sum_by}
use Rattle.rs_entry.specs.declared.input.Input.{Input}
use Rattle.rs_store.specs.Stores.{Broke, Stepped, Went, last}
use Rattle.rs_check.specs.Plans.{rows_of}
use Rattle.rs_gen.specs.Inputs.{rounds_of}

-- the accepted single writes of a store's order
abbrev pub writes_in : Stepped → ℕ
writes_in (Went g) = length g.writes
writes_in (Broke fault) = 0

-- the sizes of the input that is made for n entries
pub record HasCounts (n : ℕ) (input : Input) : Type 0 where
  pub stores : length input.stores ≡ 2
  -- on each store region 1, and one region more in each round
  pub addresses : length (rows_of input) ≡ 2 * (1 + rounds_of n)
  -- on each store four entries of region 1 in each round, and three of the other
  pub entries : sum_by (λ row. row.stop - 5) (rows_of input) ≡ 14 * rounds_of n
  -- and with these three writes and three
  pub writes : sum_by (λ store. writes_in (last store)) input.stores ≡ 12 * rounds_of n
