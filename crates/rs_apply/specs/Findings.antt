-- Where a machine sends its messages.
use Rattle.std.specs.List.{find}
use Rattle.std.specs.Prelude.{ℕ, ◌==◌, Option, Some, None, position}
use Rattle.rs_entry.specs.declared.input.Boot.{Boot}
use Rattle.rs_entry.specs.declared.input.Input.{Input}
use Rattle.rs_entry.specs.declared.input.Store.{Store}
use Rattle.rs_check.specs.Plans.{address_of, is_at, rows_of}
use Rattle.rs_check.specs.Values.{region_of, store_at}

-- the address of a region on the store of an address
abbrev pub find_on : Input → ℕ → ℕ → Option ℕ
find_on input a region = position (is_at (address_of input a).0 region) (rows_of input)

-- the boot region with this id in the store, if both exist
abbrev pub boot_in : Option Store → ℕ → Option Boot
boot_in None region = None
boot_in (Some store) region = find (λ b. b.region == region) store.regions

-- what the address's store says of the region, where it has it from the start
abbrev pub boot_of : Input → ℕ → Option Boot
boot_of input a = boot_in (store_at input a) (region_of input a)
