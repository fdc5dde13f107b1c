-- The inputs of the tests: a region that is split in four, and a region that takes over its neighbour.
use Rattle.std.specs.Prelude.{ℕ, List, [], ◌∷◌, Option, Some, None}
use Rattle.rs_entry.specs.declared.entry.Body.{Body}
use Rattle.rs_entry.specs.declared.entry.Body.TheVariants as body
use Rattle.rs_entry.specs.declared.entry.Carried.{Carried}
use Rattle.rs_entry.specs.declared.entry.CarriedBody.TheVariants as carried
use Rattle.rs_entry.specs.declared.entry.Entry.{Entry}
use Rattle.rs_entry.specs.declared.entry.Op.TheVariants as op
use Rattle.rs_entry.specs.declared.entry.Side.TheVariants as side
use Rattle.rs_entry.specs.declared.input.Boot.{Boot}
use Rattle.rs_entry.specs.declared.input.Input.{Input}
use Rattle.rs_entry.specs.declared.input.Log.{Log}

-- an entry of the first epoch
abbrev pub entry : ℕ → Body → Entry
entry index b = record { index = index; epoch = record { conf_ver = 1; version = 1 }; body = b }

-- the keys below g, m and t go to the regions 2, 3 and 4
abbrev pub split_in_four : Body
split_in_four = body.Split side.Right (2 ∷ 3 ∷ 4 ∷ []) ((0x67 ∷ []) ∷ (0x6d ∷ []) ∷ (0x74 ∷ []) ∷ [])

-- the key z gets the value 1
abbrev pub written : Body
written = body.Write (op.Put (0x7a ∷ []) (0x31 ∷ []) ∷ [])

-- the region's prepare, as a commit carries it
abbrev pub carried_prepare : Carried
carried_prepare = record { index = 6; epoch = record { conf_ver = 1; version = 1 }; body = carried.Prepare 2 }

-- a boot region with these bounds and no peers
abbrev pub boot : ℕ → Option (List ℕ) → Option (List ℕ) → Boot
boot region start end = record { region = region; range = record { start = start; end = end }; peers = [] }

-- a log with these entries
abbrev pub log : ℕ → List Entry → Log
log region entries = record { region = region; entries = entries }

-- an input with one store
abbrev pub one_store : List Boot → List Log → Input
one_store regions logs = record { version = 1; stores = record { id = 1; regions = regions; logs = logs } ∷ [] }

-- a region that splits in four and then writes
abbrev pub split : Input
split = one_store (boot 1 None None ∷ []) (log 1 (entry 6 split_in_four ∷ entry 7 written ∷ []) ∷ [])

-- the region below m is taken over by the one from m on
abbrev pub merge : Input
merge = one_store (boot 1 None (Some (0x6d ∷ [])) ∷ boot 2 (Some (0x6d ∷ [])) None ∷ [])
    (log 1 (entry 6 (body.Prepare 2) ∷ []) ∷ log 2 (entry 6 (body.Commit 1 6 (carried_prepare ∷ [])) ∷ []) ∷ [])
