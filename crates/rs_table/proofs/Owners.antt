-- The live region that holds a key.
use Rattle.std.proofs.Common.{◌≡◌, ℕ, List, Option, Some, None, refl}
use Rattle.std.specs.Prelude.{find, MatchOption}
use Rattle.std.proofs.lemmas.Bool.{and_from, and_parts, both_ways}
use Rattle.rs_key.specs.Ranges.{holds}
use Rattle.rs_region.specs.declared.state.RegionState.{RegionState}
use Rattle.rs_store.specs.Stores.{is_live}
use Rattle.rs_part.proofs.Members.{among_find, find_none}
use Rattle.rs_check.specs.Tables.{owner, owns}
use Rattle.rs_check.specs.Tables.{region_of as owner_id}
use Rattle.rs_table.specs.Covers.{IsOwner, NoneOwns}

pub owner_is : (rows : List RegionState) (key : List ℕ) → MatchOption (owner rows key) (NoneOwns rows key) (IsOwner rows key)
owner_is rows key = go (find (owns key) rows) refl where
  go : (o : Option RegionState) → find (owns key) rows ≡ o → MatchOption (owner_id o) (NoneOwns rows key) (IsOwner rows key)
  go None e = λ s i live has. both_ways (owns key s) (find_none (owns key) rows s e i) (and_from (is_live s.mode) (holds s.range key) live has)
  go (Some s) e =
      let w = among_find (owns key) rows s e in
      let h = and_parts (is_live s.mode) (holds s.range key) w.1 in
      record { state = s; among = w.0; named = refl; live = h.0; holds = h.1 }
