-- What a look-up answers.
use Rattle.std.specs.Prelude.{◌≡◌, ℕ, List, Option, Some, MatchOption}
use Rattle.rs_entry.specs.declared.input.Input.{Input}
use Rattle.rs_check.specs.Tables.{owner}
use Rattle.rs_table.specs.Covers.{IsOwner, NoneOwns}
use Rattle.rs_table.specs.Cuts.{IsCut, size_of}
use Rattle.rs_table.specs.Rows.{table_of}
use Rattle.rs_view.specs.declared.found.Found.{Found}
use Rattle.rs_view.specs.declared.store_cut.StoreCut.{StoreCut}
use Rattle.rs_view.specs.Cuts.{Knows, Within, numbers_of}

-- the key's answer by the cut
pub record Answers (cut : StoreCut) (key : List ℕ) (found : Found) : Type 0 where
  pub is_cut : IsCut cut.input cut.place (numbers_of cut)
  -- the region is that of the cut's table, and none exactly where no live region of it holds the key
  pub region : found.region ≡ owner (table_of cut.input cut.place (numbers_of cut)) key
  pub holder : MatchOption found.region (NoneOwns (table_of cut.input cut.place (numbers_of cut)) key) (IsOwner (table_of cut.input cut.place (numbers_of cut)) key)
  pub size : found.size ≡ size_of cut.input (numbers_of cut)

-- the key's answer by the cut of this store that is published at one step: the cut contains all that was known before, and is known after
pub record Finds (input : Input) (place : ℕ) (before : Option StoreCut) (key : List ℕ) (found : Found) (after : Option StoreCut) : Type 0 where
  pub cut : StoreCut
  pub store : (cut.input ≡ input) × (cut.place ≡ place)
  pub answers : Answers cut key found
  pub contains : (c : StoreCut) → Knows before c → Within c cut
  pub known : after ≡ Some cut
