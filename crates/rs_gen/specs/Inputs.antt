-- The input of a number.
use Rattle.std.specs.Prelude.{ℕ, zero, suc, ◌+◌, ◌%◌, List, [], ◌∷◌, None, map, take}
use Rattle.std.specs.List.{flat_map, range_with_len}
use Rattle.rs_entry.specs.declared.input.Boot.{Boot}
use Rattle.rs_entry.specs.declared.input.Log.{Log}
use Rattle.rs_entry.specs.declared.input.Store.{Store}
use Rattle.rs_entry.specs.declared.input.Input.{Input}
use Rattle.rs_entry.specs.Entries.{entry_of}
use Rattle.rs_gen.specs.declared.kept.Kept.{Kept}
use Rattle.rs_gen.specs.declared.kept.Kept.TheVariants as shares
use Rattle.rs_gen.specs.Rounds.{byte_in, child, child_entries, main_entries}

-- how many rounds there are
unfoldable pub rounds_of : ℕ → ℕ
rounds_of n = 1 + n % 2000

-- the rounds, counted from 0
abbrev pub rounds : ℕ → List ℕ
rounds n = range_with_len 0 (rounds_of n)

-- region 1, with all keys
abbrev pub whole : Boot
whole = record { region = 1; range = record { start = None; end = None }; peers = [] }

-- the log of region 1: the entries of all rounds
abbrev pub main_log : ℕ → Log
main_log n = record { region = 1; entries = flat_map (main_entries n) (rounds n) }

-- the log of a round's new region on a store that has this number of its entries; without entries there is no log
abbrev pub child_log : ℕ → ℕ → ℕ → List Log
child_log n t zero = []
child_log n t (suc k) = record { region = child t; entries = take (suc k) (map entry_of (child_entries n t)) } ∷ []

-- how many of its entries a store has: all three, or less in many rounds
unfoldable pub kept : Kept → ℕ → ℕ → ℕ
kept shares.All n t = 3
kept shares.Few n t = byte_in n t 12 % 4

-- a store with all of region 1 and its share of the new regions
abbrev pub store_of : ℕ → ℕ → Kept → Store
store_of n id share = record { id = id; regions = whole ∷ []; logs = main_log n ∷ flat_map (λ t. child_log n t (kept share n t)) (rounds n) }

-- the first store has all entries; the second lacks some of the new regions', which commits carry to it
abbrev pub made_of : ℕ → Input
made_of n = record { version = 1; stores = store_of n 1 shares.All ∷ store_of n 2 shares.Few ∷ [] }
