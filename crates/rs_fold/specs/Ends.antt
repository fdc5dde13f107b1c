-- How a store's order goes on.
use Rattle.std.specs.Prelude.{◌≡◌, List, map, None}
use Rattle.std.specs.List.{All}
use Rattle.rs_entry.specs.declared.input.Store.{Store}
use Rattle.rs_entry.specs.declared.outcome.ReplyLine.{ReplyLine}
use Rattle.rs_store.specs.Stores.{ByRegion, Stepped, Went, Broke, Wrote, ids_of, last}
use Rattle.rs_store.specs.Ends.{fault_at_end}
use Rattle.rs_entry.specs.declared.outcome.StoreOutcome.{StoreOutcome}
use Rattle.rs_history.specs.Histories.{histories_of}
use Rattle.rs_history.specs.Outcomes.{reply_line, lines_in, removed_in, shown, outcome_with}

-- the store's canonical order and its end meet no fault
abbrev pub IsLawful : Store → Type 0
IsLawful store = fault_at_end store (last store) ≡ None

abbrev pub AreLawful : List Store → Type 0
AreLawful stores = All IsLawful stores

-- it went without a fault to these regions, and left these writes and replies
abbrev pub WentSo : Stepped → ByRegion → List Wrote → List ReplyLine → Type 0
WentSo (Went g) f ws ys = (g.region ≡ f) × (g.writes ≡ ws) × (map reply_line g.replies ≡ ys)
WentSo (Broke fault) f ws ys = ⊥

-- what comes of a store that has come to these regions, writes and replies
abbrev pub outcome_left : Store → ByRegion → List Wrote → List ReplyLine → StoreOutcome
outcome_left store f ws ys = outcome_with store.id (lines_in store f (ids_of store)) ys (histories_of (shown (removed_in f (ids_of store)) ws))
