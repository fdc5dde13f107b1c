-- Which regions stand before a merge of a source.
use Rattle.std.specs.Prelude.{ℕ, ◌==◌, Bool, false, List, [], ◌∷◌, ◌++◌, filter, Option, Some, None, if◌then◌else◌}
use Rattle.std.specs.Ordering.{nat_cmp}
use Rattle.std.specs.BTreeMap.{get}
use Rattle.rs_entry.specs.declared.input.Store.{Store}
use Rattle.rs_store.specs.declared.carriers.Carriers.{Carriers}
use Rattle.rs_store.specs.Stores.{Applied, Merge, stands}

-- the ids; none if there is no list
abbrev pub or_nil : Option (List ℕ) → List ℕ
or_nil None = []
or_nil (Some ids) = ids

-- regions by source
abbrev pub BySource : Type 0
BySource = ℕ → List ℕ

-- the targets whose commits carry entries of the source
abbrev pub carriers : Carriers → BySource
carriers c source = or_nil (get nat_cmp c.by_source source)

-- no source has a target
abbrev pub no_carriers : BySource
no_carriers source = []

-- the carriers with one more target of the source
abbrev pub with_carrier : BySource → ℕ → ℕ → BySource
with_carrier f source id q = if q == source then f q ++ id ∷ [] else f q

-- the merge is one of the source
abbrev pub is_for : ℕ → Option Merge → Bool
is_for source None = false
is_for source (Some m) = m.source == source

-- those of these regions that stand before a merge of the source
abbrev pub standing_for : Store → Applied → List ℕ → BySource
standing_for store g ids source = filter (λ t. is_for source (stands store g t)) ids
