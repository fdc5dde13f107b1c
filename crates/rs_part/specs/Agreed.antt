-- What two orders of a store agree on.
use Rattle.std.specs.Prelude.{◌≡◌, ℕ, List, Option, Some, None}
use Rattle.rs_store.specs.declared.regions.Made.{Made}
use Rattle.rs_store.specs.Stores.{Applied}
use Rattle.rs_part.specs.Items.{history_of}
use Rattle.rs_part.specs.Whole.{replies_of}

-- not made in either, or made in both, with one state and one applied index
abbrev pub SameMade : Option Made → Option Made → Type 0
SameMade None None = Unit {0}
SameMade None (Some s) = ⊥
SameMade (Some r) None = ⊥
SameMade (Some r) (Some s) = (r.state ≡ s.state) × (r.applied ≡ s.applied)

-- each region, its replies, and the history of each key
pub record Agreed (h k : Applied) : Type 0 where
  pub regions : (id : ℕ) → SameMade (h.region id) (k.region id)
  pub replies : (id : ℕ) → replies_of h.replies id ≡ replies_of k.replies id
  pub histories : (key : List ℕ) → history_of h.writes key ≡ history_of k.writes key
