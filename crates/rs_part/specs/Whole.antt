-- What a store keeps to in each state, in whatever order it takes its entries.
use Rattle.std.specs.Prelude.{◌≡◌, ℕ, zero, suc, ◌+◌, ◌-◌, ◌==◌, ◌⊎◌, List, [], ◌++◌, Some, None}
use Rattle.std.specs.List.{filter}
use Rattle.rs_entry.specs.declared.entry.Entry.{Entry}
use Rattle.rs_entry.specs.declared.input.Store.{Store}
use Rattle.rs_region.specs.Verdicts.{verdict}
use Rattle.rs_store.specs.declared.regions.Made.{Made}
use Rattle.rs_store.specs.Stores.{Applied, Replied, Wrote, opening, replied, reply_to}
use Rattle.rs_part.specs.Counting.{MadeIn}
use Rattle.rs_part.specs.Held.{Held, SameKeys}
use Rattle.rs_part.specs.Items.{history_of}
use Rattle.rs_part.specs.Parts.{Part}
use Rattle.rs_part.specs.Ranges.{AllIn}
use Rattle.rs_part.specs.Scripts.{Script, IsPart}
use Rattle.rs_part.specs.Settled.{Settled}
use Rattle.rs_part.specs.Sound.{Sound}

-- what a step of region id, which was r, by the entry e leaves: of the keys held, the writes and the replies
pub record Leaves (g : Applied) (id : ℕ) (r : Made) (e : Entry) (h : Applied) : Type 0 where
  pub keys : SameKeys g h
  pub new : List Wrote
  pub writes : h.writes ≡ g.writes ++ new
  pub within : AllIn r.state.range new
  pub n : Made
  pub now : h.region id ≡ Some n
  pub replies : h.replies ≡ g.replies ++ replied id n.applied (reply_to (verdict r.state e) e.body n.state)

-- the replies of a region in their order
abbrev pub replies_of : List Replied → ℕ → List Replied
replies_of replies id = filter (λ y. id == y.region) replies

-- the region's replies were these before the entry after the index, and are those after it
pub record Answer (script : Script) (id index : ℕ) (before after : List Replied) : Type 0 where
  pub part : Part
  pub entry : Entry
  pub next : Part
  pub is_part : IsPart script id index part
  pub line : script.line id (index + 1) ≡ Some entry
  pub is_next : IsPart script id (index + 1) next
  pub reply : after ≡ before ++ replied id (index + 1) (reply_to (verdict part.state entry) entry.body next.state)

-- the replies to a region's first n entries, which begin behind index 5
abbrev pub Answers : Script → ℕ → ℕ → List Replied → Type 0
Answers script id zero replies = replies ≡ []
Answers script id (suc n) replies = (before : List Replied) × (Answers script id n before) × (Answer script id (n + 5) before replies)

-- what holds of a store as a whole at each step
pub record Whole (script : Script) (store : Store) (g : Applied) : Type 0 where
  pub known : MadeIn store g
  -- the unmerged regions hold the keys that the regions held at the start
  pub keys : SameKeys (opening store) g
  -- what was written lies in them
  pub kept : (key : List ℕ) → (history_of g.writes key ≡ []) ⊎ Held g key
  -- the replies are those that the script says
  pub answered : (x : ℕ) (r : Made) → g.region x ≡ Some r → Answers script x (r.applied - 5) (replies_of g.replies x)
  pub silent : (x : ℕ) → g.region x ≡ None → replies_of g.replies x ≡ []

-- what holds of a store after any steps
pub record Invariant (script : Script) (store : Store) (g : Applied) : Type 0 where
  pub sound : Sound script store g
  pub settled : Settled script store g
  pub whole : Whole script store g
