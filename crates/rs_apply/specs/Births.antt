-- The new regions of accepted splits, and the messages in which they are sent out.
use Rattle.std.specs.Prelude.{◌≡◌, ℕ, ◌+◌, List, [], ◌∷◌, ◌++◌, Option, Some, None}
use Rattle.rs_entry.specs.declared.entry.Body.{Body}
use Rattle.rs_entry.specs.declared.entry.Body.TheVariants as body
use Rattle.rs_entry.specs.declared.entry.Entry.{Entry}
use Rattle.rs_entry.specs.declared.entry.Side.{Side}
use Rattle.rs_entry.specs.declared.entry.Side.TheVariants as sides
use Rattle.rs_entry.specs.declared.input.Input.{Input}
use Rattle.rs_region.specs.Reshapings.{split_new}
use Rattle.rs_region.specs.Verdicts.{verdict}
use Rattle.rs_region.specs.declared.state.RegionState.{RegionState}
use Rattle.rs_region.specs.declared.verdict.Verdict.{Verdict}
use Rattle.rs_region.specs.declared.verdict.Verdict.TheVariants as verdicts
use Rattle.rs_part.specs.Parts.{Part}
use Rattle.rs_msg.specs.Maps.{Writes}
use Rattle.rs_check.specs.Lawfulness.{Placed}
use Rattle.rs_check.specs.Values.{part_at, entry_at}
use Rattle.rs_msg.specs.declared.messages.ApplyMsg.{ApplyMsg}
use Rattle.rs_msg.specs.declared.messages.ApplyMsg.TheVariants as apply
use Rattle.rs_msg.specs.Held.{IsHeld}
use Rattle.rs_apply.specs.Findings.{find_on}
use Rattle.rs_apply.specs.Steps.{each_of}

-- ---- which regions

-- the regions that an entry makes
abbrev pub made_in : Verdict → RegionState → Body → List RegionState
made_in verdicts.Accept s (body.Split side ids keys) = split_new s side ids keys
made_in v s b = []

-- the states of the regions that the entry makes at the part, if both are there
abbrev pub made_of : Option Part → Option Entry → List RegionState
made_of (Some v) (Some e) = made_in (verdict v.state e) v.state e.body
made_of v e = []

-- the regions that the entry after the index makes
unfoldable pub made_at : Input → ℕ → ℕ → List RegionState
made_at input a i = made_of (part_at input a i) (entry_at input a (i + 1))

-- the regions that the n entries after the index make
abbrev pub made_from : Input → ℕ → ℕ → ℕ → List RegionState
made_from input a i n = each_of (made_at input a) i n

-- ---- their states and maps

-- a region that begins with this state and this map, on the store of the address
pub record BornWith (input : Input) (a : ℕ) (s : RegionState) (m : Writes) : Type 0 where
  pub b : ℕ
  pub placed : Placed input a s.region b
  pub held : IsHeld input b 5 s m

-- the region has a map of writes, and is born with it
abbrev pub IsBorn : Input → ℕ → RegionState → Option Writes → Type 0
IsBorn input a s None = ⊥
IsBorn input a s (Some m) = BornWith input a s m

-- each of the regions is born with the map of writes at the same place
abbrev pub AreBorn : Input → ℕ → List RegionState → List Writes → Type 0
AreBorn input a [] maps = Unit {0}
AreBorn input a (s ∷ states) [] = ⊥
AreBorn input a (s ∷ states) (m ∷ maps) = BornWith input a s m × AreBorn input a states maps

-- the split region keeps one of the maps, which go from left to right, and the new regions get the others
abbrev pub IsKeeping : Side → List Writes → Writes → List Writes → Type 0
IsKeeping sides.Right all kept rest = all ≡ rest ++ kept ∷ []
IsKeeping sides.Left all kept rest = all ≡ kept ∷ rest

-- ---- what is sent

-- the message has a piece of the address
abbrev pub IsBirthMsg : Input → ℕ → ApplyMsg → Type 0
IsBirthMsg input b (apply.Task plan upto) = ⊥
IsBirthMsg input b (apply.Birth piece) = (piece.value.address ≡ b) × (piece.value.plan.now ≡ input)
IsBirthMsg input b (apply.CatchUpLogs plan target commit) = ⊥
IsBirthMsg input b (apply.SourceDone closed) = ⊥
IsBirthMsg input b (apply.Noop plan) = ⊥

-- one birth to each of the regions, in their order
abbrev pub AreBirths : Input → ℕ → List RegionState → List (ℕ × ApplyMsg) → Type 0
AreBirths input a [] [] = Unit {0}
AreBirths input a [] (p ∷ sent) = ⊥
AreBirths input a (s ∷ states) [] = ⊥
AreBirths input a (s ∷ states) (p ∷ sent) = (find_on input a s.region ≡ Some p.0) × IsBirthMsg input p.0 p.1 × AreBirths input a states sent

-- the outbox gains the births of these regions, in their order, and no other message to an apply machine
pub record AddsBirths (input : Input) (a : ℕ) (states : List RegionState) (old new : List (ℕ × ApplyMsg)) : Type 0 where
  pub sent : List (ℕ × ApplyMsg)
  pub is : new ≡ old ++ sent
  pub births : AreBirths input a states sent
