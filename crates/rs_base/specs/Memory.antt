-- Devices over memory as contracts see them, and what their calls do.
use Rattle.std.specs.Prelude.{◌≡◌, ℕ, ◌-◌, ◌<◌, min, List, [], ◌∷◌, length, Contains, ◌⊎◌}
use Rattle.rs_base.specs.Counts.{one_more}

-- a source over memory: the bytes left, how many it gives in a call at most, the numbers of the
-- calls that fail, and how many calls and faults there were
pub record SourceState : Type 0 where
  pub left : List ℕ
  pub most : ℕ
  pub fails : List ℕ
  pub calls : ℕ
  pub faults : ℕ

-- a sink over memory: the bytes taken, how many it takes in all and in a call at most, the numbers
-- of the calls that fail, and how many calls and faults there were
pub record SinkState : Type 0 where
  pub taken : List ℕ
  pub room : ℕ
  pub most : ℕ
  pub fails : List ℕ
  pub calls : ℕ
  pub faults : ℕ

-- the next read fails: its number is listed
abbrev pub ReadFails : SourceState → Type 0
ReadFails source = Contains source.fails (one_more source.calls)

-- how many bytes a read gives that doesn't fail, into a buffer of this length
abbrev pub given_of : SourceState → ℕ → ℕ
given_of source len = min (min len source.most) (length source.left)

-- the next write of this piece fails: its number is listed, or the piece isn't empty and all room
-- is taken
abbrev pub WriteFails : SinkState → List ℕ → Type 0
WriteFails sink piece =
    Contains sink.fails (one_more sink.calls) ⊎ ((0 < length piece) × (length sink.taken ≡ sink.room))

-- how many bytes a write takes that doesn't fail, of a piece of this length
abbrev pub accepted_of : SinkState → ℕ → ℕ
accepted_of sink len = min (min len sink.most) (sink.room - length sink.taken)

-- a number where no call is listed, and else 0
abbrev pub unless_listed : List ℕ → ℕ → ℕ
unless_listed [] count = count
unless_listed (call ∷ calls) count = 0

-- how many more bytes are taken for sure: the room that is left, where no call is to fail
abbrev pub assured_of : SinkState → ℕ
assured_of sink = unless_listed sink.fails (sink.room - length sink.taken)
