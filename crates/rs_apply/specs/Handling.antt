-- What a message changes.
use Rattle.std.specs.Prelude.{◌≡◌, ℕ, ◌-◌, ◌==◌, ◌&&◌, Bool, true, false, not, List, [], ◌∷◌, ◌++◌, max, Option, Some, None, if◌then◌else◌}
use Rattle.std.specs.List.{list_any}
use Rattle.rs_entry.specs.declared.input.Boot.{Boot}
use Rattle.rs_entry.specs.declared.input.Input.{Input}
use Rattle.rs_entry.specs.declared.outcome.Mode.{Mode}
use Rattle.rs_entry.specs.declared.outcome.Mode.TheVariants as mode
use Rattle.rs_check.specs.Plans.{address_of, ends_of, stop_of}
use Rattle.rs_check.specs.Values.{region_of}
use Rattle.rs_msg.specs.declared.closed.Closed.{Closed}
use Rattle.rs_msg.specs.declared.messages.ApplyMsg.{ApplyMsg}
use Rattle.rs_msg.specs.declared.messages.ApplyMsg.TheVariants as apply
use Rattle.rs_apply.specs.declared.progress.Life.{Life}
use Rattle.rs_apply.specs.declared.progress.Life.TheVariants as life
use Rattle.rs_apply.specs.Machines.{has_merge}
use Rattle.rs_apply.specs.Merges.{is_of, merges_from}

-- the greatest index that a Task has named
abbrev pub named_after : ℕ → ApplyMsg → ℕ
named_after named (apply.Task plan upto) = max named upto
named_after named msg = named

-- the mode is that of a region merged into the target
abbrev pub is_merged_into : ℕ → Mode → Bool
is_merged_into target (mode.Merged t) = t == target
is_merged_into target m = false

-- the merge is the one by which the plan ends the region
abbrev pub ends_by : Input → ℕ → ℕ → ℕ → Bool
ends_by input a target commit = is_merged_into target (ends_of input a) && (stop_of input a == commit)

-- the CatchUpLogs of that merge
abbrev pub tells_merge : Input → ℕ → ApplyMsg → Bool
tells_merge input a (apply.CatchUpLogs plan target commit) = ends_by input a target commit
tells_merge input a msg = false

-- the Birth of the address
abbrev pub is_birth_of : ℕ → ApplyMsg → Bool
is_birth_of a (apply.Birth piece) = piece.value.address == a
is_birth_of a msg = false

-- the region is born and has applied no entry
abbrev pub IsNewborn : Life → Type 0
IsNewborn life.Unborn = ⊥
IsNewborn (life.Born r) = r.index ≡ 5
IsNewborn (life.Over merged) = ⊥

-- a machine that isn't born yet is born at index 5; any other stays as it is
abbrev pub IsBornNow : Life → Life → Type 0
IsBornNow life.Unborn new = IsNewborn new
IsBornNow (life.Born r) new = new ≡ life.Born r
IsBornNow (life.Over merged) new = new ≡ life.Over merged

-- the region is born if the flag says so; else its life is as before
abbrev pub IsBornIf : Bool → Life → Life → Type 0
IsBornIf true old new = IsBornNow old new
IsBornIf false old new = new ≡ old

-- the message of a birth makes the region be born; any other leaves its life as before
abbrev pub IsBornBy : ℕ → ApplyMsg → Life → Life → Type 0
IsBornBy a msg old new = IsBornIf (is_birth_of a msg) old new

-- the merges that the machine's region has committed so far
abbrev pub merges_so_far : Input → ℕ → Life → List (ℕ × ℕ)
merges_so_far input a life.Unborn = []
merges_so_far input a (life.Born r) = merges_from input a 5 (r.index - 5)
merges_so_far input a (life.Over merged) = merges_from input a 5 (stop_of input a - 5)

-- the source hands over to the address: to the region's id, on the same store
abbrev pub is_for : Input → ℕ → Closed → Bool
is_for input a closed = (closed.target == region_of input a) && ((address_of input closed.address).0 == (address_of input a).0)

-- what the source hands over to the address, if it isn't held already and its merge isn't committed already
abbrev pub is_new : Input → ℕ → List Closed → List (ℕ × ℕ) → Closed → Bool
is_new input a held merged closed =
    is_for input a closed && (not (list_any (is_of closed.address closed.commit) held) && not (has_merge merged (region_of input closed.address, closed.commit)))

-- what the machine holds after the message
abbrev pub held_after : Input → ℕ → List Closed → List (ℕ × ℕ) → ApplyMsg → List Closed
held_after input a held merged (apply.SourceDone closed) = if is_new input a held merged closed.value then held ++ closed.value ∷ [] else held
held_after input a held merged msg = held

-- a region from the start is born; any other waits for its Birth
abbrev pub IsOpened : Option Boot → Life → Type 0
IsOpened None new = new ≡ life.Unborn
IsOpened (Some b) new = IsNewborn new
