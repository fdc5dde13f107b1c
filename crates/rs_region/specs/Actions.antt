-- What an accepted entry does, by the body that it has.
use Rattle.std.specs.Prelude.{ℕ, ◌==◌, Bool, false, if◌then◌else◌}
use Rattle.rs_entry.specs.declared.entry.Body.{Body}
use Rattle.rs_entry.specs.declared.entry.Body.TheVariants as body
use Rattle.rs_entry.specs.declared.entry.Change.{Change}
use Rattle.rs_entry.specs.declared.entry.Change.TheVariants as change
use Rattle.rs_entry.specs.declared.entry.Entry.{Entry}
use Rattle.rs_entry.specs.Entries.{entry_of}
use Rattle.rs_region.specs.declared.action.Action.{Action}
use Rattle.rs_region.specs.declared.action.Action.TheVariants as action
use Rattle.rs_region.specs.declared.action.Turn.{Turn}
use Rattle.rs_region.specs.declared.action.Turn.TheVariants as turn
use Rattle.rs_region.specs.declared.line.Line.{Line}
use Rattle.rs_region.specs.declared.line.Line.TheVariants as lines
use Rattle.rs_region.specs.declared.state.RegionState.{RegionState}
use Rattle.rs_region.specs.Reshapings.{prepared, rolled_back, reconfigured, removed}

-- the body of an entry that turns its region so
abbrev pub turn_body : Turn → Body
turn_body (turn.Prepare target) = body.Prepare target
turn_body (turn.Rollback commit) = body.Rollback commit
turn_body (turn.Conf c) = body.Conf c

-- the body of an entry that does so
abbrev pub body_for : Action → Body
body_for action.Nothing = body.Empty
body_for (action.Writes ops) = body.Write ops.now
body_for (action.Splits side ids keys) = body.Split side ids.now keys.now
body_for (action.Merges source commit carried) = body.Commit source commit carried.now
body_for (action.Turns t) = turn_body t

-- the entry of a line
abbrev pub line_entry : Line → Entry
line_entry (lines.Own e) = e.now
line_entry (lines.Carried c) = entry_of c.now

-- the state after a turn by the entry at this index
abbrev pub turned : ℕ → Turn → RegionState → RegionState
turned index (turn.Prepare target) s = prepared s target index
turned index (turn.Rollback commit) s = rolled_back s
turned index (turn.Conf c) s = reconfigured s c

-- the change takes out the store's own peer
abbrev pub is_removal_of : ℕ → Change → Bool
is_removal_of store (change.Add peer) = false
is_removal_of store (change.Remove peer) = peer == store

-- the turn takes out the store's own peer
abbrev pub removes : ℕ → Turn → Bool
removes store (turn.Conf c) = is_removal_of store c
removes store t = false

-- the state on a store after a turn
abbrev pub turned_on : ℕ → ℕ → Turn → RegionState → RegionState
turned_on store index t s = if removes store t then removed (turned index t s) else turned index t s
