-- What becomes of an entry when a region comes to apply it.
use Rattle.std.specs.Prelude.{ℕ, ◌+◌, ◌==◌, ◌&&◌, Bool, true, false, not, nat_lt, List, position, length, Option, Some, None, if◌then◌else◌}
use Rattle.std.specs.List.{list_any}
use Rattle.rs_key.specs.Ranges.{Bounds, holds, first_bad_cut}
use Rattle.rs_key.specs.Epochs.{fits}
use Rattle.rs_key.specs.declared.epoch.Epoch.{Epoch}
use Rattle.rs_key.specs.declared.epoch.Kind.{Kind}
use Rattle.rs_key.specs.declared.epoch.Kind.TheVariants as kind
use Rattle.rs_entry.specs.declared.entry.Op.{Op}
use Rattle.rs_entry.specs.declared.entry.Change.{Change}
use Rattle.rs_entry.specs.declared.entry.Change.TheVariants as change
use Rattle.rs_entry.specs.declared.entry.Body.{Body}
use Rattle.rs_entry.specs.declared.entry.Body.TheVariants as body
use Rattle.rs_entry.specs.declared.entry.Entry.{Entry}
use Rattle.rs_entry.specs.declared.outcome.Mode.{Mode}
use Rattle.rs_entry.specs.declared.outcome.Mode.TheVariants as mode
use Rattle.rs_entry.specs.Entries.{key_of}
use Rattle.rs_region.specs.declared.state.RegionState.{RegionState}
use Rattle.rs_region.specs.declared.verdict.Verdict.{Verdict}
use Rattle.rs_region.specs.declared.verdict.Verdict.TheVariants as verdicts

-- what of an epoch the body compares
abbrev pub kind_of : Body → Kind
kind_of body.Empty = kind.Empty
kind_of (body.Write ops) = kind.Write
kind_of (body.Split side ids keys) = kind.Split
kind_of (body.Prepare target) = kind.Prepare
kind_of (body.Commit source commit entries) = kind.Commit
kind_of (body.Rollback commit) = kind.Rollback
kind_of (body.Conf c) = kind.Conf

-- the body is empty
abbrev pub is_empty : Body → Bool
is_empty body.Empty = true
is_empty _ = false

-- the operation's key lies outside the range
abbrev pub is_outside : Bounds → Op → Bool
is_outside range op = not (holds range (key_of op))

-- the verdict on a write, by the place, counted from 0, of its first operation outside the range
abbrev pub write_verdict : Option ℕ → Verdict
write_verdict None = verdicts.Accept
write_verdict (Some place) = verdicts.Outside (place + 1)

-- the verdict on a split, by the place, counted from 1, of its first bad cut
abbrev pub split_verdict : Option ℕ → Verdict
split_verdict None = verdicts.Accept
split_verdict (Some place) = verdicts.BadSplit place

-- the peer is in the list
abbrev pub is_peer : List ℕ → ℕ → Bool
is_peer peers peer = list_any (λ p. p == peer) peers

-- a new peer for a list that isn't full, or one of at least two to be removed
abbrev pub is_good_change : List ℕ → Change → Bool
is_good_change peers (change.Add peer) = not (is_peer peers peer) && nat_lt (length peers) 64
is_good_change peers (change.Remove peer) = is_peer peers peer && nat_lt 1 (length peers)

-- the verdict of a region that is merging since the commit: it refuses all but a rollback of this commit
abbrev pub merging_verdict : ℕ → Body → Verdict
merging_verdict commit (body.Rollback c) = if c == commit then verdicts.Accept else verdicts.BadRollback
merging_verdict commit _ = verdicts.Merging

-- the verdict of a region that isn't merging
abbrev pub open_verdict : Bounds → List ℕ → Body → Verdict
open_verdict range peers (body.Write ops) = write_verdict (position (is_outside range) ops)
open_verdict range peers (body.Split side ids keys) = split_verdict (first_bad_cut range keys)
open_verdict range peers (body.Conf c) = if is_good_change peers c then verdicts.Accept else verdicts.BadPeer
open_verdict range peers (body.Rollback commit) = verdicts.BadRollback
open_verdict range peers _ = verdicts.Accept

-- the verdict on an entry whose epoch fits
abbrev pub fitting_verdict : Mode → Bounds → List ℕ → Body → Verdict
fitting_verdict (mode.Merging target commit) range peers b = merging_verdict commit b
fitting_verdict _ range peers b = open_verdict range peers b

-- the first that applies: empty, stale, merging, outside, bad split, bad peer, bad rollback, accept
abbrev pub verdict_on : RegionState → Epoch → Body → Verdict
verdict_on s e b =
    if is_empty b then verdicts.Empty
    else if fits (kind_of b) s.epoch e then fitting_verdict s.mode s.range s.peers b
    else verdicts.Stale

-- what the region answers to the entry
abbrev pub verdict : RegionState → Entry → Verdict
verdict s e = verdict_on s e.epoch e.body
