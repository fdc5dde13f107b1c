-- Equality of entries and what they are made of, as tests.
use Rattle.std.specs.Prelude.{ℕ, ◌==◌, ◌&&◌, Bool, true, false, nat_eq}
use Rattle.rs_key.specs.Keys.{same_bytes}
use Rattle.rs_rows.specs.Lists.{same_lists}
use Rattle.rs_key.specs.Epochs.{same_epochs}
use Rattle.rs_key.specs.Ranges.{same_bounds}
use Rattle.rs_entry.specs.declared.entry.Op.{Op}
use Rattle.rs_entry.specs.declared.entry.Op.TheVariants as op
use Rattle.rs_entry.specs.declared.entry.Side.{Side}
use Rattle.rs_entry.specs.declared.entry.Side.TheVariants as side
use Rattle.rs_entry.specs.declared.entry.Change.{Change}
use Rattle.rs_entry.specs.declared.entry.Change.TheVariants as change
use Rattle.rs_entry.specs.declared.entry.Body.{Body}
use Rattle.rs_entry.specs.declared.entry.Body.TheVariants as body
use Rattle.rs_entry.specs.declared.entry.Entry.{Entry}
use Rattle.rs_entry.specs.declared.entry.CarriedBody.{CarriedBody}
use Rattle.rs_entry.specs.declared.entry.CarriedBody.TheVariants as carried
use Rattle.rs_entry.specs.declared.entry.Carried.{Carried}
use Rattle.rs_entry.specs.declared.input.Boot.{Boot}

-- the same operation on the same key, with the same value
abbrev pub same_ops : Op → Op → Bool
same_ops (op.Put a v) (op.Put b w) = same_bytes a b && same_bytes v w
same_ops (op.Delete a) (op.Delete b) = same_bytes a b
same_ops _ _ = false

-- the same side
abbrev pub same_sides : Side → Side → Bool
same_sides side.Right side.Right = true
same_sides side.Left side.Left = true
same_sides _ _ = false

-- the same change of the same peer
abbrev pub same_changes : Change → Change → Bool
same_changes (change.Add a) (change.Add b) = a == b
same_changes (change.Remove a) (change.Remove b) = a == b
same_changes _ _ = false

-- the same kind of carried body with the same parts
abbrev pub same_carried_bodies : CarriedBody → CarriedBody → Bool
same_carried_bodies carried.Empty carried.Empty = true
same_carried_bodies (carried.Write a) (carried.Write b) = same_lists same_ops a b
same_carried_bodies (carried.Prepare a) (carried.Prepare b) = a == b
same_carried_bodies _ _ = false

-- the same index, epoch and body
abbrev pub same_carried : Carried → Carried → Bool
same_carried a b = (a.index == b.index) && (same_epochs a.epoch b.epoch && same_carried_bodies a.body b.body)

-- a commit with what it carries
abbrev pub same_bodies : Body → Body → Bool
same_bodies body.Empty body.Empty = true
same_bodies (body.Write a) (body.Write b) = same_lists same_ops a b
same_bodies (body.Split s is ks) (body.Split t js ls) = same_sides s t && (same_lists nat_eq is js && same_lists same_bytes ks ls)
same_bodies (body.Prepare a) (body.Prepare b) = a == b
same_bodies (body.Commit q c x) (body.Commit p d y) = (q == p) && ((c == d) && same_lists same_carried x y)
same_bodies (body.Rollback a) (body.Rollback b) = a == b
same_bodies (body.Conf a) (body.Conf b) = same_changes a b
same_bodies _ _ = false

-- the same index, epoch and body
abbrev pub same_entries : Entry → Entry → Bool
same_entries a b = (a.index == b.index) && (same_epochs a.epoch b.epoch && same_bodies a.body b.body)

-- the same region, range and peers
abbrev pub same_boots : Boot → Boot → Bool
same_boots a b = (a.region == b.region) && (same_bounds a.range b.range && same_lists nat_eq a.peers b.peers)
