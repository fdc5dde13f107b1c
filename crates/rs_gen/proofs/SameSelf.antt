-- An entry is found the same as itself.
use Rattle.std.proofs.Common.{◌≡◌, refl, ℕ, ◌==◌, Bool, true, ◌&&◌, List, [], ◌∷◌, nat_eq}
use Rattle.std.proofs.lemmas.Bool.{and_from, eq-eqb}
use Rattle.rs_key.specs.Keys.{same_bytes}
use Rattle.rs_rows.specs.Lists.{same_lists}
use Rattle.rs_key.specs.Epochs.{same_epochs}
use Rattle.rs_key.specs.declared.epoch.Epoch.{Epoch}
use Rattle.rs_entry.specs.declared.entry.Op.{Op}
use Rattle.rs_entry.specs.declared.entry.Op.TheVariants as op
use Rattle.rs_entry.specs.declared.entry.Side.{Side}
use Rattle.rs_entry.specs.declared.entry.Side.TheVariants as side
use Rattle.rs_entry.specs.declared.entry.Change.{Change}
use Rattle.rs_entry.specs.declared.entry.Change.TheVariants as change
use Rattle.rs_entry.specs.declared.entry.Body.{Body}
use Rattle.rs_entry.specs.declared.entry.Body.TheVariants as body
use Rattle.rs_entry.specs.declared.entry.CarriedBody.{CarriedBody}
use Rattle.rs_entry.specs.declared.entry.CarriedBody.TheVariants as carried
use Rattle.rs_entry.specs.declared.entry.Carried.{Carried}
use Rattle.rs_entry.specs.declared.entry.Entry.{Entry}
use Rattle.rs_entry.specs.Equality.{same_bodies, same_carried, same_carried_bodies, same_changes, same_entries, same_ops, same_sides}

lists_self : {A : Type 0} (same : A → A → Bool) → ((x : A) → same x x ≡ true) → (xs : List A) → same_lists same xs xs ≡ true
lists_self same self [] = refl
lists_self same self (x ∷ xs) = and_from (same x x) (same_lists same xs xs) (self x) (lists_self same self xs)

number_self : (x : ℕ) → nat_eq x x ≡ true
number_self x = eq-eqb x x refl

bytes_self : (xs : List ℕ) → same_bytes xs xs ≡ true
bytes_self [] = refl
bytes_self (x ∷ xs) = and_from (nat_eq x x) (same_bytes xs xs) (number_self x) (bytes_self xs)

epoch_self : (e : Epoch) → same_epochs e e ≡ true
epoch_self e = and_from (e.version == e.version) (e.conf_ver == e.conf_ver) (number_self e.version) (number_self e.conf_ver)

op_self : (o : Op) → same_ops o o ≡ true
op_self (op.Put k v) = and_from (same_bytes k k) (same_bytes v v) (bytes_self k) (bytes_self v)
op_self (op.Delete k) = bytes_self k

side_self : (s : Side) → same_sides s s ≡ true
side_self side.Right = refl
side_self side.Left = refl

change_self : (c : Change) → same_changes c c ≡ true
change_self (change.Add p) = number_self p
change_self (change.Remove p) = number_self p

carried_body_self : (b : CarriedBody) → same_carried_bodies b b ≡ true
carried_body_self carried.Empty = refl
carried_body_self (carried.Write ops) = lists_self same_ops op_self ops
carried_body_self (carried.Prepare t) = number_self t

pub carried_self : (c : Carried) → same_carried c c ≡ true
carried_self c =
    and_from (c.index == c.index) (same_epochs c.epoch c.epoch && same_carried_bodies c.body c.body) (number_self c.index)
    (and_from (same_epochs c.epoch c.epoch) (same_carried_bodies c.body c.body) (epoch_self c.epoch) (carried_body_self c.body))

body_self : (b : Body) → same_bodies b b ≡ true
body_self body.Empty = refl
body_self (body.Write ops) = lists_self same_ops op_self ops
body_self (body.Split s ids keys) =
    and_from (same_sides s s) (same_lists nat_eq ids ids && same_lists same_bytes keys keys) (side_self s)
    (and_from (same_lists nat_eq ids ids) (same_lists same_bytes keys keys) (lists_self nat_eq number_self ids) (lists_self same_bytes bytes_self keys))
body_self (body.Prepare t) = number_self t
body_self (body.Commit q c cs) =
    and_from (q == q) ((c == c) && same_lists same_carried cs cs) (number_self q)
    (and_from (c == c) (same_lists same_carried cs cs) (number_self c) (lists_self same_carried carried_self cs))
body_self (body.Rollback c) = number_self c
body_self (body.Conf c) = change_self c

pub entry_self : (e : Entry) → same_entries e e ≡ true
entry_self e =
    and_from (e.index == e.index) (same_epochs e.epoch e.epoch && same_bodies e.body e.body) (number_self e.index)
    (and_from (same_epochs e.epoch e.epoch) (same_bodies e.body e.body) (epoch_self e.epoch) (body_self e.body))
