-- What the test of equality finds the same is one.
use Rattle.std.proofs.Common.{◌≡◌, ℕ, ◌==◌, Bool, true, ◌&&◌, List, [], ◌∷◌, Option, Some, None, nat_eq, refl, ap, ◌∙◌}
use Rattle.std.proofs.lemmas.Bool.{and_parts, eqb-true}
use Rattle.rs_key.specs.Keys.{same_bytes}
use Rattle.rs_rows.specs.Lists.{same_lists, same_options}
use Rattle.rs_key.specs.Epochs.{same_epochs}
use Rattle.rs_key.specs.Ranges.{Bounds, same_bounds}
use Rattle.rs_key.specs.declared.epoch.Epoch.{Epoch}
use Rattle.rs_key.proofs.RangeLaws.{same_bytes_is}
use Rattle.rs_entry.specs.declared.entry.Op.{Op}
use Rattle.rs_entry.specs.declared.entry.Op.TheVariants as op
use Rattle.rs_entry.specs.declared.entry.Side.{Side}
use Rattle.rs_entry.specs.declared.entry.Side.TheVariants as side
use Rattle.rs_entry.specs.declared.entry.Change.{Change}
use Rattle.rs_entry.specs.declared.entry.Change.TheVariants as change
use Rattle.rs_entry.specs.declared.entry.Body.{Body}
use Rattle.rs_entry.specs.declared.entry.Body.TheVariants as body
use Rattle.rs_entry.specs.declared.entry.CarriedBody.{CarriedBody}
use Rattle.rs_entry.specs.declared.entry.CarriedBody.TheVariants as carried
use Rattle.rs_entry.specs.declared.entry.Carried.{Carried}
use Rattle.rs_entry.specs.declared.entry.Entry.{Entry}
use Rattle.rs_entry.specs.declared.input.Boot.{Boot}
use Rattle.rs_entry.specs.Equality.{same_ops, same_sides, same_changes, same_carried_bodies, same_carried, same_bodies, same_entries, same_boots}

same_lists_is : {A : Type 0} (same : A → A → Bool) → ((x y : A) → same x y ≡ true → x ≡ y) → (xs ys : List A) → same_lists same xs ys ≡ true → xs ≡ ys
same_lists_is same is [] [] e = refl
same_lists_is same is [] (y ∷ ys) e = absurd cc
same_lists_is same is (x ∷ xs) [] e = absurd cc
same_lists_is same is (x ∷ xs) (y ∷ ys) e =
    let h = and_parts (same x y) (same_lists same xs ys) e in
    cc (is x y h.0, same_lists_is same is xs ys h.1)

same_options_is : {A : Type 0} (same : A → A → Bool) → ((x y : A) → same x y ≡ true → x ≡ y) → (a b : Option A) → same_options same a b ≡ true → a ≡ b
same_options_is same is None None e = refl
same_options_is same is None (Some b) e = absurd cc
same_options_is same is (Some a) None e = absurd cc
same_options_is same is (Some a) (Some b) e = ap Some (is a b e)

same_number : (x y : ℕ) → nat_eq x y ≡ true → x ≡ y
same_number x y e = eqb-true x y e

epochs_are : (a b : Epoch) → same_epochs a b ≡ true → a ≡ b
epochs_are a b e =
    let h = and_parts (a.version == b.version) (a.conf_ver == b.conf_ver) e in
    ap (λ z. record { conf_ver = z; version = a.version }) (eqb-true a.conf_ver b.conf_ver h.1)
    ∙ ap (λ z. record { conf_ver = b.conf_ver; version = z }) (eqb-true a.version b.version h.0)

bounds_are : (a b : Bounds) → same_bounds a b ≡ true → a ≡ b
bounds_are a b e =
    let h = and_parts (same_options same_bytes a.start b.start) (same_options same_bytes a.end b.end) e in
    ap (λ z. record { start = z; end = a.end }) (same_options_is same_bytes same_bytes_is a.start b.start h.0)
    ∙ ap (λ z. record { start = b.start; end = z }) (same_options_is same_bytes same_bytes_is a.end b.end h.1)

ops_are : (a b : Op) → same_ops a b ≡ true → a ≡ b
ops_are (op.Put k v) (op.Put l w) e = let h = and_parts (same_bytes k l) (same_bytes v w) e in cc (same_bytes_is k l h.0, same_bytes_is v w h.1)
ops_are (op.Put k v) (op.Delete l) e = absurd cc
ops_are (op.Delete k) (op.Put l w) e = absurd cc
ops_are (op.Delete k) (op.Delete l) e = cc (same_bytes_is k l e)

sides_are : (a b : Side) → same_sides a b ≡ true → a ≡ b
sides_are side.Right side.Right e = refl
sides_are side.Right side.Left e = absurd cc
sides_are side.Left side.Right e = absurd cc
sides_are side.Left side.Left e = refl

changes_are : (a b : Change) → same_changes a b ≡ true → a ≡ b
changes_are (change.Add a) (change.Add b) e = ap change.Add (eqb-true a b e)
changes_are (change.Add a) (change.Remove b) e = absurd cc
changes_are (change.Remove a) (change.Add b) e = absurd cc
changes_are (change.Remove a) (change.Remove b) e = ap change.Remove (eqb-true a b e)

carried_bodies_are : (a b : CarriedBody) → same_carried_bodies a b ≡ true → a ≡ b
carried_bodies_are carried.Empty carried.Empty e = refl
carried_bodies_are (carried.Write x) (carried.Write y) e = ap carried.Write (same_lists_is same_ops ops_are x y e)
carried_bodies_are (carried.Prepare x) (carried.Prepare y) e = ap carried.Prepare (eqb-true x y e)
carried_bodies_are _ _ e = absurd cc

-- two carried entries
pub carried_are : (a b : Carried) → same_carried a b ≡ true → a ≡ b
carried_are a b e =
    let h = and_parts (a.index == b.index) (same_epochs a.epoch b.epoch && same_carried_bodies a.body b.body) e in
    let k = and_parts (same_epochs a.epoch b.epoch) (same_carried_bodies a.body b.body) h.1 in
    ap (λ z. record { index = z; epoch = a.epoch; body = a.body }) (eqb-true a.index b.index h.0)
    ∙ (ap (λ z. record { index = b.index; epoch = z; body = a.body }) (epochs_are a.epoch b.epoch k.0)
    ∙ ap (λ z. record { index = b.index; epoch = b.epoch; body = z }) (carried_bodies_are a.body b.body k.1))

bodies_are : (a b : Body) → same_bodies a b ≡ true → a ≡ b
bodies_are body.Empty body.Empty e = refl
bodies_are (body.Write x) (body.Write y) e = ap body.Write (same_lists_is same_ops ops_are x y e)
bodies_are (body.Split a is ks) (body.Split b js ls) e =
    let h = and_parts (same_sides a b) (same_lists nat_eq is js && same_lists same_bytes ks ls) e in
    let k = and_parts (same_lists nat_eq is js) (same_lists same_bytes ks ls) h.1 in
    cc (sides_are a b h.0, same_lists_is nat_eq same_number is js k.0, same_lists_is same_bytes same_bytes_is ks ls k.1)
bodies_are (body.Prepare a) (body.Prepare b) e = ap body.Prepare (eqb-true a b e)
bodies_are (body.Commit q c x) (body.Commit p d y) e =
    let h = and_parts (q == p) ((c == d) && same_lists same_carried x y) e in
    let k = and_parts (c == d) (same_lists same_carried x y) h.1 in
    cc (eqb-true q p h.0, eqb-true c d k.0, same_lists_is same_carried carried_are x y k.1)
bodies_are (body.Rollback a) (body.Rollback b) e = ap body.Rollback (eqb-true a b e)
bodies_are (body.Conf a) (body.Conf b) e = ap body.Conf (changes_are a b e)
bodies_are _ _ e = absurd cc

-- two entries, each with what it carries
pub entries_are : (a b : Entry) → same_entries a b ≡ true → a ≡ b
entries_are a b e =
    let h = and_parts (a.index == b.index) (same_epochs a.epoch b.epoch && same_bodies a.body b.body) e in
    let k = and_parts (same_epochs a.epoch b.epoch) (same_bodies a.body b.body) h.1 in
    ap (λ z. record { index = z; epoch = a.epoch; body = a.body }) (eqb-true a.index b.index h.0)
    ∙ (ap (λ z. record { index = b.index; epoch = z; body = a.body }) (epochs_are a.epoch b.epoch k.0)
    ∙ ap (λ z. record { index = b.index; epoch = b.epoch; body = z }) (bodies_are a.body b.body k.1))

-- two bootstrap regions, with their peers
pub boots_are : (a b : Boot) → same_boots a b ≡ true → a ≡ b
boots_are a b e =
    let h = and_parts (a.region == b.region) (same_bounds a.range b.range && same_lists nat_eq a.peers b.peers) e in
    let k = and_parts (same_bounds a.range b.range) (same_lists nat_eq a.peers b.peers) h.1 in
    ap (λ z. record { region = z; range = a.range; peers = a.peers }) (eqb-true a.region b.region h.0)
    ∙ (ap (λ z. record { region = b.region; range = z; peers = a.peers }) (bounds_are a.range b.range k.0)
    ∙ ap (λ z. record { region = b.region; range = b.range; peers = z }) (same_lists_is nat_eq same_number a.peers b.peers k.1))
