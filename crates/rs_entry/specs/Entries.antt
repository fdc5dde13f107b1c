-- What entries, bodies and operations have in them.
use Rattle.std.specs.Prelude.{ℕ, List, [], length}
use Rattle.rs_entry.specs.declared.entry.Op.{Op}
use Rattle.rs_entry.specs.declared.entry.Op.TheVariants as op
use Rattle.rs_entry.specs.declared.entry.Body.{Body}
use Rattle.rs_entry.specs.declared.entry.Body.TheVariants as body
use Rattle.rs_entry.specs.declared.entry.Entry.{Entry}
use Rattle.rs_entry.specs.declared.entry.CarriedBody.{CarriedBody}
use Rattle.rs_entry.specs.declared.entry.CarriedBody.TheVariants as carried
use Rattle.rs_entry.specs.declared.entry.Carried.{Carried}

-- the key that an operation writes
abbrev pub key_of : Op → List ℕ
key_of (op.Put key value) = key
key_of (op.Delete key) = key

-- a carried body as the body of an entry
abbrev pub body_of : CarriedBody → Body
body_of carried.Empty = body.Empty
body_of (carried.Write ops) = body.Write ops
body_of (carried.Prepare target) = body.Prepare target

-- a carried entry as an entry of its source's log
abbrev pub entry_of : Carried → Entry
entry_of c = record { index = c.index; epoch = c.epoch; body = body_of c.body }

-- what a commit carries
abbrev pub carried_of : Body → List Carried
carried_of (body.Commit source commit carried) = carried
carried_of _ = []

-- how many operations a body has, without those that it carries
abbrev pub ops_in : Body → ℕ
ops_in (body.Write ops) = length ops
ops_in _ = 0

-- how many operations a carried body has
abbrev pub carried_ops_in : CarriedBody → ℕ
carried_ops_in (carried.Write ops) = length ops
carried_ops_in _ = 0

-- how many new regions a body has
abbrev pub pairs_in : Body → ℕ
pairs_in (body.Split side ids keys) = length ids
pairs_in _ = 0
