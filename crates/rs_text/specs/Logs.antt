-- The lines of an input, field by field: its canonical text.
use Rattle.std.specs.Prelude.{ℕ, List, [], ◌∷◌, ◌++◌, map, length}
use Rattle.std.specs.List.{flat_map}
use Rattle.rs_key.specs.declared.epoch.Epoch.{Epoch}
use Rattle.rs_entry.specs.declared.entry.Op.{Op}
use Rattle.rs_entry.specs.declared.entry.Op.TheVariants.{Put, Delete}
use Rattle.rs_entry.specs.declared.entry.Change.{Change}
use Rattle.rs_entry.specs.declared.entry.Change.TheVariants.{Add, Remove}
use Rattle.rs_entry.specs.declared.entry.Side.{Side}
use Rattle.rs_entry.specs.declared.entry.Side.TheVariants.{Right, Left}
use Rattle.rs_entry.specs.declared.entry.CarriedBody.{CarriedBody}
use Rattle.rs_entry.specs.declared.entry.CarriedBody.TheVariants as carried
use Rattle.rs_entry.specs.declared.entry.Carried.{Carried}
use Rattle.rs_entry.specs.declared.entry.Body.{Body}
use Rattle.rs_entry.specs.declared.entry.Body.TheVariants as body
use Rattle.rs_entry.specs.declared.entry.Entry.{Entry}
use Rattle.rs_entry.specs.declared.input.Log.{Log}
use Rattle.rs_entry.specs.declared.input.Boot.{Boot}
use Rattle.rs_entry.specs.declared.input.Store.{Store}
use Rattle.rs_entry.specs.declared.input.Input.{Input}
use Rattle.rs_field.specs.Forms.{Form, Hex, Forms, word, number, value, bounds, epoch, lines_text}

-- ---- bodies

-- `put KEY VALUE` or `del KEY`
abbrev pub op_forms : Op → Forms
op_forms (Put k v) = word "put" ∷ Hex k ∷ value v ∷ []
op_forms (Delete k) = word "del" ∷ Hex k ∷ []

-- the word of a side
abbrev pub side : Side → Form
side Right = word "right"
side Left = word "left"

-- ID KEY ..
abbrev pub pair_forms : List ℕ → List (List ℕ) → Forms
pair_forms (id ∷ ids) (key ∷ keys) = number id ∷ Hex key ∷ pair_forms ids keys
pair_forms _ _ = []

-- `add PEER` or `remove PEER`
abbrev pub change_forms : Change → Forms
change_forms (Add peer) = word "add" ∷ number peer ∷ []
change_forms (Remove peer) = word "remove" ∷ number peer ∷ []

-- the fields of an entry's line behind its epoch
abbrev pub body_forms : Body → Forms
body_forms body.Empty = word "empty" ∷ []
body_forms (body.Write ops) = word "write" ∷ flat_map op_forms ops
body_forms (body.Split s ids keys) = word "split" ∷ side s ∷ pair_forms ids keys
body_forms (body.Prepare target) = word "prepare" ∷ number target ∷ []
body_forms (body.Commit source commit cs) = word "commit" ∷ number source ∷ number commit ∷ number (length cs) ∷ []
body_forms (body.Rollback commit) = word "rollback" ∷ number commit ∷ []
body_forms (body.Conf change) = change_forms change

-- the same of a carried entry
abbrev pub carried_body_forms : CarriedBody → Forms
carried_body_forms carried.Empty = word "empty" ∷ []
carried_body_forms (carried.Write ops) = word "write" ∷ flat_map op_forms ops
carried_body_forms (carried.Prepare target) = word "prepare" ∷ number target ∷ []

-- ---- lines

-- INDEX CONF VERSION, before the fields of a body
abbrev pub head : ℕ → Epoch → Forms → Forms
head index e rest = number index ∷ (epoch e ++ rest)

-- an entry's own line
abbrev pub entry_forms : Entry → Forms
entry_forms e = head e.index e.epoch (body_forms e.body)

-- a carried entry, without the word `carry`
abbrev pub carried_forms : Carried → Forms
carried_forms c = head c.index c.epoch (carried_body_forms c.body)

-- the line of a carried entry
abbrev pub carry_forms : Carried → Forms
carry_forms c = word "carry" ∷ carried_forms c

-- the lines of carried entries, behind the line of a commit
abbrev pub carried_lines : Body → List Forms
carried_lines (body.Commit source commit cs) = map carry_forms cs
carried_lines _ = []

-- the line of an entry, and the lines of those that it carries
abbrev pub entry_lines : Entry → List Forms
entry_lines e = entry_forms e ∷ carried_lines e.body

-- the line of a log, and the lines of its entries
abbrev pub log_lines : Log → List Forms
log_lines l = (word "log" ∷ number l.region ∷ []) ∷ flat_map entry_lines l.entries

-- `region ID START END PEER ..`
abbrev pub region_forms : Boot → Forms
region_forms b = word "region" ∷ number b.region ∷ (bounds b.range ++ map number b.peers)

-- the line of a store, then those of its boot regions, then those of its logs
abbrev pub store_lines : Store → List Forms
store_lines s = (word "store" ∷ number s.id ∷ []) ∷ (map region_forms s.regions ++ flat_map log_lines s.logs)

-- all lines of an input's text
unfoldable pub lines_of : Input → List Forms
lines_of x = (word "raftreplay" ∷ number x.version ∷ []) ∷ (flat_map store_lines x.stores ++ (word "end" ∷ []) ∷ [])

-- the canonical text of an input
unfoldable pub text_of : Input → List ℕ
text_of x = lines_text (lines_of x)
