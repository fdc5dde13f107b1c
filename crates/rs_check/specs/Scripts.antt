-- The script of an input: what its statements say of each region.
use Rattle.std.specs.Prelude.{ℕ, ◌==◌, Bool, Option, Some, None}
use Rattle.std.specs.List.{find, list_any}
use Rattle.rs_entry.specs.declared.entry.Entry.{Entry}
use Rattle.rs_entry.specs.declared.input.Boot.{Boot}
use Rattle.rs_entry.specs.declared.input.Input.{Input}
use Rattle.rs_entry.specs.declared.law_fault.Statement.{Statement}
use Rattle.rs_entry.specs.declared.law_fault.Statement.TheVariants as said
use Rattle.rs_entry.specs.Entries.{entry_of}
use Rattle.rs_part.specs.Scripts.{Birth, Never, Opened, SplitOff, Script}
use Rattle.rs_check.specs.Statements.{Stated, stated, is_about}
use Rattle.rs_check.specs.Laws.{boots, ids_said, is_id}

-- the entry that a statement is of; a bootstrap region is no entry
abbrev pub entry_said : Statement → Option Entry
entry_said (said.Boot b) = None
entry_said (said.Entry e) = Some e
entry_said (said.Carried c) = Some (entry_of c)

-- the entry that the statement states, if it states one
abbrev pub line_by : Option Stated → Option Entry
line_by None = None
line_by (Some s) = entry_said s.what

-- the statement is of a split that names the id
abbrev pub names : ℕ → Stated → Bool
names id s = list_any (is_id id) (ids_said s.what)

-- a region is born by the split that names it, or never
abbrev pub split_birth : Option Stated → Birth
split_birth None = Never
split_birth (Some s) = SplitOff s.region s.index

-- a bootstrap region, else what a split names
abbrev pub birth_by : Option Boot → Option Stated → Birth
birth_by None s = split_birth s
birth_by (Some b) s = Opened b.range b.peers

-- The line of a region at an index is the entry, own or carried, of the first statement about the two. No line is at
-- index 0, where bootstrap regions are stated. A region begins as the bootstrap region of its id, else split off by the
-- first statement whose split names it, else never
abbrev pub script_of : Input → Script
script_of input = record {
  line = λ id index. line_by (find (is_about id index) (stated input));
  birth = λ id. birth_by (find (λ b. b.region == id) (boots input)) (find (names id) (stated input));
}
