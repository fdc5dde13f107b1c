-- What each line makes of what the lines before it gave, or its first fault.
use Rattle.std.specs.Prelude.{◌≡◌, ℕ, ◌<◌, ◌≤◌, ◌+◌, ◌==◌, ◌&&◌, not, nat_lt, true, false, if◌then◌else◌, List, [], ◌∷◌, ◌++◌, length, slice_index, codes, Option, Some, None, IfSome, Result, Ok, Err}
use Rattle.std.specs.Str.{bytes_eq}
use Rattle.rs_key.specs.declared.epoch.Epoch.{Epoch}
use Rattle.rs_key.specs.Ranges.{is_range}
use Rattle.rs_entry.specs.declared.entry.Carried.{Carried}
use Rattle.rs_entry.specs.declared.entry.Body.{Body}
use Rattle.rs_entry.specs.declared.entry.Body.TheVariants as body
use Rattle.rs_entry.specs.declared.entry.Entry.{Entry}
use Rattle.rs_entry.specs.Entries.{ops_in, carried_ops_in, pairs_in}
use Rattle.rs_field.specs.declared.fault.LineError.{LineError}
use Rattle.rs_field.specs.declared.fault.TextKind.{TextKind}
use Rattle.rs_field.specs.declared.fault.TextKind.TheVariants.{BadLine, BadKey, BadIndex, BadCarry, Limit}
use Rattle.rs_field.specs.Fields.{◌>>=◌, Fields, Read, guard, is_digit, field_at, end_at, number_of, number_at, id_at, bound_at}
use Rattle.rs_field.specs.Gives.{Fails}
use Rattle.rs_text.specs.declared.progress.OpenCommit.{OpenCommit}
use Rattle.rs_text.specs.declared.progress.Progress.{Progress}
use Rattle.rs_text.specs.Bodies.{write_at, split_at, target_at, last_number_at, commit_at, conf_at, boot_peers_at, carried_body_at}

-- nothing but line 1 was read
abbrev pub start : ℕ → Progress
start version = record { version = version; stores = []; store = 0; regions = []; last_region = 0; logs = []; log = 0; entries = []; next = 6; commit = None; boots = 0; lines = 0; operations = 0; ended = false }

-- ---- stores, regions and logs, each line from its second field on

-- the open log is whole
unfoldable pub close_log : Progress → Progress
close_log p = if p.log == 0 then p else record p { logs = p.logs ++ record { region = p.log; entries = p.entries } ∷ []; log = 0; entries = []; next = 6 }

-- the open store is whole
unfoldable pub close_store : Progress → Progress
close_store p = if p.store == 0 then p else record p { stores = p.stores ++ record { id = p.store; regions = p.regions; logs = p.logs } ∷ []; store = 0; regions = []; last_region = 0; logs = [] }

-- how many stores were begun
abbrev pub stores_so_far : Progress → ℕ
stores_so_far p = if p.store == 0 then length p.stores else length p.stores + 1

-- a store was begun
abbrev pub open_store : ℕ → Progress → Progress
open_store id p = record p { store = id }

-- `store ID`
unfoldable pub store_line : Progress → Fields → Result Progress TextKind
store_line p fields = do
  id ← id_at fields
  _ ← guard (nat_lt (stores_so_far p) 64) Limit
  _ ← guard (nat_lt p.store id.0) BadLine
  _ ← end_at id.1
  Ok (open_store id.0 (close_store (close_log p)))

-- a boot region was added to the store
abbrev pub region_to : ℕ → Option (List ℕ) → Option (List ℕ) → List ℕ → Progress → Progress
region_to id start end peers p = record p { regions = p.regions ++ record { region = id; range = record { start = start; end = end }; peers = peers } ∷ []; last_region = id; boots = p.boots + 1 }

-- `region ID START END`, and in version 2 PEER ..
unfoldable pub region_line : Progress → Fields → Result Progress TextKind
region_line p fields = do
  id ← id_at fields
  _ ← guard (nat_lt p.boots 4096) Limit
  _ ← guard (nat_lt p.last_region id.0) BadLine
  start ← bound_at id.1
  end ← bound_at start.1
  _ ← guard (is_range start.0 end.0) BadKey
  peers ← boot_peers_at p.version end.1
  Ok (region_to id.0 start.0 end.0 peers p)

-- a log was begun
abbrev pub open_log : ℕ → Progress → Progress
open_log region p = record p { log = region; next = 6 }

-- `log ID`
unfoldable pub log_line : Progress → Fields → Result Progress TextKind
log_line p fields = do
  id ← id_at fields
  _ ← guard (nat_lt p.log id.0) BadLine
  _ ← end_at id.1
  Ok (open_log id.0 (close_log p))

-- ---- entries

-- INDEX, of a file with this number of entry and carry lines before it
unfoldable pub index_of : ℕ → List ℕ → Result ℕ TextKind
index_of lines field = do
  index ← number_of field
  _ ← guard (nat_lt lines 1048576) Limit
  Ok index

-- CONF and VERSION
unfoldable pub epoch_at : Fields → Read Epoch
epoch_at fields = do
  conf ← number_at fields
  version ← number_at conf.1
  Ok (record { conf_ver = conf.0; version = version.0 }, version.1)

-- an entry was added to the log
abbrev pub entry_to : Entry → Progress → Progress
entry_to e p = record p { entries = p.entries ++ e ∷ []; next = p.next + 1; lines = p.lines + 1; operations = p.operations + ops_in e.body; boots = p.boots + pairs_in e.body }

-- a commit, whose carried entries may follow
abbrev pub commit_to : ℕ → Epoch → ℕ × ℕ × ℕ → Progress → Progress
commit_to index epoch c p =
    if c.2 == 0 then entry_to (record { index = index; epoch = epoch; body = body.Commit c.0 c.1 [] }) p
    else record p { next = p.next + 1; lines = p.lines + 1; commit = Some (record { index = index; epoch = epoch; source = c.0; commit = c.1; count = c.2; carried = [] }) }

-- all bodies but a commit
unfoldable pub body_at : Progress → List ℕ → Fields → Result Body TextKind
body_at p word fields =
    if bytes_eq word (codes "empty") then (do
      _ ← end_at fields
      Ok body.Empty)
    else if bytes_eq word (codes "write") then (do
      ops ← write_at p.operations fields
      Ok (body.Write ops))
    else if bytes_eq word (codes "split") then split_at p.boots fields
    else if bytes_eq word (codes "prepare") then (do
      target ← target_at fields
      Ok (body.Prepare target))
    else if bytes_eq word (codes "rollback") then (do
      commit ← last_number_at fields
      Ok (body.Rollback commit))
    else conf_at p.version word fields

-- `INDEX CONF VERSION BODY`
unfoldable pub entry_line : Progress → List ℕ → Fields → Result Progress TextKind
entry_line p first fields = do
  index ← index_of p.lines first
  _ ← guard (index == p.next) BadIndex
  epoch ← epoch_at fields
  word ← field_at epoch.1
  if bytes_eq word.0 (codes "commit") then (do
    c ← commit_at word.1
    Ok (commit_to index epoch.0 c p))
      else (do
        b ← body_at p word.0 word.1
        Ok (entry_to (record { index = index; epoch = epoch.0; body = b }) p))

-- ---- carried entries

-- the commit with all entries that it carries
abbrev pub whole_commit : OpenCommit → List Carried → Entry
whole_commit o cs = record { index = o.index; epoch = o.epoch; body = body.Commit o.source o.commit cs }

-- one more carried entry, and with the last the commit
abbrev pub carried_to : OpenCommit → Carried → Progress → Progress
carried_to o c p =
    let q = record p { lines = p.lines + 1; operations = p.operations + carried_ops_in c.body } in
    let cs = o.carried ++ c ∷ [] in
    if length cs == o.count then record q { commit = None; entries = p.entries ++ whole_commit o cs ∷ [] }
    else record q { commit = Some (record o { carried = cs }) }

-- `carry INDEX CONF VERSION BODY`: the j-th of n has the index COMMIT - n + j
unfoldable pub carry_line : Progress → OpenCommit → Fields → Result Progress TextKind
carry_line p o fields = do
  field ← field_at fields
  index ← index_of p.lines field.0
  _ ← guard (index + o.count == o.commit + (length o.carried + 1)) BadCarry
  epoch ← epoch_at field.1
  word ← field_at epoch.1
  b ← carried_body_at p.version p.operations (length o.carried + 1 == o.count) word.0 word.1
  Ok (carried_to o (record { index = index; epoch = epoch.0; body = b }) p)

-- ---- which line may follow

-- `end`
abbrev pub end_line : Progress → Fields → Result Progress TextKind
end_line p fields = do
  _ ← end_at fields
  Ok (record p { ended = true })

-- a line after which no carried lines are left
unfoldable pub free_line : Progress → List ℕ → Fields → Result Progress TextKind
free_line p word fields =
    if bytes_eq word (codes "store") then store_line p fields
    else if bytes_eq word (codes "end") then end_line p fields
    else if bytes_eq word (codes "region") then (if not (p.store == 0) && (p.log == 0) then region_line p fields else Err BadLine)
    else if bytes_eq word (codes "log") then (if p.store == 0 then Err BadLine else log_line p fields)
    else if is_digit (slice_index word 0) then (if p.log == 0 then Err BadLine else entry_line p word fields)
    else Err BadLine

-- a line while carried lines are left
unfoldable pub carry_or_bad : Progress → OpenCommit → List ℕ → Fields → Result Progress TextKind
carry_or_bad p o word fields = if bytes_eq word (codes "carry") then carry_line p o fields else Err BadLine

-- the progress after a line, by whether a commit is open
unfoldable pub line_after : Progress → Option OpenCommit → List ℕ → Fields → Result Progress TextKind
line_after p None word fields = free_line p word fields
line_after p (Some o) word fields = carry_or_bad p o word fields

-- what one ended line gives
unfoldable pub step : Progress → Fields → Result Progress TextKind
step p [] = Err BadLine
step p (word ∷ fields) = if p.ended then Err BadLine else line_after (record p { commit = None }) p.commit word fields

-- ---- what a function of the code answered

-- what a line made of the progress, unless memory ran out
abbrev pub Makes : {Y : Type 0} → Result Unit LineError → Y → Result Y TextKind → Type 0
Makes (Ok _) after read = read ≡ Ok after
Makes (Err e) after read = Fails e read

-- the same, where no memory is used
abbrev pub EndsLine : {Y : Type 0} → Result Unit TextKind → Y → Result Y TextKind → Type 0
EndsLine (Ok _) after read = read ≡ Ok after
EndsLine (Err kind) after read = read ≡ Err kind

-- ---- what keeps the numbers of the code small

-- the commit carries no more entries than its index allows, and some are still to come
abbrev pub Opens : OpenCommit → Type 0
Opens o = (o.count ≤ o.commit) × (length o.carried < o.count)

-- what a reading has counted is within its limits
pub record Counts (p : Progress) : Type 0 where
  pub boots : p.boots ≤ 4096
  pub lines : p.lines ≤ 1048576
  pub operations : p.operations ≤ 1048576
  pub next : p.next ≤ p.lines + 6
  pub pending : IfSome p.commit Opens
