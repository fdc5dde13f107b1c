-- Reading the bodies of entries: the fields behind the epoch, with the first fault.
use Rattle.std.specs.Prelude.{ℕ, zero, suc, ◌+◌, ◌==◌, ◌&&◌, ◌||◌, nat_lt, nat_le, Bool, false, if◌then◌else◌, List, [], ◌∷◌, map, length, codes, Result, Ok, Err}
use Rattle.std.specs.Str.{bytes_eq}
use Rattle.rs_entry.specs.declared.entry.Op.{Op}
use Rattle.rs_entry.specs.declared.entry.Op.TheVariants.{Put, Delete}
use Rattle.rs_entry.specs.declared.entry.Change.TheVariants.{Add, Remove}
use Rattle.rs_entry.specs.declared.entry.Side.{Side}
use Rattle.rs_entry.specs.declared.entry.Side.TheVariants.{Right, Left}
use Rattle.rs_entry.specs.declared.entry.CarriedBody.{CarriedBody}
use Rattle.rs_entry.specs.declared.entry.CarriedBody.TheVariants as carried
use Rattle.rs_entry.specs.declared.entry.Body.{Body}
use Rattle.rs_entry.specs.declared.entry.Body.TheVariants as body
use Rattle.rs_field.specs.declared.fault.TextKind.{TextKind}
use Rattle.rs_field.specs.declared.fault.TextKind.TheVariants.{BadLine, BadCarry, Limit}
use Rattle.rs_field.specs.Fields.{◌>>=◌, Fields, Read, guard, field_at, end_at, number_at, id_of, id_at, key_at, value_at}

-- ---- operations and pairs

-- One operation from its word on. The word is tested first, then whether one more operation has room.
unfoldable pub op_at : Bool → List ℕ → Fields → Read Op
op_at room word fields =
    if bytes_eq word (codes "put") then (do
      _ ← guard room Limit
      k ← key_at fields
      v ← value_at k.1
      Ok (Put k.0 v.0, v.1))
    else if bytes_eq word (codes "del") then (do
      _ ← guard room Limit
      k ← key_at fields
      Ok (Delete k.0, k.1))
    else Err BadLine

-- Items to the end of the line, each read from its first field on. The line may have `left` more of them, and
-- the file may have `all`, of which it has `total`. An item that has no room is told so.
unfoldable pub many_at : {A : Type 0} → (Bool → List ℕ → Fields → Read A) → ℕ → ℕ → ℕ → Fields → Result (List A) TextKind
many_at item all left total [] = Ok []
many_at item all zero total (field ∷ fs) = do
  x ← item false field fs
  Ok []
many_at item all (suc left) total (field ∷ fs) = do
  x ← item (nat_lt total all) field fs
  xs ← many_at item all left (total + 1) x.1
  Ok (x.0 ∷ xs)

-- the operations to the end of a line: at most 1,024, and 1,048,576 in the file
abbrev pub ops_at : ℕ → Fields → Result (List Op) TextKind
ops_at total fields = many_at op_at 1048576 1024 total fields

-- one or more operations
unfoldable pub write_at : ℕ → Fields → Result (List Op) TextKind
write_at total fields = do
  ops ← ops_at total fields
  if length ops == 0 then Err BadLine else Ok ops

-- the next field as a side
unfoldable pub side_at : Fields → Read Side
side_at fields = do
  word ← field_at fields
  if bytes_eq word.0 (codes "right") then Ok (Right, word.1)
      else if bytes_eq word.0 (codes "left") then Ok (Left, word.1)
      else Err BadLine

-- one pair of a split, from its id on
unfoldable pub pair_at : Bool → List ℕ → Fields → Read (ℕ × List ℕ)
pair_at room field fields = do
  id ← id_of field
  _ ← guard room Limit
  key ← key_at fields
  Ok ((id, key.0), key.1)

-- the pairs to the end of a line: at most 64, and 4,096 in the file, region lines counted too
abbrev pub pairs_at : ℕ → Fields → Result (List (ℕ × List ℕ)) TextKind
pairs_at boots fields = many_at pair_at 4096 64 boots fields

-- SIDE and one or more pairs
unfoldable pub split_at : ℕ → Fields → Result Body TextKind
split_at boots fields = do
  side ← side_at fields
  pairs ← pairs_at boots side.1
  if length pairs == 0 then Err BadLine else Ok (body.Split side.0 (map (λ p. p.0) pairs) (map (λ p. p.1) pairs))

-- ---- other bodies

-- an id, to the end of the line
unfoldable pub target_at : Fields → Result ℕ TextKind
target_at fields = do
  id ← id_at fields
  _ ← end_at id.1
  Ok id.0

-- a number, to the end of the line
unfoldable pub last_number_at : Fields → Result ℕ TextKind
last_number_at fields = do
  n ← number_at fields
  _ ← end_at n.1
  Ok n.0

-- SOURCE, COMMIT and COUNT: the first of the carried entries has an index of at least 6
unfoldable pub commit_at : Fields → Result (ℕ × ℕ × ℕ) TextKind
commit_at fields = do
  source ← id_at fields
  commit ← number_at source.1
  count ← number_at commit.1
  _ ← guard (nat_le count.0 4096) Limit
  _ ← guard ((count.0 == 0) || nat_le (count.0 + 5) commit.0) BadCarry
  _ ← end_at count.1
  Ok (source.0, commit.0, count.0)

-- a change of peers, which only version 2 has
unfoldable pub conf_at : ℕ → List ℕ → Fields → Result Body TextKind
conf_at version word fields =
    if version == 2 then
    (if bytes_eq word (codes "add") then (do
      peer ← target_at fields
      Ok (body.Conf (Add peer)))
    else if bytes_eq word (codes "remove") then (do
      peer ← target_at fields
      Ok (body.Conf (Remove peer)))
    else Err BadLine)
    else Err BadLine

-- ---- peers of a region line

-- Ids to the end of the line, each above the one before. The line may have `left` more of them.
unfoldable pub peers_at : ℕ → ℕ → Fields → Result (List ℕ) TextKind
peers_at left before [] = Ok []
peers_at zero before (field ∷ fs) = do
  id ← id_of field
  Err Limit
peers_at (suc left) before (field ∷ fs) = do
  id ← id_of field
  _ ← guard (nat_lt before id) BadLine
  ids ← peers_at left id fs
  Ok (id ∷ ids)

-- the peers of a region line: in version 2 one or more, in version 1 none
unfoldable pub boot_peers_at : ℕ → Fields → Result (List ℕ) TextKind
boot_peers_at version fields =
    if version == 2 then (do
      ids ← peers_at 64 0 fields
      if length ids == 0 then Err BadLine else Ok ids)
    else (do
      _ ← end_at fields
      Ok [])

-- ---- bodies of carried entries

-- the word begins a body
abbrev pub is_body_word : List ℕ → Bool
is_body_word w = bytes_eq w (codes "empty") || (bytes_eq w (codes "write") || (bytes_eq w (codes "split") || (bytes_eq w (codes "prepare") || (bytes_eq w (codes "commit") || bytes_eq w (codes "rollback")))))

-- the words that version 2 adds
abbrev pub is_conf_word : List ℕ → Bool
is_conf_word w = bytes_eq w (codes "add") || bytes_eq w (codes "remove")

-- what is wrong with a word that no carried entry has here
abbrev pub bad_word : ℕ → List ℕ → TextKind
bad_word version w = if is_body_word w || ((version == 2) && is_conf_word w) then BadCarry else BadLine

-- the last is a prepare, the others are empty or writes
unfoldable pub carried_body_at : ℕ → ℕ → Bool → List ℕ → Fields → Result CarriedBody TextKind
carried_body_at version operations last word fields =
    if last then
    (if bytes_eq word (codes "prepare") then (do
      target ← target_at fields
      Ok (carried.Prepare target))
    else Err (bad_word version word))
    else if bytes_eq word (codes "empty") then (do
      _ ← end_at fields
      Ok carried.Empty)
    else if bytes_eq word (codes "write") then (do
      ops ← write_at operations fields
      Ok (carried.Write ops))
    else Err (bad_word version word)
