-- A well-formed input: its orders, its index rules and its limits.
use Rattle.std.specs.Prelude.{◌≡◌, ℕ, ◌+◌, ◌<◌, ◌≤◌, ◌^◌, ◌⊎◌, List, [], ◌∷◌, map, length, IfSome, true}
use Rattle.std.specs.List.{flat_map, AllByRecursion, sum_by}
use Rattle.rs_key.specs.Ranges.{Bounds, is_range}
use Rattle.rs_key.specs.declared.epoch.Epoch.{Epoch}
use Rattle.rs_entry.specs.declared.entry.Op.{Op}
use Rattle.rs_entry.specs.declared.entry.Op.TheVariants.{Put, Delete}
use Rattle.rs_entry.specs.declared.entry.Change.{Change}
use Rattle.rs_entry.specs.declared.entry.Change.TheVariants.{Add, Remove}
use Rattle.rs_entry.specs.declared.entry.CarriedBody.{CarriedBody}
use Rattle.rs_entry.specs.declared.entry.CarriedBody.TheVariants as carried
use Rattle.rs_entry.specs.declared.entry.Carried.{Carried}
use Rattle.rs_entry.specs.declared.entry.Body.{Body}
use Rattle.rs_entry.specs.declared.entry.Body.TheVariants as body
use Rattle.rs_entry.specs.declared.entry.Entry.{Entry}
use Rattle.rs_entry.specs.declared.input.Boot.{Boot}
use Rattle.rs_entry.specs.declared.input.Store.{Store}
use Rattle.rs_entry.specs.declared.input.Input.{Input}
use Rattle.rs_entry.specs.Entries.{ops_in, carried_ops_in, carried_of, pairs_in}

-- ---- numbers, ids, keys and values

-- the number is at most 9,223,372,036,854,775,807
abbrev pub IsNumber : ℕ → Type 0
IsNumber n = n < 0x8000_0000_0000_0000

-- a number of at least 1
abbrev pub IsId : ℕ → Type 0
IsId n = (0 < n) × IsNumber n

-- ids, each above the one before
abbrev pub Rising : ℕ → List ℕ → Type 0
Rising low [] = Unit {0}
Rising low (n ∷ ns) = (low < n) × IsNumber n × Rising n ns

-- each number is a byte
abbrev pub AreBytes : List ℕ → Type 0
AreBytes bytes = AllByRecursion (λ b. b < 256) bytes

-- 1 to 256 bytes
abbrev pub IsKey : List ℕ → Type 0
IsKey k = (0 < length k) × (length k ≤ 256) × AreBytes k

-- 0 to 4,096 bytes
abbrev pub IsValue : List ℕ → Type 0
IsValue v = (length v ≤ 4096) × AreBytes v

-- ---- entries

-- both numbers of an epoch fit their limit
abbrev pub IsEpoch : Epoch → Type 0
IsEpoch e = IsNumber e.conf_ver × IsNumber e.version

-- the key and the value have lengths within their limits
abbrev pub IsOp : Op → Type 0
IsOp (Put k v) = IsKey k × IsValue v
IsOp (Delete k) = IsKey k

-- 1 to 1,024 operations
abbrev pub IsWrite : List Op → Type 0
IsWrite ops = (0 < length ops) × (length ops ≤ 1024) × AllByRecursion IsOp ops

-- the body of a carried entry: a prepare where no other follows it, else an empty entry or a write
abbrev pub IsCarriedBody : List Carried → CarriedBody → Type 0
IsCarriedBody [] (carried.Prepare target) = IsId target
IsCarriedBody (c ∷ cs) carried.Empty = Unit {0}
IsCarriedBody (c ∷ cs) (carried.Write ops) = IsWrite ops
IsCarriedBody _ _ = ⊥

-- carried entries with consecutive indexes of at least 6, the last at the commit
abbrev pub AreCarried : ℕ → List Carried → Type 0
AreCarried commit [] = Unit {0}
AreCarried commit (c ∷ cs) = (c.index + length cs ≡ commit) × (6 ≤ c.index) × IsEpoch c.epoch × IsCarriedBody cs c.body × AreCarried commit cs

-- the peer of the change is an id
abbrev pub IsChange : Change → Type 0
IsChange (Add peer) = IsId peer
IsChange (Remove peer) = IsId peer

-- 1 to 64 new regions, each with an id and a key
abbrev pub IsSplit : List ℕ → List (List ℕ) → Type 0
IsSplit ids keys = (0 < length ids) × (length ids ≤ 64) × (length ids ≡ length keys) × AllByRecursion IsId ids × AllByRecursion IsKey keys

-- changes of peers are in version 2 alone
abbrev pub IsBody : ℕ → Body → Type 0
IsBody version body.Empty = Unit {0}
IsBody version (body.Write ops) = IsWrite ops
IsBody version (body.Split side ids keys) = IsSplit ids keys
IsBody version (body.Prepare target) = IsId target
IsBody version (body.Commit source commit cs) = IsId source × IsNumber commit × (length cs ≤ 4096) × AreCarried commit cs
IsBody version (body.Rollback commit) = IsNumber commit
IsBody version (body.Conf change) = (version ≡ 2) × IsChange change

-- entries with the indexes from n on
abbrev pub AreEntries : ℕ → ℕ → List Entry → Type 0
AreEntries version n [] = Unit {0}
AreEntries version n (e ∷ es) = (e.index ≡ n) × IsNumber e.index × IsEpoch e.epoch × IsBody version e.body × AreEntries version (n + 1) es

-- ---- stores

-- a region has no peers in version 1, and 1 to 64 in version 2
abbrev pub ArePeers : ℕ → List ℕ → Type 0
ArePeers version peers = ((version ≡ 1) × (peers ≡ [])) ⊎ ((version ≡ 2) × (0 < length peers) × (length peers ≤ 64) × Rising 0 peers)

-- bounds that are keys, the start below the end
abbrev pub IsRange : Bounds → Type 0
IsRange r = IfSome r.start IsKey × IfSome r.end IsKey × (is_range r.start r.end ≡ true)

-- a boot region has a range that isn't empty, and the peers that the version allows
abbrev pub IsBoot : ℕ → Boot → Type 0
IsBoot version b = IsRange b.range × ArePeers version b.peers

-- ids of regions rise, and ids of logs; each log begins with the index 6
abbrev pub IsStore : ℕ → Store → Type 0
IsStore version s = Rising 0 (map (λ b. b.region) s.regions) × AllByRecursion (IsBoot version) s.regions × Rising 0 (map (λ l. l.region) s.logs) × AllByRecursion (λ l. AreEntries version 6 l.entries) s.logs

-- ---- totals

-- all entries, store by store and log by log
abbrev pub entries_of : Input → List Entry
entries_of x = flat_map (λ s. flat_map (λ l. l.entries) s.logs) x.stores

-- regions from the start, and new regions of splits
abbrev pub boots_of : Input → ℕ
boots_of x = sum_by (λ s. length s.regions) x.stores + sum_by (λ e. pairs_in e.body) (entries_of x)

-- entries, own and carried
abbrev pub lines_in : Input → ℕ
lines_in x = sum_by (λ e. 1 + length (carried_of e.body)) (entries_of x)

-- operations, carried ones too
abbrev pub operations_of : Input → ℕ
operations_of x = sum_by (λ e. ops_in e.body + sum_by (λ c. carried_ops_in c.body) (carried_of e.body)) (entries_of x)

-- what an input of a text is, and what everything that takes an input asks of it
pub record WellFormed (x : Input) : Type 0 where
  pub version : (x.version ≡ 1) ⊎ (x.version ≡ 2)
  pub ids : Rising 0 (map (λ s. s.id) x.stores)
  pub stores : AllByRecursion (IsStore x.version) x.stores
  pub count : length x.stores ≤ 64
  pub boots : boots_of x ≤ 4096
  pub lines : lines_in x ≤ 1048576
  pub operations : operations_of x ≤ 1048576
