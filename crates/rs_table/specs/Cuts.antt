-- Cuts of a store's reshapings, and the greatest of what was told.
use Rattle.std.specs.Prelude.{◌≡◌, ℕ, zero, suc, ◌+◌, ◌≤◌, ◌==◌, leb, Bool, true, false, ◌&&◌, Option, Some, None, length, slice_get, position}
use Rattle.std.specs.Option.{option_map}
use Rattle.rs_entry.specs.declared.entry.Body.{Body}
use Rattle.rs_entry.specs.declared.entry.Body.TheVariants as body
use Rattle.rs_entry.specs.declared.entry.Entry.{Entry}
use Rattle.rs_entry.specs.declared.input.Input.{Input}
use Rattle.rs_entry.specs.declared.input.Store.{Store}
use Rattle.rs_check.specs.declared.plan.Maker.{Maker}
use Rattle.rs_check.specs.declared.plan.Maker.TheVariants as makers
use Rattle.rs_check.specs.declared.rows.Row.{Row}
use Rattle.rs_check.specs.Plans.{rows_of, is_at, address_of, maker_of, reshapings_of}
use Rattle.rs_check.specs.Values.{count_of, entry_at, reshaped_by}

-- ---- addresses of a store

-- the row is one of the store
abbrev pub is_of : Option Store → Option Row → Bool
is_of (Some store) (Some row) = row.store == store.id
is_of store row = false

-- the address is one of the store at this place
unfoldable pub is_on : Input → ℕ → ℕ → Bool
is_on input place a = is_of (slice_get input.stores place) (slice_get (rows_of input) a)

-- the address of a region on the store of another address
abbrev pub beside : Input → ℕ → ℕ → Option ℕ
beside input a region = position (is_at (address_of input a).0 region) (rows_of input)

-- ---- reshapings

-- the index; the one before a log's first if there is none
abbrev pub or_five : Option ℕ → ℕ
or_five None = 5
or_five (Some index) = index

-- the index of the address's nth reshaping, counted from 1; 5 before them all
unfoldable pub index_after : Input → ℕ → ℕ → ℕ
index_after input a zero = 5
index_after input a (suc n) = or_five (slice_get (reshapings_of input a) n)

-- the entry of its nth reshaping
abbrev pub entry_of_nth : Input → ℕ → ℕ → Option Entry
entry_of_nth input a nth = entry_at input a (index_after input a nth)

-- a reshaping: an address, and the number of its reshaping, counted from 1
abbrev pub Reshaping : Type 0
Reshaping = ℕ × ℕ

-- the address's reshaping at the index
abbrev pub at_index : Input → ℕ → ℕ → Reshaping
at_index input index a = (a, reshaped_by input a index)

-- the reshaping that made the region, if a split did
abbrev pub birth_in : Input → Maker → Option Reshaping
birth_in input makers.Boot = None
birth_in input (makers.Split parent index) = Some (at_index input index parent)

-- the split that made the address's region
unfoldable pub birth_of : Input → ℕ → Option Reshaping
birth_of input a = birth_in input (maker_of input a)

-- the source and the commit's index, if the body commits a merge
abbrev pub merge_in : Body → Option (ℕ × ℕ)
merge_in (body.Commit source commit carried) = Some (source, commit)
merge_in b = None

-- the source and the index of its prepare, where the entry is a commit
abbrev pub merge_by : Option Entry → Option (ℕ × ℕ)
merge_by None = None
merge_by (Some e) = merge_in e.body

-- the source's reshaping by its prepare, if the entry commits a merge
abbrev pub prepare_by : Input → ℕ → Option (ℕ × ℕ) → Option Reshaping
prepare_by input a None = None
prepare_by input a (Some m) = option_map (at_index input m.1) (beside input a m.0)

-- the source's prepare, where the address's nth reshaping is a commit
unfoldable pub prepare_of : Input → ℕ → ℕ → Option Reshaping
prepare_of input a nth = prepare_by input a (merge_by (entry_of_nth input a nth))

-- ---- cuts

-- how many of each address's reshapings are covered: the first ones
abbrev pub Cut : Type 0
Cut = ℕ → ℕ

-- the cut covers the reshaping, if there is one to be covered
abbrev pub covers : Cut → Option Reshaping → Bool
covers n None = true
covers n (Some r) = leb r.1 (n r.0)

-- a number of reshapings of each of the store's regions, with which each has what it needs
pub record IsCut (input : Input) (place : ℕ) (n : Cut) : Type 0 where
  -- of the store's addresses alone, and of each at most as many as it has
  pub here : (a : ℕ) → is_on input place a ≡ false → n a ≡ 0
  pub within : (a : ℕ) → n a ≤ length (reshapings_of input a)
  -- a child after its split, and a commit after its source's prepare
  pub born : (a : ℕ) → 1 ≤ n a → covers n (birth_of input a) ≡ true
  pub prepared : (a nth : ℕ) → 1 ≤ nth → nth ≤ n a → covers n (prepare_of input a nth) ≡ true

-- the second contains the first
abbrev pub IsIn : Cut → Cut → Type 0
IsIn m n = (a : ℕ) → m a ≤ n a

-- ---- what was told

-- whether an address's nth reshaping was told
abbrev pub Telling : Type 0
Telling = ℕ → ℕ → Bool

-- each reshaping that the cut covers was told
abbrev pub AllTold : Telling → Cut → Type 0
AllTold told n = (a nth : ℕ) → 1 ≤ nth → nth ≤ n a → told a nth ≡ true

-- the cut that contains each cut of what was told
pub record IsGreatest (input : Input) (place : ℕ) (told : Telling) (n : Cut) : Type 0 where
  pub cut : IsCut input place n
  pub told_all : AllTold told n
  pub greatest : (m : Cut) → IsCut input place m → AllTold told m → IsIn m n

-- the plan has the reshaping, and it is of the store's addresses
abbrev pub is_known : Input → ℕ → ℕ → ℕ → Bool
is_known input place a nth = is_on input place a && (leb 1 nth && leb nth (length (reshapings_of input a)))

-- the numbers are those of the plan
abbrev pub AreKnown : Input → ℕ → Telling → Type 0
AreKnown input place told = (a nth : ℕ) → told a nth ≡ true → is_known input place a nth ≡ true

-- all reshapings of the store's addresses
abbrev pub IsFull : Input → ℕ → Cut → Type 0
IsFull input place n = (a : ℕ) → is_on input place a ≡ true → n a ≡ length (reshapings_of input a)

-- ---- how much a cut covers

-- how many reshapings of the first addresses
abbrev pub size_below : Cut → ℕ → ℕ
size_below n zero = 0
size_below n (suc a) = size_below n a + n a

-- how many reshapings the cut covers
abbrev pub size_of : Input → Cut → ℕ
size_of input n = size_below n (count_of input)
