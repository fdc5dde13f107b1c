-- What reshapings do to the keys that regions own, and to their epochs.
use Rattle.std.specs.Prelude.{◌≡◌, ℕ, ◌+◌, ◌<◌, ◌≤◌, ◌||◌, Bool, true, List, [], ◌∷◌, map, length, None}
use Rattle.std.specs.List.{AllByRecursion, list_any}
use Rattle.rs_key.specs.Keys.{is_below}
use Rattle.rs_key.specs.Ranges.{Bounds, is_range, holds, is_next_to, join, first_bad_cut, cut}
use Rattle.rs_key.specs.Epochs.{after_split, after_prepare, after_commit, after_rollback, after_conf}
use Rattle.rs_key.specs.declared.epoch.Epoch.{Epoch}
use Rattle.rs_entry.specs.declared.entry.Side.{Side}
use Rattle.rs_entry.specs.declared.entry.Change.{Change}
use Rattle.rs_entry.specs.WellFormed.{Rising, IsChange}
use Rattle.rs_region.specs.Reshapings.{kept_range, shares, changed_peers}
use Rattle.rs_region.specs.Verdicts.{is_good_change}

-- ---- keys

-- the start is below the end if both bounds are there
abbrev pub Rises : Bounds → Type 0
Rises range = is_range range.start range.end ≡ true

-- each key of the part is a key of the whole
abbrev pub IsInside : Bounds → Bounds → Type 0
IsInside part whole = (key : List ℕ) → holds part key ≡ true → holds whole key ≡ true

-- no key is in both
abbrev pub AreApart : Bounds → Bounds → Type 0
AreApart a b = (key : List ℕ) → holds a key ≡ true → holds b key ≡ true → ⊥

-- each key of the first is below each key of the second
abbrev pub IsBefore : Bounds → Bounds → Type 0
IsBefore a b = (key other : List ℕ) → holds a key ≡ true → holds b other ≡ true → is_below key other ≡ true

-- each of the ranges stands so to each later one
abbrev pub EachToLater : (Bounds → Bounds → Type 0) → List Bounds → Type 0
EachToLater R [] = Unit {0}
EachToLater R (r ∷ rs) = AllByRecursion (R r) rs × EachToLater R rs

-- some of the ranges holds the key
abbrev pub some_holds : List Bounds → List ℕ → Bool
some_holds ranges key = list_any (λ r. holds r key) ranges

-- ranges from left to right that hold each key of the whole exactly once, and no other
pub record IsParted (whole : Bounds) (parts : List Bounds) : Type 0 where
  pub rise : AllByRecursion Rises parts
  pub inside : AllByRecursion (λ part. IsInside part whole) parts
  pub in_order : EachToLater IsBefore parts
  pub apart : EachToLater AreApart parts
  pub none_lost : (key : List ℕ) → holds whole key ≡ some_holds parts key

-- a good cut parts the range
abbrev pub CutParts : Type 0
CutParts = (range : Bounds) (keys : List (List ℕ)) → Rises range → first_bad_cut range keys ≡ None → IsParted range (cut range keys)

-- a cut gives one range more than there are keys
abbrev pub CutCounts : Type 0
CutCounts = (range : Bounds) (keys : List (List ℕ)) → length (cut range keys) ≡ length keys + 1

-- the ranges of the new regions
abbrev pub ranges_of : List (ℕ × Bounds) → List Bounds
ranges_of news = map (λ share. share.1) news

-- what the split region keeps and what the new ones take hold each key of the whole exactly once, and no other
pub record IsShared (whole kept : Bounds) (news : List Bounds) : Type 0 where
  pub kept_rises : Rises kept
  pub kept_inside : IsInside kept whole
  pub rise : AllByRecursion Rises news
  pub inside : AllByRecursion (λ part. IsInside part whole) news
  pub kept_apart : AllByRecursion (AreApart kept) news
  pub apart : EachToLater AreApart news
  pub none_lost : (key : List ℕ) → holds whole key ≡ holds kept key || some_holds news key

-- an accepted split shares the range out
abbrev pub SplitShares : Type 0
SplitShares = (side : Side) (ids : List ℕ) (range : Bounds) (keys : List (List ℕ)) → Rises range → first_bad_cut range keys ≡ None → length ids ≡ length keys
    → IsShared range (kept_range side range (cut range keys)) (ranges_of (shares side ids (cut range keys)))

-- a join of two ranges next to each other holds exactly what its parts held
abbrev pub JoinHoldsBoth : Type 0
JoinHoldsBoth = (a b : Bounds) → Rises a → Rises b → is_next_to a b ≡ true → (key : List ℕ) → holds (join a b) key ≡ holds a key || holds b key

-- the bounds of a join rise
abbrev pub JoinRises : Type 0
JoinRises = (a b : Bounds) → Rises a → Rises b → is_next_to a b ≡ true → Rises (join a b)

-- ---- epochs

-- neither number falls, one of them rises, and neither by more than the step
pub record IsRaised (before after : Epoch) (step : ℕ) : Type 0 where
  pub conf_ver : before.conf_ver ≤ after.conf_ver
  pub version : before.version ≤ after.version
  pub above : before.conf_ver + before.version < after.conf_ver + after.version
  pub conf_ver_near : after.conf_ver ≤ before.conf_ver + step
  pub version_near : after.version ≤ before.version + step

-- a split into at least one new region raises the version by their number
abbrev pub SplitRaises : Type 0
SplitRaises = (e : Epoch) (n : ℕ) → 0 < n → IsRaised e (after_split e n) n

-- a prepared merge raises the source's version by one
abbrev pub PrepareRaises : Type 0
PrepareRaises = (e : Epoch) → IsRaised e (after_prepare e) 1

-- a rolled back merge raises the source's version by one
abbrev pub RollbackRaises : Type 0
RollbackRaises = (e : Epoch) → IsRaised e (after_rollback e) 1

-- a conf change raises the epoch by one
abbrev pub ConfRaises : Type 0
ConfRaises = (e : Epoch) → IsRaised e (after_conf e) 1

-- the target's version rises above its own and the source's, and by no more than one above the greater
pub record IsAboveBoth (target source after : Epoch) : Type 0 where
  pub conf_ver : after.conf_ver ≡ target.conf_ver
  pub above_target : target.version < after.version
  pub above_source : source.version < after.version
  pub near : (bound : ℕ) → target.version ≤ bound → source.version ≤ bound → after.version ≤ bound + 1

-- a committed merge raises the target's version above both versions
abbrev pub CommitRaises : Type 0
CommitRaises = (target source : Epoch) → IsAboveBoth target source (after_commit target source)

-- ---- peers

-- 1 to 64 ids that rise
pub record ArePeers (peers : List ℕ) : Type 0 where
  pub rising : Rising 0 peers
  pub some : 0 < length peers
  pub most : length peers ≤ 64

-- a good change leaves 1 to 64 ids that rise
abbrev pub ChangeKeepsPeers : Type 0
ChangeKeepsPeers = (peers : List ℕ) (change : Change) → ArePeers peers → IsChange change → is_good_change peers change ≡ true → ArePeers (changed_peers peers change)
