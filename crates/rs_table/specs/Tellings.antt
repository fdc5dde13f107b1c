-- What the code keeps of what was told, and of what reshapings need.
use Rattle.std.specs.Prelude.{◌≡◌, ℕ, zero, suc, ◌+◌, ◌-◌, ◌<◌, ◌==◌, ltb, Bool, true, false, ◌&&◌, List, [], ◌∷◌, ◌++◌, Option, Some, None, length, get_or, if◌then◌else◌}
use Rattle.std.specs.BTreeMap.{get}
use Rattle.std.specs.BTreeSet.{contains}
use Rattle.std.specs.List.{list_any}
use Rattle.std.specs.Ordering.{nat_cmp, ordering_then}
use Rattle.rs_entry.specs.declared.input.Input.{Input}
use Rattle.rs_check.specs.Plans.{reshapings_of}
use Rattle.rs_table.specs.declared.needs.Needs.{Needs}
use Rattle.rs_table.specs.declared.told.Told.{Told}
use Rattle.rs_table.specs.declared.waiters.Waiters.{Waiters}
use Rattle.rs_table.specs.Cuts.{Cut, Reshaping, Telling, birth_of, covers, is_on, prepare_of}

-- ---- what was told

-- whether it was told
abbrev pub has : Told → Telling
has t a nth = contains (λ x y. ordering_then (nat_cmp x.0 y.0) (nat_cmp x.1 y.1)) t.by (a, nth)

-- no reshaping was told
abbrev pub nothing : Telling
nothing a nth = false

-- the one reshaping of this address with this number
abbrev pub is_this : ℕ → ℕ → Telling
is_this address number a nth = (address == a) && (number == nth)

-- ---- how far each address is

-- the numbers of a list, by address
abbrev pub numbers : List ℕ → Cut
numbers ns a = get_or ns a 0

-- whether the cut covers what the address's nth reshaping needs
abbrev pub has_needs : Input → Cut → ℕ → ℕ → Bool
has_needs input n a nth = covers n (birth_of input a) && covers n (prepare_of input a nth)

-- whether the address is one of the store that has a reshaping beyond the cut, and the cut covers what that needs
abbrev pub can_follow : Input → ℕ → Cut → ℕ → Bool
can_follow input place n a = is_on input place a && (ltb (n a) (length (reshapings_of input a)) && has_needs input n a (n a + 1))

-- whether the address's next reshaping was told, and what it needs is covered
abbrev pub may_grow : Input → Telling → Cut → ℕ → Bool
may_grow input told n a = told a (n a + 1) && has_needs input n a (n a + 1)

-- how many reshapings of the store's first addresses aren't covered
abbrev pub left_below : Input → ℕ → Cut → ℕ → ℕ
left_below input place n zero = 0
left_below input place n (suc a) = left_below input place n a + (length (reshapings_of input a) - n a)

-- how many of the store's first addresses have a reshaping that isn't covered
abbrev pub open_below : Input → ℕ → Cut → ℕ → ℕ
open_below input place n zero = 0
open_below input place n (suc a) = open_below input place n a + (if is_on input place a && ltb (n a) (length (reshapings_of input a)) then 1 else 0)

-- ---- what reshapings need

-- what the address's first reshapings need
abbrev pub prepares_of : Input → ℕ → ℕ → List (Option Reshaping)
prepares_of input a zero = []
prepares_of input a (suc n) = prepares_of input a n ++ prepare_of input a (suc n) ∷ []

-- what the region needs: its birth and the prepares of its merges
abbrev pub needs_of : Input → ℕ → Needs
needs_of input a = record { birth = birth_of input a; prepares = prepares_of input a (length (reshapings_of input a)) }

-- nothing is needed
abbrev pub no_needs : Needs
no_needs = record { birth = None; prepares = [] }

-- the needs of an address of the store
abbrev pub needs_on : Input → ℕ → ℕ → Needs
needs_on input place a = if is_on input place a then needs_of input a else no_needs

-- the needs of the first addresses
abbrev pub needs_below : Input → ℕ → ℕ → List Needs
needs_below input place zero = []
needs_below input place (suc a) = needs_below input place a ++ needs_on input place a ∷ []

-- ---- who needs a reshaping

-- the list; the empty one if there is none
abbrev pub or_nil : Option (List ℕ) → List ℕ
or_nil None = []
or_nil (Some xs) = xs

-- the addresses that need an address's nth reshaping
abbrev pub waiters : Waiters → ℕ → ℕ → List ℕ
waiters w a nth = or_nil (get (λ x y. ordering_then (nat_cmp x.0 y.0) (nat_cmp x.1 y.1)) w.by (a, nth))

-- nobody waits for a reshaping
abbrev pub no_waiters : ℕ → ℕ → List ℕ
no_waiters a nth = []

-- one more
abbrev pub with_waiter : (ℕ → ℕ → List ℕ) → Reshaping → ℕ → ℕ → ℕ → List ℕ
with_waiter f need x a nth = if is_this need.0 need.1 a nth then f a nth ++ x ∷ [] else f a nth

-- x is one of them
abbrev pub is_among : ℕ → List ℕ → Bool
is_among x xs = list_any (λ y. y == x) xs

-- the address waits for all that it needs
pub record IsWaiting (input : Input) (f : ℕ → ℕ → List ℕ) (x : ℕ) : Type 0 where
  pub birth : (need : Reshaping) → birth_of input x ≡ Some need → is_among x (f need.0 need.1) ≡ true
  pub prepares : (nth : ℕ) (need : Reshaping) → nth < length (reshapings_of input x) → prepare_of input x (nth + 1) ≡ Some need → is_among x (f need.0 need.1) ≡ true

-- all addresses of the store wait for what they need
abbrev pub AllWait : Input → ℕ → (ℕ → ℕ → List ℕ) → Type 0
AllWait input place f = (x : ℕ) → is_on input place x ≡ true → IsWaiting input f x

-- the same for a list of needs
abbrev pub Waits : (ℕ → ℕ → List ℕ) → Needs → ℕ → Type 0
Waits f needs x =
    ((need : Reshaping) → needs.birth ≡ Some need → is_among x (f need.0 need.1) ≡ true)
    × ((k : ℕ) (need : Reshaping) → get_or needs.prepares k None ≡ Some need → is_among x (f need.0 need.1) ≡ true)

-- who waited still does
abbrev pub Keeps : (ℕ → ℕ → List ℕ) → (ℕ → ℕ → List ℕ) → Type 0
Keeps f g = (x a nth : ℕ) → is_among x (f a nth) ≡ true → is_among x (g a nth) ≡ true
