-- What a clause says of a worker's stations, and of a router's mailboxes.
use Rattle.std.specs.Prelude.{◌≡◌, ℕ, ◌<◌, List, All, length, map, slice_index, slice_index_or, slice_set}
use Rattle.std.specs.Coded.{Coded-set, coded_ℕ}
use denote.Struct.Props as logic
use Rattle.rs_mailcore.specs.declared.named.Named.{Ghosts}
use Rattle.rs_mailcore.specs.declared.named.Fsm as fsm
use Rattle.rs_mailbox.specs.declared.mailbox.Mailbox.{Mailbox}
use Rattle.rs_mailbox.specs.declared.station.Station.{Station}
use Rattle.rs_mailbox.specs.Stations.{mailbox_name, view, IsCalm, IsStationOf, IsNewStation}
use Rattle.rs_router.specs.Routes.{ShutsOnce}
use Rattle.rs_router.specs.Props.{none_prop, Option_set}

module _ {A B : Type 0} where
  -- the lists have one length, and R holds of the elements at each place
  abbrev pub Paired : (A → B → Type 0) → List A → List B → Type 0
  Paired R xs ys = (length ys ≡ length xs) × ((i : ℕ) (x : A) (y : B) → i < length xs → R (slice_index_or xs i x) (slice_index_or ys i y))

  pub Paired_prop : (R : A → B → Type 0) → ((x : A) (y : B) → IsProp (R x y)) → (xs : List A) (ys : List B) → IsProp (Paired R xs ys)
  Paired_prop R prop xs ys = λ p q i. (Coded-set coded_ℕ (length ys) (length xs) p.0 q.0 i, λ k x y l. prop (slice_index_or xs k x) (slice_index_or ys k y) (p.1 k x y l) (q.1 k x y l) i)

module _ {A : Type 0} where
  -- the element at this place changed as R says, and the others stayed
  abbrev pub ChangesAt : ℕ → (A → A → Type 0) → List A → List A → Type 0
  ChangesAt i R xs ys = (x : A) × (y : A) × (i < length xs) × (x ≡ slice_index_or xs i x) × (ys ≡ slice_set xs i y) × R x y

module _ {F M P : Type 0} {k : Ghosts M P} where
  -- each mailbox's address is its place
  abbrev pub AreAddressed : List (Mailbox F M P k) → Type 0
  AreAddressed bs = (i : ℕ) → i < length bs → slice_index (map (λ b. b.address) bs) i ≡ i

  -- all mailboxes have this name
  abbrev pub AllNamed : (F → P) → P → List (Mailbox F M P k) → Type 0
  AllNamed name_of name bs = All (λ b. mailbox_name name_of b ≡ name) bs

  -- the mailbox at this address has this name
  abbrev pub NamedAt : (F → P) → P → ℕ → List (Mailbox F M P k) → Type 0
  NamedAt name_of name address bs = (b : Mailbox F M P k) → mailbox_name name_of (slice_index_or bs address b) ≡ name

module _ {F M P : Type 0} {d : fsm.Ghosts F M P} {n : Ghosts F P} {k : Ghosts M P} where
  -- the station at each place is of the mailbox at that place
  abbrev pub AreDesksOf : (F → P) → List (Mailbox F M P k) → List (Station F M P d n k) → Type 0
  AreDesksOf name_of bs ss = Paired (IsStationOf name_of) bs ss

  -- the stations are at these mailboxes, and each has made no step and pushed nothing
  abbrev pub AreNewDesks : (F → P) → List (Mailbox F M P k) → List (Station F M P d n k) → Type 0
  AreNewDesks name_of bs ss = Paired (IsNewStation name_of) bs ss

  -- each of the stations is calm
  abbrev pub AllCalm : List (Station F M P d n k) → Type 0
  AllCalm ss = All (λ s. IsCalm s) ss

  -- the station at this address is calm
  abbrev pub CalmAt : ℕ → List (Station F M P d n k) → Type 0
  CalmAt address ss = (s : Station F M P d n k) → IsCalm (slice_index_or ss address s)

  -- each station closed its mailbox once, and made no other step
  abbrev pub AllShutOnce : List (Station F M P d n k) → List (Station F M P d n k) → Type 0
  AllShutOnce ss ts = Paired (λ s t. ShutsOnce (view s) (view t) × (t.sender ≡ s.sender)) ss ts

module _ {F M P : Type 0} {d : fsm.Ghosts F M P} {n : Ghosts F P} {k : Ghosts M P} (set : (x y : P) → IsProp (x ≡ y)) where
  pub IsStationOf_prop : (name_of : F → P) (b : Mailbox F M P k) (s : Station F M P d n k) → IsProp (IsStationOf name_of b s)
  IsStationOf_prop name_of b s = hlevel (set, Option_set set, none_prop, logic.props)
