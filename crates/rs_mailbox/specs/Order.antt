-- The rule of a handover's table: word 0 is the state word, word 1 the count of announcements, and slot 0 holds the value with its handled count.
use Rattle.std.specs.Prelude.{◌≡◌, ℕ, ◌≤◌, true, false, [], ◌∷◌, map, length, Option, Some, None}
use mathlib.Core.Option.{none, some}
use mathlib.Core.Option as opt
use lib.ListN.{get_elem?}
use Rattle.atomic_table.specs.Table.{State}
use Rattle.rs_mailcore.specs.declared.thread.Stance.{Stance}
use Rattle.rs_mailcore.specs.declared.thread.Phase.TheVariants.{Holding}
use Rattle.rs_mailcore.specs.Words.{stance}
use Rattle.rs_mailcore.specs.Tidy.{IsTidy}
use Rattle.rs_mailbox.specs.declared.view.View.{View}
use Rattle.rs_mailbox.specs.declared.stored.Stored.{Stored}

-- the stance of a view
abbrev pub stance_of : {N : Type 0} → View N → Stance
stance_of v = v.stance

-- the view of the one who makes the cell and holds the machine at first
abbrev pub newcomer : {N : Type 0} → N → View N
newcomer name = record { name = name; number = 0; made = 1; unborn = true; empty = true; shut = false; stance = stance Holding 0 0; deeds = [] }

-- what a slot's place holds: none while it is out, None while the handover is being made
abbrev pub Place : Type 0 → Type 0
Place T = opt.Option (Option (Stored T))

-- how many messages the machine in the slot has handled, if there is one
abbrev pub in_slot : {T : Type 0} → Option (Stored T) → opt.Option ℕ
in_slot None = none
in_slot (Some x) = some x.handled

-- how many messages the machine at home has handled, if it is there
abbrev pub home_count : {T : Type 0} → Place T → opt.Option ℕ
home_count none = none
home_count (some h) = in_slot h

module _ {T N : Type 0} (name_of : T → N) (count_of : T → ℕ) (key : T) where
  -- the value at home has the handover's name, and its count is the handled count
  abbrev pub Fits : Place T → Type 0
  Fits home = (x : Stored T) → home ≡ some (Some x) → (name_of x.value ≡ name_of key) × (count_of x.value ≡ x.handled)

  pub record IsOrderly (s : State (Option (Stored T)) (View N)) : Type 0 where
    pub word : ℕ
    pub announced : ℕ
    pub home : Place T
    pub words : s.words ≡ word ∷ announced ∷ []
    pub homes : s.homes ≡ home ∷ []
    pub tidy : IsTidy word announced (home_count home) (map stance_of s.views)
    pub fits : Fits home
    pub named : (i : ℕ) (v : View N) → get_elem? s.views i ≡ some v → (v.name ≡ name_of key) × (v.number ≡ i)
    pub few : length s.views ≤ 4096
    pub all_made : (v : View N) → get_elem? s.views 0 ≡ some v → v.made ≡ length s.views
    -- where a hand has closed the handover, the word is Drop
    pub gone : (i : ℕ) (v : View N) → get_elem? s.views i ≡ some v → v.shut ≡ true → word ≡ 2
    -- while the first hand makes the handover there is no other hand, and at first the slot is at home without a value
    pub unborn : (i : ℕ) (v : View N) → get_elem? s.views i ≡ some v → v.unborn ≡ true → (word ≡ 3) × (length s.views ≡ 1)
    pub empty : (i : ℕ) (v : View N) → get_elem? s.views i ≡ some v → v.empty ≡ true → (home ≡ some None) × (length s.views ≡ 1)
