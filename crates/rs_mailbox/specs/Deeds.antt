-- How many steps of a kind a thread made, and what the last of them found.
use Rattle.std.specs.Prelude.{ℕ, ◌+◌, ◌==◌, Bool, true, false, List, [], ◌∷◌}
use Rattle.rs_mailbox.specs.declared.view.Kind.{Kind}
use Rattle.rs_mailbox.specs.declared.view.Kind.TheVariants.{Announce, Notify, Take, Release, Recheck, Retake, Close, Look, Reschedule}
use Rattle.rs_mailbox.specs.declared.view.Deed.{Deed}

-- the number of each kind of step
abbrev pub code : Kind → ℕ
code Announce = 1
code Notify = 2
code Take = 3
code Release = 4
code Recheck = 5
code Retake = 6
code Close = 7
code Look = 8
code Reschedule = 9

-- 1 if it is so, else 0
abbrev pub one_if : Bool → ℕ
one_if true = 1
one_if false = 0

-- how many steps of this kind were taken
abbrev pub made : Kind → List Deed → ℕ
made k [] = 0
made k (d ∷ ds) = one_if (code d.kind == code k) + made k ds

-- the first number if it is so, else the second
abbrev pub found_if : Bool → ℕ → ℕ → ℕ
found_if true x y = x
found_if false x y = y

-- what the last step of this kind found, or `before` if there is none
abbrev pub last_found : Kind → ℕ → List Deed → ℕ
last_found k before [] = before
last_found k before (d ∷ ds) = last_found k (found_if (code d.kind == code k) d.found before) ds
