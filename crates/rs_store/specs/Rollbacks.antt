-- The rollbacks that were looked for in the logs of a store.
use Rattle.std.specs.Prelude.{◌≡◌, ℕ, ◌-◌, ◌==◌, Bool, ◌&&◌, List, drop, Option, Some, None, if◌then◌else◌}
use Rattle.std.specs.List.{list_any}
use Rattle.std.specs.Ordering.{nat_cmp}
use Rattle.std.specs.BTreeMap.{get}
use Rattle.rs_key.specs.Epochs.{same_epochs}
use Rattle.rs_key.specs.declared.epoch.Epoch.{Epoch}
use Rattle.rs_entry.specs.declared.entry.Entry.{Entry}
use Rattle.rs_entry.specs.declared.input.Store.{Store}
use Rattle.rs_store.specs.declared.rollbacks.Answer.{Answer}
use Rattle.rs_store.specs.declared.rollbacks.Rollbacks.{Rollbacks}
use Rattle.rs_store.specs.Stores.{own, is_fitting}

-- the log has a rollback past the commit that fits the epoch
abbrev pub has_rollback : List Entry → ℕ → Epoch → Bool
has_rollback log commit epoch = list_any (is_fitting commit epoch) (drop (commit - 5) log)

-- the answers, by region
abbrev pub Answers : Type 0
Answers = ℕ → Option Answer

-- the answers of all regions
abbrev pub answers : Rollbacks → Answers
answers r id = get nat_cmp r.answers id

-- no region has an answer
abbrev pub no_answers : Answers
no_answers id = None

-- the answers with that of one more region
abbrev pub with_answer : Answers → ℕ → Answer → Answers
with_answer f id a x = if x == id then Some a else f x

-- the answer is for this commit and this epoch
abbrev pub is_to : Answer → ℕ → Epoch → Bool
is_to a commit epoch = (a.commit == commit) && same_epochs a.epoch epoch

-- the answer tells of the log what is so
abbrev pub IsTrueOf : List Entry → Answer → Type 0
IsTrueOf log a = a.found ≡ has_rollback log a.commit a.epoch

-- each answer is true of the store's own log of its region
abbrev pub AreTrue : Store → Answers → Type 0
AreTrue store f = (id : ℕ) (a : Answer) → f id ≡ Some a → IsTrueOf (own store id) a
