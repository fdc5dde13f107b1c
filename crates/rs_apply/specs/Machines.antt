-- How far a machine comes in one call, what its progress says, and what it sends for it.
use Rattle.std.specs.Prelude.{◌≡◌, ◌⊎◌, ℕ, ◌+◌, ◌-◌, ◌<◌, ◌≤◌, ltb, ◌==◌, ◌&&◌, Bool, true, false, List, [], ◌∷◌, ◌++◌, Option, Some, None, min, if◌then◌else◌}
use Rattle.std.specs.Borrow.{Bor}
use Rattle.std.specs.List.{list_any}
use Rattle.rs_entry.specs.declared.input.Input.{Input}
use Rattle.rs_entry.specs.declared.outcome.Mode.{Mode}
use Rattle.rs_entry.specs.declared.outcome.Mode.TheVariants as mode
use Rattle.rs_check.specs.declared.plan.Plan.{Plan}
use Rattle.rs_check.specs.Plans.{stop_of, ends_of}
use Rattle.rs_check.specs.Values.{region_of, store_place}
use Rattle.rs_msg.specs.declared.closed.Closed.{Closed}
use Rattle.rs_msg.specs.declared.messages.ApplyMsg.{ApplyMsg}
use Rattle.rs_msg.specs.declared.messages.ApplyMsg.TheVariants as apply
use Rattle.rs_msg.specs.declared.messages.PeerMsg.{PeerMsg}
use Rattle.rs_msg.specs.declared.messages.PeerMsg.TheVariants as peer
use Rattle.rs_msg.specs.declared.messages.StoreMsg.{StoreMsg}
use Rattle.rs_msg.specs.declared.messages.StoreMsg.TheVariants as store
use Rattle.rs_msg.specs.declared.outbox.Outbox.{Outbox}
use Rattle.rs_apply.specs.declared.progress.Progress.{Progress}
use Rattle.rs_apply.specs.declared.progress.Progress.TheVariants as progress
use Rattle.rs_apply.specs.declared.progress.Life.{Life}
use Rattle.rs_apply.specs.declared.progress.Life.TheVariants as life
use Rattle.rs_apply.specs.Births.{AddsBirths, made_from}
use Rattle.rs_apply.specs.Findings.{find_on}
use Rattle.rs_apply.specs.Merges.{IsWithoutAll, merges_from, results_from, waits_at}
use Rattle.rs_apply.specs.Reshapings.{reshapings_from}

-- ---- what a machine has

-- the plan and the address that a machine's region has, and the merges of one that has ended
abbrev pub tie : Bor Plan → ℕ → Life → Bor Plan × ℕ × List (ℕ × ℕ)
tie plan a life.Unborn = (plan, a, [])
tie plan a (life.Born r) = (r.plan, r.address, [])
tie plan a (life.Over merged) = (plan, a, merged)

-- the merges that a region that has ended has committed: all of its entries'
abbrev pub all_merges : Input → ℕ → Life → List (ℕ × ℕ)
all_merges input a life.Unborn = []
all_merges input a (life.Born r) = []
all_merges input a (life.Over merged) = merges_from input a 5 (stop_of input a - 5)

-- the region is the one at the address of the plan
abbrev pub IsTied : Bor Plan → ℕ → Life → Type 0
IsTied plan a life = tie plan a life ≡ (plan, a, all_merges plan.now a life)

-- ---- how far it comes

-- a region that ends merged may end once its target's CatchUpLogs came
abbrev pub may_end : Mode → Bool → Bool
may_end (mode.Merged target) caught = caught
may_end m caught = true

-- the machine at the address may end, whether or not its peer asked it to catch up
abbrev pub can_end : Input → ℕ → Bool → Bool
can_end input a caught = may_end (ends_of input a) caught

-- the last index up to the stop that a Task has named
abbrev pub last_named : Input → ℕ → ℕ → ℕ
last_named input a named = min named (stop_of input a)

-- what the progress says at the index, where entries up to the last may be applied
abbrev pub IsCause : Input → ℕ → ℕ → Bool → List Closed → ℕ → Progress → Type 0
IsCause input a last caught closed j progress.Ended = (j ≡ stop_of input a) × (can_end input a caught ≡ true)
IsCause input a last caught closed j (progress.WaitsFor source commit) = (j < last) × (waits_at input a closed j ≡ Some (source, commit))
IsCause input a last caught closed j progress.More = (j < last) × (waits_at input a closed j ≡ None)
IsCause input a last caught closed j progress.Rests = (last ≤ j) × (j ≡ stop_of input a → can_end input a caught ≡ false)

-- there are more entries to apply
abbrev pub is_more : Progress → Bool
is_more progress.More = true
is_more p = false

-- the region has applied its last entry
abbrev pub is_ended : Progress → Bool
is_ended progress.Ended = true
is_ended p = false

-- the machine is over after Ended; otherwise its region is at the index
abbrev pub IsLife : ℕ → Progress → Life → Type 0
IsLife j p life.Unborn = ⊥
IsLife j p (life.Born r) = (r.index ≡ j) × (is_ended p ≡ false)
IsLife j p (life.Over merged) = is_ended p ≡ true

-- ---- what it sends

-- the message to the peer machine that entries up to j are applied, if any were applied after i
abbrev pub applied_if : Bor Plan → ℕ → ℕ → ℕ → List (ℕ × PeerMsg)
applied_if plan a i j = if ltb i j then (a, peer.Applied plan j) ∷ [] else []

-- the same source and the same index of the commit
abbrev pub is_merge : ℕ × ℕ → ℕ × ℕ → Bool
is_merge x y = (x.0 == y.0) && (x.1 == y.1)

-- the merge is among these
abbrev pub has_merge : List (ℕ × ℕ) → ℕ × ℕ → Bool
has_merge merges merge = list_any (is_merge merge) merges

-- the merges that were asked for, after one more
abbrev pub with_asked : List (ℕ × ℕ) → ℕ × ℕ → List (ℕ × ℕ)
with_asked asked merge = if has_merge asked merge then asked else asked ++ merge ∷ []

-- the merges for which the source was asked to catch up, after this progress
abbrev pub asked_after : List (ℕ × ℕ) → Progress → List (ℕ × ℕ)
asked_after asked progress.Ended = asked
asked_after asked (progress.WaitsFor source commit) = with_asked asked (source, commit)
asked_after asked progress.More = asked
asked_after asked progress.Rests = asked

-- the request to a source's peer to catch up to the commit, if the source has an address
abbrev pub catch_up : Bor Plan → ℕ → ℕ → Option ℕ → List (ℕ × PeerMsg)
catch_up plan a commit None = []
catch_up plan a commit (Some b) = (b, peer.CatchUp plan (region_of plan.now a) commit) ∷ []

-- the request to the source's peer machine, if its merge is waited for the first time
abbrev pub asks_for : Bor Plan → ℕ → List (ℕ × ℕ) → ℕ × ℕ → List (ℕ × PeerMsg)
asks_for plan a asked merge = if has_merge asked merge then [] else catch_up plan a merge.1 (find_on plan.now a merge.0)

-- the requests to catch up that this progress sends: one, if it waits for a source not yet asked
abbrev pub catch_ups : Bor Plan → ℕ → List (ℕ × ℕ) → Progress → List (ℕ × PeerMsg)
catch_ups plan a asked progress.Ended = []
catch_ups plan a asked (progress.WaitsFor source commit) = asks_for plan a asked (source, commit)
catch_ups plan a asked progress.More = []
catch_ups plan a asked progress.Rests = []

-- the message has what the address hands over to its target at its stop
abbrev pub IsHandover : Input → ℕ → ℕ → ApplyMsg → Type 0
IsHandover input a target (apply.Task plan upto) = ⊥
IsHandover input a target (apply.Birth piece) = ⊥
IsHandover input a target (apply.CatchUpLogs plan t commit) = ⊥
IsHandover input a target (apply.SourceDone closed) = (closed.value.plan.now ≡ input) × (closed.value.address ≡ a) × (closed.value.target ≡ target) × (closed.value.commit ≡ stop_of input a)
IsHandover input a target (apply.Noop plan) = ⊥

-- the outbox gains one message, which hands the region over to the target's apply machine
pub record AddsHandover (input : Input) (a target : ℕ) (old new : List (ℕ × ApplyMsg)) : Type 0 where
  pub place : ℕ
  pub found : find_on input a target ≡ Some place
  pub message : ApplyMsg
  pub is : new ≡ old ++ (place, message) ∷ []
  pub tells : IsHandover input a target message

-- a region that ends merged hands over to its target
abbrev pub HandsOver : Input → ℕ → Mode → List (ℕ × ApplyMsg) → List (ℕ × ApplyMsg) → Type 0
HandsOver input a (mode.Merged target) old new = AddsHandover input a target old new
HandsOver input a mode.Normal old new = new ≡ old
HandsOver input a (mode.Merging target commit) old new = new ≡ old
HandsOver input a mode.Removed old new = new ≡ old

-- the message has the address's ending
abbrev pub IsEndingMsg : Input → ℕ → StoreMsg → Type 0
IsEndingMsg input a (store.Reshaped plan b nth) = ⊥
IsEndingMsg input a (store.Ended ending) = (ending.value.plan.now ≡ input) × (ending.value.address ≡ a)

-- one message more, to the store's control machine, that has the address's ending
pub record AddsEnding (input : Input) (a : ℕ) (old new : List (ℕ × StoreMsg)) : Type 0 where
  pub message : StoreMsg
  pub is : new ≡ old ++ (store_place input a, message) ∷ []
  pub tells : IsEndingMsg input a message

-- the region hands over exactly with Ended
abbrev pub EndsApplies : Input → ℕ → Progress → List (ℕ × ApplyMsg) → List (ℕ × ApplyMsg) → Type 0
EndsApplies input a progress.Ended old new = HandsOver input a (ends_of input a) old new
EndsApplies input a (progress.WaitsFor source commit) old new = new ≡ old
EndsApplies input a progress.More old new = new ≡ old
EndsApplies input a progress.Rests old new = new ≡ old

-- the region's ending is sent exactly with Ended
abbrev pub EndsStores : Input → ℕ → Progress → List (ℕ × StoreMsg) → List (ℕ × StoreMsg) → Type 0
EndsStores input a progress.Ended old new = AddsEnding input a old new
EndsStores input a (progress.WaitsFor source commit) old new = new ≡ old
EndsStores input a progress.More old new = new ≡ old
EndsStores input a progress.Rests old new = new ≡ old

-- what is sent for a progress, beside what the entries sent
pub record HasConcluded (plan : Bor Plan) (a : ℕ) (p : Progress) (asked_for : List (ℕ × ℕ)) (out : Outbox) (asked_then : List (ℕ × ℕ)) (out_after : Outbox) : Type 0 where
  pub asked : asked_then ≡ asked_after asked_for p
  pub peers : out_after.peers ≡ out.peers ++ catch_ups plan a asked_for p
  pub applies : EndsApplies plan.now a p out.applies out_after.applies
  pub stores : EndsStores plan.now a p out.stores out_after.stores

-- ---- one call

-- the births of the entries, and then what a region that ends hands over
pub record SendsApplies (input : Input) (a i n : ℕ) (p : Progress) (old new : List (ℕ × ApplyMsg)) : Type 0 where
  pub between : List (ℕ × ApplyMsg)
  pub births : AddsBirths input a (made_from input a i n) old between
  pub handover : EndsApplies input a p between new

-- a born machine comes from i to j
pub record Comes (plan : Bor Plan) (a named : ℕ) (caught : Bool) (budget i : ℕ) (held : List Closed) (asked_for : List (ℕ × ℕ)) (out : Outbox) (p : Progress) (next : Life) (held_after : List Closed) (asked_then : List (ℕ × ℕ)) (out_after : Outbox) : Type 0 where
  pub j : ℕ
  pub from : i ≤ j
  pub within : j ≤ i + budget
  pub last : (j ≡ i) ⊎ (j ≤ last_named plan.now a named)
  pub cause : IsCause plan.now a (last_named plan.now a named) caught held_after j p
  pub more : is_more p ≡ true → j ≡ i + budget
  pub life_is : IsLife j p next
  pub closed : IsWithoutAll plan.now a i (j - i) held held_after
  pub asked : asked_then ≡ asked_after asked_for p
  pub peers : out_after.peers ≡ out.peers ++ (results_from plan a i (j - i) ++ (applied_if plan a i j ++ catch_ups plan a asked_for p))
  pub applies : SendsApplies plan.now a i (j - i) p out.applies out_after.applies
  pub stores : EndsStores plan.now a p (out.stores ++ reshapings_from plan a i (j - i)) out_after.stores

-- a machine that isn't born, or is over, rests and stays as it is
pub record IsStill (p : Progress) (held held_after : List Closed) (asked_for asked_then : List (ℕ × ℕ)) (out out_after : Outbox) (old new : Life) : Type 0 where
  pub rests : p ≡ progress.Rests
  pub held_too : held_after ≡ held
  pub asked_too : asked_then ≡ asked_for
  pub sent : out_after ≡ out
  pub life_too : new ≡ old

-- what a call of advance does, by what the machine was
abbrev pub IsAdvance : Bor Plan → ℕ → ℕ → Bool → ℕ → Life → List Closed → List (ℕ × ℕ) → Outbox → Progress → Life → List Closed → List (ℕ × ℕ) → Outbox → Type 0
IsAdvance plan a named caught budget life.Unborn held asked out p new held_after asked_then out_after = IsStill p held held_after asked asked_then out out_after life.Unborn new
IsAdvance plan a named caught budget (life.Over merged) held asked out p new held_after asked_then out_after = IsStill p held held_after asked asked_then out out_after (life.Over merged) new
IsAdvance plan a named caught budget (life.Born r) held asked out p new held_after asked_then out_after = Comes plan a named caught budget r.index held asked out p new held_after asked_then out_after
