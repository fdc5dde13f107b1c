-- What a machine sends fits its plan.
use Rattle.std.proofs.Common.{◌≡◌, ℕ, zero, suc, ◌+◌, ◌-◌, ◌<◌, ◌==◌, Bool, true, false, List, [], ◌∷◌, ◌++◌, length, Option, Some, None, refl, sym, arith, subst}
use Rattle.std.specs.Prelude.{position, unwrap_or, ltb, if◌then◌else◌}
use Rattle.std.specs.Borrow.{Bor}
use Rattle.std.specs.List.{All, AllByRecursion}
use Rattle.std.proofs.lemmas.List.Elements.{All-append, All-from_recursion}
use Rattle.std.proofs.lemmas.List.Quantifiers.{position-Some}
use Rattle.rs_entry.specs.declared.input.Input.{Input}
use Rattle.rs_entry.specs.declared.input.Store.{Store}
use Rattle.rs_entry.specs.declared.outcome.Mode.{Mode}
use Rattle.rs_entry.specs.declared.outcome.Mode.TheVariants as mode
use Rattle.rs_region.specs.declared.state.RegionState.{RegionState}
use Rattle.rs_check.specs.declared.plan.Plan.{Plan}
use Rattle.rs_check.specs.Plans.{address_of, ends_of, is_at, rows_of}
use Rattle.rs_check.specs.Values.{count_of, reshaped_by, store_place}
use Rattle.rs_check.proofs.PlanLaws.{position_within}
use Rattle.rs_check.proofs.StoresFound.{some_store}
use Rattle.rs_msg.specs.Names.{name_of_apply, name_of_store}
use Rattle.rs_msg.specs.declared.closed.Closed.{Closed}
use Rattle.rs_msg.specs.declared.messages.ApplyMsg.{ApplyMsg}
use Rattle.rs_msg.specs.declared.messages.ApplyMsg.TheVariants as apply
use Rattle.rs_msg.specs.declared.messages.PeerMsg.TheVariants as peer
use Rattle.rs_msg.specs.declared.messages.StoreMsg.{StoreMsg}
use Rattle.rs_msg.specs.declared.messages.StoreMsg.TheVariants as store
use Rattle.rs_msg.specs.declared.outbox.Outbox.{Outbox}
use Rattle.rs_apply.specs.Births.{AreBirths, IsBirthMsg}
use Rattle.rs_apply.specs.Findings.{find_on}
use Rattle.rs_apply.specs.Fitting.{Fits, FitsApply, FitsPeer, FitsStore}
use Rattle.rs_apply.specs.Machines.{applied_if, asks_for, catch_up, catch_ups, has_merge, Comes, EndsApplies, EndsStores, HandsOver, IsAdvance, IsEndingMsg, IsHandover, IsStill}
use Rattle.rs_apply.specs.Merges.{merge_at, merge_results, results_from, to_peer}
use Rattle.rs_apply.specs.Reshapings.{reshaped_if, reshapes_at, reshapings_from}
use Rattle.rs_apply.specs.Steps.{each_of}
use Rattle.rs_apply.specs.declared.progress.Life.{Life}
use Rattle.rs_apply.specs.declared.progress.Life.TheVariants as life
use Rattle.rs_apply.specs.declared.progress.Progress.{Progress}
use Rattle.rs_apply.specs.declared.progress.Progress.TheVariants as progress

-- ---- lists

nobody : {A : Type 0} (P : A → Type 0) → All P []
nobody P = All-from_recursion P [] tt

only : {A : Type 0} (P : A → Type 0) (x : A) → P x → All P (x ∷ [])
only P x p = All-from_recursion P (x ∷ []) (p, tt)

each_fits : {A : Type 0} (P : A → Type 0) (f : ℕ → List A) (i n : ℕ) → ((k : ℕ) → All P (f k)) → All P (each_of f i n)
each_fits P f i zero h = nobody P
each_fits P f i (suc n) h = All-append P (each_of f i n) (f (i + n)) (each_fits P f i n h) (h (i + n))

-- ---- places

address_within : (input : Input) (a region b : ℕ) → find_on input a region ≡ Some b → b < count_of input
address_within input a region b h = position_within (is_at (address_of input a).0 region) (rows_of input) b h

store_within : (input : Input) (a : ℕ) → a < count_of input → store_place input a < length input.stores
store_within input a below = go (position (λ s. s.id == (address_of input a).0) input.stores) refl
  where
    go : (o : Option ℕ) → position (λ s. s.id == (address_of input a).0) input.stores ≡ o → unwrap_or o 0 < length input.stores
    go None e = some_store input a below
    go (Some n) e = within input.stores e
      where
        within : (stores : List Store) → position (λ s. s.id == (address_of input a).0) stores ≡ Some n → n < length stores
        within [] f = absurd (cc f)
        within (s ∷ ss) f = (position-Some (λ x. x.id == (address_of input a).0) (s ∷ ss) n s f).0

-- ---- messages

module _ (plan : Bor Plan) (a : ℕ) (below : a < count_of plan.now) where
  peer_fits : (o : Option ℕ) → ((b : ℕ) → o ≡ Some b → b < count_of plan.now) → All (FitsPeer plan.now) (to_peer plan a o)
  peer_fits None h = nobody (FitsPeer plan.now)
  peer_fits (Some b) h = only (FitsPeer plan.now) _ (h b refl, refl)

  result_fits : (o : Option (ℕ × ℕ)) → All (FitsPeer plan.now) (merge_results plan a o)
  result_fits None = nobody (FitsPeer plan.now)
  result_fits (Some merge) = peer_fits (find_on plan.now a merge.0) (λ b e. address_within plan.now a merge.0 b e)

  applied_fits : (i j : ℕ) → All (FitsPeer plan.now) (applied_if plan a i j)
  applied_fits i j = go (ltb i j)
    where
      go : (t : Bool) → All (FitsPeer plan.now) (if t then (a, peer.Applied plan j) ∷ [] else [])
      go true = only (FitsPeer plan.now) _ (below, refl)
      go false = nobody (FitsPeer plan.now)

  catch_up_fits : (commit : ℕ) (o : Option ℕ) → ((b : ℕ) → o ≡ Some b → b < count_of plan.now) → All (FitsPeer plan.now) (catch_up plan a commit o)
  catch_up_fits commit None h = nobody (FitsPeer plan.now)
  catch_up_fits commit (Some b) h = only (FitsPeer plan.now) _ (h b refl, refl)

  ask_fits : (asked : List (ℕ × ℕ)) (merge : ℕ × ℕ) → All (FitsPeer plan.now) (asks_for plan a asked merge)
  ask_fits asked merge = go (has_merge asked merge)
    where
      go : (t : Bool) → All (FitsPeer plan.now) (if t then [] else catch_up plan a merge.1 (find_on plan.now a merge.0))
      go true = nobody (FitsPeer plan.now)
      go false = catch_up_fits merge.1 (find_on plan.now a merge.0) (λ b e. address_within plan.now a merge.0 b e)

  catch_ups_fit : (asked : List (ℕ × ℕ)) (p : Progress) → All (FitsPeer plan.now) (catch_ups plan a asked p)
  catch_ups_fit asked progress.Ended = nobody (FitsPeer plan.now)
  catch_ups_fit asked (progress.WaitsFor source commit) = ask_fits asked (source, commit)
  catch_ups_fit asked progress.More = nobody (FitsPeer plan.now)
  catch_ups_fit asked progress.Rests = nobody (FitsPeer plan.now)

  birth_named : (b : ℕ) (m : ApplyMsg) → IsBirthMsg plan.now b m → name_of_apply m ≡ plan.now
  birth_named b (apply.Task p upto) h = absurd h
  birth_named b (apply.Birth piece) h = h.1
  birth_named b (apply.CatchUpLogs p target commit) h = absurd h
  birth_named b (apply.SourceDone closed) h = absurd h
  birth_named b (apply.Noop p) h = absurd h

  births_fit : (states : List RegionState) (sent : List (ℕ × ApplyMsg)) → AreBirths plan.now a states sent → AllByRecursion (FitsApply plan.now) sent
  births_fit [] [] h = tt
  births_fit [] (p ∷ sent) h = absurd h
  births_fit (s ∷ states) [] h = absurd h
  births_fit (s ∷ states) (p ∷ sent) h = ((address_within plan.now a s.region p.0 h.0, birth_named p.0 p.1 h.1), births_fit states sent h.2)

  handover_named : (target : ℕ) (m : ApplyMsg) → IsHandover plan.now a target m → name_of_apply m ≡ plan.now
  handover_named target (apply.Task p upto) h = absurd h
  handover_named target (apply.Birth piece) h = absurd h
  handover_named target (apply.CatchUpLogs p t commit) h = absurd h
  handover_named target (apply.SourceDone closed) h = h.0
  handover_named target (apply.Noop p) h = absurd h

  hands_fit : (m : Mode) (old new : List (ℕ × ApplyMsg)) → HandsOver plan.now a m old new → All (FitsApply plan.now) old → All (FitsApply plan.now) new
  hands_fit mode.Normal old new h fits = subst (All (FitsApply plan.now)) (sym h) fits
  hands_fit (mode.Merging t c) old new h fits = subst (All (FitsApply plan.now)) (sym h) fits
  hands_fit mode.Removed old new h fits = subst (All (FitsApply plan.now)) (sym h) fits
  hands_fit (mode.Merged target) old new h fits =
      subst (All (FitsApply plan.now)) (sym h.is) (All-append (FitsApply plan.now) old ((h.place, h.message) ∷ []) fits
      (only (FitsApply plan.now) (h.place, h.message) (address_within plan.now a target h.place h.found, handover_named target h.message h.tells)))

  applies_fit : (p : Progress) (old new : List (ℕ × ApplyMsg)) → EndsApplies plan.now a p old new → All (FitsApply plan.now) old → All (FitsApply plan.now) new
  applies_fit progress.Ended old new h fits = hands_fit (ends_of plan.now a) old new h fits
  applies_fit (progress.WaitsFor s c) old new h fits = subst (All (FitsApply plan.now)) (sym h) fits
  applies_fit progress.More old new h fits = subst (All (FitsApply plan.now)) (sym h) fits
  applies_fit progress.Rests old new h fits = subst (All (FitsApply plan.now)) (sym h) fits

  reshaped_fits : (nth : ℕ) (t : Bool) → All (FitsStore plan.now) (reshaped_if plan a nth t)
  reshaped_fits nth true = only (FitsStore plan.now) _ (store_within plan.now a below, refl)
  reshaped_fits nth false = nobody (FitsStore plan.now)

  ending_named : (m : StoreMsg) → IsEndingMsg plan.now a m → name_of_store m ≡ plan.now
  ending_named (store.Reshaped p b nth) h = absurd h
  ending_named (store.Ended ending) h = h.0

  stores_fit : (p : Progress) (old new : List (ℕ × StoreMsg)) → EndsStores plan.now a p old new → All (FitsStore plan.now) old → All (FitsStore plan.now) new
  stores_fit progress.Ended old new h fits =
      subst (All (FitsStore plan.now)) (sym h.is) (All-append (FitsStore plan.now) old ((store_place plan.now a, h.message) ∷ []) fits
      (only (FitsStore plan.now) (store_place plan.now a, h.message) (store_within plan.now a below, ending_named h.message h.tells)))
  stores_fit (progress.WaitsFor s c) old new h fits = subst (All (FitsStore plan.now)) (sym h) fits
  stores_fit progress.More old new h fits = subst (All (FitsStore plan.now)) (sym h) fits
  stores_fit progress.Rests old new h fits = subst (All (FitsStore plan.now)) (sym h) fits

  pub comes_fit : (named : ℕ) (caught : Bool) (budget i : ℕ) (held held_after : List Closed) (asked asked_then : List (ℕ × ℕ)) (out out_after : Outbox) (p : Progress) (next : Life)
      → Comes plan a named caught budget i held asked out p next held_after asked_then out_after → Fits plan.now out → Fits plan.now out_after
  comes_fit named caught budget i held held_after asked asked_then out out_after p next comes fits =
      let n : ℕ = comes.j - i in
      let results = each_fits (FitsPeer plan.now) (λ k. merge_results plan a (merge_at plan.now a k)) i n (λ k. result_fits (merge_at plan.now a k)) in
      let after = All-append (FitsPeer plan.now) (applied_if plan a i comes.j) (catch_ups plan a asked p) (applied_fits i comes.j) (catch_ups_fit asked p) in
      let peers = All-append (FitsPeer plan.now) (results_from plan a i n) (applied_if plan a i comes.j ++ catch_ups plan a asked p) results after in
      let births = comes.applies.births in
      let made = All-from_recursion (FitsApply plan.now) births.sent (births_fit _ births.sent births.births) in
      let between = subst (All (FitsApply plan.now)) (sym births.is) (All-append (FitsApply plan.now) out.applies births.sent fits.applies made) in
      let reshaped = each_fits (FitsStore plan.now) (λ k. reshaped_if plan a (reshaped_by plan.now a (k + 1)) (reshapes_at plan.now a k)) i n (λ k. reshaped_fits (reshaped_by plan.now a (k + 1)) (reshapes_at plan.now a k)) in
      record {
        peers = subst (All (FitsPeer plan.now)) (sym comes.peers) (All-append (FitsPeer plan.now) out.peers _ fits.peers peers);
        applies = applies_fit p comes.applies.between out_after.applies comes.applies.handover between;
        stores = stores_fit p (out.stores ++ reshapings_from plan a i n) out_after.stores comes.stores (All-append (FitsStore plan.now) out.stores (reshapings_from plan a i n) fits.stores reshaped);
      }

-- ---- one call

still_fits : (input : Input) (p : Progress) (held held_after : List Closed) (asked asked_then : List (ℕ × ℕ)) (out out_after : Outbox) (old new : Life) → IsStill p held held_after asked asked_then out out_after old new → Fits input out → Fits input out_after
still_fits input p held held_after asked asked_then out out_after old new still fits = subst (Fits input) (sym still.sent) fits

pub advance_fits : (plan : Bor Plan) (a : ℕ) → a < count_of plan.now → (named : ℕ) (caught : Bool) (budget : ℕ) (held held_after : List Closed) (asked asked_then : List (ℕ × ℕ)) (out out_after : Outbox) (p : Progress) (old new : Life)
    → IsAdvance plan a named caught budget old held asked out p new held_after asked_then out_after → Fits plan.now out → Fits plan.now out_after
advance_fits plan a below named caught budget held held_after asked asked_then out out_after p life.Unborn new done fits = still_fits plan.now p held held_after asked asked_then out out_after life.Unborn new done fits
advance_fits plan a below named caught budget held held_after asked asked_then out out_after p (life.Over merged) new done fits = still_fits plan.now p held held_after asked asked_then out out_after (life.Over merged) new done fits
advance_fits plan a below named caught budget held held_after asked asked_then out out_after p (life.Born r) new done fits = comes_fit plan a below named caught budget r.index held held_after asked asked_then out out_after p new done fits
