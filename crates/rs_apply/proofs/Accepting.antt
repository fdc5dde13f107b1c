-- The accepted entries that change one region alone.
use Rattle.std.proofs.Common.{◌≡◌, ℕ, ◌+◌, List, [], ◌∷◌, ◌++◌, map, refl, ap, sym, ◌∙◌}
use Rattle.rs_entry.specs.declared.entry.Body.TheVariants as body
use Rattle.rs_entry.specs.declared.entry.Change.{Change}
use Rattle.rs_entry.specs.declared.entry.Entry.{Entry}
use Rattle.rs_entry.specs.declared.entry.Op.{Op}
use Rattle.rs_entry.specs.declared.input.Input.{Input}
use Rattle.rs_entry.specs.declared.outcome.Reply.TheVariants as reply
use Rattle.rs_region.specs.Actions.{turn_body, turned}
use Rattle.rs_region.specs.declared.action.Turn.{Turn}
use Rattle.rs_region.specs.declared.action.Turn.TheVariants as turn
use Rattle.rs_region.specs.Reshapings.{prepared, rolled_back, reconfigured}
use Rattle.rs_region.specs.Verdicts.{verdict}
use Rattle.rs_region.specs.declared.state.RegionState.{RegionState}
use Rattle.rs_region.specs.declared.verdict.Verdict.TheVariants as verdicts
use Rattle.rs_store.specs.Stores.{wrote}
use Rattle.rs_part.specs.Items.{history_of}
use Rattle.rs_msg.specs.Maps.{Writes, HasItems, items_at, with_writes}
use Rattle.rs_check.specs.Lawfulness.{PlanLaws}
use Rattle.rs_check.specs.Values.{part_at, region_of}
use Rattle.rs_msg.specs.Held.{IsHeld}
use Rattle.rs_apply.specs.Steps.{HasNext, IsNext}
use Rattle.rs_apply.proofs.NextParts.{Seen, mine, named, after}

module _ (input : Input) (laws : PlanLaws input) (a i : ℕ) (e : Entry) (there : HasNext input a i e) (s : RegionState) (m : Writes) (held : IsHeld input a i s m) (accept : verdict s e ≡ verdicts.Accept) where
  abbrev v : Seen (part_at input a i) s m
  v = mine input laws a i e there s m held

  pub writes : (ops : List Op) (m' : Writes) → e.body ≡ body.Write ops → HasItems m' (with_writes (items_at m) (map (wrote s.region (i + 1)) ops)) → IsNext input a i s m' (reply.Done s.epoch.version ∷ [])
  writes ops m' is items =
      after input laws a i e there s m held accept (body.Write ops) (record { state = v.part.state; items = λ k. v.part.items k ++ history_of (map (wrote (region_of input a) (i + 1)) ops) k }) s m' is refl v.state
      (λ q. ap (λ l. l ++ history_of (map (wrote (region_of input a) (i + 1)) ops) q) (v.items q)
      ∙ ap (λ id. items_at m q ++ history_of (map (wrote id (i + 1)) ops) q) (sym (named input laws a i e there s m held)) ∙ sym (items q))

  prepares : (target : ℕ) (s' : RegionState) → e.body ≡ body.Prepare target → s' ≡ prepared s target (i + 1) → IsNext input a i s' m (reply.Done s'.epoch.version ∷ [])
  prepares target s' is state =
      after input laws a i e there s m held accept (body.Prepare target) (record { state = prepared v.part.state target (i + 1); items = v.part.items }) s' m is refl
      (ap (λ z. prepared z target (i + 1)) v.state ∙ sym state) v.items

  rolls_back : (commit : ℕ) (s' : RegionState) → e.body ≡ body.Rollback commit → s' ≡ rolled_back s → IsNext input a i s' m (reply.Done s'.epoch.version ∷ [])
  rolls_back commit s' is state =
      after input laws a i e there s m held accept (body.Rollback commit) (record { state = rolled_back v.part.state; items = v.part.items }) s' m is refl (ap rolled_back v.state ∙ sym state) v.items

  changes_peers : (c : Change) (s' : RegionState) → e.body ≡ body.Conf c → s' ≡ reconfigured s c → IsNext input a i s' m (reply.Done s'.epoch.version ∷ [])
  changes_peers c s' is state =
      after input laws a i e there s m held accept (body.Conf c) (record { state = reconfigured v.part.state c; items = v.part.items }) s' m is refl (ap (λ z. reconfigured z c) v.state ∙ sym state) v.items

  pub turns : (t : Turn) (s' : RegionState) → e.body ≡ turn_body t → s' ≡ turned (i + 1) t s → IsNext input a i s' m (reply.Done s'.epoch.version ∷ [])
  turns (turn.Prepare target) s' is state = prepares target s' is state
  turns (turn.Rollback commit) s' is state = rolls_back commit s' is state
  turns (turn.Conf c) s' is state = changes_peers c s' is state
