-- What the entry after an index does, read off the state and the entry.
use Rattle.std.proofs.Common.{◌≡◌, ◌≤◌, ℕ, suc, ◌+◌, ◌-◌, ◌++◌, List, [], Option, Some, refl, ap, sym, ◌∙◌, arith, Bool, true, false}
use Rattle.std.specs.Prelude.{option_to_list, if◌then◌else◌}
use Rattle.rs_entry.specs.declared.entry.Entry.{Entry}
use Rattle.rs_entry.specs.declared.input.Input.{Input}
use Rattle.rs_entry.specs.declared.outcome.Reply.{Reply}
use Rattle.rs_entry.specs.declared.outcome.ReplyLine.{ReplyLine}
use Rattle.rs_region.specs.Verdicts.{verdict}
use Rattle.rs_region.specs.declared.state.RegionState.{RegionState}
use Rattle.rs_msg.specs.Maps.{Writes}
use Rattle.rs_check.specs.Lawfulness.{PlanLaws}
use Rattle.rs_check.specs.Values.{part_at, entry_at, region_of, replies_to, reply_after, reply_lines, reshaped_by}
use Rattle.rs_msg.specs.declared.closed.Closed.{Closed}
use Rattle.rs_msg.specs.Held.{IsHeld}
use Rattle.rs_apply.specs.Births.{made_at, made_in, made_of}
use Rattle.rs_apply.specs.Merges.{merge_at, merge_in, merge_of, merges_from, unheld, waits_at}
use Rattle.rs_apply.specs.Reshapings.{reshapes_at, reshapes_by, reshapes_of}
use Rattle.rs_apply.specs.Steps.{HasNext, IsNext}
use Rattle.rs_apply.proofs.NextParts.{seen}

pub merge_here : (input : Input) (a i : ℕ) (s : RegionState) (m : Writes) (e : Entry) → IsHeld input a i s m → entry_at input a (i + 1) ≡ Some e → merge_at input a i ≡ merge_in (verdict s e) e.body
unfolding merge_at
merge_here input a i s m e held line =
    let v = seen (part_at input a i) s m held in
    ap (λ p. merge_of p (entry_at input a (i + 1))) v.is ∙ ap (merge_of (Some v.part)) line ∙ ap (λ z. merge_in (verdict z e) e.body) v.state

pub made_here : (input : Input) (a i : ℕ) (s : RegionState) (m : Writes) (e : Entry) → IsHeld input a i s m → entry_at input a (i + 1) ≡ Some e → made_at input a i ≡ made_in (verdict s e) s e.body
unfolding made_at
made_here input a i s m e held line =
    let v = seen (part_at input a i) s m held in
    ap (λ p. made_of p (entry_at input a (i + 1))) v.is ∙ ap (made_of (Some v.part)) line ∙ ap (λ z. made_in (verdict z e) z e.body) v.state

pub reshapes_here : (input : Input) (a i : ℕ) (s : RegionState) (m : Writes) (e : Entry) → IsHeld input a i s m → entry_at input a (i + 1) ≡ Some e → reshapes_at input a i ≡ reshapes_by (verdict s e) e.body
unfolding reshapes_at
reshapes_here input a i s m e held line =
    let v = seen (part_at input a i) s m held in
    ap (λ p. reshapes_of p (entry_at input a (i + 1))) v.is ∙ ap (reshapes_of (Some v.part)) line ∙ ap (λ z. reshapes_by (verdict z e) e.body) v.state

pub waits_here : (input : Input) (a i : ℕ) (s : RegionState) (m : Writes) (e : Entry) (closed : List Closed) → IsHeld input a i s m → entry_at input a (i + 1) ≡ Some e → waits_at input a closed i ≡ unheld input a closed (merge_in (verdict s e) e.body)
unfolding waits_at
waits_here input a i s m e closed held line = ap (unheld input a closed) (merge_here input a i s m e held line)

-- ---- replies, merges and reshapings so far

pub answered_more : (input : Input) (a i : ℕ) (s : RegionState) (m : Writes) (region : ℕ) (rs : List Reply) (before after : List ReplyLine) → 5 ≤ i → region ≡ region_of input a → IsNext input a i s m rs → before ≡ replies_to input a (i - 5)
    → after ≡ before ++ reply_lines region (i + 1) rs → after ≡ replies_to input a (i + 1 - 5)
unfolding replies_to
answered_more input a i s m region rs before after since named next was is =
    let n : i + 1 - 5 ≡ suc (i - 5) = omega (arith, since) in
    let k : (i - 5) + 5 ≡ i = omega (arith, since) in
    let here : reply_after input a i ≡ reply_lines region (i + 1) rs = ap (reply_lines (region_of input a) (i + 1)) next.1 ∙ ap (λ z. reply_lines z (i + 1) rs) (sym named) in
    is ∙ ap (λ l. l ++ reply_lines region (i + 1) rs) was ∙ ap (λ l. replies_to input a (i - 5) ++ l) (sym here)
    ∙ ap (λ z. replies_to input a (i - 5) ++ reply_after input a z) (sym k) ∙ ap (replies_to input a) (sym n)

pub merged_more : (input : Input) (a i : ℕ) (merge : Option (ℕ × ℕ)) (before after : List (ℕ × ℕ)) → 5 ≤ i → merge_at input a i ≡ merge → before ≡ merges_from input a 5 (i - 5) → after ≡ before ++ option_to_list merge → after ≡ merges_from input a 5 (i + 1 - 5)
merged_more input a i merge before after since here was is =
    let n : i + 1 - 5 ≡ suc (i - 5) = omega (arith, since) in
    let k : 5 + (i - 5) ≡ i = omega (arith, since) in
    is ∙ ap (λ l. l ++ option_to_list merge) was ∙ ap (λ z. merges_from input a 5 (i - 5) ++ option_to_list z) (sym here)
    ∙ ap (λ z. merges_from input a 5 (i - 5) ++ option_to_list (merge_at input a z)) (sym k) ∙ ap (merges_from input a 5) (sym n)

pub counted_more : (input : Input) (laws : PlanLaws input) (a i : ℕ) (s : RegionState) (m : Writes) (e : Entry) → HasNext input a i e → IsHeld input a i s m → (b : Bool) (n nth : ℕ) → b ≡ reshapes_by (verdict s e) e.body → n ≡ reshaped_by input a i
    → nth ≡ (if b then n + 1 else n) → nth ≡ reshaped_by input a (i + 1)
counted_more input laws a i s m e there held b n nth is was count =
    let v = seen (part_at input a i) s m held in
    count ∙ ap (λ z. if z then n + 1 else n) is ∙ ap (λ k. if reshapes_by (verdict s e) e.body then k + 1 else k) was
    ∙ ap (λ z. if reshapes_by (verdict z e) e.body then reshaped_by input a i + 1 else reshaped_by input a i) (sym v.state)
    ∙ sym (laws.reshapes a i v.part e there.below there.since there.within v.is there.entry)

pub few_more : (b : Bool) (n nth i : ℕ) → nth ≡ (if b then n + 1 else n) → n ≤ i → nth ≤ i + 1
few_more true n nth i count few = omega (arith, count, few)
few_more false n nth i count few = omega (arith, count, few)

pub no_replies : (input : Input) (a : ℕ) → replies_to input a 0 ≡ []
unfolding replies_to
no_replies input a = refl
