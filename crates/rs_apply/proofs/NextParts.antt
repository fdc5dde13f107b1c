-- From what a region's part is at an index to what it is at the next.
use Rattle.std.proofs.Common.{◌≡◌, ℕ, ◌+◌, ◌<◌, false, List, [], ◌∷◌, Option, Some, None, refl, ap, sym, ◌∙◌, arith, subst, ◌^◌}
use Rattle.std.specs.Option.{IsSome}
use Rattle.rs_entry.specs.declared.entry.Body.{Body}
use Rattle.rs_entry.specs.declared.entry.Entry.{Entry}
use Rattle.rs_entry.specs.declared.input.Input.{Input}
use Rattle.rs_entry.specs.declared.outcome.Reply.{Reply}
use Rattle.rs_entry.specs.declared.outcome.Reply.TheVariants as reply
use Rattle.rs_region.specs.Verdicts.{verdict}
use Rattle.rs_region.specs.declared.state.RegionState.{RegionState}
use Rattle.rs_region.specs.declared.verdict.Verdict.{Verdict}
use Rattle.rs_region.specs.declared.verdict.Verdict.TheVariants as verdicts
use Rattle.rs_store.specs.Stores.{is_accept, reply_to}
use Rattle.rs_part.specs.Parts.{Part}
use Rattle.rs_part.specs.Scripts.{accepted, after_by}
use Rattle.rs_msg.specs.Maps.{Writes, items_at}
use Rattle.rs_check.specs.Lawfulness.{Accepted, PlanLaws}
use Rattle.rs_check.specs.Values.{region_of, part_on, part_at, entry_at, reply_by}
use Rattle.rs_msg.specs.Held.{state_in, items_in, IsPartOf, IsHeld}
use Rattle.rs_apply.specs.Steps.{HasNext, IsNext}

-- a part that is there
pub record Seen (o : Option Part) (s : RegionState) (m : Writes) : Type 0 where
  pub part : Part
  pub is : o ≡ Some part
  pub state : part.state ≡ s
  pub items : (key : List ℕ) → part.items key ≡ items_at m key

pub seen : (o : Option Part) (s : RegionState) (m : Writes) → IsPartOf o s m → Seen o s m
seen None s m h = absurd (cc h.state)
seen (Some v) s m h = record { part = v; is = refl; state = cc h.state; items = λ key. cc (h.items key) }

pub shown : (o : Option Part) (s : RegionState) (m : Writes) (w : Part) → o ≡ Some w → w.state ≡ s → ((key : List ℕ) → w.items key ≡ items_at m key) → IsPartOf o s m
shown o s m w is state items = record { state = ap state_in is ∙ ap Some state; items = λ key. ap (λ p. items_in p key) is ∙ ap Some (items key) }

pub no_part : (o : Option Part) → None ≡ o → IsSome o → ⊥
no_part None f h = absurd (cc h)
no_part (Some w) f h = cc f

module _ (input : Input) (laws : PlanLaws input) (a i : ℕ) (e : Entry) (there : HasNext input a i e) (s : RegionState) (m : Writes) (held : IsHeld input a i s m) where
  pub mine : Seen (part_at input a i) s m
  mine = seen (part_at input a i) s m held

  pub below_all : i + 1 < 2 ^ 64
  below_all = let h = there.within in let k = laws.ends_below a there.below in omega (arith, h, k)

  pub small : (s.epoch.version < 2 ^ 62) × (s.epoch.conf_ver < 2 ^ 62)
  small = subst (λ z. (z.epoch.version < 2 ^ 62) × (z.epoch.conf_ver < 2 ^ 62)) mine.state (laws.small a i mine.part there.below mine.is)

  pub named : s.region ≡ region_of input a
  named = ap (λ z. z.region) (sym mine.state) ∙ laws.named a i mine.part there.below mine.is

  -- the verdict's step
  by : (x : Verdict) → verdict s e ≡ x → after_by x (part_on input a) (region_of input a) (i + 1) mine.part e.body ≡ part_at input a (i + 1)
  by x is =
      ap (λ z. after_by z (part_on input a) (region_of input a) (i + 1) mine.part e.body) (sym is)
      ∙ ap (λ z. after_by (verdict z e) (part_on input a) (region_of input a) (i + 1) mine.part e.body) (sym mine.state)
      ∙ laws.steps a i mine.part e there.below there.since there.within mine.is there.entry

  pub part_after : IsSome (part_at input a (i + 1))
  part_after = laws.reached a (i + 1) there.below (let h = there.since in omega (arith, h)) (let h = there.within in omega (arith, h))

  -- where the next part is known
  known : (w : Part) (s' : RegionState) (m' : Writes) (r : List Reply) → part_at input a (i + 1) ≡ Some w → w.state ≡ s' → ((key : List ℕ) → w.items key ≡ items_at m' key)
      → reply_to (verdict s e) e.body s' ≡ r → IsNext input a i s' m' r
  known w s' m' r is state items reply = (
    shown (part_at input a (i + 1)) s' m' w is state items,
    ap (λ p. reply_by p (entry_at input a (i + 1)) (part_at input a (i + 1))) mine.is ∙ ap (λ l. reply_by (Some mine.part) l (part_at input a (i + 1))) there.entry
        ∙ ap (reply_by (Some mine.part) (Some e)) is ∙ ap (λ z. reply_to (verdict z e) e.body w.state) mine.state ∙ ap (reply_to (verdict s e) e.body) state ∙ reply,
  )

  -- an entry that isn't accepted
  pub refused : is_accept (verdict s e) ≡ false → (r : List Reply) → r ≡ reply_to (verdict s e) e.body s → IsNext input a i s m r
  refused not r reply = go (verdict s e) refl not
    where
      go : (x : Verdict) → verdict s e ≡ x → is_accept x ≡ false → IsNext input a i s m r
      go verdicts.Accept f h = absurd (cc h)
      go verdicts.BadRollback f h = absurd (no_part (part_at input a (i + 1)) (by verdicts.BadRollback f) part_after)
      go verdicts.Empty f h = known mine.part s m r (sym (by verdicts.Empty f)) mine.state mine.items (sym reply)
      go verdicts.Stale f h = known mine.part s m r (sym (by verdicts.Stale f)) mine.state mine.items (sym reply)
      go verdicts.Merging f h = known mine.part s m r (sym (by verdicts.Merging f)) mine.state mine.items (sym reply)
      go (verdicts.Outside place) f h = known mine.part s m r (sym (by (verdicts.Outside place) f)) mine.state mine.items (sym reply)
      go (verdicts.BadSplit place) f h = known mine.part s m r (sym (by (verdicts.BadSplit place) f)) mine.state mine.items (sym reply)
      go verdicts.BadPeer f h = known mine.part s m r (sym (by verdicts.BadPeer f)) mine.state mine.items (sym reply)

  module _ (accept : verdict s e ≡ verdicts.Accept) where
    pub is_accepted : Accepted input a i mine.part e
    is_accepted = record { from = there.since; to = there.within; part = mine.is; entry = there.entry; accepted = ap (λ z. verdict z e) mine.state ∙ accept }

    -- what an accepted entry makes of the part
    pub made_by : (b : Body) → e.body ≡ b → accepted (part_on input a) (region_of input a) (i + 1) mine.part b ≡ part_at input a (i + 1)
    made_by b body = ap (accepted (part_on input a) (region_of input a) (i + 1) mine.part) (sym body) ∙ by verdicts.Accept accept

    pub after : (b : Body) (w : Part) (s' : RegionState) (m' : Writes) → e.body ≡ b → accepted (part_on input a) (region_of input a) (i + 1) mine.part b ≡ Some w → w.state ≡ s' → ((key : List ℕ) → w.items key ≡ items_at m' key)
        → IsNext input a i s' m' (reply.Done s'.epoch.version ∷ [])
    after b w s' m' body is state items = known w s' m' _ (sym (made_by b body) ∙ is) state items (ap (λ z. reply_to z e.body s') accept)
