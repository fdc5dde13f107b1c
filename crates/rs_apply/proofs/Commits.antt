-- A merge: the target's part with its source's.
use Rattle.std.proofs.Common.{◌≡◌, ◌⊎◌, inl, inr, ℕ, ◌+◌, ◌<◌, ◌^◌, Bool, true, false, cond, List, [], ◌∷◌, ◌++◌, Option, Some, None, refl, ap, sym, ◌∙◌, arith, subst}
use Rattle.std.specs.List.{find}
use Rattle.std.specs.Prelude.{◌==◌}
use Rattle.std.proofs.lemmas.Bool.{and_parts}
use Rattle.rs_key.specs.Keys.{is_below}
use Rattle.rs_key.specs.Ranges.{Bounds, holds, is_next_to, meets, is_from, is_to}
use Rattle.rs_key.proofs.RangeLaws.{same_bytes_is}
use Rattle.rs_entry.specs.declared.entry.Body.TheVariants as body
use Rattle.rs_entry.specs.declared.entry.Carried.{Carried}
use Rattle.rs_entry.specs.declared.entry.Entry.{Entry}
use Rattle.rs_entry.specs.declared.input.Input.{Input}
use Rattle.rs_entry.specs.declared.outcome.Reply.TheVariants as reply
use Rattle.rs_region.specs.Reshapings.{committed}
use Rattle.rs_region.specs.Verdicts.{verdict}
use Rattle.rs_region.specs.declared.state.RegionState.{RegionState}
use Rattle.rs_region.specs.declared.verdict.Verdict.TheVariants as verdicts
use Rattle.rs_region.proofs.KeyOrder.{from_start}
use Rattle.rs_store.specs.Stores.{is_prepared_for}
use Rattle.rs_part.specs.Scripts.{joined_part, may_join, with_source}
use Rattle.rs_msg.specs.Maps.{Writes, HasItems, LiesIn, items_at, items_of_both}
use Rattle.rs_check.specs.Lawfulness.{PlanLaws, Source}
use Rattle.rs_check.specs.Plans.{address_of}
use Rattle.rs_check.specs.Values.{count_of, region_of, part_on, part_at, part_in}
use Rattle.rs_msg.specs.Held.{IsHeld}
use Rattle.rs_apply.specs.Steps.{HasNext, IsNext}
use Rattle.rs_apply.proofs.NextParts.{Seen, seen, mine, made_by, part_after, after, is_accepted, no_part}

pub on_store : (input : Input) (a b id i : ℕ) → (address_of input b).0 ≡ (address_of input a).0 → part_on input b id i ≡ part_on input a id i
unfolding part_on
on_store input a b id i same = ap (λ n. part_in (find (λ s. s.id == n) input.stores) id i) same

met : (e s : Option (List ℕ)) (q : List ℕ) → meets e s ≡ true → is_to e q ≡ true → is_from s q ≡ true → ⊥
met None s q m b n = cc m
met (Some e) None q m b n = cc m
met (Some e) (Some s) q m b n =
    let same : e ≡ s = same_bytes_is e s m in
    let above = from_start s q in
    cc (b, n, ap (λ z. is_below q z) same, above)

pub next_apart : (x y : Bounds) → is_next_to x y ≡ true → (q : List ℕ) → (holds x q ≡ false) ⊎ (holds y q ≡ false)
next_apart x y next q = go (holds x q) (holds y q) refl refl
  where
    go : (a b : Bool) → holds x q ≡ a → holds y q ≡ b → (holds x q ≡ false) ⊎ (holds y q ≡ false)
    go false b e f = inl e
    go true false e f = inr f
    go true true e f = absurd (grind (arith, e, f, next, met x.end y.start q, met y.end x.start q))

module _ (input : Input) (laws : PlanLaws input) (a i : ℕ) (e : Entry) (there : HasNext input a i e) (s : RegionState) (m : Writes) (held : IsHeld input a i s m) (accept : verdict s e ≡ verdicts.Accept)
    (b c : ℕ) (l : List Carried) (below : b < count_of input) (same : (address_of input b).0 ≡ (address_of input a).0) (t : RegionState) (n : Writes) (source : IsHeld input b c t n) (is : e.body ≡ body.Commit (region_of input b) c l) where
  abbrev v : Seen (part_at input a i) s m
  v = mine input laws a i e there s m held

  u : Seen (part_at input b c) t n
  u = seen (part_at input b c) t n source

  there_too : part_on input a (region_of input b) c ≡ Some u.part
  there_too = sym (on_store input a b (region_of input b) c same) ∙ u.is

  record Joined : Type 0 where
    pub next : part_at input a (i + 1) ≡ Some (joined_part v.part u.part)
    pub can : may_join (region_of input a) c v.part u.part ≡ true

  joined : Joined
  joined = by_bool (may_join (region_of input a) c v.part u.part) refl
      (ap (with_source (region_of input a) c v.part) (sym there_too) ∙ made_by input laws a i e there s m held accept (body.Commit (region_of input b) c l) is)
    where
      by_bool : (x : Bool) → may_join (region_of input a) c v.part u.part ≡ x → with_source (region_of input a) c v.part (Some u.part) ≡ part_at input a (i + 1) → Joined
      by_bool true h f = record { next = sym f ∙ ap (λ z. cond z (Some (joined_part v.part u.part)) None) h; can = h }
      by_bool false h f = absurd (no_part (part_at input a (i + 1)) (sym (ap (λ z. cond z (Some (joined_part v.part u.part)) None) h) ∙ f) (part_after input laws a i e there s m held))

  next_there : is_next_to v.part.state.range u.part.state.range ≡ true
  next_there = (and_parts (is_prepared_for (region_of input a) c u.part.state.mode) (is_next_to v.part.state.range u.part.state.range) joined.can).1

  pub next_to : is_next_to s.range t.range ≡ true
  next_to = ap (λ z. is_next_to z.range t.range) (sym v.state) ∙ ap (λ z. is_next_to v.part.state.range z.range) (sym u.state) ∙ next_there

  pub inside_target : LiesIn s.range m
  inside_target q out = sym (v.items q) ∙ laws.inside a i v.part q there.below v.is (ap (λ z. holds z.range q) v.state ∙ out)

  pub inside_source : LiesIn t.range n
  inside_source q out = sym (u.items q) ∙ laws.inside b c u.part q below u.is (ap (λ z. holds z.range q) u.state ∙ out)

  pub small_source : t.epoch.version < 2 ^ 62
  small_source = subst (λ z. z.epoch.version < 2 ^ 62) u.state (laws.small b c u.part below u.is).0

  pub commits : (s' : RegionState) (m' : Writes) → s' ≡ committed s t → HasItems m' (items_of_both (items_at m) (items_at n)) → IsNext input a i s' m' (reply.Done s'.epoch.version ∷ [])
  commits s' m' state items =
      after input laws a i e there s m held accept (body.Commit (region_of input b) c l) (joined_part v.part u.part) s' m' is (made_by input laws a i e there s m held accept (body.Commit (region_of input b) c l) is ∙ joined.next)
      (ap (λ z. committed z u.part.state) v.state ∙ ap (committed s) u.state ∙ sym state)
      (λ q. ap (λ k. k ++ u.part.items q) (v.items q) ∙ ap (λ k. items_at m q ++ k) (u.items q) ∙ sym (items q))

-- the source of an accepted commit
pub source_of : (input : Input) (laws : PlanLaws input) (a i : ℕ) (e : Entry) (there : HasNext input a i e) (s : RegionState) (m : Writes) (held : IsHeld input a i s m) → verdict s e ≡ verdicts.Accept → (q c : ℕ) (l : List Carried) → e.body ≡ body.Commit q c l → Source input a q c
source_of input laws a i e there s m held accept q c l is =
    laws.merges a i (mine input laws a i e there s m held).part e q c l there.below (is_accepted input laws a i e there s m held accept) is
