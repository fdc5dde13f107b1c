-- A region whose own peer a store removed applies nothing more.
use Rattle.std.proofs.Common.{◌≡◌, ℕ, ◌+◌, ◌≤◌, ◌<◌, true, Option, Some, None, refl, ap, sym, ◌∙◌, arith, subst, inl, inr}
use Rattle.std.proofs.lemmas.Bool.{cases_eq, cases_lt}
use Rattle.rs_entry.specs.WellFormed.{WellFormed}
use Rattle.rs_entry.specs.declared.entry.Body.TheVariants as body
use Rattle.rs_entry.specs.declared.entry.Change.{Change}
use Rattle.rs_entry.specs.declared.entry.Entry.{Entry}
use Rattle.rs_entry.specs.declared.input.Input.{Input}
use Rattle.rs_entry.specs.declared.input.Store.{Store}
use Rattle.rs_entry.specs.declared.outcome.Mode.TheVariants as mode
use Rattle.rs_store.specs.declared.regions.Made.{Made}
use Rattle.rs_store.specs.Stores.{Applied, Went, entries_in, is_live, is_ready, is_removal_of, is_unmerged, last, opening, step}
use Rattle.rs_part.specs.Effects.{Stepping}
use Rattle.rs_part.specs.Scripts.{Script}
use Rattle.rs_part.specs.Sound.{Removal, Sound}
use Rattle.rs_part.specs.Telling.{Begins, Tells}
use Rattle.rs_part.proofs.Canonical.{canonical}
use Rattle.rs_part.proofs.Following.{order_keeps}
use Rattle.rs_part.proofs.Meeting.{stepping}
use Rattle.rs_part.proofs.Modes.{unmerged_cases}
use Rattle.rs_part.proofs.Opening.{opening_normal, opening_sound}
use Rattle.rs_part.proofs.Orders.{step_sound}
use Rattle.rs_check.specs.Laws.{check}
use Rattle.rs_check.specs.Lawfulness.{Accepted}
use Rattle.rs_check.specs.Plans.{address_of, ends_of, stop_of}
use Rattle.rs_check.specs.Scripts.{script_of}
use Rattle.rs_check.specs.Values.{count_of, region_of}
use Rattle.rs_check.proofs.Addresses.{ends, home, stored, stops}
use Rattle.rs_check.proofs.PartLaws.{is_part, line_here}
use Rattle.rs_part.specs.Parts.{Part}

-- what each step between two sound states keeps holds at the end, where it holds at the start
pub last_keeps : (script : Script) (store : Store) → Tells script store → Begins script store → (P : Applied → Type 0) → P (opening store)
    → ((g k : Applied) (id : ℕ) → Sound script store g → Sound script store k → Stepping script store g id k → step store g id ≡ Went k → P g → P k)
    → (h : Applied) → last store ≡ Went h → P h
last_keeps script store tells begins P start keeps h e =
    let c = canonical store (entries_in store) h e in
    (order_keeps store (λ g. Sound script store g × P g) kept c.0 1 (opening store) h (opening_sound script store begins, start) c.1).1
  where
    kept : (g k : Applied) (id : ℕ) → is_ready store g id ≡ true → step store g id ≡ Went k → Sound script store g × P g → Sound script store k × P k
    kept g k id ready st w =
        let after = step_sound script store tells g w.0 id k ready st in
        (after, keeps g k id w.0 after (stepping script store tells g w.0 id k ready st) st w.1)

-- a removal that was applied was the last entry
abbrev Rests : Script → Store → Applied → Type 0
Rests script store g = (x k : ℕ) (r : Made) → g.region x ≡ Some r → k + 1 ≤ r.applied → Removal script store.id x k → (r.applied ≡ k + 1) × (r.state.mode ≡ mode.Removed)

opening_rests : (script : Script) (store : Store) → Rests script store (opening store)
opening_rests script store x k r h le m = absurd (let n = (opening_normal store x r h).0 in let p = m.past in omega (arith, n, p, le))

module _ (script : Script) (store : Store) (g k : Applied) (id : ℕ) (after : Sound script store k) (w : Stepping script store g id k) (old : Rests script store g) where
  mine : (i : ℕ) (n : Made) → k.region id ≡ Some n → i + 1 ≤ n.applied → Removal script store.id id i → (n.applied ≡ i + 1) × (n.state.mode ≡ mode.Removed)
  mine i n h le m =
      let e = w.effect.mine in
      let same : e.0 ≡ n = cc (e.1, h) in
      let up : n.applied ≡ w.r.applied + 1 = ap (λ (z : Made). z.applied) (sym same) ∙ e.2 in
      elim (cases_lt w.r.applied (i + 1)) [
        | inl lt ↦
            (let at : n.applied ≡ i + 1 = omega (arith, up, lt, le) in (
              at,
              elim (unmerged_cases n.state.mode (ap (λ (z : Made). is_unmerged z.state.mode) (sym same) ∙ e.3)) [
                | inl live ↦ absurd (after.unmarked id i n h live at m)
                | inr gone ↦ gone
              ],
            ))
        | inr ge ↦
            (let was = (old id i w.r w.here (omega (arith, ge)) m).1 in
            let live : is_live mode.Removed ≡ true = ap is_live (sym was) ∙ w.live in
            absurd cc)
      ]

  other : (x i : ℕ) (n : Made) → (x ≡ id → ⊥) → k.region x ≡ Some n → i + 1 ≤ n.applied → Removal script store.id x i → (o : Option Made) → g.region x ≡ o → (n.applied ≡ i + 1) × (n.state.mode ≡ mode.Removed)
  other x i n ne h le m None was = absurd (let five = (w.effect.new x n ne h was).0 in let p = m.past in omega (arith, five, p, le))
  other x i n ne h le m (Some t) was = elim (w.effect.others x t ne was) [
    | inl same ↦ (let one : t ≡ n = cc (same, h) in subst (λ (z : Made). (z.applied ≡ i + 1) × (z.state.mode ≡ mode.Removed)) one (old x i t was (subst (λ (z : Made). i + 1 ≤ z.applied) (sym one) le) m))
    | inr d ↦
        (let one : d.0 ≡ n = cc (d.1, h) in
        let at : n.applied ≡ t.applied = ap (λ (z : Made). z.applied) (sym one ∙ d.2.now) in
        let gone = (old x i t was (omega (arith, at, le)) m).1 in
        let merging = d.2.merging in
        absurd (cc (gone, merging)))
  ]

  pub step_rests : Rests script store k
  step_rests x i n h le m = elim (cases_eq x id) [
    | inl e ↦ mine i n (ap k.region (sym e) ∙ h) le (subst (λ z. Removal script store.id z i) e m)
    | inr ne ↦ other x i n ne h le m (g.region x) refl
  ]

pub last_rests : (script : Script) (store : Store) → Tells script store → Begins script store → (h : Applied) → last store ≡ Went h → Rests script store h
last_rests script store tells begins h e =
    last_keeps script store tells begins (Rests script store) (opening_rests script store) (λ g k id sound after w st old. step_rests script store g k id after w old) h e

module _ (input : Input) (well : WellFormed input) (lawful : check input ≡ None) (a : ℕ) (below : a < count_of input) where
  -- an accepted removal of the store's own peer is the last entry, and the region ends removed
  pub removal_last : (j : ℕ) (v : Part) (e : Entry) (c : Change) → Accepted input a j v e → e.body ≡ body.Conf c → is_removal_of (address_of input a).0 c ≡ true → (stop_of input a ≡ j + 1) × (ends_of input a ≡ mode.Removed)
  removal_last j v e c acc is own =
      let h = home input well lawful a below in
      let top = stops input a h in
      let to = acc.to in
      let m : Removal (script_of input) h.store.id (region_of input a) j = record {
        past = acc.from;
        part = v;
        entry = e;
        change = c;
        is_part = is_part input well lawful a h j v acc.part;
        line = line_here input well lawful a h j e acc.from acc.entry;
        body = is;
        accepted = acc.accepted;
        own_peer = ap (λ n. is_removal_of n c) (sym (stored input a h)) ∙ own;
      } in
      let r = last_rests (script_of input) h.store h.end.tells h.end.begins h.end.g h.end.ends (region_of input a) j h.r h.made (omega (arith, top, to)) m in
      (top ∙ r.0, ends input a h ∙ r.1)
