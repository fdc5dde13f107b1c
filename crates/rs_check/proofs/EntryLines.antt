-- Each entry that a region of a store applies is one that the store's logs have for it.
use Rattle.std.proofs.Common.{◌≡◌, ℕ, ◌+◌, ◌-◌, ◌≤◌, ◌==◌, cond, List, [], ◌∷◌, Option, Some, None, refl, ap, sym, ◌∙◌, arith, subst, inl, inr}
use Rattle.std.specs.List.{find}
use Rattle.std.proofs.lemmas.Bool.{cases_lt, eq-eqb}
use Rattle.rs_entry.specs.Entries.{entry_of}
use Rattle.rs_entry.specs.declared.entry.Carried.{Carried}
use Rattle.rs_entry.specs.declared.entry.Entry.{Entry}
use Rattle.rs_entry.specs.declared.input.Log.{Log}
use Rattle.rs_entry.specs.declared.input.Store.{Store}
use Rattle.rs_store.specs.declared.regions.Made.{Made}
use Rattle.rs_store.specs.Stores.{Applied, Went, entry_at, first_some, ids_of, last, next, opening, own, own_next, step}
use Rattle.rs_part.specs.Counting.{IsAmong}
use Rattle.rs_part.specs.Effects.{Stepping}
use Rattle.rs_part.specs.Scripts.{Script}
use Rattle.rs_part.specs.Telling.{Begins, Tells}
use Rattle.rs_part.proofs.Endings.{last_has}
use Rattle.rs_part.proofs.Known.{Brought, brought, next_cases, own_among}
use Rattle.rs_part.proofs.Members.{among_get}
use Rattle.rs_part.proofs.Opening.{opening_normal}
use Rattle.rs_part.proofs.Traces.{step_traces}
use Rattle.rs_check.specs.Lines.{carried_at, carried_by, carried_in, entry_in}
use Rattle.rs_check.proofs.Finding.{find_some}

pub in_entries : (region index : ℕ) (y : Entry) (c : Carried) (es : List Entry) → IsAmong y es → carried_by region index y.body ≡ Some c → (d : Carried) × (carried_in region index es ≡ Some d)
in_entries region index y c [] i h = absurd i
in_entries region index y c (e ∷ es) i h = go (carried_by region index e.body) refl i (in_entries region index y c es) where
  go : (o : Option Carried) → carried_by region index e.body ≡ o → IsAmong y (e ∷ es)
      → (IsAmong y es → carried_by region index y.body ≡ Some c → (d : Carried) × (carried_in region index es ≡ Some d))
      → (d : Carried) × (first_some o (carried_in region index es) ≡ Some d)
  go (Some d) k i rest = (d, refl)
  go None k (inl p) rest = absurd (cc (sym (ap (λ (z : Entry). carried_by region index z.body) p ∙ k) ∙ h))
  go None k (inr j) rest = rest j h

pub in_logs : (region index : ℕ) (log : Log) (c : Carried) (logs : List Log) → IsAmong log logs → carried_in region index log.entries ≡ Some c → (d : Carried) × (carried_at region index logs ≡ Some d)
in_logs region index log c [] i h = absurd i
in_logs region index log c (l ∷ ls) i h = go (carried_in region index l.entries) refl i (in_logs region index log c ls) where
  go : (o : Option Carried) → carried_in region index l.entries ≡ o → IsAmong log (l ∷ ls)
      → (IsAmong log ls → carried_in region index log.entries ≡ Some c → (d : Carried) × (carried_at region index ls ≡ Some d))
      → (d : Carried) × (first_some o (carried_at region index ls) ≡ Some d)
  go (Some d) k i rest = (d, refl)
  go None k (inl p) rest = absurd (cc (sym (ap (λ (z : Log). carried_in region index z.entries) p ∙ k) ∙ h))
  go None k (inr j) rest = rest j h

-- what is carried at hand stands in the logs
brought_line : (store : Store) (id index : ℕ) (e : Entry) → Brought store id index e → (c : Carried) × (carried_at id index store.logs ≡ Some c)
brought_line store id index e b =
    let log = own_among store.logs b.target b.place b.by b.stood in
    let at = find_some (λ c. c.index == index) b.carried b.merge.carried b.among (eq-eqb b.carried.index index b.at) in
    let gives : carried_by id index b.by.body ≡ Some at.0 =
    ap (carried_by id index) b.body ∙ (ap (λ z. cond z (find (λ c. c.index == index) b.merge.carried) None) (eq-eqb b.merge.source id b.source) ∙ at.1) in
    let one = in_entries id index b.by at.0 log.0.entries (among_get log.0.entries (b.place - 5) b.by log.3) gives in
    in_logs id index log.0 one.0 store.logs log.1 one.1

-- what is at hand has a line
taken_line : (store : Store) (g : Applied) (id : ℕ) (r : Made) (e : Entry) → next store g id r ≡ Some e → (f : Entry) × (entry_in store id (r.applied + 1) ≡ Some f)
taken_line store g id r e taken =
    let back : (r.applied + 1) - 1 ≡ r.applied = omega arith in
    let w = by_own (own_next (own store id) r.applied) refl in
    (w.0, ap (λ n. first_some (own_next (own store id) n) (entry_at (carried_at id (r.applied + 1) store.logs))) back ∙ w.1) where
      by_own : (o : Option Entry) → own_next (own store id) r.applied ≡ o → (f : Entry) × (first_some (own_next (own store id) r.applied) (entry_at (carried_at id (r.applied + 1) store.logs)) ≡ Some f)
      by_own (Some x) o = (x, ap (λ z. first_some z (entry_at (carried_at id (r.applied + 1) store.logs))) o)
      by_own None o = elim (next_cases store g id r e taken) [
        | inl m ↦ absurd (cc (sym o ∙ m))
        | inr c ↦
            (let line = brought_line store id (r.applied + 1) e (brought store g id (r.applied + 1) e (ids_of store) c) in
            let is : entry_at (carried_at id (r.applied + 1) store.logs) ≡ entry_at (Some line.0) = ap entry_at line.1 in
            by_line line.0 (ap (λ z. first_some z (entry_at (carried_at id (r.applied + 1) store.logs))) o ∙ is))
      ] where
        by_line : (c : Carried) → first_some (own_next (own store id) r.applied) (entry_at (carried_at id (r.applied + 1) store.logs)) ≡ entry_at (Some c)
            → (f : Entry) × (first_some (own_next (own store id) r.applied) (entry_at (carried_at id (r.applied + 1) store.logs)) ≡ Some f)
        by_line c h = (entry_of c, h)

-- each applied index has a line
abbrev HasLines : Store → Applied → Type 0
HasLines store g = (x : ℕ) (r : Made) → g.region x ≡ Some r → (j : ℕ) → 5 ≤ j → j + 1 ≤ r.applied → (f : Entry) × (entry_in store x (j + 1) ≡ Some f)

opening_lines : (store : Store) → HasLines store (opening store)
opening_lines store x r h j five le = (let at : r.applied ≡ 5 = (opening_normal store x r h).0 in absurd (omega arith))

step_lines : (script : Script) (store : Store) → Tells script store → (g k : Applied) (id : ℕ) → Stepping script store g id k → step store g id ≡ Went k → HasLines store g → HasLines store k
step_lines script store tells g k id w st old x t h j five le = elim (step_traces script store tells g k id w st x t h) [
  | inl m ↦
      (let up : t.applied ≡ w.r.applied + 1 = m.applied in
      subst (λ y. (f : Entry) × (entry_in store y (j + 1) ≡ Some f)) (sym m.same) (elim (cases_lt j w.r.applied) [
        | inl lt ↦ old id w.r w.here j five (omega arith)
        | inr ge ↦ (let at : w.r.applied ≡ j = omega arith in subst (λ i. (f : Entry) × (entry_in store id (i + 1) ≡ Some f)) at (taken_line store g id w.r w.e w.taken))
      ]))
  | inr c ↦ elim c [
    | inl f ↦ (let at : t.applied ≡ 5 = f.applied in absurd (omega arith))
    | inr o ↦ (let at : t.applied ≡ o.was.applied = o.applied in old x o.was o.here j five (omega arith))
  ]
]

-- at the end of the canonical order
pub last_lines : (script : Script) (store : Store) → Tells script store → Begins script store → (h : Applied) → last store ≡ Went h → (x : ℕ) (r : Made) → h.region x ≡ Some r
    → (j : ℕ) → 5 ≤ j → j + 1 ≤ r.applied → (f : Entry) × (entry_in store x (j + 1) ≡ Some f)
last_lines script store tells begins h e =
    last_has script store tells begins (HasLines store) (opening_lines store) (λ g k id sound w st old. step_lines script store tells g k id w st old) h e
