-- An entry that stands in a store's logs for a region is the region's line.
use Rattle.std.proofs.Common.{◌≡◌, ℕ, ◌+◌, ◌-◌, ◌≤◌, ◌==◌, cond, Option, Some, None, refl, ap, sym, ◌∙◌, arith, subst, inl, inr, Bor}
use Rattle.std.specs.List.{find}
use Rattle.std.specs.Option.{option_copied}
use Rattle.std.specs.Prelude.{IfSome, slice_get}
use Rattle.std.proofs.lemmas.Bool.{eq-eqb}
use Rattle.rs_entry.specs.Entries.{entry_of}
use Rattle.rs_entry.specs.WellFormed.{IsStore, WellFormed}
use Rattle.rs_entry.specs.declared.entry.Body.{Body}
use Rattle.rs_entry.specs.declared.entry.Body.TheVariants as body
use Rattle.rs_entry.specs.declared.entry.Carried.{Carried}
use Rattle.rs_entry.specs.declared.entry.Entry.{Entry}
use Rattle.rs_entry.specs.declared.input.Input.{Input}
use Rattle.rs_entry.specs.declared.input.Log.{Log}
use Rattle.rs_entry.specs.declared.input.Store.{Store}
use Rattle.rs_store.specs.Stores.{entries_of, entry_at, first_some, own, own_next}
use Rattle.rs_part.specs.Counting.{IsAmong}
use Rattle.rs_part.proofs.Members.{among_all, among_get}
use Rattle.rs_check.specs.Laws.{check}
use Rattle.rs_check.specs.Lines.{Carries, CarriesIn, HasEntry, Owns, carried_at, carried_by, entry_in, line_at}
use Rattle.rs_check.specs.Scripts.{script_of}
use Rattle.rs_check.proofs.Addresses.{line_of_store}
use Rattle.rs_check.proofs.EntryLines.{in_entries, in_logs}
use Rattle.rs_check.proofs.Finding.{find_rising, find_some}
use Rattle.rs_check.proofs.LawfulScripts.{fault_free, line_lawful}
use Rattle.rs_check.proofs.Telling.{carried_told}

-- what a commit carries is found in it
found_in : (b : Body) (region index : ℕ) (c : Carried) → CarriesIn b region index c → (d : Carried) × (carried_by region index b ≡ Some d)
found_in (body.Commit source commit carried) region index c h =
    let w = find_some (λ x. x.index == index) c carried h.1 (eq-eqb c.index index h.2) in
    (w.0, ap (λ b. cond b (find (λ x. x.index == index) carried) None) (eq-eqb source region h.0) ∙ w.1)
found_in body.Empty region index c h = absurd h
found_in (body.Write ops) region index c h = absurd h
found_in (body.Split side ids keys) region index c h = absurd h
found_in (body.Prepare target) region index c h = absurd h
found_in (body.Rollback commit) region index c h = absurd h
found_in (body.Conf change) region index c h = absurd h

-- where it is carried there is an entry
some_entry : (store : Store) (region index : ℕ) (c : Carried) → Carries store region index c → (f : Entry) × (entry_in store region index ≡ Some f)
some_entry store region index c k = go (own_next (own store region) (index - 1)) refl where
  carried : (d : Carried) × (carried_at region index store.logs ≡ Some d)
  carried =
      let one = found_in k.by.body region index c k.in_body in
      let log = in_entries region index k.by one.0 k.log.entries k.by_among one.1 in
      in_logs region index k.log log.0 store.logs k.among log.1

  go : (o : Option Entry) → own_next (own store region) (index - 1) ≡ o → (f : Entry) × (first_some o (entry_at (carried_at region index store.logs)) ≡ Some f)
  go (Some e) h = (e, refl)
  go None h = (entry_of carried.0, ap entry_at carried.1)

module _ (input : Input) (well : WellFormed input) (lawful : check input ≡ None) (store : Store) (among : IsAmong store input.stores) where
  store_line : (region index : ℕ) → line_at input (store.id, region) index ≡ entry_in store region index
  store_line region index = line_of_store input.stores store.id region index store (find_rising (λ s. s.id) 0 input.stores well.ids store among)

  own_line : (region index : ℕ) (e : Entry) → Owns store region index e → line_at input (store.id, region) index ≡ Some e
  own_line region index e o =
      let is = among_all (IsStore input.version) store input.stores well.stores among in
      let log : own store o.log.region ≡ o.log.entries = ap entries_of (find_rising (λ l. l.region) 0 store.logs is.2 o.log o.among) in
      let here : own_next (own store region) (index - 1) ≡ Some e = subst (λ r. own_next (own store r) (index - 1) ≡ Some e) o.of_region (ap (λ es. own_next es (index - 1)) log ∙ o.at) in
      store_line region index ∙ ap (λ x. first_some x (entry_at (carried_at region index store.logs))) here

  body_told : (b : Body) (log : Log) (y : Entry) (region index : ℕ) (c : Carried) → IsAmong log store.logs → IsAmong y log.entries → y.body ≡ b → CarriesIn b region index c
      → (script_of input).line region index ≡ Some (entry_of c)
  body_told (body.Commit source commit carried) log y region index c k m is h =
      subst (λ r. (script_of input).line r index ≡ Some (entry_of c)) h.0
      (subst (λ i. (script_of input).line source i ≡ Some (entry_of c)) h.2
      (carried_told input well store among (fault_free input lawful).differ log y source commit carried c k m is h.1))
  body_told body.Empty log y region index c k m is h = absurd h
  body_told (body.Write ops) log y region index c k m is h = absurd h
  body_told (body.Split side ids keys) log y region index c k m is h = absurd h
  body_told (body.Prepare target) log y region index c k m is h = absurd h
  body_told (body.Rollback commit) log y region index c k m is h = absurd h
  body_told (body.Conf change) log y region index c k m is h = absurd h

  carried_line : (region index : ℕ) (c : Carried) → 6 ≤ index → Carries store region index c → line_at input (store.id, region) index ≡ Some (entry_of c)
  carried_line region index c from k =
      let one = some_entry store region index c k in
      let line : line_at input (store.id, region) index ≡ Some one.0 = store_line region index ∙ one.1 in
      let next : (index - 1) + 1 ≡ index = omega arith in
      let told : (script_of input).line region index ≡ Some one.0 =
      subst (λ i. (script_of input).line region i ≡ Some one.0) next
      (line_lawful input well lawful (store.id, region) (index - 1) one.0 (omega arith) (ap (line_at input (store.id, region)) next ∙ line)) in
      line ∙ (sym told ∙ body_told k.by.body k.log k.by region index c k.among k.by_among refl k.in_body)

  -- the line of an entry that stands there
  pub line_there : (region index : ℕ) (e : Entry) → 6 ≤ index → HasEntry store region index e → line_at input (store.id, region) index ≡ Some e
  line_there region index e from (inl o) = own_line region index e o
  line_there region index e from (inr k) = carried_line region index k.0 from k.1 ∙ ap Some k.2

-- ---- reading

-- the entry that was read in a log of the region
pub owns_some : (store : Store) (place region index : ℕ) (log : Log) (o : Option (Bor Entry)) → Some log ≡ slice_get store.logs place → log.region ≡ region
    → option_copied o ≡ own_next log.entries (index - 1) → IfSome o (λ e. Owns store region index e.now)
owns_some store place region index log None here of_region h = tt
owns_some store place region index log (Some e) here of_region h =
    record { log = log; among = among_get store.logs place log (sym here); of_region = of_region; at = sym h }

-- the line of an entry that stands at home
pub line_home : (input : Input) → WellFormed input → check input ≡ None → (a : ℕ × ℕ) (place : ℕ) (store : Store) (index : ℕ) (e : Entry) → Some store ≡ slice_get input.stores place → store.id ≡ a.0
    → 6 ≤ index → HasEntry store a.1 index e → line_at input a index ≡ Some e
line_home input well lawful a place store index e here same from has =
    subst (λ id. line_at input (id, a.1) index ≡ Some e) same
    (line_there input well lawful store (among_get input.stores place store (sym here)) a.1 index e from has)
