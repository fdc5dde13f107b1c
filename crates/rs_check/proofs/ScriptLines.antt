-- What a plan answers as a region's entry is the script's line.
use Rattle.std.proofs.Common.{◌≡◌, ℕ, ◌+◌, ◌-◌, ◌≤◌, ◌==◌, Bool, true, false, if◌then◌else◌, List, [], ◌∷◌, Option, Some, None, refl, ap, sym, ◌∙◌, inl, inr, arith}
use Rattle.std.specs.List.{find}
use Rattle.std.proofs.lemmas.Bool.{eqb-true}
use Rattle.rs_entry.specs.Entries.{entry_of}
use Rattle.rs_entry.specs.WellFormed.{WellFormed}
use Rattle.rs_entry.specs.declared.entry.Body.{Body}
use Rattle.rs_entry.specs.declared.entry.Body.TheVariants as body
use Rattle.rs_entry.specs.declared.entry.Carried.{Carried}
use Rattle.rs_entry.specs.declared.entry.Entry.{Entry}
use Rattle.rs_entry.specs.declared.input.Log.{Log}
use Rattle.rs_entry.specs.declared.input.Store.{Store}
use Rattle.rs_entry.specs.declared.input.Input.{Input}
use Rattle.rs_store.specs.Stores.{first_some, own, own_next, entry_at}
use Rattle.rs_part.specs.Counting.{IsAmong}
use Rattle.rs_part.proofs.Members.{among_find}
use Rattle.rs_check.specs.Lines.{carried_by, carried_in, carried_at, entry_in, line_in, line_at}
use Rattle.rs_check.specs.Statements.{stated, first_differ}
use Rattle.rs_check.specs.Scripts.{script_of}
use Rattle.rs_check.proofs.Telling.{own_told, carried_told}

module _ (input : Input) (well : WellFormed input) (fine : first_differ [] (stated input) ≡ None) (store : Store) (among : IsAmong store input.stores) where
  module _ (region index : ℕ) (x : Carried) where
    by_told : (log : Log) (y : Entry) → IsAmong log store.logs → IsAmong y log.entries → (b : Body) → y.body ≡ b
        → carried_by region index b ≡ Some x → (script_of input).line region index ≡ Some (entry_of x)
    by_told log y k m (body.Commit q c l) is h = go (q == region) refl h where
      go : (b : Bool) → (q == region) ≡ b → (if b then find (λ z. z.index == index) l else None) ≡ Some x → (script_of input).line region index ≡ Some (entry_of x)
      go true b h =
          let w = among_find (λ z. z.index == index) l x h in
          ap (λ z. (script_of input).line z index) (sym (eqb-true q region b))
          ∙ (ap (λ z. (script_of input).line q z) (sym (eqb-true x.index index w.1)) ∙ carried_told input well store among fine log y q c l x k m is w.0)
      go false b h = absurd cc
    by_told log y k m body.Empty is h = absurd cc
    by_told log y k m (body.Write ops) is h = absurd cc
    by_told log y k m (body.Split side ids keys) is h = absurd cc
    by_told log y k m (body.Prepare target) is h = absurd cc
    by_told log y k m (body.Rollback commit) is h = absurd cc
    by_told log y k m (body.Conf c) is h = absurd cc

    in_told : (log : Log) → IsAmong log store.logs → (es : List Entry) → ((y : Entry) → IsAmong y es → IsAmong y log.entries)
        → carried_in region index es ≡ Some x → (script_of input).line region index ≡ Some (entry_of x)
    in_told log k [] f h = absurd cc
    in_told log k (y ∷ ys) f h = go (carried_by region index y.body) refl h (in_told log k ys (λ z i. f z (inr i))) where
      go : (o : Option Carried) → carried_by region index y.body ≡ o → first_some o (carried_in region index ys) ≡ Some x
          → (carried_in region index ys ≡ Some x → (script_of input).line region index ≡ Some (entry_of x)) → (script_of input).line region index ≡ Some (entry_of x)
      go (Some z) b h rest = by_told log y k (f y (inl refl)) y.body refl (b ∙ h)
      go None b h rest = rest h

    at_told : (logs : List Log) → ((l : Log) → IsAmong l logs → IsAmong l store.logs) → carried_at region index logs ≡ Some x → (script_of input).line region index ≡ Some (entry_of x)
    at_told [] f h = absurd cc
    at_told (log ∷ logs) f h = go (carried_in region index log.entries) refl h (at_told logs (λ z i. f z (inr i))) where
      go : (o : Option Carried) → carried_in region index log.entries ≡ o → first_some o (carried_at region index logs) ≡ Some x
          → (carried_at region index logs ≡ Some x → (script_of input).line region index ≡ Some (entry_of x)) → (script_of input).line region index ≡ Some (entry_of x)
      go (Some z) b h rest = in_told log (f log (inl refl)) log.entries (λ y i. i) (b ∙ h)
      go None b h rest = rest h

  -- the entry that the store's logs have, own or carried
  pub entry_told : (region i : ℕ) (e : Entry) → 5 ≤ i → entry_in store region (i + 1) ≡ Some e → (script_of input).line region (i + 1) ≡ Some e
  entry_told region i e five h =
      let back : (i + 1) - 1 ≡ i = omega arith in
      by_own (own_next (own store region) i) refl (sym (ap (λ n. first_some (own_next (own store region) n) (entry_at (carried_at region (i + 1) store.logs))) back) ∙ h) where
        carried : (o : Option Carried) → carried_at region (i + 1) store.logs ≡ o → entry_at o ≡ Some e → (script_of input).line region (i + 1) ≡ Some e
        carried None c k = absurd cc
        carried (Some x) c k = at_told region (i + 1) x store.logs (λ l j. j) c ∙ k

        by_own : (o : Option Entry) → own_next (own store region) i ≡ o → first_some o (entry_at (carried_at region (i + 1) store.logs)) ≡ Some e
            → (script_of input).line region (i + 1) ≡ Some e
        by_own (Some x) o k = own_told input well store among fine region i e five (o ∙ k)
        by_own None o k = carried (carried_at region (i + 1) store.logs) refl k

in_store : (stores : List Store) (store region index : ℕ) (e : Entry) → line_in store region index stores ≡ Some e → (s : Store) × (IsAmong s stores) × (entry_in s region index ≡ Some e)
in_store [] store region index e h = absurd cc
in_store (s ∷ ss) store region index e h = go (s.id == store) h (in_store ss store region index e) where
  go : (b : Bool) → (if b then entry_in s region index else line_in store region index ss) ≡ Some e
      → (line_in store region index ss ≡ Some e → (t : Store) × (IsAmong t ss) × (entry_in t region index ≡ Some e))
      → (t : Store) × (IsAmong t (s ∷ ss)) × (entry_in t region index ≡ Some e)
  go true h rest = (s, inl refl, h)
  go false h rest = let w = rest h in (w.0, inr w.1, w.2)

-- the entry that the input has for a region of a store
pub line_told : (input : Input) → WellFormed input → first_differ [] (stated input) ≡ None → (address : ℕ × ℕ) (i : ℕ) (e : Entry)
    → 5 ≤ i → line_at input address (i + 1) ≡ Some e
    → (script_of input).line address.1 (i + 1) ≡ Some e
line_told input well fine address i e five h =
    let w = in_store input.stores address.0 address.1 (i + 1) e h in
    entry_told input well fine w.0 w.1 address.1 i e five w.2
