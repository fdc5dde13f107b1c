-- A region's entries are well formed.
use Rattle.std.proofs.Common.{◌≡◌, ℕ, ◌-◌, ◌<◌, ◌∙◌, Option, Some, None, subst, sym}
use Rattle.rs_entry.specs.WellFormed.{WellFormed}
use Rattle.rs_entry.specs.declared.entry.Carried.{Carried}
use Rattle.rs_entry.specs.declared.entry.Entry.{Entry}
use Rattle.rs_entry.specs.declared.input.Input.{Input}
use Rattle.rs_store.specs.Runs.{IsFormed}
use Rattle.rs_store.specs.Stores.{first_some, own, own_next}
use Rattle.rs_store.specs.Stores.{entry_at as carried_entry}
use Rattle.rs_store.proofs.FormLaws.{formed_store}
use Rattle.rs_store.proofs.Verdicts.{formed_carried}
use Rattle.rs_check.specs.Laws.{check}
use Rattle.rs_check.specs.Lines.{carried_at, entry_in}
use Rattle.rs_check.specs.Values.{count_of, entry_at, region_of}
use Rattle.rs_check.proofs.Addresses.{Home, entry_here, home}

module _ (input : Input) (well : WellFormed input) (lawful : check input ≡ None) where
  in_store : (a : ℕ) (h : Home input a) (i : ℕ) (e : Entry) → entry_in h.store (region_of input a) i ≡ Some e → IsFormed e.body
  in_store a h i e k = by_own (own_next (own h.store (region_of input a)) (i - 1)) (λ x f. formed_store h.store h.end.formed (region_of input a) ((i - 1) - 5) x f) k where
    by_carried : (o : Option Carried) → carried_entry o ≡ Some e → IsFormed e.body
    by_carried None k = absurd cc
    by_carried (Some c) k = subst (λ (x : Option Entry). Formed x) k (formed_carried c.body) where
      Formed : Option Entry → Type 0
      Formed None = Unit {0}
      Formed (Some x) = IsFormed x.body

    by_own : (o : Option Entry) → ((x : Entry) → o ≡ Some x → IsFormed x.body) → first_some o (carried_entry (carried_at (region_of input a) i h.store.logs)) ≡ Some e → IsFormed e.body
    by_own (Some x) f k = f e k
    by_own None f k = by_carried (carried_at (region_of input a) i h.store.logs) k

  pub formed_entry : (a i : ℕ) (e : Entry) → a < count_of input → entry_at input a i ≡ Some e → IsFormed e.body
  formed_entry a i e below k = let h = home input well lawful a below in in_store a h i e (sym (entry_here input a h i) ∙ k)
