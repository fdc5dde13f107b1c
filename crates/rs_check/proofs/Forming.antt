-- The entries of a plan are well formed.
use Rattle.std.proofs.Common.{◌≡◌, ℕ, ◌-◌, ◌==◌, Bool, true, false, suc, List, [], ◌∷◌, Option, Some, None, refl, arith, subst, cond, ap, sym, ◌∙◌}
use Rattle.std.specs.List.{All}
use Rattle.std.specs.Option.{option_map}
use Rattle.std.specs.Prelude.{IfSome}
use Rattle.rs_entry.specs.Entries.{body_of, entry_of}
use Rattle.rs_entry.specs.WellFormed.{WellFormed}
use Rattle.rs_entry.specs.declared.entry.Carried.{Carried}
use Rattle.rs_entry.specs.declared.entry.CarriedBody.{CarriedBody}
use Rattle.rs_entry.specs.declared.entry.CarriedBody.TheVariants as carried
use Rattle.rs_entry.specs.declared.entry.Entry.{Entry}
use Rattle.rs_entry.specs.declared.input.Input.{Input}
use Rattle.rs_entry.specs.declared.input.Store.{Store}
use Rattle.rs_store.specs.Formed.{IsFormedOne}
use Rattle.rs_store.specs.Runs.{IsFormed, line_entry}
use Rattle.rs_store.specs.Stores.{entry_at as carried_entry, first_some, own, own_next}
use Rattle.rs_region.specs.declared.line.Line.{Line}
use Rattle.rs_store.proofs.FormLaws.{formed_store}
use Rattle.rs_check.specs.Lines.{carried_at, entry_in, line_at, line_in}
use Rattle.rs_check.proofs.Wellness.{formed_input}

formed_carried : (b : CarriedBody) → IsFormed (body_of b)
formed_carried carried.Empty = tt
formed_carried (carried.Write ops) = tt
formed_carried (carried.Prepare target) = tt

formed_one : (o : Option Entry) (c : Option Carried) (e : Entry) → ((x : Entry) → o ≡ Some x → IsFormed x.body) → first_some o (carried_entry c) ≡ Some e → IsFormed e.body
formed_one (Some x) c e f h = let q : x ≡ e = cc h in subst (λ y. IsFormed y.body) q (f x refl)
formed_one None None e f h = absurd (cc h)
formed_one None (Some c) e f h = let q : entry_of c ≡ e = cc h in subst (λ y. IsFormed y.body) q (formed_carried c.body)

formed_in : (store region index : ℕ) (stores : List Store) → All IsFormedOne stores → (e : Entry) → line_in store region index stores ≡ Some e → IsFormed e.body
formed_in store region index [] all e h = absurd (cc h)
formed_in store region index (s ∷ ss) all e h = go (s.id == store) refl (formed_in store region index ss (λ k d l. all (suc k) d (omega arith)) e)
  where
    go : (b : Bool) → (s.id == store) ≡ b → (line_in store region index ss ≡ Some e → IsFormed e.body) → IsFormed e.body
    go true f more = formed_one (own_next (own s region) (index - 1)) (carried_at region index s.logs) e (λ x. formed_store s (all 0 s (omega arith)) region (index - 1 - 5) x)
        (sym (ap (λ b. cond b (entry_in s region index) (line_in store region index ss)) f) ∙ h)
    go false f more = more (sym (ap (λ b. cond b (entry_in s region index) (line_in store region index ss)) f) ∙ h)

-- a line that is an entry of a well-formed input
pub formed_line : (input : Input) → WellFormed input → (a : ℕ × ℕ) (index : ℕ) (o : Option Line) → option_map line_entry o ≡ line_at input a index → IfSome o (λ line. IsFormed (line_entry line).body)
formed_line input well a index None h = tt
formed_line input well a index (Some line) h = formed_in a.0 a.1 index input.stores (formed_input input well) (line_entry line) (sym h)
