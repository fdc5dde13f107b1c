-- The input of a number is lawful.
use Rattle.std.proofs.Common.{◌≡◌, ◌∙◌, refl, sym, ap, subst, ℕ}
use Rattle.std.specs.Prelude.{None, Option}
use Rattle.rs_entry.specs.declared.input.Input.{Input}
use Rattle.rs_store.specs.Stores.{first_some}
use Rattle.rs_check.specs.Laws.{check, differ_law, first_in_stores, overlap_law, reused_law, store_law}
use Rattle.rs_gen.specs.declared.kept.Kept.TheVariants as shares
use Rattle.rs_gen.specs.Inputs.{made_of, store_of}
use Rattle.rs_gen.proofs.RoundEnds.{store_lawful}
use Rattle.rs_gen.proofs.Telling.{none_differs, none_is_reused, none_overlaps}

neither : {A : Type 0} (a b : Option A) → a ≡ None → b ≡ None → first_some a b ≡ None
neither a b p q = ap (λ o. first_some o b) p ∙ q

lawful : (n : ℕ) → check (made_of n) ≡ None
unfolding check
lawful n =
    let stores : first_in_stores (made_of n).stores ≡ None =
    neither (store_law (store_of n 1 shares.All)) (first_some (store_law (store_of n 2 shares.Few)) None) (store_lawful n shares.All 1)
    (neither (store_law (store_of n 2 shares.Few)) None (store_lawful n shares.Few 2) refl) in
    neither (differ_law (made_of n)) (first_some (overlap_law (made_of n)) (first_some (reused_law (made_of n)) (first_in_stores (made_of n).stores))) (none_differs n)
    (neither (overlap_law (made_of n)) (first_some (reused_law (made_of n)) (first_in_stores (made_of n).stores)) (none_overlaps n)
    (neither (reused_law (made_of n)) (first_in_stores (made_of n).stores) (none_is_reused n) stores))

pub made_lawful : (n : ℕ) (input : Input) → input ≡ made_of n → check input ≡ None
made_lawful n input is = subst (λ x. check x ≡ None) (sym is) (lawful n)
