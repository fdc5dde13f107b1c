-- What was found of a rollback stays true.
use Rattle.std.proofs.Common.{◌≡◌, ℕ, refl, sym, subst}
use Rattle.std.specs.Prelude.{Bool, true, false, Some, Result, Ok, Err, OnOk, OnErr, ◌==◌, if◌then◌else◌}
use Rattle.std.proofs.lemmas.Bool.{eqb-true}
use Rattle.rs_rows.specs.declared.no_memory.NoMemory.{NoMemory}
use Rattle.rs_entry.specs.declared.input.Store.{Store}
use Rattle.rs_store.specs.declared.rollbacks.Answer.{Answer}
use Rattle.rs_store.specs.Stores.{own}
use Rattle.rs_store.specs.Rollbacks.{Answers, no_answers, with_answer, IsTrueOf, AreTrue}

pub none_true : (store : Store) → AreTrue store no_answers
none_true store id a h = absurd cc

with_true : (store : Store) (f : Answers) (id : ℕ) (a : Answer) → AreTrue store f → IsTrueOf (own store id) a → AreTrue store (with_answer f id a)
with_true store f id a all is x b h = go (x == id) refl h where
  go : (t : Bool) → (x == id) ≡ t → (if t then Some a else f x) ≡ Some b → IsTrueOf (own store x) b
  go true e q =
      let same : a ≡ b = cc in
      subst (λ (y : ℕ). IsTrueOf (own store y) b) (sym (eqb-true x id e)) (subst (IsTrueOf (own store id)) same is)
  go false e q = all x b q

-- an answer that was kept, or for which there was no memory
pub put_true : (store : Store) (f g : Answers) (id : ℕ) (a : Answer) (r : Result (Unit {0}) NoMemory) → AreTrue store f → IsTrueOf (own store id) a
    → OnOk r (g ≡ with_answer f id a) → OnErr r (g ≡ f) → AreTrue store g
put_true store f g id a (Ok u) all is put kept = subst (AreTrue store) (sym put) (with_true store f id a all is)
put_true store f g id a (Err e) all is put kept = subst (AreTrue store) (sym kept) all
