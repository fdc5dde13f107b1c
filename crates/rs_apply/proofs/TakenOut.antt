-- What is taken out of what a machine holds.
use Rattle.std.proofs.Common.{◌≡◌, Bool, ℕ, ◌+◌, suc, List, Some, sym, ap, ◌∙◌, arith, subst, ◌==◌, Result, Ok, Err}
use Rattle.std.specs.List.{All}
use Rattle.std.specs.Prelude.{OnOk}
use Rattle.std.proofs.lemmas.Bool.{and_parts, eqb-true}
use Rattle.rs_entry.specs.declared.input.Input.{Input}
use Rattle.rs_check.specs.Lawfulness.{Source}
use Rattle.rs_check.specs.Plans.{address_of}
use Rattle.rs_check.specs.Values.{region_of}
use Rattle.rs_msg.specs.declared.closed.Closed.{Closed}
use Rattle.rs_apply.specs.Findings.{find_on}
use Rattle.rs_apply.specs.Merges.{TakesFirst, is_of, IsWithout, IsWithoutAt, IsWithoutAll, merge_at}
use Rattle.rs_apply.proofs.Places.{taken_all}

pub plan_of : (input : Input) (test : Closed → Bool) (x : Closed) (old new : List Closed) → TakesFirst test x old new → All (λ y. y.plan.now ≡ input) old
    → (x.plan.now ≡ input) × All (λ y. y.plan.now ≡ input) new
plan_of input test x old new takes all =
    let h = taken_all (λ y. y.plan.now ≡ input) takes.before takes.behind x (subst (λ l. All (λ y. y.plan.now ≡ input) l) takes.was all) in
    (h.0, subst (λ l. All (λ y. y.plan.now ≡ input) l) (sym takes.is) h.1)

-- what was taken out is of the source that was looked for
pub record IsFrom (input : Input) (a q c : ℕ) (x : Closed) : Type 0 where
  pub store : (address_of input x.address).0 ≡ (address_of input a).0
  pub region : region_of input x.address ≡ q
  pub commit : x.commit ≡ c

pub found_there : (input : Input) (a q b c : ℕ) (x : Closed) (old new : List Closed) → TakesFirst (is_of b c) x old new → (source : Source input a q c) → find_on input a q ≡ Some b → IsFrom input a q c x
found_there input a q b c x old new takes source found =
    let parts = and_parts (x.address == b) (x.commit == c) takes.passes in
    let here : x.address ≡ source.b = eqb-true x.address b parts.0 ∙ cc (found, source.placed.found) in
    record {
      store = ap (λ z. (address_of input z).0) here ∙ ap (λ p. p.0) source.placed.address;
      region = ap (λ z. (address_of input z).1) here ∙ ap (λ p. p.1) source.placed.address;
      commit = eqb-true x.commit c parts.1;
    }

pub without : (input : Input) (a b : ℕ) (merge : ℕ × ℕ) (x : Closed) (old new : List Closed) → TakesFirst (is_of b merge.1) x old new → find_on input a merge.0 ≡ Some b → IsWithout input a (Some merge) old new
without input a b merge x old new takes found = subst (λ o. IsWithoutAt o merge.1 old new) (sym found) (x, takes)

pub on_ok : {A B : Type 0} (r : Result A B) (P : Type 0) → P → OnOk r P
on_ok (Ok x) P p = p
on_ok (Err e) P p = tt

pub without_more : (input : Input) (a i n j : ℕ) (old mid new : List Closed) → IsWithoutAll input a i n old mid → j ≡ i + n → IsWithout input a (merge_at input a j) mid new → IsWithoutAll input a i (n + 1) old new
without_more input a i n j old mid new before here one =
    let e : suc n ≡ n + 1 = omega arith in
    subst (λ k. IsWithoutAll input a i k old new) e (mid, before, subst (λ k. IsWithout input a (merge_at input a k) mid new) here one)
