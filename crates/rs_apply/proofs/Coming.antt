-- One call of advance, from what the region's run and its conclusion say.
use Rattle.std.proofs.Common.{◌≡◌, ◌⊎◌, inl, inr, ℕ, ◌+◌, ◌-◌, ◌<◌, ◌≤◌, Bool, true, List, ◌++◌, Option, Some, None, ap, sym, ◌∙◌, arith, subst, Result, Ok, Err}
use Rattle.std.specs.Prelude.{IfOk}
use Rattle.std.specs.Borrow.{Bor}
use Rattle.std.specs.Option.{IsSome}
use Rattle.std.proofs.lemmas.List.{append_assoc}
use Rattle.rs_check.specs.declared.plan.Plan.{Plan}
use Rattle.rs_msg.specs.declared.closed.Closed.{Closed}
use Rattle.rs_msg.specs.declared.outbox.Outbox.{Outbox}
use Rattle.rs_apply.specs.Births.{AddsBirths, made_from}
use Rattle.rs_apply.specs.Machines.{applied_if, catch_ups, Comes, EndsStores, HasConcluded, IsCause, IsLife, is_more, last_named}
use Rattle.rs_apply.specs.Merges.{results_from, waits_at}
use Rattle.rs_apply.specs.Runs.{HasRun}
use Rattle.rs_apply.specs.declared.progress.Life.{Life}
use Rattle.rs_apply.specs.declared.progress.Progress.{Progress}
use Rattle.rs_apply.specs.declared.progress.Progress.TheVariants as progress

pub if_ok_all : {A B : Type 0} (r : Result A B) (P Q R S : A → Type 0) → IfOk r P → IfOk r Q → IfOk r R → ((x : A) → P x → Q x → R x → S x) → IfOk r S
if_ok_all (Ok x) P Q R S p q h f = f x p q h
if_ok_all (Err e) P Q R S p q h f = tt

module _ (plan : Bor Plan) (a named : ℕ) (caught : Bool) (budget i j : ℕ) (c0 c1 : List Closed) (asked0 asked1 : List (ℕ × ℕ)) (o0 o1 o2 o3 : Outbox) (p : Progress) (life : Life) where
  used_up : (last : ℕ) → (j ≡ i + budget) ⊎ ((last ≤ j) ⊎ IsSome (waits_at plan.now a c1 j)) → IsCause plan.now a last caught c1 j p → is_more p ≡ true → j ≡ i + budget
  used_up last stops cause more = go p cause more
    where
      waiting : (o : Option (ℕ × ℕ)) → IsSome o → o ≡ None → ⊥
      waiting None h e = absurd (cc h)
      waiting (Some x) h e = cc e

      go : (q : Progress) → IsCause plan.now a last caught c1 j q → is_more q ≡ true → j ≡ i + budget
      go progress.Ended cause m = absurd (cc m)
      go (progress.WaitsFor source commit) cause m = absurd (cc m)
      go progress.Rests cause m = absurd (cc m)
      go progress.More cause m = by stops cause
        where
          by : (j ≡ i + budget) ⊎ ((last ≤ j) ⊎ IsSome (waits_at plan.now a c1 j)) → (j < last) × (waits_at plan.now a c1 j ≡ None) → j ≡ i + budget
          by (inl e) h = e
          by (inr (inl e)) h = absurd (omega (arith, e, h.0))
          by (inr (inr s)) h = absurd (waiting (waits_at plan.now a c1 j) s h.1)

  pub comes : i ≤ j → j ≤ i + budget → (j ≡ i) ⊎ (j ≤ last_named plan.now a named) → (j ≡ i + budget) ⊎ ((last_named plan.now a named ≤ j) ⊎ IsSome (waits_at plan.now a c1 j)) → HasRun plan a i (j - i) c0 o0 c1 o1
      → o2.peers ≡ o1.peers ++ applied_if plan a i j → o2.applies ≡ o1.applies → o2.stores ≡ o1.stores
      → IsCause plan.now a (last_named plan.now a named) caught c1 j p → IsLife j p life → HasConcluded plan a p asked0 o2 asked1 o3
      → Comes plan a named caught budget i c0 asked0 o0 p life c1 asked1 o3
  comes from within last stops ran applied applies stores cause life_is sent =
      record {
        j = j;
        from = from;
        within = within;
        last = last;
        cause = cause;
        more = used_up (last_named plan.now a named) stops cause;
        life_is = life_is;
        closed = ran.closed;
        asked = sent.asked;
        peers =
            sent.peers ∙ ap (λ l. l ++ catch_ups plan a asked0 p) (applied ∙ ap (λ l. l ++ applied_if plan a i j) ran.peers ∙ append_assoc o0.peers (results_from plan a i (j - i)) (applied_if plan a i j))
            ∙ append_assoc o0.peers (results_from plan a i (j - i) ++ applied_if plan a i j) (catch_ups plan a asked0 p)
            ∙ ap (λ l. o0.peers ++ l) (append_assoc (results_from plan a i (j - i)) (applied_if plan a i j) (catch_ups plan a asked0 p));
        applies = record { between = o2.applies; births = subst (λ l. AddsBirths plan.now a (made_from plan.now a i (j - i)) o0.applies l) (sym applies) ran.births; handover = sent.applies };
        stores = subst (λ l. EndsStores plan.now a p l o3.stores) (stores ∙ ran.stores) sent.stores;
      }

-- what a region says of its plan and address is said of equal ones
pub moved_cause : (plan to : Bor Plan) (a b last k : ℕ) (caught : Bool) (xs ys : List Closed) (j : ℕ) (p : Progress) → plan ≡ to → a ≡ b → last ≡ k → xs ≡ ys → IsCause plan.now a last caught xs j p → IsCause to.now b k caught ys j p
moved_cause plan to a b last k caught xs ys j p e f g h cause =
    subst (λ z. IsCause z.now b k caught ys j p) e (subst (λ z. IsCause plan.now z k caught ys j p) f (subst (λ z. IsCause plan.now a z caught ys j p) g (subst (λ z. IsCause plan.now a last caught z j p) h cause)))

pub moved_sent : (plan to : Bor Plan) (a b : ℕ) (p : Progress) (asked0 asked1 : List (ℕ × ℕ)) (o0 o1 : Outbox) → plan ≡ to → a ≡ b → HasConcluded plan a p asked0 o0 asked1 o1 → HasConcluded to b p asked0 o0 asked1 o1
moved_sent plan to a b p asked0 asked1 o0 o1 e f sent = subst (λ z. HasConcluded z b p asked0 o0 asked1 o1) e (subst (λ z. HasConcluded plan z p asked0 o0 asked1 o1) f sent)
