-- One entry more of a run.
use Rattle.std.proofs.Common.{◌≡◌, ℕ, suc, ◌+◌, List, ◌++◌, ap, ◌∙◌, arith, subst}
use Rattle.std.specs.Borrow.{Bor}
use Rattle.std.proofs.lemmas.List.{append_assoc}
use Rattle.rs_check.specs.declared.plan.Plan.{Plan}
use Rattle.rs_check.specs.Values.{reshaped_by}
use Rattle.rs_msg.specs.declared.closed.Closed.{Closed}
use Rattle.rs_msg.specs.declared.outbox.Outbox.{Outbox}
use Rattle.rs_apply.specs.Births.{AddsBirths, made_at, made_from}
use Rattle.rs_apply.specs.Merges.{merge_at, merge_results}
use Rattle.rs_apply.specs.Reshapings.{reshaped_if, reshapes_at}
use Rattle.rs_apply.specs.Runs.{HasDone, HasRun}
use Rattle.rs_apply.specs.Steps.{each_of}
use Rattle.rs_apply.proofs.Sending.{adds_both}
use Rattle.rs_apply.proofs.TakenOut.{without_more}

each_more : {A : Type 0} (f : ℕ → List A) (i n j : ℕ) (old mid new : List A) → mid ≡ old ++ each_of f i n → j ≡ i + n → new ≡ mid ++ f j → new ≡ old ++ each_of f i (n + 1)
each_more f i n j old mid new before here one =
    let e : suc n ≡ n + 1 = omega arith in
    one ∙ ap (λ l. l ++ f j) before ∙ append_assoc old (each_of f i n) (f j) ∙ ap (λ k. old ++ (each_of f i n ++ f k)) here ∙ ap (λ k. old ++ each_of f i k) e

pub run_more : (plan : Bor Plan) (a i n j : ℕ) (c0 c1 c2 : List Closed) (o0 o1 o2 : Outbox) → HasRun plan a i n c0 o0 c1 o1 → j ≡ i + n
    → HasDone plan a j c1 o1 c2 o2 → HasRun plan a i (n + 1) c0 o0 c2 o2
run_more plan a i n j c0 c1 c2 o0 o1 o2 ran here done =
    let e : suc n ≡ n + 1 = omega arith in
    let both = adds_both plan.now a (made_from plan.now a i n) (made_at plan.now a j) o0.applies o1.applies o2.applies ran.births done.births in
    record {
      closed = without_more plan.now a i n j c0 c1 c2 ran.closed here done.closed;
      peers = each_more (λ k. merge_results plan a (merge_at plan.now a k)) i n j o0.peers o1.peers o2.peers ran.peers here done.peers;
      births = subst (λ k. AddsBirths plan.now a (made_from plan.now a i k) o0.applies o2.applies) e (subst (λ k. AddsBirths plan.now a (made_from plan.now a i n ++ made_at plan.now a k) o0.applies o2.applies) here both);
      stores = each_more (λ k. reshaped_if plan a (reshaped_by plan.now a (k + 1)) (reshapes_at plan.now a k)) i n j o0.stores o1.stores o2.stores ran.stores here done.stores;
    }
