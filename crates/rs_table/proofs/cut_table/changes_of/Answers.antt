use Rattle.std.proofs.Common.{◌≡◌, ◌+◌, ◌-◌, ap, sym, ◌∙◌, subst, Some, Ok, Err, suc, arith}
use Rattle.std.specs.Prelude.{IfOk, slice_get, Result}
use Rattle.rs_store.specs.Runs.{line_entry}
use Rattle.rs_check.specs.Plans.{address_of, reshapings_of}
use Rattle.rs_table.specs.Changes.{changes, with_states}
use Rattle.rs_table.specs.Cuts.{index_after}
use Rattle.rs_table.specs.Moves.{raised}
use Rattle.rs_table.specs.Rows.{IsTable}
use Rattle.rs_table.specs.Tellings.{numbers}
use Rattle.rs_table.proofs.PlanReshapings.{nth_index}
use Rattle.rs_table.proofs.cut_table.changes_of.Goals as goal

with_ok : {A E : Type 0} (P Q : A → Type 0) → ((x : A) → P x → Q x) → (r : Result A E) → IfOk r P → IfOk r Q
with_ok P Q f (Ok x) h = f x h
with_ok P Q f (Err e) h = tt

pub returns : goal.returns
returns c =
    let p = c.args.plan.now in
    let a = c.args.a in
    let n = numbers c.args.taken.now in
    let state = c.next_of.result.0.now in
    let b = (line_entry c.next_of.result.1).body in
    let moved = c.moves.ensures.moves n a c.args.table.now state (line_entry c.next_of.result.1) c.requires.next c.requires.table c.next_of.ensures.state c.next_of.ensures.entry in
    let k : c.args.nth - 1 ≡ n a = (let h = c.requires.nth in omega (arith, h)) in
    let got : slice_get (reshapings_of p a) (n a) ≡ Some c.reshaping.result = ap (slice_get (reshapings_of p a)) (sym k) ∙ c.reshaping.ensures in
    let i : c.reshaping.result ≡ index_after p a (n a + 1) = sym (nth_index p a (n a) c.reshaping.result got) ∙ ap (index_after p a) (let q : suc (n a) ≡ n a + 1 = omega arith in q) in
    let same : changes c.address-store.result.0 c.reshaping.result c.rows.result.now state b ≡ changes (address_of p a).0 (index_after p a (n a + 1)) c.args.table.now state b =
    ap (λ x. changes x.0 c.reshaping.result c.rows.result.now state b) c.address-store.ensures
    ∙ (ap (λ x. changes (address_of p a).0 x c.rows.result.now state b) i ∙ ap (λ r. changes (address_of p a).0 (index_after p a (n a + 1)) r state b) c.rows.ensures) in
    with_ok (λ states. states ≡ changes c.address-store.result.0 c.reshaping.result c.rows.result.now state b) (λ states. IsTable p c.args.place (raised n a) (with_states states c.args.table.now))
    (λ states e. subst (λ ss. IsTable p c.args.place (raised n a) (with_states ss c.args.table.now)) (sym (e ∙ same)) moved) c.changed.result c.changed.ensures
