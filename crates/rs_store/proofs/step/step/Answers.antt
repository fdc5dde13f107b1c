use Rattle.std.proofs.Common.{◌≡◌, ◌∙◌, sym, ap, subst}
use Rattle.std.specs.Prelude.{Some, IfOk}
use Rattle.rs_store.specs.Stores.{Stepped, Went, accept, passed, step_by, with_region}
use Rattle.rs_store.specs.Runs.{seen, bare, line_entry, passes, IsAllLow}
use Rattle.rs_store.specs.Walks.{came, passes_to}
use Rattle.rs_store.specs.declared.regions.Made.{Made}
use Rattle.rs_store.proofs.Updates.{put_back, rest_low, out_is_out}
use Rattle.rs_store.proofs.Verdicts.{step_is, step_passes}
use Rattle.rs_store.proofs.step.step.Goals as goal

pub returns-then-passes : goal.returns-then-passes
returns-then-passes c =
    let f = seen c.args.regions.now in
    let next = c.args.next_entry in
    let found : f c.args.id ≡ Some c.in-Some.made.now = sym c.in-Some.ensures in
    let e = line_entry next.line in
    let same : c.requires.next_entry.made ≡ c.in-Some.made.now = cc (found, c.requires.next_entry.here) in
    let leaves = ap (passes next.verdict) (sym c.action-action.ensures) ∙ sym c.if-passes.ensures in
    step_passes c.args.indexed.now f c.args.id c.requires.next_entry.made e c.requires.next_entry.here c.requires.next_entry.next (ap (λ v. passes v e.body) (sym c.requires.next_entry.verdict) ∙ leaves)
    ∙ (ap (λ v. Went (passes_to (with_region f c.args.id (passed c.requires.next_entry.made)) c.args.id c.requires.next_entry.made v e.body)) (sym c.requires.next_entry.verdict)
    ∙ (ap (λ (r : Made). Went (passes_to (with_region f c.args.id (passed r)) c.args.id r next.verdict e.body)) same
    ∙ (ap (λ g. Went (passes_to g c.args.id c.in-Some.made.now next.verdict e.body)) (sym (c.pass.ensures c.in-Some.made.now found))
    ∙ ap Went (sym (c.in_ok-effect.ensures (seen c.pass.new.self))))))

pub accept-requires-clause-all : goal.accept-requires-clause-all
accept-requires-clause-all c = subst IsAllLow (sym c.take.ensures.gone) (rest_low (seen c.args.regions.now) c.args.id c.requires.low)

pub accept-requires-clause-out : goal.accept-requires-clause-out
accept-requires-clause-out c = ap (λ f. f c.args.id) c.take.ensures.gone ∙ out_is_out (seen c.args.regions.now) c.args.id

pub returns-in-Accept : goal.returns-in-Accept
returns-in-Accept c =
    let store = c.args.indexed.now in
    let f = seen c.args.regions.now in
    let id = c.args.id in
    let e = line_entry c.args.next_entry.line in
    let made = c.in-Some-take.made in
    let found : f id ≡ Some made = sym c.in-Some-take.ensures.value in
    let same : c.requires.next_entry.made ≡ made = cc (found, c.requires.next_entry.here) in
    let taken = step_is store f id c.args.next_entry c.requires.next_entry
    ∙ (ap (λ v. step_by v store (bare f) id c.requires.next_entry.made e) c.in-Accept.is
    ∙ (ap (λ (r : Made). accept store (bare f) id r e.body) same
    ∙ (ap (λ g. accept store (bare g) id made e.body) (sym (put_back f id made found))
    ∙ (ap (λ g. accept store (bare (with_region g id made)) id made e.body) (sym c.take.ensures.gone)
    ∙ ap (accept store (bare (with_region (seen c.take.new.self) id made)) id made) (sym c.action-action.ensures))))) in
    subst (λ (s : Stepped). IfOk c.accept.result (λ r. s ≡ came (seen c.accept.new.regions) r)) (sym taken) c.accept.ensures
