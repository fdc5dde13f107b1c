use Rattle.std.proofs.Common.{ℕ, ◌≡◌, ◌∙◌, sym, ap, subst, suc, arith, ◌+◌, ◌-◌}
use Rattle.std.specs.Prelude.{None}
use Rattle.rs_entry.specs.declared.input.Store.{Store}
use Rattle.rs_store.specs.declared.walk.Advance.{Advance}
use Rattle.rs_store.specs.declared.walk.Walk.{Walk}
use Rattle.rs_store.specs.Stores.{ByRegion, Stepped, Broke, Went, advance, after, least_ready}
use Rattle.rs_store.specs.Runs.{bare, forget, Moved}
use Rattle.rs_store.specs.Walks.{Keeps, Leads, IsOneOn, gained, store_of, made_by}
use Rattle.rs_store.proofs.Orders.{after_next, rests, stays}
use Rattle.rs_store.proofs.store_run.walk_on.Goals as goal

-- the canonical order of the store that is walked, one step on
one_more : (walked store : Store) (n : ℕ) (f : ByRegion) (s : Stepped) → store ≡ walked → forget (after walked n) ≡ Moved f → advance store (bare f) ≡ s → forget (after walked (n + 1)) ≡ forget s
one_more walked store n f s same here is =
    let one : n + 1 ≡ suc n = omega arith in
    ap (λ m. forget (after walked m)) one ∙ (after_next walked n f here ∙ ap forget (ap (λ x. advance x (bare f)) (sym same) ∙ is))

pub returns-in-Rests-clause-value : goal.returns-in-Rests-clause-value
returns-in-Rests-clause-value c =
    let w = c.loop-place.walk in
    let all : (c.args.count - c.loop-place.place) + c.loop-place.place ≡ c.args.count = omega arith in
    let none : least_ready (store_of w) (bare (made_by w)) ≡ None = subst (λ (a : Advance). Leads (store_of w) (made_by w) (made_by c.advance.new.self) a) c.in-Rests.is c.in_ok-advance.ensures.leads in
    let kept : c.advance.new.self ≡ w = subst (λ (a : Advance). Keeps w c.advance.new.self a) c.in-Rests.is c.in_ok-advance.ensures.walk in
    ap (λ n. forget (after (store_of c.args.walk.now) n)) (sym all)
    ∙ (rests (store_of c.args.walk.now) c.loop-place.place (made_by w) (subst (λ (s : Store). least_ready s (bare (made_by w)) ≡ None) c.loop-place.invariant.same none) c.loop-place.invariant.here (c.args.count - c.loop-place.place)
    ∙ ap (λ (v : Walk). Moved (made_by v)) (sym kept))

pub returns-in-Broke-clause-value : goal.returns-in-Broke-clause-value
returns-in-Broke-clause-value c =
    let w = c.loop-place.walk in
    let all : (c.args.count - (c.loop-place.place + 1)) + (c.loop-place.place + 1) ≡ c.args.count = omega arith in
    let broke : advance (store_of w) (bare (made_by w)) ≡ Broke c.in-Broke.fault = subst (λ (a : Advance). Leads (store_of w) (made_by w) (made_by c.advance.new.self) a) c.in-Broke.is c.in_ok-advance.ensures.leads in
    ap (λ n. forget (after (store_of c.args.walk.now) n)) (sym all)
    ∙ stays (store_of c.args.walk.now) (c.loop-place.place + 1) c.in-Broke.fault
    (one_more (store_of c.args.walk.now) (store_of w) c.loop-place.place (made_by w) (Broke c.in-Broke.fault) c.loop-place.invariant.same c.loop-place.invariant.here broke)
    (c.args.count - (c.loop-place.place + 1))

pub returns-in-Broke-clause-store : goal.returns-in-Broke-clause-store
returns-in-Broke-clause-store c =
    subst (λ (a : Advance). Keeps c.loop-place.walk c.advance.new.self a) c.in-Broke.is c.in_ok-advance.ensures.walk ∙ c.loop-place.invariant.same

pub loop-place-preserved : goal.loop-place-preserved
loop-place-preserved c =
    let w = c.loop-place.walk in
    let new = c.advance.new.self in
    let t = c.in-Took.field-0 in
    let went : advance (store_of w) (bare (made_by w)) ≡ Went (gained (made_by new) t) = subst (λ (a : Advance). Leads (store_of w) (made_by w) (made_by new) a) c.in-Took.is c.in_ok-advance.ensures.leads in
    let on : IsOneOn w new = subst (λ (a : Advance). Keeps w new a) c.in-Took.is c.in_ok-advance.ensures.walk in
    record {
      here = one_more (store_of c.args.walk.now) (store_of w) c.loop-place.place (made_by w) (Went (gained (made_by new) t)) c.loop-place.invariant.same c.loop-place.invariant.here went;
      kept = on.walk;
      steps = on.taken ∙ ap (λ n. n + 1) c.loop-place.invariant.steps;
      same = on.store ∙ c.loop-place.invariant.same;
    }
