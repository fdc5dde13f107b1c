use Rattle.std.proofs.Common.{◌≡◌, ◌∙◌, sym, ap}
use Rattle.rs_entry.specs.declared.input.Store.{Store}
use Rattle.rs_store.specs.Stores.{advance, step}
use Rattle.rs_store.specs.Runs.{bare}
use Rattle.rs_store.specs.Walks.{store_of, made_by}
use Rattle.rs_store.proofs.WalkLaws.{advance_is, goes_leads}
use Rattle.rs_store.proofs.walk.Walk.advance.Goals as goal

pub returns-clause-leads : goal.returns-clause-leads
returns-clause-leads c =
    let next : advance (store_of c.args.self.now) (bare (made_by c.args.self.now)) ≡ step (store_of c.least_ready.new.self) (bare (made_by c.least_ready.new.self)) c.in-Some.id =
    advance_is (store_of c.args.self.now) (made_by c.args.self.now) (made_by c.least_ready.new.self) c.in-Some.id c.in-Some.ensures.ready c.in-Some.ensures.made
    ∙ ap (λ (s : Store). step s (bare (made_by c.least_ready.new.self)) c.in-Some.id) (sym c.in-Some.ensures.store) in
    goes_leads (store_of c.args.self.now) (made_by c.args.self.now) (made_by c.take.new.self) _ next c.take.result c.take.ensures.goes
