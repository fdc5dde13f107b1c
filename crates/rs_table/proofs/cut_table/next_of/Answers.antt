use Rattle.std.proofs.Common.{◌≡◌, ap, sym, ◌∙◌, subst, Some, None, ◌+◌}
use Rattle.std.specs.Option.{option_map}
use Rattle.rs_store.specs.Runs.{line_entry}
use Rattle.rs_check.specs.Values.{region_of}
use Rattle.rs_table.specs.Cuts.{entry_of_nth}
use Rattle.rs_table.specs.Moves.{IsReady}
use Rattle.rs_table.specs.Rows.{state_of}
use Rattle.rs_table.specs.Tellings.{numbers}
use Rattle.rs_table.proofs.cut_table.next_of.Goals as goal

pub unreachable-requires : goal.unreachable-requires
unreachable-requires c =
    let w = c.moves.ensures.there (numbers c.args.taken.now) c.args.a c.args.table.now c.requires.next c.requires.table in
    let e : entry_of_nth c.args.plan.now c.args.a c.args.nth ≡ Some w.1 = ap (entry_of_nth c.args.plan.now c.args.a) c.requires.nth ∙ w.3 in
    let none : None ≡ entry_of_nth c.args.plan.now c.args.a c.args.nth = ap (option_map line_entry) (sym c.in_default.is) ∙ c.entry_of_nth.ensures in
    cc (none, e)

pub unreachable-requires-in_default-find : goal.unreachable-requires-in_default-find
unreachable-requires-in_default-find c =
    let w = c.moves.ensures.there (numbers c.args.taken.now) c.args.a c.args.table.now c.requires.next c.requires.table in
    let st : state_of c.args.table.now (region_of c.args.plan.now c.args.a) ≡ None =
    ap (λ r. state_of r (region_of c.args.plan.now c.args.a)) (sym c.rows.ensures) ∙ (ap (λ x. state_of c.rows.result.now x.1) (sym c.address.ensures) ∙ sym c.in_default-find.ensures) in
    cc (st, w.2)

pub returns-clause-state : goal.returns-clause-state
returns-clause-state c =
    ap (λ r. state_of r (region_of c.args.plan.now c.args.a)) (sym c.rows.ensures) ∙ (ap (λ x. state_of c.rows.result.now x.1) (sym c.address.ensures) ∙ sym c.in-Some-find.ensures)

pub returns-clause-entry : goal.returns-clause-entry
returns-clause-entry c = ap (entry_of_nth c.args.plan.now c.args.a) (sym c.requires.nth) ∙ sym c.in-Some.ensures

pub returns-clause-ready : goal.returns-clause-ready
returns-clause-ready c =
    let w = c.moves.ensures.there (numbers c.args.taken.now) c.args.a c.args.table.now c.requires.next c.requires.table in
    let st : state_of c.args.table.now (region_of c.args.plan.now c.args.a) ≡ Some c.in-Some-find.state.now =
    ap (λ r. state_of r (region_of c.args.plan.now c.args.a)) (sym c.rows.ensures) ∙ (ap (λ x. state_of c.rows.result.now x.1) (sym c.address.ensures) ∙ sym c.in-Some-find.ensures) in
    let en : entry_of_nth c.args.plan.now c.args.a (numbers c.args.taken.now c.args.a + 1) ≡ Some (line_entry c.in-Some.line) = ap (entry_of_nth c.args.plan.now c.args.a) (sym c.requires.nth) ∙ sym c.in-Some.ensures in
    let s : w.0 ≡ c.in-Some-find.state.now = cc (w.2, st) in
    let e : w.1 ≡ line_entry c.in-Some.line = cc (w.3, en) in
    subst (λ x. IsReady c.args.table.now x (line_entry c.in-Some.line).body) s (subst (λ x. IsReady c.args.table.now w.0 x.body) e w.4)
