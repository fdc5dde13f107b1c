use Rattle.std.proofs.Common.{rules, subst, sym, ◌≡◌, None}
use Rattle.rs_key.specs.Ranges.{first_bad_cut, cut}
use Rattle.rs_store.specs.Runs.{line_entry}
use Rattle.rs_msg.specs.Cuts.{IsKept, AreKept}
use Rattle.rs_msg.specs.Maps.{items_at}
use Rattle.rs_apply.specs.Births.{IsKeeping}
use Rattle.rs_apply.proofs.Splitting.{whole, split_next, split_born, some_parts}
use Rattle.rs_apply.proofs.split.split.Goals as goal

pub unreachable-requires : goal.unreachable-requires
unreachable-requires c =
    let next = c.args.next in
    let r = c.requires in
    let s = c.args.state.now in
    let m = c.args.map.now in
    let keys = c.args.keys.now in
    let good : first_bad_cut s.range keys ≡ None = search rules in
    let kept = whole next.plan.now r.laws next.address next.index (line_entry next.line) next.entry s m r.held r.accept c.args.side c.args.ids.now keys r.body in
    let parts = c.in_ok-parts.ensures (items_at m) s.range good (subst (λ z. IsKept (items_at m) s.range z) (sym c.replace-whole.ensures.value) kept) in
    some_parts (items_at m) s.range keys (subst (λ l. AreKept (items_at m) (cut s.range keys) l) c.in_default.ensures parts)

pub send_all-requires : goal.send_all-requires
send_all-requires c =
    let next = c.args.next in
    let r = c.requires in
    let s = c.args.state.now in
    let m = c.args.map.now in
    let keys = c.args.keys.now in
    let good : first_bad_cut s.range keys ≡ None = search rules in
    let kept = whole next.plan.now r.laws next.address next.index (line_entry next.line) next.entry s m r.held r.accept c.args.side c.args.ids.now keys r.body in
    let parts = c.in_ok-parts.ensures (items_at m) s.range good (subst (λ z. IsKept (items_at m) s.range z) (sym c.replace-whole.ensures.value) kept) in
    record {
      born = split_born next.plan.now r.laws next.address next.index (line_entry next.line) next.entry s m r.held r.accept c.args.side c.args.ids.now keys r.body
          c.in_ok-parts.parts.items c.in-Some.kept c.in-Some.rest.items c.in_ok-states.states parts c.in-Some.ensures c.in_ok-states.ensures.made;
    }

pub returns-clause-next : goal.returns-clause-next
returns-clause-next c =
    let next = c.args.next in
    let r = c.requires in
    let s = c.args.state.now in
    let m = c.args.map.now in
    let keys = c.args.keys.now in
    let good : first_bad_cut s.range keys ≡ None = search rules in
    let kept = whole next.plan.now r.laws next.address next.index (line_entry next.line) next.entry s m r.held r.accept c.args.side c.args.ids.now keys r.body in
    let parts = c.in_ok-parts.ensures (items_at m) s.range good (subst (λ z. IsKept (items_at m) s.range z) (sym c.replace-whole.ensures.value) kept) in
    split_next next.plan.now r.laws next.address next.index (line_entry next.line) next.entry s m r.held r.accept c.args.side c.args.ids.now keys r.body
    c.in_ok-parts.parts.items c.replace-empty.new.dest c.in-Some.rest.items c.exec_split.new.self parts
    (subst (λ kept. IsKeeping c.args.side c.in_ok-parts.parts.items kept c.in-Some.rest.items) (sym c.replace-empty.ensures.after) c.in-Some.ensures) c.in_ok-states.ensures.kept
