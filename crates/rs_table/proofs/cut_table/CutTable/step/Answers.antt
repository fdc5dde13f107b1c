use Rattle.std.proofs.Common.{rules, arith, ◌≡◌, ◌+◌, ◌<◌, ◌∙◌, length, sym, ap, subst}
use Rattle.rs_check.specs.Values.{count_of}
use Rattle.rs_table.specs.Cuts.{Cut, IsCut, size_of}
use Rattle.rs_table.specs.Moves.{IsNext, raised}
use Rattle.rs_table.specs.Rows.{IsTable}
use Rattle.rs_table.specs.Tellings.{numbers}
use Rattle.rs_table.proofs.Cutting.{after_set, cut_more, read}
use Rattle.rs_table.proofs.NeedLists.{on_below}
use Rattle.rs_table.proofs.Sizes.{one_more}
use Rattle.rs_table.proofs.cut_table.CutTable.step.Goals as goal

pub overflow_add-nth : goal.overflow_add-nth
overflow_add-nth c =
    let s = c.args.self.now in
    let next = c.moves.ensures.only (numbers s.taken.items) c.args.address s.cut c.requires.grows in
    let below = on_below s.plan.now s.place c.args.address next.on in
    let lt : c.args.address < length s.taken.items = (let e = s.sized in omega (arith, below, e)) in
    let b = read s.taken.items c.args.address c.index.result.now lt c.index.ensures in
    let m = next.more in
    let f = c.moves.ensures.few c.args.address in
    omega (arith, b, m, f)

pub execute-requires-clause-nth : goal.execute-requires-clause-nth
execute-requires-clause-nth c =
    let s = c.args.self.now in
    let next = c.moves.ensures.only (numbers s.taken.items) c.args.address s.cut c.requires.grows in
    let below = on_below s.plan.now s.place c.args.address next.on in
    let lt : c.args.address < length s.taken.items = (let e = s.sized in omega (arith, below, e)) in
    ap (λ z. z + 1) (read s.taken.items c.args.address c.index.result.now lt c.index.ensures ∙ ap (λ xs. numbers xs c.args.address) (sym c.deref.ensures.value))

pub index_mut-requires : goal.index_mut-requires
index_mut-requires c =
    let s = c.args.self.now in
    let next = c.moves.ensures.only (numbers s.taken.items) c.args.address s.cut c.requires.grows in
    let below : c.args.address < count_of s.plan.now = on_below s.plan.now s.place c.args.address next.on in
    let lt : c.args.address < length s.taken.items = (let e = s.sized in omega (arith, below, e)) in
    search rules

pub invariant_of-self-2-clause-cut : goal.invariant_of-self-2-clause-cut
invariant_of-self-2-clause-cut c =
    let s = c.args.self.now in
    let next = c.moves.ensures.only (numbers s.taken.items) c.args.address s.cut c.requires.grows in
    let below = on_below s.plan.now s.place c.args.address next.on in
    let lt : c.args.address < length s.taken.items = (let e = s.sized in omega (arith, below, e)) in
    let after = after_set s.taken.items c.args.address c.index.result.now lt c.index.ensures in
    subst (λ (n : Cut). IsCut s.plan.now s.place n) (sym after) (cut_more s.plan.now s.place (numbers s.taken.items) c.args.address next)

pub invariant_of-self-2-clause-tied : goal.invariant_of-self-2-clause-tied
invariant_of-self-2-clause-tied c =
    let s = c.args.self.now in
    let next = c.moves.ensures.only (numbers s.taken.items) c.args.address s.cut c.requires.grows in
    let below = on_below s.plan.now s.place c.args.address next.on in
    let lt : c.args.address < length s.taken.items = (let e = s.sized in omega (arith, below, e)) in
    let after = after_set s.taken.items c.args.address c.index.result.now lt c.index.ensures in
    subst (λ (n : Cut). IsTable s.plan.now s.place n c.execute.new.table) (sym after)
    (subst (λ xs. IsTable s.plan.now s.place (raised (numbers xs) c.args.address) c.execute.new.table) c.deref.ensures.value c.in_ok-execute.ensures.ok)

pub invariant_of-self-2-clause-summed : goal.invariant_of-self-2-clause-summed
invariant_of-self-2-clause-summed c =
    let s = c.args.self.now in
    let next = c.moves.ensures.only (numbers s.taken.items) c.args.address s.cut c.requires.grows in
    let below = on_below s.plan.now s.place c.args.address next.on in
    let lt : c.args.address < length s.taken.items = (let e = s.sized in omega (arith, below, e)) in
    let after = after_set s.taken.items c.args.address c.index.result.now lt c.index.ensures in
    let one = one_more s.plan.now (numbers s.taken.items) c.args.address below in
    ap (λ z. z + 1) s.summed ∙ (sym one ∙ ap (size_of s.plan.now) (sym after))

pub execute-requires-clause-next : goal.execute-requires-clause-next
execute-requires-clause-next c =
    let s = c.args.self.now in
    subst (λ xs. IsNext s.plan.now s.place (numbers xs) c.args.address) (sym c.deref.ensures.value) (c.moves.ensures.only (numbers s.taken.items) c.args.address s.cut c.requires.grows)
