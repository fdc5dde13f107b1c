use Rattle.std.proofs.Common.{arith, ◌≡◌, ◌<◌, ◌∙◌, ap, sym, subst, length, inl, inr, true, get_or}
use Rattle.std.proofs.lemmas.Bool.{cases_lt}
use Rattle.rs_check.specs.Values.{count_of}
use Rattle.rs_table.specs.Cuts.{is_on}
use Rattle.rs_table.specs.Tellings.{IsWaiting, Waits, needs_of, needs_below, waiters}
use Rattle.rs_table.proofs.NeedLists.{is_waiting, keeps_waiting, needs_length, needs_read, on_below}
use Rattle.rs_table.proofs.opening.all_waits.Goals as goal

pub bounds-needs-a : goal.bounds-needs-a
bounds-needs-a c =
    let l : length c.args.needs.now ≡ length (needs_below c.args.plan.now c.args.place (count_of c.args.plan.now)) = ap length c.requires in
    let n = needs_length c.args.plan.now c.args.place (count_of c.args.plan.now) in
    let t = c.loop-a-test.true in
    let e = c.count-a-end.ensures in
    omega (arith, l, n, t, e)

pub loop-a-preserved : goal.loop-a-preserved
loop-a-preserved c x lt on = elim (cases_lt x c.loop-a.a) [
  | inl before ↦ keeps_waiting c.args.plan.now (waiters c.loop-a.waits) (waiters c.wait.new.waits) x c.in_ok-wait.ensures.keeps (c.loop-a.invariant x before on)
  | inr ge ↦
      (let p = c.args.plan.now in
      let same : x ≡ c.loop-a.a = omega (arith, lt, ge) in
      let here : is_on p c.args.place c.loop-a.a ≡ true = subst (λ z. is_on p c.args.place z ≡ true) same on in
      let below : c.loop-a.a < count_of p = on_below p c.args.place c.loop-a.a here in
      let got : c.index-needs-a.result ≡ get_or (needs_below p c.args.place (count_of p)) c.loop-a.a c.index-needs-a.result =
      c.index-needs-a.is ∙ ap (λ xs. get_or xs c.loop-a.a c.index-needs-a.result) c.requires in
      let is : c.index-needs-a.result ≡ needs_of p c.loop-a.a = needs_read p c.args.place (count_of p) c.loop-a.a c.index-needs-a.result below here got in
      subst (λ z. IsWaiting p (waiters c.wait.new.waits) z) (sym same)
      (is_waiting p (waiters c.wait.new.waits) c.loop-a.a (subst (λ z. Waits (waiters c.wait.new.waits) z c.loop-a.a) is c.in_ok-wait.ensures.waits)))
]

pub returns : goal.returns
returns c x on =
    let l = on_below c.args.plan.now c.args.place x on in
    let t = c.loop-a-test.false in
    let e = c.count-a-end.ensures in
    c.loop-a.invariant x (omega (arith, l, t, e)) on
