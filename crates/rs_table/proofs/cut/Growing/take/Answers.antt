use Rattle.std.proofs.Common.{◌≡◌, ap, sym, subst, ℕ}
use Rattle.rs_entry.specs.declared.input.Input.{Input}
use Rattle.rs_table.specs.Cuts.{AllTold, AreKnown, Cut}
use Rattle.rs_table.specs.CutViews.{cut_of, input_of, place_of}
use Rattle.rs_table.specs.Tellings.{AllWait, has, waiters}
use Rattle.rs_table.proofs.Cutting.{either, told_more}
use Rattle.rs_table.proofs.cut.Growing.take.Goals as goal

pub invariant_of-self-clause-known : goal.invariant_of-self-clause-known
invariant_of-self-clause-known c =
    let s = c.args.self.now in
    subst (λ (i : Input). AreKnown i (place_of c.take_in.new.cut) (has s.told)) (sym (ap (λ r. r.now) c.take_in.ensures.plan))
    (subst (λ (k : ℕ). AreKnown (input_of s.cut) k (has s.told)) (sym c.take_in.ensures.place) s.known)

pub invariant_of-self-clause-waiting : goal.invariant_of-self-clause-waiting
invariant_of-self-clause-waiting c =
    let s = c.args.self.now in
    subst (λ (i : Input). AllWait i (place_of c.take_in.new.cut) (waiters s.waits)) (sym (ap (λ r. r.now) c.take_in.ensures.plan))
    (subst (λ (k : ℕ). AllWait (input_of s.cut) k (waiters s.waits)) (sym c.take_in.ensures.place) s.waiting)

pub invariant_of-self-clause-told_all : goal.invariant_of-self-clause-told_all
invariant_of-self-clause-told_all c =
    let s = c.args.self.now in
    either c.take_in.result c.take_in.ensures.ok c.take_in.ensures.err
    (λ e. subst (λ (n : Cut). AllTold (has s.told) n) (sym e) (told_more (input_of s.cut) (place_of s.cut) (has s.told) (cut_of s.cut) c.args.a c.requires.grows s.told_all))
    (λ e. subst (λ (n : Cut). AllTold (has s.told) n) (sym e) s.told_all)
