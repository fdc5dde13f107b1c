use Rattle.std.proofs.Common.{◌∙◌, ap, sym, arith}
use Rattle.rs_meta.specs.Held.{is_free_at}
use Rattle.rs_meta.proofs.Slots.{one_filled}
use Rattle.rs_meta.proofs.endings.keep.Goals as goal

pub overflow_sub-missing : goal.overflow_sub-missing
overflow_sub-missing c =
    let free = ap (λ slots. is_free_at slots c.args.slot) (sym c.deref.ensures.value) ∙ (sym c.is_free_at.ensures ∙ c.if-not-is_free_at.false) in
    omega (arith, c.requires.free, one_filled c.args.slots.now.items c.args.slot c.args.ending free)

pub returns-clause-free : goal.returns-clause-free
returns-clause-free c =
    let free = ap (λ slots. is_free_at slots c.args.slot) (sym c.deref.ensures.value) ∙ (sym c.is_free_at.ensures ∙ c.if-not-is_free_at.false) in
    omega (arith, c.requires.free, one_filled c.args.slots.now.items c.args.slot c.args.ending free)
