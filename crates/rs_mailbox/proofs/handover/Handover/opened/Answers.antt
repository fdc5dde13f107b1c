use Rattle.std.proofs.Common.{rules, ap, sym, refl, ◌∙◌}
use Rattle.rs_mailbox.proofs.Making.{opens, empties, settles_at}
use Rattle.rs_mailbox.proofs.handover.Handover.opened.Goals as goal

pub vacant-requires : goal.vacant-requires
vacant-requires g c = opens {N = g.row.T-Name.Denot} g.T.Named.name g.T.HasCount.count c.args.value

pub load-requires : goal.load-requires
load-requires g c = let e = c.in-Ok.ensures.4 in (c.in-Ok.ensures.2, search rules, empties g.T.Named.name g.T.HasCount.count _ _ _ _ (ap (λ m. m.0.unborn) e) (ap (λ m. m.0.empty) e))

pub store-requires : goal.store-requires
store-requires g c = let e = c.in-Ok.ensures.4 in let l = c.load.ensures.2.0 in (
  c.exchange.ensures.0 ∙ c.load.ensures.0 ∙ c.in-Ok.ensures.2,
  search rules,
  settles_at g.T.Named.name g.T.HasCount.count _ _ _ _ _ _ _ c.exchange.ensures.3 (ap (λ v. v.unborn) l ∙ ap (λ m. m.0.unborn) e) (ap (λ v. v.empty) l) (ap (λ v. v.stance) l ∙ ap (λ m. m.0.stance) e) refl (sym (ap (λ v. v.name) l ∙ ap (λ m. m.0.name) e)) c.requires,
)
