use Rattle.std.proofs.Common.{rules, [], ◌∷◌, ◌+◌, All, length, length-append, sym, subst, ap, ◌∙◌}
use Rattle.std.proofs.lemmas.List.Elements.{All-push}
use Rattle.rs_router.specs.Passes.{IsMember, IsNewPass}
use Rattle.rs_router.proofs.Fronts.{front}
use Rattle.rs_router.proofs.queue_opening.rows_of.Goals as goal

pub loop-place-preserved : goal.loop-place-preserved
loop-place-preserved c = let i = c.loop-place.invariant in let grown = c.in_ok-push.ensures.ok in (
  (search rules),
  front (IsMember c.args.queue.now c.args.addresses) c.loop-place.list.items c.pop.new.self.items c.unwrap-pass.result (search rules) i.1,
  ap length grown ∙ length-append c.loop-place.rows (c.pass_of.result ∷ []) ∙ ap (λ n. n + 1) i.2,
  subst (All (IsNewPass c.args.queue.now c.args.addresses)) (sym grown) (All-push (IsNewPass c.args.queue.now c.args.addresses) c.loop-place.rows c.pass_of.result i.3 c.pass_of.ensures),
)
