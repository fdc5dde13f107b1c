use Rattle.std.proofs.Common.{◌≡◌, ◌∙◌, ◌+◌, ◌∷◌, ◌++◌, [], All, ap, length, sym, subst}
use Rattle.std.proofs.lemmas.List.{length-append}
use Rattle.std.proofs.lemmas.List.Elements.{All-push}
use Rattle.rs_entry.specs.declared.input.Input.{Input}
use Rattle.rs_meta.specs.declared.machine.StoreFsm.{StoreFsm}
use Rattle.rs_handlers.proofs.opening.control_machines.Goals as goal

abbrev IsOf : Input → StoreFsm → Type 0
IsOf input machine = machine.plan.now ≡ input

pub loop-place-preserved : goal.loop-place-preserved
loop-place-preserved c =
    let input = c.args.plan.now in
    let machines = c.loop-place.machines in
    let machine = c.in_ok-control_machine.field-0 in
    let pushed : c.push.new.self ≡ machines ++ machine ∷ [] = c.in_ok-push.ensures.ok in (
      ap length pushed ∙ (length-append machines (machine ∷ []) ∙ ap (λ n. n + 1) c.loop-place.invariant.0),
      subst (All (IsOf input)) (sym pushed) (All-push (IsOf input) machines machine c.loop-place.invariant.1 c.in_ok-control_machine.ensures.name),
      c.in_ok-control_machine.ensures.out,
    )
