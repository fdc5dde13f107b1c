use Rattle.std.proofs.Common.{◌<◌, ◌∙◌, ap, length, ◌≡◌, subst}
use Rattle.rs_entry.specs.declared.input.Boot.{Boot}
use Rattle.rs_check.specs.Namings.{namings, is_there, Namings, with_naming}
use Rattle.rs_check.proofs.LawSteps.{boots_more}
use Rattle.rs_check.proofs.reused_ids.boot_ids.Goals as goal

pub loop-root-init : goal.loop-root-init
loop-root-init c = λ id. ap (λ (f : Namings). is_there (f id)) c.new-boots.ensures

pub loop-root-preserved : goal.loop-root-preserved
loop-root-preserved c =
    let lt : c.loop-root.root-index < length c.args.roots.now = c.loop-root-test.true in
    let put : namings c.put.new.self ≡ with_naming (namings c.loop-root.boots) c.root-item.result.region 0 0 =
    subst (λ (b : Boot). namings c.put.new.self ≡ with_naming (namings c.loop-root.boots) b.region 0 0) c.root.view_is c.in_ok-put.ensures in
    λ id. ap (λ (f : Namings). is_there (f id)) put
    ∙ boots_more (namings c.loop-root.boots) c.args.roots.now c.loop-root.root-index c.root-item.result lt c.root-item.is c.loop-root.invariant id
