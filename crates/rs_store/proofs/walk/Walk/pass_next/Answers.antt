use Rattle.std.proofs.Common.{◌≡◌, ◌∙◌, ap, subst, refl}
use Rattle.std.specs.Prelude.{None}
use Rattle.rs_store.specs.Places.{known}
use Rattle.rs_store.specs.Runs.{Moved, bare, forget, seen}
use Rattle.rs_store.specs.Stores.{ByRegion, passed, stands, step, with_region}
use Rattle.rs_store.specs.Walks.{came}
use Rattle.rs_store.proofs.FormLaws.{formed_store}
use Rattle.rs_store.proofs.Passing.{calm_walk, pass_calm, pass_lone, pass_step}
use Rattle.rs_store.proofs.walk.Walk.pass_next.Goals as goal

pub returns-in-Ok-clause-walk : goal.returns-in-Ok-clause-walk
returns-in-Ok-clause-walk c =
    let may = c.requires.may in
    let w = c.args.self.now in
    let f = seen w.regions in
    let went : forget (step w.indexed (bare f) c.args.id) ≡ Moved (seen c.step.new.regions) =
    ap forget (c.in_ok-effect.ensures ∙ ap (came (seen c.step.new.regions)) c.in-Ok.is) in
    let now : with_region f c.args.id (passed may.made) ≡ seen c.step.new.regions = cc (went, pass_step w.indexed (known w.awaited) f c.args.id may) in
    record {
      walk = calm_walk w.indexed w.awaited w.regions c.step.new.regions w.standing w.cursor w.steps c.args.id (formed_store w.indexed c.requires.walk.formed) c.requires.walk c.requires.ready
          (pass_calm w.indexed (known w.awaited) f c.args.id may) went
          (subst (λ (h : ByRegion). stands w.indexed (bare h) c.args.id ≡ None) now (pass_lone w.indexed (known w.awaited) f c.args.id may));
      store = refl;
      taken = refl;
    }
