use Rattle.std.proofs.Common.{◌≡◌, ◌∙◌, sym, ap, subst, refl, arith, ◌+◌, ◌*◌, ◌≤◌}
use Rattle.std.specs.Prelude.{None}
use Rattle.std.proofs.lemmas.Bool.{and_parts}
use Rattle.rs_entry.specs.declared.input.Store.{Store}
use Rattle.rs_store.specs.Stores.{stands, step}
use Rattle.rs_store.specs.Runs.{seen, bare, forget, Moved, IsWithin}
use Rattle.rs_store.specs.Places.{known}
use Rattle.rs_store.specs.Cursor.{HasMerges}
use Rattle.rs_store.specs.Formed.{IsFormedOne}
use Rattle.rs_store.specs.Walks.{came}
use Rattle.rs_store.proofs.FormLaws.{formed_store}
use Rattle.rs_store.proofs.Near.{step_leads}
use Rattle.rs_store.proofs.Frames.{none_there}
use Rattle.rs_store.proofs.Passing.{calm_walk}
use Rattle.rs_store.proofs.WalkLaws.{walk_over}
use Rattle.rs_store.proofs.walk.Walk.apply_next.Goals as goal

pub returns-then-may_stay-clause-walk : goal.returns-then-may_stay-clause-walk
returns-then-may_stay-clause-walk c =
    let w = c.args.self.now in
    let same : c.look.new.indexed ≡ w.indexed = c.look.ensures in
    let went : forget (step w.indexed (bare (seen w.regions)) c.args.id) ≡ Moved (seen c.step.new.regions) =
    ap forget (c.in_ok-effect.ensures ∙ ap (came (seen c.step.new.regions)) c.in-Ok.is) in
    let both = and_parts c.is_calm-calm.result c.is_none-lone.result (sym c.may_stay.ensures ∙ c.if-may_stay.true) in
    let lone : stands w.indexed (bare (seen c.step.new.regions)) c.args.id ≡ None =
    subst (λ (s : Store). stands s (bare (seen c.step.new.regions)) c.args.id ≡ None) same
    (sym c.stands.ensures ∙ none_there c.stands.result c.is_none-lone.result c.is_none-lone.ensures both.1) in
    record {
      walk = walk_over c.look.new.indexed w.indexed w.awaited c.step.new.regions w.standing w.cursor (w.steps + 1) same
          (calm_walk w.indexed w.awaited w.regions c.step.new.regions w.standing w.cursor w.steps c.args.id (formed_store w.indexed c.requires.walk.formed) c.requires.walk c.requires.ready
          (c.is_calm-calm.ensures both.0) went lone);
      store = same;
      taken = refl;
    }

pub returns-clause-walk : goal.returns-clause-walk
returns-clause-walk c =
    let w = c.args.self.now in
    let same : c.look.new.indexed ≡ w.indexed = c.look.ensures in
    let b : (5 + 64 * w.steps) + 64 ≡ 5 + 64 * (w.steps + 1) = omega arith in
    let five : 5 ≤ 5 + 64 * w.steps = omega arith in
    let went : forget (step w.indexed (bare (seen w.regions)) c.args.id) ≡ Moved (seen c.step.new.regions) =
    ap forget (c.in_ok-effect.ensures ∙ ap (came (seen c.step.new.regions)) c.in-Ok.is) in
    record {
      walk = record {
        formed = subst IsFormedOne (sym same) c.requires.walk.formed;
        low = subst (λ n. IsWithin n (seen c.step.new.regions)) b
            (step_leads (5 + 64 * w.steps) five w.indexed (formed_store w.indexed c.requires.walk.formed) (seen w.regions) c.requires.walk.low c.args.id (seen c.step.new.regions) went);
        before = λ k h l. absurd (omega arith);
        standing = c.in_ok-self.ensures;
        awaited = subst (λ (s : Store). HasMerges s (known w.awaited)) (sym same) c.requires.walk.awaited;
      };
      store = same;
      taken = refl;
    }
