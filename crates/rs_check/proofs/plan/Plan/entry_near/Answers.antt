use Rattle.std.proofs.Common.{◌≡◌, subst}
use Rattle.std.specs.Prelude.{Some}
use Rattle.std.proofs.lemmas.Option.{IfSome_then}
use Rattle.rs_entry.specs.declared.input.Input.{Input}
use Rattle.rs_store.specs.Runs.{line_entry}
use Rattle.rs_check.specs.Lines.{line_at}
use Rattle.rs_check.proofs.HomeLines.{line_home}
use Rattle.rs_check.proofs.plan.Plan.entry_near.Goals as goal

pub returns : goal.returns
returns c = IfSome_then c.line_near.result c.line_near.ensures (λ line has.
    let home = line_home c.self.inside.input c.self.invariant.3 c.self.invariant.1 c.address-id.result c.in_ok-home.home.now.store c.in-Some.store.now c.args.index (line_entry line)
    c.in-Some.ensures c.if-store-id.false c.requires.index has in
    subst (λ a. line_at c.args.self.now a c.args.index ≡ Some (line_entry line)) c.address-id.ensures
    (subst (λ (x : Input). line_at x c.address-id.result c.args.index ≡ Some (line_entry line)) c.self.view_is home))
