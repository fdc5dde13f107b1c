use Rattle.std.proofs.Common.{ℕ, ap, ◌∙◌}
use Rattle.std.specs.Prelude.{if◌then◌else◌, Some}
use Rattle.std.specs.Ordering.{nat_cmp, is_eq}
use Rattle.std.specs.BTreeMap.{get}
use mathlib.Core.Path.{fun_ext}
use Rattle.rs_store.specs.Places.{kept_in, place_in}
use Rattle.rs_store.specs.declared.region_places.RegionPlaces.{RegionPlaces}
use Rattle.rs_store.proofs.PlaceSteps.{exchanged}
use Rattle.rs_store.proofs.place_map.PlaceMap.exchange.Goals as goal

pub returns-clause-known : goal.returns-clause-known
returns-clause-known c = fun_ext (λ (r : ℕ). exchanged c.args.self.now.region c.args.region c.args.self.now.at_hand c.replace-last.new.dest
    (get nat_cmp c.args.self.now.kept) (get nat_cmp c.remove.new.self) (get nat_cmp c.insert.new.self) c.requires
    (ap place_in c.replace-last.ensures.after ∙ (c.taken-next.ensures ∙ ap kept_in c.remove.ensures.value))
    c.remove.ensures.updates.0
    (λ (x : ℕ). c.in_ok-none.ensures.updates.0 x ∙ ap (λ (p : RegionPlaces). if is_eq (nat_cmp c.args.self.now.region x) then Some p else get nat_cmp c.remove.new.self x) c.replace-last.ensures.value) r)
