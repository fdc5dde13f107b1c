use Rattle.std.proofs.Common.{◌≡◌, ◌+◌, ◌-◌, subst, arith}
use Rattle.rs_store.specs.Places.{place_in, with_index}
use Rattle.rs_store.proofs.PlaceSteps.{past_run}
use Rattle.rs_store.proofs.region_places.RegionPlaces.put.Goals as goal

pub returns-then-at-length-2 : goal.returns-then-at-length-2
returns-then-at-length-2 c =
    let e : c.args.self.now.first + (c.args.index - c.args.self.now.first) ≡ c.args.index = omega arith in
    subst (λ n. place_in c.put_over.new.self ≡ with_index (place_in c.args.self.now) n c.args.place) e c.put_over.ensures

pub put_apart-requires-2 : goal.put_apart-requires-2
put_apart-requires-2 c = past_run c.args.self.now.first c.args.index c.args.self.now.run.items (omega arith)
