use Rattle.rs_store.proofs.PlaceSteps.{empty_run}
use Rattle.rs_store.proofs.region_places.RegionPlaces.put_first.Goals as goal

pub put_apart-requires : goal.put_apart-requires
put_apart-requires c = empty_run c.args.self.now.first c.args.index c.args.self.now.run.items c.requires
