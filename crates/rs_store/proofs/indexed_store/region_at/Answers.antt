use Rattle.rs_store.proofs.LogPlaces.{region_read}
use Rattle.rs_store.proofs.indexed_store.region_at.Goals as goal

pub returns : goal.returns
returns c = region_read c.args.logs.now c.args.place c.index-logs-place.result c.requires
