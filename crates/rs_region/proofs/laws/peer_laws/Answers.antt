use Rattle.rs_region.proofs.PeerChanges.{change_keeps_peers}
use Rattle.rs_region.proofs.laws.peer_laws.Goals as goal

pub returns : goal.returns
returns c = change_keeps_peers
