use Rattle.rs_view.proofs.Rises.{sees}
use Rattle.rs_view.proofs.door.look_up.Goals as goal

pub enter_as-requires : goal.enter_as-requires
enter_as-requires c x = sees _ _ x
