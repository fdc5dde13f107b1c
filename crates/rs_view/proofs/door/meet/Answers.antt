use Rattle.rs_view.proofs.Rises.{sees}
use Rattle.rs_view.proofs.door.meet.Goals as goal

pub enter_as-requires : goal.enter_as-requires
enter_as-requires c x = sees _ _ x

pub enter_as-requires-2 : goal.enter_as-requires-2
enter_as-requires-2 c x = sees _ _ x
