use Rattle.std.proofs.Common.{rules}
use Rattle.rs_view.proofs.Rises.{admits, forks, merges}
use Rattle.rs_view.proofs.door.tell_in.Goals as goal

pub reader-made-requires : goal.reader-made-requires
reader-made-requires c = admits

pub tell-requires : goal.tell-requires
tell-requires c = forks _ _

pub learn-requires : goal.learn-requires
learn-requires c = record { own = search rules; rule = merges _ _ _ _ }
