use Rattle.std.proofs.Common.{sym, subst, drop}
use Rattle.rs_view.specs.Cuts.{Within, cut_of}
use Rattle.rs_view.proofs.Rises.{rises, within_fold}
use Rattle.rs_view.proofs.publishing.show.Goals as goal

pub publish_as-requires : goal.publish_as-requires
publish_as-requires g c next is =
    let w = c.args.writer in
    let now = w.desk.shown.value in
    rises _ _ now next (subst (Within (cut_of now)) (sym is) (within_fold (cut_of now) (drop w.behind w.log.items)))
