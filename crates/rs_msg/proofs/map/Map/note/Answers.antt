use Rattle.std.proofs.Common.{◌≡◌, ◌∙◌, ap, map, sym, take}
use Rattle.std.proofs.lemmas.List.{take-map}
use Rattle.std.proofs.lemmas.Result.{err_from_is_err_and}
use Rattle.rs_store.specs.Stores.{wrote}
use Rattle.rs_msg.specs.Maps.{items_at, with_writes}
use Rattle.rs_msg.proofs.map.Map.note.Goals as goal

pub returns-in_err-note_one-clause-err : goal.returns-in_err-note_one-clause-err
returns-in_err-note_one-clause-err c =
    let is = err_from_is_err_and c.from_residual.result c.from_residual.ensures.1 in
    rw is.1 (record {
      count = c.loop-op.op-index;
      front = λ key. ap (λ m. items_at m key) c.in_err-note_one.ensures.err ∙ c.loop-op.invariant key
          ∙ ap (λ ws. with_writes (items_at c.args.self.now) ws key) (sym (take-map (wrote c.args.region c.args.index) c.loop-op.op-index c.args.ops.now));
    })
