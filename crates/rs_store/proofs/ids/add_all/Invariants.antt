use Rattle.std.proofs.Common.{◌≡◌, drop}
use Rattle.rs_store.specs.Stores.{add_all}
use Rattle.rs_store.proofs.ids.add_all.Given as goal

abbrev pub invariant-loop-id : goal.invariant-loop-id
invariant-loop-id l = add_all l.ids.items (drop l.id-index l.more) ≡ add_all l.fn.ids.items l.more
