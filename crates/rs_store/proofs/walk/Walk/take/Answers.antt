use Rattle.rs_store.specs.Walks.{store_of}
use Rattle.rs_store.proofs.FormLaws.{formed_store}
use Rattle.rs_store.proofs.walk.Walk.take.Goals as goal

pub next_entry_of-requires-clause-formed : goal.next_entry_of-requires-clause-formed
next_entry_of-requires-clause-formed c = formed_store (store_of c.args.self.now) c.requires.walk.formed
