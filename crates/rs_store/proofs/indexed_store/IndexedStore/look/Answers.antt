use Rattle.std.proofs.Common.{sym, subst}
use Rattle.rs_entry.specs.declared.input.Store.{Store}
use Rattle.rs_store.specs.declared.rollbacks.Answer.{Answer}
use Rattle.rs_store.specs.Stores.{own}
use Rattle.rs_store.specs.Rollbacks.{answers, IsTrueOf}
use Rattle.rs_store.proofs.RollbackLaws.{put_true}
use Rattle.rs_store.proofs.indexed_store.IndexedStore.look.Goals as goal

pub invariant_of-self : goal.invariant_of-self
invariant_of-self c =
    let answer : Answer = record { commit = c.args.commit; epoch = c.args.epoch.now; found = c.has_rollback-found.result } in
    record {
      all_ids = c.self.invariant.all_ids;
      all_joiners = c.self.invariant.all_joiners;
      rising = c.self.invariant.rising;
      answered = put_true c.self.inside.store.now (answers c.self.inside.rollbacks) (answers c.put.new.self) c.args.region answer c.put.result
          c.self.invariant.answered
          (subst (λ (s : Store). IsTrueOf (own s c.args.region) answer) (sym c.self.view_is) c.has_rollback-found.ensures)
          c.put.ensures.put c.put.ensures.kept;
    }
