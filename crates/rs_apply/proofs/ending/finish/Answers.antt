use Rattle.std.proofs.Common.{rules, ◌∷◌, [], ◌++◌, ◌∙◌, ap}
use Rattle.rs_msg.specs.declared.messages.StoreMsg.TheVariants as store
use Rattle.rs_apply.proofs.ending.finish.Goals as goal

pub returns-clause-stores : goal.returns-clause-stores
returns-clause-stores c =
    record {
      message = store.Ended c.in_ok-ending.ending;
      is = c.in_ok-push.ensures.ok ∙ ap (λ z. c.args.out.now.stores ++ (z, store.Ended c.in_ok-ending.ending) ∷ []) c.place.ensures.place;
      tells = (search rules, search rules);
    }
