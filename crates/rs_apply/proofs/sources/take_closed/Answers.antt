use Rattle.std.proofs.Common.{rules, take, drop, ◌+◌, ◌≡◌, true, sym, ◌∙◌, subst}
use Rattle.rs_apply.specs.Merges.{is_of}
use Rattle.rs_apply.proofs.Places.{split_at, one_there}
use Rattle.rs_apply.proofs.sources.take_closed.Goals as goal

pub returns-then-is_of : goal.returns-then-is_of
returns-then-is_of c =
    record {
      before = take c.loop-place.place c.loop-place.closed.items;
      behind = drop (c.loop-place.place + 1) c.loop-place.closed.items;
      was = (search rules) ∙ split_at c.loop-place.closed.items c.loop-place.place c.remove.result (search rules) (search rules);
      is = c.remove.ensures.by_index.2;
      none = c.loop-place.invariant.1;
      passes = subst (λ z. is_of c.args.address c.args.commit z ≡ true) (one_there c.loop-place.closed.items c.loop-place.place c.index.result.now c.remove.result (search rules) c.index.ensures c.remove.ensures.value) (sym c.is_of.ensures ∙ c.if-is_of.true);
    }
