use Rattle.std.proofs.Common.{◌≡◌, ◌-◌, subst, List}
use Rattle.std.specs.Option.{option_copied}
use Rattle.rs_entry.specs.declared.entry.Entry.{Entry}
use Rattle.rs_store.specs.Stores.{own_next}
use Rattle.rs_check.proofs.HomeLines.{owns_some}
use Rattle.rs_check.proofs.entry_index.own_near.Goals as goal

pub returns : goal.returns
returns c =
    owns_some c.args.store.now c.args.place c.args.region c.args.index c.in-Some.log.now c.own_next.result c.in-Some.ensures c.if-log-region.false
    (subst (λ (es : List Entry). option_copied c.own_next.result ≡ own_next es (c.args.index - 1)) c.as_slice.ensures c.own_next.ensures)
