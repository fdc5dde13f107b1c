use Rattle.std.proofs.Common.{sym}
use Rattle.std.proofs.lemmas.Option.{IfSome_then}
use Rattle.rs_part.proofs.Members.{among_get}
use Rattle.rs_check.proofs.entry_index.carried_near.Goals as goal

pub returns : goal.returns
returns c = IfSome_then c.carried_by.result c.carried_by.ensures (λ carried h. record {
  log = c.in-Some.log.now;
  by = c.in-Some-entry_at.entry.now;
  among = among_get c.args.store.now.logs c.args.place.log c.in-Some.log.now (sym c.in-Some.ensures);
  by_among = among_get c.in-Some.log.now.entries c.args.place.entry c.in-Some-entry_at.entry.now (sym c.in-Some-entry_at.ensures);
  in_body = h;
})
