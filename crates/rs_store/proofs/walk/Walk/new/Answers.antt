use Rattle.std.proofs.Common.{sym, subst, arith}
use Rattle.rs_entry.specs.declared.input.Store.{Store}
use Rattle.rs_store.specs.Runs.{IsWithin}
use Rattle.rs_store.specs.Places.{known}
use Rattle.rs_store.specs.Cursor.{HasMerges}
use Rattle.rs_store.specs.Formed.{IsFormedOne}
use Rattle.rs_store.proofs.Near.{opening_near}
use Rattle.rs_store.proofs.walk.Walk.new.Goals as goal

pub returns-clause-walk : goal.returns-clause-walk
returns-clause-walk c = record {
  formed = subst IsFormedOne (sym c.in_ok-indexed.ensures) c.requires;
  low = subst (IsWithin 5) (sym c.in_ok-regions.ensures) (opening_near c.in_ok-indexed.indexed);
  before = λ k h l. absurd (omega arith);
  standing = c.in_ok-standing.ensures;
  awaited = subst (λ (s : Store). HasMerges s (known c.in_ok-ids.field-0.awaited)) (sym c.in_ok-indexed.ensures) c.in_ok-ids.ensures.awaited;
}
