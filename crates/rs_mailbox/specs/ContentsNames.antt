-- The name of what lies at a mailbox's handover, and the messages that were taken with it.
use Rattle.std.specs.Prelude.{List}
use Rattle.rs_mailcore.specs.declared.named.Named.{Ghosts}
use Rattle.rs_mailbox.specs.declared.contents.ContentsName.{ContentsName}
use Rattle.rs_mailbox.specs.declared.contents.Contents.{Contents}

module _ {F M P : Type 0} {m : Ghosts M P} where
  -- the name of a machine and its queue
  abbrev pub contents_name : (F → P) → Contents F M P m → ContentsName P M P
  contents_name name_of c = record { name = name_of c.machine; posted = c.reader.pass.me.view.client.name; queue = record { web = c.reader.pass.web; heap = c.reader.pass.heap } }

  -- the messages that the machine has taken out of its queue
  abbrev pub taken : Contents F M P m → List M
  taken c = c.reader.pass.me.view.client.got
