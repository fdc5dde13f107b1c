-- Texts of outcomes, of histories and of faults.
use Rattle.std.proofs.Common.{◌≡◌, [], ◌∷◌, ◌++◌, codes, Some, None, refl}
use Rattle.rs_key.specs.declared.epoch.Epoch.{Epoch}
use Rattle.rs_key.specs.Ranges.{Bounds}
use Rattle.rs_entry.specs.declared.entry.Body.TheVariants as body
use Rattle.rs_entry.specs.declared.entry.Op.TheVariants as op
use Rattle.rs_entry.specs.declared.entry.CarriedBody.TheVariants as carried
use Rattle.rs_entry.specs.declared.entry.Carried.{Carried}
use Rattle.rs_entry.specs.declared.entry.Entry.{Entry}
use Rattle.rs_entry.specs.declared.input.Boot.{Boot}
use Rattle.rs_entry.specs.declared.outcome.Mode.TheVariants as mode
use Rattle.rs_entry.specs.declared.outcome.Reply.TheVariants as reply
use Rattle.rs_entry.specs.declared.outcome.StoreOutcome.{StoreOutcome}
use Rattle.rs_entry.specs.declared.outcome.Outcome.{Outcome}
use Rattle.rs_entry.specs.declared.law_fault.LawFault.TheVariants as fault
use Rattle.rs_entry.specs.declared.law_fault.Statement.TheVariants as statement
use Rattle.rs_field.specs.declared.fault.TextKind.TheVariants.{BadHeader, BadLine, BadNumber, BadKey, BadIndex, BadCarry, Limit, NoEnd}
use Rattle.rs_text.specs.Outcomes.{outcome_text, history_text}
use Rattle.rs_text.specs.FaultTexts.{syntax_text, fault_text}
use Rattle.rs_text.proofs.OnLiterals.{texts_on_literals}

-- ---- outcomes

abbrev at_2_3 : Epoch
at_2_3 = record { conf_ver = 2; version = 3 }

abbrev whole : Bounds
whole = record { start = None; end = None }

abbrev from_61_to_6d : Bounds
from_61_to_6d = record { start = Some (97 ∷ []); end = Some (109 ∷ 255 ∷ []) }

abbrev store_1 : StoreOutcome
store_1 = record {
  id = 1;
  regions =
      record { region = 1; epoch = at_2_3; range = from_61_to_6d; mode = mode.Normal; applied = 13; left = 0; peers = [] }
      ∷ record { region = 2; epoch = at_2_3; range = whole; mode = mode.Merging 3 6; applied = 6; left = 1; peers = 1 ∷ [] }
      ∷ record { region = 3; epoch = at_2_3; range = record { start = None; end = Some (0 ∷ []) }; mode = mode.Merged 2; applied = 9; left = 0; peers = [] }
      ∷ record { region = 4; epoch = at_2_3; range = record { start = Some (0 ∷ []); end = None }; mode = mode.Removed; applied = 8; left = 1; peers = 1 ∷ 3 ∷ [] } ∷ [];
  replies =
      record { region = 1; index = 6; reply = reply.Empty }
      ∷ record { region = 1; index = 7; reply = reply.Done 4 }
      ∷ record { region = 1; index = 8; reply = reply.Stale at_2_3 }
      ∷ record { region = 1; index = 9; reply = reply.Outside (97 ∷ 49 ∷ []) }
      ∷ record { region = 1; index = 10; reply = reply.Merging 2 }
      ∷ record { region = 1; index = 11; reply = reply.BadSplit 2 }
      ∷ record { region = 1; index = 12; reply = reply.BadPeer } ∷ [];
  pairs = record { key = 97 ∷ []; value = 48 ∷ 49 ∷ [] } ∷ record { key = 98 ∷ []; value = [] } ∷ [];
  histories =
      record { key = 97 ∷ []; items = record { region = 1; index = 7; value = Some (48 ∷ []) } ∷ record { region = 2; index = 7; value = None } ∷ record { region = 1; index = 10; value = Some (48 ∷ 49 ∷ []) } ∷ [] }
      ∷ record { key = 98 ∷ []; items = record { region = 2; index = 8; value = Some [] } ∷ [] } ∷ [];
}

abbrev store_2 : StoreOutcome
store_2 = record { id = 2; regions = []; replies = []; pairs = []; histories = [] }

abbrev outcome : Outcome
outcome = record { stores = store_1 ∷ store_2 ∷ [] }

no_stores : outcome_text (record { stores = [] }) ≡ []
unfolding texts_on_literals
no_stores = refl

every_mode_and_reply :
    outcome_text outcome ≡
    codes "store 1\n"
    ++ codes "region 1 epoch 2 3 range 61 6dff applied 13 left 0 normal\n"
    ++ codes "region 2 epoch 2 3 range - - applied 6 left 1 merging 3 6 peers 1\n"
    ++ codes "region 3 epoch 2 3 range - 00 applied 9 left 0 merged 2\n"
    ++ codes "region 4 epoch 2 3 range 00 - applied 8 left 1 removed peers 1 3\n"
    ++ codes "reply 1 6 empty\n"
    ++ codes "reply 1 7 ok 4\n"
    ++ codes "reply 1 8 stale 2 3\n"
    ++ codes "reply 1 9 outside 6131\n"
    ++ codes "reply 1 10 merging 2\n"
    ++ codes "reply 1 11 badsplit 2\n"
    ++ codes "reply 1 12 badpeer\n"
    ++ codes "pair 61 3031\n"
    ++ codes "pair 62 -\n"
    ++ codes "history 61 1/7=30 2/7! 1/10=3031\n"
    ++ codes "history 62 2/8=-\n"
    ++ codes "store 2\n"
unfolding texts_on_literals
every_mode_and_reply = refl

history_with_a_deletion : history_text outcome (97 ∷ []) ≡ codes "store 1\nhistory 61 1/7=30 2/7! 1/10=3031\nstore 2\nhistory 61\n"
unfolding texts_on_literals
history_with_a_deletion = refl

history_of_an_unwritten_key : history_text outcome (97 ∷ 98 ∷ []) ≡ codes "store 1\nhistory 6162\nstore 2\nhistory 6162\n"
unfolding texts_on_literals
history_of_an_unwritten_key = refl

-- ---- syntax faults

every_kind :
    syntax_text 1 BadHeader ++ syntax_text 2 BadLine ++ syntax_text 3 BadNumber ++ syntax_text 4 BadKey ++ syntax_text 5 BadIndex ++ syntax_text 6 BadCarry ++ syntax_text 7 Limit ++ syntax_text 1000 NoEnd ≡
    codes "syntax 1 BadHeader\nsyntax 2 BadLine\nsyntax 3 BadNumber\nsyntax 4 BadKey\nsyntax 5 BadIndex\nsyntax 6 BadCarry\nsyntax 7 Limit\nsyntax 1000 NoEnd\n"
unfolding texts_on_literals
every_kind = refl

-- ---- law faults

abbrev at_1_1 : Epoch
at_1_1 = record { conf_ver = 1; version = 1 }

abbrev boot_1 : Boot
boot_1 = record { region = 1; range = record { start = None; end = Some (109 ∷ []) }; peers = [] }

abbrev boot_2 : Boot
boot_2 = record { region = 2; range = record { start = Some (106 ∷ []); end = None }; peers = 1 ∷ 2 ∷ [] }

abbrev prepare : Carried
prepare = record { index = 9; epoch = at_1_1; body = carried.Prepare 1 }

abbrev commit : Entry
commit = record { index = 6; epoch = at_1_1; body = body.Commit 2 9 (prepare ∷ []) }

abbrev write : Entry
write = record { index = 6; epoch = at_1_1; body = body.Write (op.Put (97 ∷ []) (49 ∷ []) ∷ []) }

differ_on_an_entry : fault_text (fault.Differ 1 2 1 6 (statement.Entry write) (statement.Entry commit)) ≡ codes "unlawful differ 1 2 1 6\n6 1 1 write put 61 31\n6 1 1 commit 2 9 1\n"
unfolding texts_on_literals
differ_on_an_entry = refl

differ_on_a_carried_entry : fault_text (fault.Differ 3 3 2 9 (statement.Carried prepare) (statement.Entry write)) ≡ codes "unlawful differ 3 3 2 9\n9 1 1 prepare 1\n6 1 1 write put 61 31\n"
unfolding texts_on_literals
differ_on_a_carried_entry = refl

differ_on_a_region : fault_text (fault.Differ 1 2 2 0 (statement.Boot boot_1) (statement.Boot boot_2)) ≡ codes "unlawful differ 1 2 2 0\nregion 1 - 6d\nregion 2 6a - 1 2\n"
unfolding texts_on_literals
differ_on_a_region = refl

overlap : fault_text (fault.Overlap boot_1 boot_2) ≡ codes "unlawful overlap 1 2\nregion 1 - 6d\nregion 2 6a - 1 2\n"
unfolding texts_on_literals
overlap = refl

reused : fault_text (fault.Reused 1 2 6 3) ≡ codes "unlawful reused 1 2 6 3\n"
unfolding texts_on_literals
reused = refl

not_prepared : fault_text (fault.NotPrepared 1 2 6 3 7) ≡ codes "unlawful notprepared 1 2 6 3 7\n"
unfolding texts_on_literals
not_prepared = refl

not_next : fault_text (fault.NotNext 1 3 6 1 7 (record { start = Some (109 ∷ []); end = None }) (record { start = None; end = Some (103 ∷ []) })) ≡ codes "unlawful notnext 1 3 6 1 7\nregion 3 6d -\nregion 1 - 67\n"
unfolding texts_on_literals
not_next = refl

bad_rollback : fault_text (fault.BadRollback 1 2 6 5 mode.Normal) ≡ codes "unlawful badrollback 1 2 6 5 normal\n"
unfolding texts_on_literals
bad_rollback = refl

bad_rollback_while_merging : fault_text (fault.BadRollback 1 2 7 5 (mode.Merging 3 6)) ≡ codes "unlawful badrollback 1 2 7 5 merging 3 6\n"
unfolding texts_on_literals
bad_rollback_while_merging = refl

waits : fault_text (fault.Waits 1 2 6 3 7) ≡ codes "unlawful waits 1 2 6 3 7\n"
unfolding texts_on_literals
waits = refl

unborn : fault_text (fault.Unborn 1 7) ≡ codes "unlawful unborn 1 7\n"
unfolding texts_on_literals
unborn = refl
