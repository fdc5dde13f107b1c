-- Worked cases: what the definitions say of small stores.
use Rattle.std.specs.Prelude.{◌≡◌, ℕ, List, [], ◌∷◌, Option, Some, None, refl}
use Rattle.rs_entry.specs.declared.entry.Op.TheVariants as op
use Rattle.rs_entry.specs.declared.entry.Side.TheVariants as side
use Rattle.rs_entry.specs.declared.entry.Change.TheVariants as change
use Rattle.rs_entry.specs.declared.entry.Body.{Body}
use Rattle.rs_entry.specs.declared.entry.Body.TheVariants as body
use Rattle.rs_entry.specs.declared.entry.CarriedBody.TheVariants as carried
use Rattle.rs_entry.specs.declared.entry.Carried.{Carried}
use Rattle.rs_entry.specs.declared.entry.Entry.{Entry}
use Rattle.rs_entry.specs.declared.input.Log.{Log}
use Rattle.rs_entry.specs.declared.input.Store.{Store}
use Rattle.rs_entry.specs.declared.outcome.Item.{Item}
use Rattle.rs_entry.specs.declared.outcome.KeyHistory.{KeyHistory}
use Rattle.rs_entry.specs.declared.outcome.Mode.TheVariants as mode
use Rattle.rs_entry.specs.declared.outcome.Reply.{Reply}
use Rattle.rs_entry.specs.declared.outcome.Reply.TheVariants as reply
use Rattle.rs_entry.specs.declared.outcome.ReplyLine.{ReplyLine}
use Rattle.rs_history.specs.Histories.{histories_of}
use Rattle.rs_history.specs.Outcomes.{store_outcome}

-- ---- short forms

abbrev entry : ℕ → ℕ → ℕ → Body → Entry
entry index conf_ver version b = record { index = index; epoch = record { conf_ver = conf_ver; version = version }; body = b }

abbrev log : ℕ → List Entry → Log
log id entries = record { region = id; entries = entries }

abbrev put : ℕ → ℕ → Body
put k v = body.Write (op.Put (k ∷ []) (v ∷ []) ∷ [])

abbrev line : ℕ → ℕ → Reply → ReplyLine
line region index y = record { region = region; index = index; reply = y }

abbrev item : ℕ → ℕ → Option (List ℕ) → Item
item region index value = record { region = region; index = index; value = value }

abbrev whole : ℕ → List ℕ → List Log → Store
whole id peers logs = record { id = id; regions = record { region = 1; range = record { start = None; end = None }; peers = peers } ∷ []; logs = logs }

-- ---- a split, and a merge of what it split off

-- the parent's log; its commit carries these entries
abbrev parent : List Carried → Log
parent cs = log 1 (entry 6 1 1 (put 0x61 0x31) ∷ entry 7 1 1 (body.Split side.Right (2 ∷ []) ((0x6d ∷ []) ∷ [])) ∷ entry 8 1 2 (body.Commit 2 7 cs)
    ∷ entry 9 1 4 (body.Write (op.Delete (0x61 ∷ []) ∷ op.Put (0x7a ∷ []) (0x35 ∷ []) ∷ [])) ∷ [])

-- its own log of what was split off goes past the merge
abbrev leading : Store
leading = whole 1 [] (parent [] ∷ log 2 (entry 6 1 2 (put 0x61 0x32) ∷ entry 7 1 2 (body.Prepare 1) ∷ entry 8 2 3 (put 0x63 0x39) ∷ []) ∷ [])

abbrev source : List Carried
source =
    record { index = 6; epoch = record { conf_ver = 1; version = 2 }; body = carried.Write (op.Put (0x61 ∷ []) (0x32 ∷ []) ∷ []) }
    ∷ record { index = 7; epoch = record { conf_ver = 1; version = 2 }; body = carried.Prepare 1 } ∷ []

-- it has nothing of that log but what the commit carries
abbrev lagging : Store
lagging = whole 2 [] (parent source ∷ [])

abbrev replies : List ReplyLine
replies = line 1 6 (reply.Done 1) ∷ line 1 7 (reply.Done 2) ∷ line 1 8 (reply.Done 4) ∷ line 1 9 (reply.Done 4) ∷ line 2 6 (reply.Done 2) ∷ line 2 7 (reply.Done 3) ∷ []

abbrev histories : List KeyHistory
histories =
    record { key = 0x61 ∷ []; items = item 1 6 (Some (0x31 ∷ [])) ∷ item 2 6 (Some (0x32 ∷ [])) ∷ item 1 9 None ∷ [] }
    ∷ record { key = 0x7a ∷ []; items = item 1 9 (Some (0x35 ∷ [])) ∷ [] } ∷ []

leading_replies : (store_outcome leading).replies ≡ replies
unfolding store_outcome
leading_replies = refl

leading_histories : (store_outcome leading).histories ≡ histories
unfolding store_outcome histories_of
leading_histories = refl

leading_pairs : (store_outcome leading).pairs ≡ record { key = 0x7a ∷ []; value = 0x35 ∷ [] } ∷ []
unfolding store_outcome histories_of
leading_pairs = refl

leading_regions : (store_outcome leading).regions
    ≡ record { region = 1; epoch = record { conf_ver = 1; version = 4 }; range = record { start = None; end = None }; mode = mode.Normal; applied = 9; left = 0; peers = [] }
    ∷ record { region = 2; epoch = record { conf_ver = 2; version = 3 }; range = record { start = None; end = Some (0x6d ∷ []) }; mode = mode.Merged 1; applied = 7; left = 1; peers = [] } ∷ []
unfolding store_outcome
leading_regions = refl

lagging_regions : (store_outcome lagging).regions
    ≡ record { region = 1; epoch = record { conf_ver = 1; version = 4 }; range = record { start = None; end = None }; mode = mode.Normal; applied = 9; left = 0; peers = [] }
    ∷ record { region = 2; epoch = record { conf_ver = 2; version = 3 }; range = record { start = None; end = Some (0x6d ∷ []) }; mode = mode.Merged 1; applied = 7; left = 0; peers = [] } ∷ []
unfolding store_outcome
lagging_regions = refl

lagging_histories : (store_outcome lagging).histories ≡ histories
unfolding store_outcome histories_of
lagging_histories = refl

-- ---- a store whose peer is removed

abbrev left_out : Store
left_out = whole 2 (1 ∷ 2 ∷ []) (log 1 (entry 6 1 1 (put 0x61 0x31) ∷ entry 7 1 1 (body.Conf (change.Add 3)) ∷ entry 8 2 1 (body.Conf (change.Remove 2)) ∷ entry 9 2 1 (put 0x62 0x32) ∷ []) ∷ [])

left_out_outcome : store_outcome left_out ≡ record {
  id = 2;
  regions = record { region = 1; epoch = record { conf_ver = 3; version = 1 }; range = record { start = None; end = None }; mode = mode.Removed; applied = 8; left = 1; peers = 1 ∷ 3 ∷ [] } ∷ [];
  replies = line 1 6 (reply.Done 1) ∷ line 1 7 (reply.Done 1) ∷ line 1 8 (reply.Done 1) ∷ [];
  pairs = [];
  histories = [];
}
unfolding store_outcome histories_of
left_out_outcome = refl
