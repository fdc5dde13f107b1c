-- The lines of an outcome, and of the history of one key, field by field.
use Rattle.std.specs.Prelude.{ℕ, List, [], ◌∷◌, ◌++◌, map, find, codes, Option, Some, None}
use Rattle.std.specs.List.{flat_map}
use Rattle.std.specs.Fmt.{decimal}
use Rattle.rs_key.specs.Keys.{same_bytes}
use Rattle.rs_entry.specs.declared.outcome.Mode.{Mode}
use Rattle.rs_entry.specs.declared.outcome.Mode.TheVariants as mode
use Rattle.rs_entry.specs.declared.outcome.Reply.{Reply}
use Rattle.rs_entry.specs.declared.outcome.Reply.TheVariants as reply
use Rattle.rs_entry.specs.declared.outcome.RegionLine.{RegionLine}
use Rattle.rs_entry.specs.declared.outcome.ReplyLine.{ReplyLine}
use Rattle.rs_entry.specs.declared.outcome.Pair.{Pair}
use Rattle.rs_entry.specs.declared.outcome.Item.{Item}
use Rattle.rs_entry.specs.declared.outcome.KeyHistory.{KeyHistory}
use Rattle.rs_entry.specs.declared.outcome.StoreOutcome.{StoreOutcome}
use Rattle.rs_entry.specs.declared.outcome.Outcome.{Outcome}
use Rattle.rs_field.specs.Forms.{Form, Exact, Hex, Forms, word, number, value, bounds, epoch, field_text, lines_text}

-- ---- regions

-- the words of a region's mode
abbrev pub mode_forms : Mode → Forms
mode_forms mode.Normal = word "normal" ∷ []
mode_forms (mode.Merging target commit) = word "merging" ∷ number target ∷ number commit ∷ []
mode_forms (mode.Merged target) = word "merged" ∷ number target ∷ []
mode_forms mode.Removed = word "removed" ∷ []

-- `peers ID ..`, if there are any
abbrev pub peers_forms : List ℕ → Forms
peers_forms [] = []
peers_forms (p ∷ ps) = word "peers" ∷ map number (p ∷ ps)

-- `applied INDEX left COUNT MODE`, and peers
unfoldable pub state_forms : RegionLine → Forms
state_forms r = word "applied" ∷ number r.applied ∷ word "left" ∷ number r.left ∷ (mode_forms r.mode ++ peers_forms r.peers)

-- `region ID epoch CONF VERSION range START END`, and the state
abbrev pub region_line : RegionLine → Forms
region_line r = word "region" ∷ number r.region ∷ word "epoch" ∷ (epoch r.epoch ++ word "range" ∷ (bounds r.range ++ state_forms r))

-- ---- replies

-- the words of a reply
abbrev pub reply_forms : Reply → Forms
reply_forms (reply.Done version) = word "ok" ∷ number version ∷ []
reply_forms (reply.Stale e) = word "stale" ∷ epoch e
reply_forms (reply.Outside key) = word "outside" ∷ Hex key ∷ []
reply_forms (reply.Merging target) = word "merging" ∷ number target ∷ []
reply_forms (reply.BadSplit place) = word "badsplit" ∷ number place ∷ []
reply_forms reply.BadPeer = word "badpeer" ∷ []
reply_forms reply.Empty = word "empty" ∷ []

-- `reply REGION INDEX REPLY`
abbrev pub reply_line : ReplyLine → Forms
reply_line r = word "reply" ∷ number r.region ∷ number r.index ∷ reply_forms r.reply

-- ---- pairs and histories

-- `pair KEY VALUE`
abbrev pub pair_line : Pair → Forms
pair_line p = word "pair" ∷ Hex p.key ∷ value p.value ∷ []

-- `=VALUE`, or `!` for a deletion
abbrev pub written : Option (List ℕ) → List ℕ
written None = codes "!"
written (Some v) = codes "=" ++ field_text (value v)

-- `REGION/INDEX=VALUE` or `REGION/INDEX!`
abbrev pub item : Item → Form
item i = Exact (decimal i.region ++ codes "/" ++ decimal i.index ++ written i.value)

-- `history KEY ITEM ..`
abbrev pub history_line : KeyHistory → Forms
history_line h = word "history" ∷ Hex h.key ∷ map item h.items

-- ---- whole texts

-- the line of a store, then those of its regions, replies, pairs and histories
abbrev pub store_lines : StoreOutcome → List Forms
store_lines s = (word "store" ∷ number s.id ∷ []) ∷ (map region_line s.regions ++ (map reply_line s.replies ++ (map pair_line s.pairs ++ map history_line s.histories)))

-- store by store: its regions, its replies, its pairs, its histories
unfoldable pub outcome_text : Outcome → List ℕ
outcome_text o = lines_text (flat_map store_lines o.stores)

-- the writes of a key: its history, if there is one
abbrev pub items_of : Option KeyHistory → List Item
items_of None = []
items_of (Some h) = h.items

-- the items of the key in the store; none if it has no history
abbrev pub history_of : List ℕ → StoreOutcome → List Item
history_of key s = items_of (find (λ h. same_bytes h.key key) s.histories)

-- `store ID`, then `history KEY ITEM ..`
abbrev pub key_lines : List ℕ → StoreOutcome → List Forms
key_lines key s = (word "store" ∷ number s.id ∷ []) ∷ (word "history" ∷ Hex key ∷ map item (history_of key s)) ∷ []

-- the history of one key on each store
unfoldable pub history_text : Outcome → List ℕ → List ℕ
history_text o key = lines_text (flat_map (key_lines key) o.stores)
