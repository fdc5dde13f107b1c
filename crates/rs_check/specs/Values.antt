-- What a plan's regions are at each index, by address.
use Rattle.std.specs.Prelude.{ℕ, zero, suc, ◌+◌, ◌==◌, leb, List, [], ◌++◌, map, filter, length, Option, Some, None, position, unwrap_or}
use Rattle.std.specs.List.{find}
use Rattle.rs_entry.specs.declared.entry.Entry.{Entry}
use Rattle.rs_entry.specs.declared.input.Input.{Input}
use Rattle.rs_entry.specs.declared.input.Store.{Store}
use Rattle.rs_entry.specs.declared.outcome.Reply.{Reply}
use Rattle.rs_entry.specs.declared.outcome.ReplyLine.{ReplyLine}
use Rattle.rs_region.specs.Verdicts.{verdict}
use Rattle.rs_store.specs.Stores.{reply_to}
use Rattle.rs_part.specs.Parts.{Part, at}
use Rattle.rs_check.specs.Lines.{line_at}
use Rattle.rs_check.specs.Plans.{rows_of, address_of, reshapings_of}

-- how many addresses there are
abbrev pub count_of : Input → ℕ
count_of input = length (rows_of input)

-- the id of the address's region
abbrev pub region_of : Input → ℕ → ℕ
region_of input a = (address_of input a).1

-- the address's store
abbrev pub store_at : Input → ℕ → Option Store
store_at input a = find (λ s. s.id == (address_of input a).0) input.stores

-- the place of the address's store among the input's stores, counted from 0
abbrev pub store_place : Input → ℕ → ℕ
store_place input a = unwrap_or (position (λ s. s.id == (address_of input a).0) input.stores) 0

-- the part of the region in the store once it has applied the index
abbrev pub part_in : Option Store → ℕ → ℕ → Option Part
part_in None region index = None
part_in (Some store) region index = at store region index

-- the part of a region on the address's store, right after it has applied the index
unfoldable pub part_on : Input → ℕ → ℕ → ℕ → Option Part
part_on input a region index = part_in (store_at input a) region index

-- the address's own part
abbrev pub part_at : Input → ℕ → ℕ → Option Part
part_at input a index = part_on input a (region_of input a) index

-- the address's entry at the index, its own or a carried one
abbrev pub entry_at : Input → ℕ → ℕ → Option Entry
entry_at input a index = line_at input (address_of input a) index

-- ---- replies

-- the reply to an entry, by the parts before and after it
abbrev pub reply_by : Option Part → Option Entry → Option Part → List Reply
reply_by (Some v) (Some e) (Some w) = reply_to (verdict v.state e) e.body w.state
reply_by v e w = []

-- the replies of the entry, each with the region and the index
abbrev pub reply_lines : ℕ → ℕ → List Reply → List ReplyLine
reply_lines region index replies = map (λ y. record { region = region; index = index; reply = y }) replies

-- the reply to the address's entry after the index
abbrev pub reply_after : Input → ℕ → ℕ → List ReplyLine
reply_after input a i =
    reply_lines (region_of input a) (i + 1) (reply_by (part_at input a i) (entry_at input a (i + 1)) (part_at input a (i + 1)))

-- the replies to the address's first n entries
unfoldable pub replies_to : Input → ℕ → ℕ → List ReplyLine
replies_to input a zero = []
replies_to input a (suc n) = replies_to input a n ++ reply_after input a (n + 5)

-- ---- reshapings

-- how many of the address's reshapings have an index of at most this
abbrev pub reshaped_by : Input → ℕ → ℕ → ℕ
reshaped_by input a index = length (filter (λ i. leb i index) (reshapings_of input a))
