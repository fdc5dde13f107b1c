-- What a peer machine keeps of what it was told.
use Rattle.std.specs.Prelude.{◌≡◌, ℕ, max, Bool, true, false, List, [], ◌∷◌}
use Rattle.std.specs.List.{flat_map, fold, list_any}
use Rattle.rs_msg.specs.declared.messages.PeerMsg.{PeerMsg}
use Rattle.rs_msg.specs.declared.messages.PeerMsg.TheVariants as peer

-- the index that a message says entries are applied up to, if it says one
abbrev pub applied_in : PeerMsg → List ℕ
applied_in (peer.Applied plan upto) = upto ∷ []
applied_in msg = []

-- the message says that the region was taken over
abbrev pub is_merge_result : PeerMsg → Bool
is_merge_result (peer.MergeResult plan target) = true
is_merge_result msg = false

-- the applied index after one more message
abbrev pub applied_after : PeerMsg → ℕ → ℕ
applied_after (peer.Applied plan upto) applied = max applied upto
applied_after msg applied = applied

-- the result of a merge makes the peer a tombstone; no other message does
abbrev pub tombstone_after : PeerMsg → Bool → Bool
tombstone_after (peer.MergeResult plan target) tombstone = true
tombstone_after msg tombstone = tombstone

-- the greatest of 5 and the indexes that were told
abbrev pub greatest_applied : List PeerMsg → ℕ
greatest_applied msgs = fold max 5 (flat_map applied_in msgs)

-- this is what is kept of these messages
pub record IsKeptOf (msgs : List PeerMsg) (index : ℕ) (merged : Bool) : Type 0 where
  pub applied : index ≡ greatest_applied msgs
  pub tombstone : merged ≡ list_any is_merge_result msgs
