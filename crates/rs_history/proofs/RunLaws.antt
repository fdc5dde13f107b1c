-- What the front run of sorted writes makes, write by write.
use Rattle.std.proofs.Common.{◌≡◌, ◌∙◌, sym, refl, ap, ℕ, List, [], ◌∷◌, ◌++◌, subst, Bool, true, false, length, map, take, drop, ◌<◌, ◌+◌, get_or}
use Rattle.std.specs.Prelude.{if◌then◌else◌}
use Rattle.std.proofs.lemmas.List.{append_assoc, drop_more, map-append, take_more}
use Rattle.rs_key.specs.Keys.{same_bytes}
use Rattle.rs_key.proofs.RangeLaws.{same_bytes_is}
use Rattle.rs_entry.specs.declared.outcome.Item.{Item}
use Rattle.rs_entry.specs.declared.outcome.KeyHistory.{KeyHistory}
use Rattle.rs_store.specs.Stores.{Wrote}
use Rattle.rs_part.specs.Items.{item_of}
use Rattle.rs_history.specs.Runs.{add_first, groups}

-- the items of a key put before the histories of later writes
abbrev pub put_front : List ℕ → List Item → List KeyHistory → List KeyHistory
put_front key items [] = record { key = key; items = items } ∷ []
put_front key items (h ∷ hs) =
    if same_bytes key h.key then record { key = h.key; items = items ++ h.items } ∷ hs
    else record { key = key; items = items } ∷ h ∷ hs

-- one write more of the same key
pub one_more : (key : List ℕ) (items : List Item) (w : Wrote) (hs : List KeyHistory) → same_bytes key w.key ≡ true
    → put_front key items (add_first w hs) ≡ put_front key (items ++ item_of w ∷ []) hs
one_more key items w hs s = subst (λ (k : List ℕ). put_front k items (add_first w hs) ≡ put_front k (items ++ item_of w ∷ []) hs) (sym e) (go hs) where
  e : key ≡ w.key
  e = same_bytes_is key w.key s

  itself : same_bytes w.key w.key ≡ true
  itself = subst (λ (k : List ℕ). same_bytes k w.key ≡ true) e s

  by_test : (h : KeyHistory) (more : List KeyHistory) (t : Bool) → same_bytes w.key h.key ≡ t
      → put_front w.key items (if t then record { key = h.key; items = item_of w ∷ h.items } ∷ more else record { key = w.key; items = item_of w ∷ [] } ∷ h ∷ more)
      ≡ (if t then record { key = h.key; items = (items ++ item_of w ∷ []) ++ h.items } ∷ more else record { key = w.key; items = items ++ item_of w ∷ [] } ∷ h ∷ more)
  by_test h more true t = rw t (ap (λ (is : List Item). let h' : KeyHistory = record { key = h.key; items = is } in h' ∷ more) (sym (append_assoc items (item_of w ∷ []) h.items)))
  by_test h more false t = rw itself refl

  go : (gs : List KeyHistory) → put_front w.key items (add_first w gs) ≡ put_front w.key (items ++ item_of w ∷ []) gs
  go [] = rw itself refl
  go (h ∷ more) = by_test h more (same_bytes w.key h.key) refl

-- where the next write is of another key, the run ends
pub run_ends : (key : List ℕ) (items : List Item) (w : Wrote) (hs : List KeyHistory) → same_bytes key w.key ≡ false
    → put_front key items (add_first w hs) ≡ record { key = key; items = items } ∷ add_first w hs
run_ends key items w [] s = rw s refl
run_ends key items w (h ∷ hs) s = by_test (same_bytes w.key h.key) refl where
  by_test : (t : Bool) → same_bytes w.key h.key ≡ t
      → put_front key items (if t then record { key = h.key; items = item_of w ∷ h.items } ∷ hs else record { key = w.key; items = item_of w ∷ [] } ∷ h ∷ hs)
      ≡ record { key = key; items = items } ∷ (if t then record { key = h.key; items = item_of w ∷ h.items } ∷ hs else record { key = w.key; items = item_of w ∷ [] } ∷ h ∷ hs)
  by_test true t = rw (subst (λ (k : List ℕ). same_bytes key k ≡ false) (same_bytes_is w.key h.key t) s) refl
  by_test false t = rw s refl

-- the writes from a place on begin with the one that is found there
cut_at : (ws : List Wrote) (i : ℕ) (w : Wrote) → i < length ws → w ≡ get_or ws i w → drop i ws ≡ w ∷ drop (i + 1) ws
cut_at ws i w there is = drop_more ws i w there ∙ ap (λ (v : Wrote). v ∷ drop (i + 1) ws) (sym is)

items_more : (ws : List Wrote) (i : ℕ) (w : Wrote) → i < length ws → w ≡ get_or ws i w → map item_of (take (i + 1) ws) ≡ map item_of (take i ws) ++ item_of w ∷ []
items_more ws i w there is = ap (map item_of) (take_more ws i w there) ∙ map-append item_of (take i ws) (get_or ws i w ∷ []) ∙ ap (λ (v : Wrote). map item_of (take i ws) ++ item_of v ∷ []) (sym is)

-- the first so many writes, of this key, make the front of the histories
abbrev pub Leads : List ℕ → List Wrote → ℕ → Type 0
Leads key ws i = put_front key (map item_of (take i ws)) (groups (drop i ws)) ≡ groups ws

-- the run goes on by one write
pub goes_on : (key : List ℕ) (ws : List Wrote) (i : ℕ) (w : Wrote) → i < length ws → w ≡ get_or ws i w → same_bytes key w.key ≡ true → Leads key ws i → Leads key ws (i + 1)
goes_on key ws i w there is s h =
    let rest : List KeyHistory = groups (drop (i + 1) ws) in
    ap (λ (l : List Item). put_front key l rest) (items_more ws i w there is)
    ∙ sym (one_more key (map item_of (take i ws)) w rest s) ∙ ap (λ (l : List Wrote). put_front key (map item_of (take i ws)) (groups l)) (sym (cut_at ws i w there is)) ∙ h

-- the run ends before a write of another key
pub ends_before : (key : List ℕ) (ws : List Wrote) (i : ℕ) (w : Wrote) → i < length ws → w ≡ get_or ws i w → same_bytes key w.key ≡ false → Leads key ws i
    → groups ws ≡ record { key = key; items = map item_of (take i ws) } ∷ groups (drop i ws)
ends_before key ws i w there is s h =
    let cut = cut_at ws i w there is in
    let run : KeyHistory = record { key = key; items = map item_of (take i ws) } in
    sym h ∙ ap (λ (l : List Wrote). put_front key run.items (groups l)) cut ∙ run_ends key run.items w (groups (drop (i + 1) ws)) s ∙ ap (λ (l : List Wrote). run ∷ groups l) (sym cut)
