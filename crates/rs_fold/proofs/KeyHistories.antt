-- The history of a key in an outcome is what its store accepted of the key.
use Rattle.std.proofs.Common.{◌≡◌, ◌==◌, ℕ, Bool, true, false, List, [], ◌∷◌, map, Some, None, refl, sym, ap, ◌∙◌, subst, cond}
use Rattle.std.specs.Prelude.{if◌then◌else◌}
use Rattle.std.specs.List.{filter, find}
use Rattle.std.specs.Option.{option_map}
use Rattle.rs_key.specs.Keys.{same_bytes}
use Rattle.rs_key.specs.Ranges.{Bounds}
use Rattle.rs_key.proofs.RangeLaws.{same_bytes_is}
use Rattle.rs_entry.specs.WellFormed.{Rising, WellFormed}
use Rattle.rs_entry.specs.declared.input.Input.{Input}
use Rattle.rs_entry.specs.declared.input.Store.{Store}
use Rattle.rs_entry.specs.declared.outcome.KeyHistory.{KeyHistory}
use Rattle.rs_entry.specs.declared.outcome.StoreOutcome.{StoreOutcome}
use Rattle.rs_store.specs.Stores.{Broke, Stepped, Went, Wrote, ids_of, last}
use Rattle.rs_part.specs.Counting.{IsAmong}
use Rattle.rs_part.specs.Items.{history_of, item_of, of_key}
use Rattle.rs_part.proofs.Members.{among_map}
use Rattle.rs_history.specs.Histories.{histories_of, keys_of}
use Rattle.rs_history.specs.Outcomes.{history_at, is_shown, outcome_by, outcome_of, removed_in, shown, store_outcome}
use Rattle.rs_history.proofs.HistoryLaws.{has, has_keys, same_itself, some_in}
use Rattle.rs_check.proofs.Finding.{find_rising}
use Rattle.rs_fold.specs.Laws.{HistoryLaws, shown_items}

-- ---- the outcome of a store

outcome_id : (store : Store) → (store_outcome store).id ≡ store.id
unfolding store_outcome
outcome_id store = go (last store)
  where
    go : (s : Stepped) → (outcome_by store s).id ≡ store.id
    go (Went g) = refl
    go (Broke fault) = refl

outcome_ids : (low : ℕ) (stores : List Store) → Rising low (map (λ s. s.id) stores) → Rising low (map (λ o. o.id) (map store_outcome stores))
outcome_ids low [] rising = tt
outcome_ids low (s ∷ stores) rising =
    subst (λ n. Rising low (n ∷ map (λ o. o.id) (map store_outcome stores))) (sym (outcome_id s)) (rising.0, rising.1, outcome_ids s.id stores rising.2)

found_outcome : (input : Input) → WellFormed input → (store : Store) → IsAmong store input.stores → find (λ o. o.id == store.id) (outcome_of input).stores ≡ Some (store_outcome store)
unfolding outcome_of
found_outcome input well store i =
    ap (λ n. find (λ (o : StoreOutcome). o.id == n) (map store_outcome input.stores)) (sym (outcome_id store))
    ∙ find_rising (λ (o : StoreOutcome). o.id) 0 (map store_outcome input.stores) (outcome_ids 0 input.stores well.ids) (store_outcome store) (among_map store_outcome store input.stores i)

no_outcome : (id : ℕ) (stores : List Store) → find (λ s. s.id == id) stores ≡ None → find (λ o. o.id == id) (map store_outcome stores) ≡ None
no_outcome id [] none = refl
no_outcome id (s ∷ stores) none = go (s.id == id) refl (no_outcome id stores)
  where
    go : (b : Bool) → (s.id == id) ≡ b → (find (λ t. t.id == id) stores ≡ None → find (λ o. o.id == id) (map store_outcome stores) ≡ None)
        → find (λ (o : StoreOutcome). o.id == id) (map store_outcome (s ∷ stores)) ≡ None
    go true b later = absurd (cc (sym (ap (λ z. cond z (Some s) (find (λ (t : Store). t.id == id) stores)) b) ∙ none))
    go false b later =
        let rest = sym (ap (λ z. cond z (Some s) (find (λ (t : Store). t.id == id) stores)) b) ∙ none in
        ap (λ z. cond z (Some (store_outcome s)) (find (λ (o : StoreOutcome). o.id == id) (map store_outcome stores))) (ap (λ n. n == id) (outcome_id s) ∙ b)
        ∙ later rest

-- ---- the history of a key

-- the history of a key as these writes give it
abbrev of_writes : List Wrote → List ℕ → KeyHistory
of_writes ws key = record { key = key; items = history_of ws key }

turned : (a b : List ℕ) (t : Bool) → same_bytes a b ≡ t → same_bytes b a ≡ t
turned a b true e = subst (λ c. same_bytes b c ≡ true) (sym (same_bytes_is a b e)) (same_itself b)
turned a b false e = go (same_bytes b a) refl
  where
    go : (t : Bool) → same_bytes b a ≡ t → same_bytes b a ≡ false
    go false f = f
    go true f = absurd (cc (sym e ∙ subst (λ c. same_bytes a c ≡ true) (sym (same_bytes_is b a f)) (same_itself a)))

found_key : (ws : List Wrote) (key : List ℕ) (keys : List (List ℕ))
    → find (λ h. same_bytes h.key key) (map (of_writes ws) keys) ≡ (if has key keys then Some (of_writes ws key) else None)
found_key ws key [] = refl
found_key ws key (k ∷ keys) = go (same_bytes k key) refl (found_key ws key keys)
  where
    go : (t : Bool) → same_bytes k key ≡ t → find (λ (h : KeyHistory). same_bytes h.key key) (map (of_writes ws) keys) ≡ (if has key keys then Some (of_writes ws key) else None)
        → find (λ (h : KeyHistory). same_bytes h.key key) (map (of_writes ws) (k ∷ keys)) ≡ (if has key (k ∷ keys) then Some (of_writes ws key) else None)
    go true t rest = rw (t, turned k key true t) (ap (λ z. Some (of_writes ws z)) (same_bytes_is k key t))
    go false t rest = rw (t, turned k key false t) rest

-- the items of some writes are some
some_items : (ws : List Wrote) (key : List ℕ) (writes : List Wrote) → filter (of_key key) ws ≡ writes
    → option_map (λ h. h.items) (if some_in (filter (of_key key) ws) then Some (of_writes ws key) else None) ≡ shown_items true (history_of ws key)
some_items ws key [] e = rw e refl
some_items ws key (w ∷ more) e = rw e refl

items_of : (ws : List Wrote) (key : List ℕ) → option_map (λ h. h.items) (find (λ h. same_bytes h.key key) (histories_of ws)) ≡ shown_items true (history_of ws key)
unfolding histories_of
items_of ws key =
    ap (option_map (λ (h : KeyHistory). h.items)) (found_key ws key (keys_of ws) ∙ ap (λ b. if b then Some (of_writes ws key) else None) (has_keys key ws))
    ∙ some_items ws key (filter (of_key key) ws) refl

-- ---- keys that are shown

abbrev empty : List Wrote
empty = []

shown_of_key : (removed : List Bounds) (key : List ℕ) (ws : List Wrote)
    → filter (of_key key) (shown removed ws) ≡ (if is_shown removed key then filter (of_key key) ws else [])
shown_of_key removed key [] = by_shown (is_shown removed key)
  where
    by_shown : (b : Bool) → empty ≡ (if b then empty else [])
    by_shown true = refl
    by_shown false = refl
shown_of_key removed key (w ∷ ws) = go (same_bytes key w.key) refl (shown_of_key removed key ws)
  where
    more : (b : Bool) → same_bytes key w.key ≡ false → filter (of_key key) (if b then w ∷ shown removed ws else shown removed ws) ≡ filter (of_key key) (shown removed ws)
    more true t = rw t refl
    more false t = refl

    here : (b : Bool) → same_bytes key w.key ≡ true → filter (of_key key) (shown removed ws) ≡ (if b then filter (of_key key) ws else [])
        → filter (of_key key) (if b then w ∷ shown removed ws else shown removed ws) ≡ (if b then w ∷ filter (of_key key) ws else [])
    here true t rest = rw t (ap (λ xs. w ∷ xs) rest)
    here false t rest = rest

    go : (t : Bool) → same_bytes key w.key ≡ t → filter (of_key key) (shown removed ws) ≡ (if is_shown removed key then filter (of_key key) ws else [])
        → filter (of_key key) (shown removed (w ∷ ws)) ≡ (if is_shown removed key then filter (of_key key) (w ∷ ws) else [])
    go false t rest = more (is_shown removed w.key) t ∙ (rest ∙ sym (ap (λ z. if is_shown removed key then cond z (w ∷ filter (of_key key) ws) (filter (of_key key) ws) else []) t))
    go true t rest =
        let one : key ≡ w.key = same_bytes_is key w.key t in
        ap (λ b. filter (of_key key) (if b then w ∷ shown removed ws else shown removed ws)) (ap (is_shown removed) (sym one))
        ∙ (here (is_shown removed key) t rest ∙ sym (ap (λ z. if is_shown removed key then cond z (w ∷ filter (of_key key) ws) (filter (of_key key) ws) else []) t))

shown_history : (removed : List Bounds) (key : List ℕ) (ws : List Wrote) → shown_items true (history_of (shown removed ws) key) ≡ shown_items (is_shown removed key) (history_of ws key)
shown_history removed key ws = ap (λ xs. shown_items true (map item_of xs)) (shown_of_key removed key ws) ∙ go (is_shown removed key)
  where
    go : (b : Bool) → shown_items true (map item_of (if b then filter (of_key key) ws else [])) ≡ shown_items b (history_of ws key)
    go true = refl
    go false = refl

-- ---- the laws

pub history_laws : (input : Input) → WellFormed input → HistoryLaws input
unfolding outcome_of store_outcome
history_laws input well = record {
  items = λ store i end e key.
      let removed = removed_in end.region (ids_of store) in
      ap (λ o. history_at o key) (found_outcome input well store i)
      ∙ (ap (λ s. history_at (Some (outcome_by store s)) key) e
      ∙ (items_of (shown removed end.writes) key ∙ shown_history removed key end.writes));
  missing = λ id none key. ap (λ o. history_at o key) (no_outcome id input.stores none);
}
