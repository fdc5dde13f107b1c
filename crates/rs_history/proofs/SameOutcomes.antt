-- States of a store that agree have one outcome.
use Rattle.std.proofs.Common.{◌≡◌, ◌∙◌, sym, refl, ap, ℕ, List, [], ◌∷◌, map, Bool, true, false}
use Rattle.std.specs.Prelude.{Option, Some, None, ◌==◌, if◌then◌else◌}
use Rattle.std.specs.List.{filter, filter_map}
use mathlib.Core.Path.{fun_ext}
use Rattle.rs_key.specs.Keys.{same_bytes}
use Rattle.rs_key.specs.Ranges.{Bounds}
use Rattle.rs_key.proofs.RangeLaws.{same_bytes_is}
use Rattle.rs_entry.specs.declared.input.Store.{Store}
use Rattle.rs_entry.specs.declared.outcome.Item.{Item}
use Rattle.rs_entry.specs.declared.outcome.KeyHistory.{KeyHistory}
use Rattle.rs_entry.specs.declared.outcome.Pair.{Pair}
use Rattle.rs_entry.specs.declared.outcome.RegionLine.{RegionLine}
use Rattle.rs_entry.specs.declared.outcome.ReplyLine.{ReplyLine}
use Rattle.rs_entry.specs.declared.outcome.StoreOutcome.{StoreOutcome}
use Rattle.rs_region.specs.declared.state.RegionState.{RegionState}
use Rattle.rs_store.specs.declared.regions.Made.{Made}
use Rattle.rs_store.specs.Stores.{Applied, Replied, Wrote, ids_of}
use Rattle.rs_part.specs.Agreed.{Agreed, SameMade}
use Rattle.rs_part.specs.Whole.{replies_of}
use Rattle.rs_part.specs.Items.{history_of}
use Rattle.rs_history.specs.Histories.{histories_of, pairs_of}
use Rattle.rs_history.specs.Outcomes.{by_region, is_removed, is_shown, lines_in, outcome_at, outcome_with, region_line, removed_in, removed_range, reply_line, shown}
use Rattle.rs_history.specs.Replies.{of_region}
use Rattle.rs_part.specs.Items.{item_of, of_key}
use Rattle.rs_history.proofs.HistoryLaws.{same_histories}
use Rattle.rs_history.proofs.ReplyLaws.{by_region_rises, by_region_same, unique}

-- ---- regions

lines_same : (store : Store) (id : ℕ) (a b : Option Made) → SameMade a b → region_line store id a ≡ region_line store id b
lines_same store id None None same = refl
lines_same store id None (Some s) same = absurd same
lines_same store id (Some r) None same = absurd same
lines_same store id (Some r) (Some s) same =
    ap (λ (z : RegionState). region_line store id (Some (record { state = z; applied = r.applied; origin = r.origin; reshapings = r.reshapings }))) same.0
    ∙ ap (λ n. region_line store id (Some (record { state = s.state; applied = n; origin = r.origin; reshapings = r.reshapings }))) same.1

removed_same : (a b : Option Made) → SameMade a b → removed_range a ≡ removed_range b
removed_same None None same = refl
removed_same None (Some s) same = absurd same
removed_same (Some r) None same = absurd same
removed_same (Some r) (Some s) same = ap (λ (z : RegionState). if is_removed z.mode then Some z.range else None) same.0

-- ---- replies

-- the lines of a region's replies
pub lines_of : (id : ℕ) (ys : List Replied) → filter (of_region id) (map reply_line ys) ≡ map reply_line (replies_of ys id)
lines_of id [] = refl
lines_of id (y ∷ ys) = go (id == y.region) (lines_of id ys)
  where
    go : (b : Bool) → filter (of_region id) (map reply_line ys) ≡ map reply_line (replies_of ys id)
        → (if b then reply_line y ∷ filter (of_region id) (map reply_line ys) else filter (of_region id) (map reply_line ys)) ≡ map reply_line (if b then y ∷ replies_of ys id else replies_of ys id)
    go true h = ap (λ zs. reply_line y ∷ zs) h
    go false h = h

replies_same : (xs ys : List Replied) → ((id : ℕ) → replies_of xs id ≡ replies_of ys id) → by_region (map reply_line xs) ≡ by_region (map reply_line ys)
replies_same xs ys same =
    unique (by_region (map reply_line xs)) (by_region (map reply_line ys)) (by_region_rises (map reply_line xs)) (by_region_rises (map reply_line ys)) (λ id.
    by_region_same id (map reply_line xs) ∙ (lines_of id xs ∙ (ap (map reply_line) (same id) ∙ (sym (lines_of id ys) ∙ sym (by_region_same id (map reply_line ys))))))

-- ---- histories

-- the write of a key that an item tells of
abbrev write_of : List ℕ → Item → Wrote
write_of key i = record { region = i.region; index = i.index; key = key; value = i.value }

-- the writes of a key are told by its history
writes_back : (key : List ℕ) (ws : List Wrote) → filter (of_key key) ws ≡ map (write_of key) (history_of ws key)
writes_back key [] = refl
writes_back key (w ∷ ws) = go (same_bytes key w.key) refl (writes_back key ws)
  where
    go : (b : Bool) → same_bytes key w.key ≡ b → filter (of_key key) ws ≡ map (write_of key) (history_of ws key)
        → (if b then w ∷ filter (of_key key) ws else filter (of_key key) ws) ≡ map (write_of key) (map item_of (if b then w ∷ filter (of_key key) ws else filter (of_key key) ws))
    go true e h =
        ap (λ zs. w ∷ zs) h
        ∙ ap (λ (x : List ℕ). record { region = w.region; index = w.index; key = x; value = w.value } ∷ map (write_of key) (history_of ws key)) (sym (same_bytes_is key w.key e))
    go false e h = h

-- two tests may change places
filters_turn : {A : Type 0} (p q : A → Bool) (xs : List A) → filter p (filter q xs) ≡ filter q (filter p xs)
filters_turn p q [] = refl
filters_turn {A} p q (x ∷ xs) = go (p x) refl (q x) refl (filters_turn p q xs)
  where
    go : (a : Bool) → p x ≡ a → (b : Bool) → q x ≡ b → filter p (filter q xs) ≡ filter q (filter p xs)
        → filter p (if b then x ∷ filter q xs else filter q xs) ≡ filter q (if a then x ∷ filter p xs else filter p xs)
    go true e true f h = rw (e, f, h) refl
    go true e false f h = rw (f, h) refl
    go false e true f h = rw (e, h) refl
    go false e false f h = h

shown_same : (removed : List Bounds) (xs ys : List Wrote) → ((key : List ℕ) → history_of xs key ≡ history_of ys key) → histories_of (shown removed xs) ≡ histories_of (shown removed ys)
shown_same removed xs ys same =
    same_histories (shown removed ys) (shown removed xs) (λ key.
    filters_turn (of_key key) (λ w. is_shown removed w.key) xs
    ∙ (ap (filter (λ w. is_shown removed w.key)) (writes_back key xs ∙ (ap (map (write_of key)) (same key) ∙ sym (writes_back key ys)))
    ∙ sym (filters_turn (of_key key) (λ w. is_shown removed w.key) ys)))

-- ---- outcomes

-- an outcome of these parts
pub outcome_made : (id : ℕ) (lines wanted : List RegionLine) (replies raw : List ReplyLine) (pairs : List Pair) (histories all : List KeyHistory)
    → lines ≡ wanted → replies ≡ by_region raw → pairs ≡ pairs_of histories → histories ≡ all
    → ◌≡◌ {A = StoreOutcome} (record { id = id; regions = lines; replies = replies; pairs = pairs; histories = histories }) (outcome_with id wanted raw all)
outcome_made id lines wanted replies raw pairs histories all l r p h = rw (r, p, l, h) refl

abbrev lines_at : Store → Applied → List RegionLine
lines_at store g = lines_in store g.region (ids_of store)

abbrev removed_at : Store → Applied → List Bounds
removed_at store g = removed_in g.region (ids_of store)

abbrev histories_at : Store → Applied → List KeyHistory
histories_at store g = histories_of (shown (removed_at store g) g.writes)

pub agreed_outcome : (store : Store) (h k : Applied) → Agreed h k → outcome_at store h ≡ outcome_at store k
agreed_outcome store h k agreed =
    outcome_made store.id (lines_at store h) (lines_at store k) (by_region (map reply_line h.replies)) (map reply_line k.replies)
    (pairs_of (histories_at store h)) (histories_at store h) (histories_at store k) lines (replies_same h.replies k.replies agreed.replies) refl histories
  where
    lines : lines_at store h ≡ lines_at store k
    lines = ap (λ f. filter_map f (ids_of store)) (fun_ext (λ id. lines_same store id (h.region id) (k.region id) (agreed.regions id)))

    removed : removed_at store h ≡ removed_at store k
    removed = ap (λ f. filter_map f (ids_of store)) (fun_ext (λ id. removed_same (h.region id) (k.region id) (agreed.regions id)))

    histories : histories_at store h ≡ histories_at store k
    histories = ap (λ rs. histories_of (shown rs h.writes)) removed ∙ shown_same (removed_at store k) h.writes k.writes agreed.histories
