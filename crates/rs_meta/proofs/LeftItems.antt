-- Each key's items at the end of a store's order are left by one region alone.
use Rattle.std.proofs.Common.{◌≡◌, ◌∙◌, sym, refl, ap, ℕ, Bool, true, false, not, ◌||◌, List, [], ◌∷◌, Option, Some, None, inl, inr}
use Rattle.std.specs.Prelude.{if◌then◌else◌}
use Rattle.std.specs.List.{cons_option, flat_map, list_any}
use Rattle.std.proofs.lemmas.Bool.{both_ways}
use Rattle.rs_key.specs.Ranges.{Bounds, holds}
use Rattle.rs_entry.specs.declared.input.Store.{Store}
use Rattle.rs_entry.specs.declared.outcome.Mode.{Mode}
use Rattle.rs_entry.specs.declared.outcome.Mode.TheVariants as mode
use Rattle.rs_store.specs.declared.regions.Made.{Made}
use Rattle.rs_store.specs.Stores.{Applied, ids_of, is_unmerged}
use Rattle.rs_part.specs.Counting.{IsAmong}
use Rattle.rs_part.specs.Held.{Held}
use Rattle.rs_part.specs.Items.{history_of}
use Rattle.rs_part.specs.Scripts.{Script}
use Rattle.rs_part.specs.Whole.{Invariant}
use Rattle.rs_part.proofs.Covers.{held_once}
use Rattle.rs_part.proofs.Regions.{same_region}
use Rattle.rs_msg.specs.Held.{leaves_map}
use Rattle.rs_history.specs.Outcomes.{is_removed, is_shown, removed_in, removed_range, shown}
use Rattle.rs_history.proofs.Ascending.{ids_ascend, none_made, one_made}
use Rattle.rs_history.proofs.ShownHistories.{hidden_history, shown_history}
use Rattle.rs_meta.proofs.Alongside.{shown_of}
use Rattle.rs_meta.proofs.EndingLaws.{leaves_unmerged}

removed_unmerged : (m : Mode) → is_removed m ≡ true → is_unmerged m ≡ true
removed_unmerged mode.Normal e = absurd cc
removed_unmerged (mode.Merging target commit) e = absurd cc
removed_unmerged (mode.Merged target) e = absurd cc
removed_unmerged mode.Removed e = refl

-- an unmerged region leaves a map, or was removed
leaves_or_removed : (m : Mode) → is_unmerged m ≡ true → leaves_map m ≡ not (is_removed m)
leaves_or_removed mode.Normal e = refl
leaves_or_removed (mode.Merging target commit) e = refl
leaves_or_removed (mode.Merged target) e = absurd cc
leaves_or_removed mode.Removed e = refl

module _ (script : Script) (store : Store) (g : Applied) (inv : Invariant script store g) (key : List ℕ) where
  -- where no region wrote the key, none shows it
  none_written : history_of g.writes key ≡ [] → (o : Option Made) → shown_of g key o ≡ []
  none_written none None = refl
  none_written none (Some r) = go (leaves_map r.state.mode) (holds r.state.range key)
    where
      go : (a b : Bool) → (if a then (if b then history_of g.writes key else []) else []) ≡ []
      go true true = none
      go true false = refl
      go false b = refl

  module _ (w : Held g key) where
    -- a region that isn't the one that holds the key doesn't show it
    others_hide : (id : ℕ) → (id ≡ w.id → ⊥) → shown_of g key (g.region id) ≡ []
    others_hide id ne = go (g.region id) refl
      where
        by_tests : (r : Made) → g.region id ≡ Some r → (a : Bool) → leaves_map r.state.mode ≡ a → (b : Bool) → holds r.state.range key ≡ b
            → (if a then (if b then history_of g.writes key else []) else []) ≡ []
        by_tests r made false a b e = refl
        by_tests r made true a false e = refl
        by_tests r made true a true e = absurd (inv.sound.apart id w.id r w.r ne made w.here (leaves_unmerged r.state.mode a) w.unmerged key e w.has)

        go : (o : Option Made) → g.region id ≡ o → shown_of g key o ≡ []
        go None none = refl
        go (Some r) made = by_tests r made (leaves_map r.state.mode) refl (holds r.state.range key) refl

    -- and it shows it where it leaves its map
    it_shows : shown_of g key (g.region w.id) ≡ (if leaves_map w.r.state.mode then history_of g.writes key else [])
    it_shows = ap (shown_of g key) w.here ∙ ap (λ b. if leaves_map w.r.state.mode then (if b then history_of g.writes key else []) else []) w.has

    -- a removed region that holds the key is among those whose keys aren't shown
    hidden : is_removed w.r.state.mode ≡ true → (ids : List ℕ) → IsAmong w.id ids → list_any (λ range. holds range key) (removed_in g.region ids) ≡ true
    hidden removed [] i = absurd i
    hidden removed (id ∷ ids) (inl p) =
        ap (λ o. list_any (λ range. holds range key) (cons_option (removed_range o) (removed_in g.region ids))) (ap g.region (sym p) ∙ w.here)
        ∙ (ap (λ b. list_any (λ range. holds range key) (cons_option (if b then Some w.r.state.range else None) (removed_in g.region ids))) removed
        ∙ ap (λ b. b || list_any (λ range. holds range key) (removed_in g.region ids)) w.has)
    hidden removed (id ∷ ids) (inr i) = go (removed_range (g.region id)) (hidden removed ids i)
      where
        go : (o : Option Bounds) → list_any (λ range. holds range key) (removed_in g.region ids) ≡ true
            → list_any (λ range. holds range key) (cons_option o (removed_in g.region ids)) ≡ true
        go None rest = rest
        go (Some range) rest = or_right (holds range key) rest
          where
            or_right : (b : Bool) → list_any (λ range. holds range key) (removed_in g.region ids) ≡ true → (b || list_any (λ range. holds range key) (removed_in g.region ids)) ≡ true
            or_right true rest = refl
            or_right false rest = rest

    -- and where it wasn't removed, no removed region holds the key
    not_hidden : is_removed w.r.state.mode ≡ false → (ids : List ℕ) → list_any (λ range. holds range key) (removed_in g.region ids) ≡ false
    not_hidden live [] = refl
    not_hidden live (id ∷ ids) = by_region (g.region id) refl (not_hidden live ids)
      where
        by_tests : (r : Made) → g.region id ≡ Some r → (a : Bool) → is_removed r.state.mode ≡ a → (b : Bool) → holds r.state.range key ≡ b
            → list_any (λ range. holds range key) (removed_in g.region ids) ≡ false
            → list_any (λ range. holds range key) (cons_option (if a then Some r.state.range else None) (removed_in g.region ids)) ≡ false
        by_tests r made false a b e rest = rest
        by_tests r made true a false e rest = ap (λ b. b || list_any (λ range. holds range key) (removed_in g.region ids)) e ∙ rest
        by_tests r made true a true e rest =
            let other : Held g key = record { id = id; r = r; here = made; unmerged = removed_unmerged r.state.mode a; has = e } in
            let same : id ≡ w.id = held_once script store g inv.sound key w other in
            let one : r ≡ w.r = same_region (g.region id) (g.region w.id) r w.r made (ap g.region same) w.here in
            absurd (both_ways (is_removed r.state.mode) (ap (λ z. is_removed z.state.mode) one ∙ live) a)

        by_region : (o : Option Made) → g.region id ≡ o → list_any (λ range. holds range key) (removed_in g.region ids) ≡ false
            → list_any (λ range. holds range key) (cons_option (removed_range o) (removed_in g.region ids)) ≡ false
        by_region None none rest = rest
        by_region (Some r) made rest = by_tests r made (is_removed r.state.mode) refl (holds r.state.range key) refl rest

  -- what the regions show of a key is its history among the writes that are shown
  pub all_shown : flat_map (λ id. shown_of g key (g.region id)) (ids_of store) ≡ history_of (shown (removed_in g.region (ids_of store)) g.writes) key
  all_shown = elim (inv.whole.kept key) [
    | inl none ↦ none_made (λ id. shown_of g key (g.region id)) (ids_of store) (λ id i. none_written none (g.region id)) ∙ sym (empty none (is_shown removed key) refl)
    | inr w ↦ one_made (λ id. shown_of g key (g.region id)) w.id (ids_of store) (ids_ascend store) (inv.whole.known w.id w.r w.here) (others_hide w) ∙ (it_shows w ∙ held w (is_removed w.r.state.mode) refl)
  ]
    where
      removed : List Bounds
      removed = removed_in g.region (ids_of store)

      empty : history_of g.writes key ≡ [] → (b : Bool) → is_shown removed key ≡ b → history_of (shown removed g.writes) key ≡ []
      empty none true b = shown_history removed key g.writes b ∙ none
      empty none false b = hidden_history removed key g.writes b

      held : (w : Held g key) (b : Bool) → is_removed w.r.state.mode ≡ b → (if leaves_map w.r.state.mode then history_of g.writes key else []) ≡ history_of (shown removed g.writes) key
      held w true b =
          ap (λ c. if c then history_of g.writes key else []) (leaves_or_removed w.r.state.mode w.unmerged ∙ ap not b)
          ∙ sym (hidden_history removed key g.writes (ap not (hidden w b (ids_of store) (inv.whole.known w.id w.r w.here))))
      held w false b =
          ap (λ c. if c then history_of g.writes key else []) (leaves_or_removed w.r.state.mode w.unmerged ∙ ap not b)
          ∙ sym (shown_history removed key g.writes (ap not (not_hidden w b (ids_of store))))
