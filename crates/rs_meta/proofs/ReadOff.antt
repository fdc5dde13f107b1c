-- The outcome of a store of a lawful input is read off the endings of its addresses.
use Rattle.std.proofs.Common.{◌≡◌, ◌∙◌, sym, refl, ap, ℕ, List, [], map, Option, Some, None}
use Rattle.std.specs.Prelude.{slice_get}
use Rattle.std.specs.Option.{option_map}
use Rattle.std.specs.List.{AllByRecursion, flat_map}
use Rattle.rs_entry.specs.WellFormed.{WellFormed}
use Rattle.rs_entry.specs.declared.input.Input.{Input}
use Rattle.rs_entry.specs.declared.input.Store.{Store}
use Rattle.rs_entry.specs.declared.outcome.StoreOutcome.{StoreOutcome}
use Rattle.rs_store.specs.declared.regions.Made.{Made}
use Rattle.rs_store.specs.Stores.{Applied, Wrote, ids_of}
use Rattle.rs_part.specs.Items.{history_of}
use Rattle.rs_part.specs.Whole.{Invariant, replies_of}
use Rattle.rs_part.proofs.Members.{among_all}
use Rattle.rs_check.specs.Laws.{check}
use Rattle.rs_check.specs.Scripts.{script_of}
use Rattle.rs_msg.specs.declared.ending.Ending.{Ending}
use Rattle.rs_history.specs.Histories.{histories_of}
use Rattle.rs_history.specs.Outcomes.{by_region, lines_in, outcome_by, outcome_with, removed_in, reply_line, shown, store_outcome}
use Rattle.rs_history.proofs.Ascending.{ids_ascend}
use Rattle.rs_history.proofs.RepliesById.{replies_by_id}
use Rattle.rs_history.proofs.SameOutcomes.{outcome_made}
use Rattle.rs_meta.specs.Readings.{AreEndings, IsReadOff, items_of_all, line_of, writes_left}
use Rattle.rs_meta.proofs.Alongside.{Along, along, items_along, lines_along, replies_along}
use Rattle.rs_meta.proofs.Histories.{histories_by_items, items_of_writes}
use Rattle.rs_meta.proofs.LeftItems.{all_shown}
use Rattle.rs_meta.proofs.StoreRows.{end_of}

module _ (input : Input) (well : WellFormed input) (lawful : check input ≡ None) (place : ℕ) (s : Store) (there : slice_get input.stores place ≡ Some s)
    (es : List Ending) (are : AreEndings input place es) where
  abbrev g : Applied
  g = (end_of input well lawful place s there).g

  abbrev writes : List Wrote
  writes = shown (removed_in g.region (ids_of s)) g.writes

  inv : Invariant (script_of input) s g
  inv = (end_of input well lawful place s there).invariant

  beside : Along input s g (ids_of s) es
  beside = along input well lawful place s there es are

  lines : lines_in s g.region (ids_of s) ≡ map (line_of input) es
  lines = lines_along input s g (ids_of s) es beside

  replies : by_region (map reply_line g.replies) ≡ flat_map (λ e. e.replies) es
  replies = replies_by_id g.replies (ids_of s) (ids_ascend s) (λ x none. others x none (g.region x) refl) ∙ replies_along input s g inv.whole.silent (ids_of s) es beside
    where
      others : (x : ℕ) → AllByRecursion (λ d. d ≡ x → ⊥) (ids_of s) → (m : Option Made) → g.region x ≡ m → replies_of g.replies x ≡ []
      others x none None e = inv.whole.silent x e
      others x none (Some r) e = absurd (among_all (λ d. d ≡ x → ⊥) x (ids_of s) none (inv.whole.known x r e) refl)

  items : (key : List ℕ) → items_of_all es key ≡ history_of writes key
  items key = sym (items_along input s g key (ids_of s) es beside) ∙ all_shown (script_of input) s g inv key

  -- an outcome that has what the endings say is the store's
  pub outcome_read_off : (o : StoreOutcome) → o.id ≡ s.id → IsReadOff input es o → o ≡ store_outcome s
  unfolding store_outcome
  outcome_read_off o id read =
      let histories : o.histories ≡ histories_of writes = read.histories ∙ histories_by_items writes (flat_map writes_left es) (λ key. items_of_writes es key ∙ items key) in
      outcome_made o.id o.regions (lines_in s g.region (ids_of s)) o.replies (map reply_line g.replies) o.pairs o.histories (histories_of writes)
      (read.regions ∙ sym lines) (read.replies ∙ sym replies) read.pairs histories
      ∙ (ap (λ n. outcome_with n (lines_in s g.region (ids_of s)) (map reply_line g.replies) (histories_of writes)) id
      ∙ sym (ap (outcome_by s) (end_of input well lawful place s there).ends))

-- the same by the store's place
pub outcome_at : (input : Input) → WellFormed input → check input ≡ None → (place : ℕ) (es : List Ending) → AreEndings input place es → (o : StoreOutcome)
    → option_map (λ s. s.id) (slice_get input.stores place) ≡ Some o.id → IsReadOff input es o → option_map store_outcome (slice_get input.stores place) ≡ Some o
outcome_at input well lawful place es are o id read = go (slice_get input.stores place) refl id
  where
    go : (s : Option Store) → slice_get input.stores place ≡ s → option_map (λ s. s.id) s ≡ Some o.id → option_map store_outcome (slice_get input.stores place) ≡ Some o
    go None there id = absurd cc
    go (Some s) there id =
        ap (option_map store_outcome) there
        ∙ ap Some (sym (outcome_read_off input well lawful place s there es are o (let same : s.id ≡ o.id = cc id in sym same) read))
