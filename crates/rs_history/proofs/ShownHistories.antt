-- The history of a key in the writes that are shown.
use Rattle.std.proofs.Common.{◌≡◌, ◌∙◌, refl, ap, ℕ, Bool, true, false, List, [], ◌∷◌, map}
use Rattle.std.specs.Prelude.{if◌then◌else◌}
use Rattle.std.specs.List.{filter}
use Rattle.std.proofs.lemmas.Bool.{both_ways}
use Rattle.rs_key.specs.Keys.{same_bytes}
use Rattle.rs_key.specs.Ranges.{Bounds}
use Rattle.rs_key.proofs.RangeLaws.{same_bytes_is}
use Rattle.rs_entry.specs.declared.outcome.Item.{Item}
use Rattle.rs_store.specs.Stores.{Wrote}
use Rattle.rs_part.specs.Items.{history_of, item_of, of_key}
use Rattle.rs_history.specs.Outcomes.{is_shown, shown}

module _ (removed : List Bounds) (key : List ℕ) where
  -- all of it, where the key is shown
  pub shown_history : (ws : List Wrote) → is_shown removed key ≡ true → history_of (shown removed ws) key ≡ history_of ws key
  shown_history [] is = refl
  shown_history (w ∷ ws) is = go (is_shown removed w.key) refl (same_bytes key w.key) refl (shown_history ws is)
    where
      go : (b : Bool) → is_shown removed w.key ≡ b → (c : Bool) → same_bytes key w.key ≡ c → history_of (shown removed ws) key ≡ history_of ws key
          → history_of (if b then w ∷ shown removed ws else shown removed ws) key ≡ map item_of (if c then w ∷ filter (of_key key) ws else filter (of_key key) ws)
      go true b true c rest = rw (c) (ap (λ (zs : List Item). item_of w ∷ zs) rest)
      go true b false c rest = rw (c) rest
      go false b false c rest = rest
      go false b true c rest = absurd (both_ways (is_shown removed key) (ap (is_shown removed) (same_bytes_is key w.key c) ∙ b) is)

  -- and nothing, where it isn't
  pub hidden_history : (ws : List Wrote) → is_shown removed key ≡ false → history_of (shown removed ws) key ≡ []
  hidden_history [] is = refl
  hidden_history (w ∷ ws) is = go (is_shown removed w.key) refl (same_bytes key w.key) refl (hidden_history ws is)
    where
      go : (b : Bool) → is_shown removed w.key ≡ b → (c : Bool) → same_bytes key w.key ≡ c → history_of (shown removed ws) key ≡ []
          → history_of (if b then w ∷ shown removed ws else shown removed ws) key ≡ []
      go true b true c rest = absurd (both_ways (is_shown removed key) is (ap (is_shown removed) (same_bytes_is key w.key c) ∙ b))
      go true b false c rest = rw (c) rest
      go false b c d rest = rest
