-- What writes of some keys say of a key.
use Rattle.std.proofs.Common.{◌≡◌, ℕ, Bool, true, false, not, cond, List, [], ◌∷◌, map, refl, ap, sym, ◌∙◌}
use Rattle.std.specs.List.{AllByRecursion, filter}
use Rattle.rs_key.specs.Keys.{same_bytes}
use Rattle.rs_key.proofs.RangeLaws.{same_bytes_is}
use Rattle.rs_entry.specs.declared.outcome.Item.{Item}
use Rattle.rs_store.specs.Stores.{Wrote}
use Rattle.rs_part.specs.Items.{history_of, item_of, of_key}
use Rattle.rs_history.proofs.HistoryLaws.{same_itself}

-- a write says nothing of another key
pub other_key : (w : Wrote) (q : List ℕ) → same_bytes q w.key ≡ false → history_of (w ∷ []) q ≡ []
other_key w q e = ap (λ (c : Bool). map item_of (cond c (w ∷ []) [])) e

module _ (p : List ℕ → Bool) where
  -- writes of other keys say nothing of it
  pub none_of : (b : Bool) (writes : List Wrote) (q : List ℕ) → AllByRecursion (λ w. p w.key ≡ b) writes → p q ≡ not b → history_of writes q ≡ []
  none_of b [] q all other = refl
  none_of b (w ∷ writes) q all other = go (same_bytes q w.key) refl (none_of b writes q all.1 other)
    where
      differ : (x : Bool) → x ≡ not x → history_of (w ∷ writes) q ≡ []
      differ true e = absurd (cc e)
      differ false e = absurd (cc e)

      go : (c : Bool) → same_bytes q w.key ≡ c → history_of writes q ≡ [] → history_of (w ∷ writes) q ≡ []
      go true e rest = differ b (sym all.0 ∙ ap p (sym (same_bytes_is q w.key e)) ∙ other)
      go false e rest = ap (λ (c : Bool). map item_of (cond c (w ∷ filter (of_key q) writes) (filter (of_key q) writes))) e ∙ rest

  nothing : (c : Bool) → cond {A = List Item} c [] [] ≡ []
  nothing true = refl
  nothing false = refl

  one_kept : (w : Wrote) (writes : List Wrote) (q : List ℕ) (c d e : Bool) → same_bytes q w.key ≡ c → p w.key ≡ d → p q ≡ e → (c ≡ true → d ≡ e)
      → history_of (filter (λ w. p w.key) writes) q ≡ cond e (history_of writes q) []
      → history_of (cond d (w ∷ filter (λ w. p w.key) writes) (filter (λ w. p w.key) writes)) q ≡ cond e (map item_of (cond c (w ∷ filter (of_key q) writes) (filter (of_key q) writes))) []
  one_kept w writes q true true true f g h same rest = ap (λ b. map item_of (cond b (w ∷ filter (of_key q) (filter (λ w. p w.key) writes)) (filter (of_key q) (filter (λ w. p w.key) writes)))) f ∙ ap (λ l. item_of w ∷ l) rest
  one_kept w writes q true false false f g h same rest = rest
  one_kept w writes q true true false f g h same rest = absurd (cc (same refl))
  one_kept w writes q true false true f g h same rest = absurd (cc (same refl))
  one_kept w writes q false true e f g h same rest = ap (λ b. map item_of (cond b (w ∷ filter (of_key q) (filter (λ w. p w.key) writes)) (filter (of_key q) (filter (λ w. p w.key) writes)))) f ∙ rest
  one_kept w writes q false false e f g h same rest = rest

  -- the writes of such keys are kept whole
  pub kept_of : (writes : List Wrote) (q : List ℕ) → history_of (filter (λ w. p w.key) writes) q ≡ cond (p q) (history_of writes q) []
  kept_of [] q = sym (nothing (p q))
  kept_of (w ∷ writes) q =
      one_kept w writes q (same_bytes q w.key) (p w.key) (p q) refl refl refl (λ same. ap p (sym (same_bytes_is q w.key same))) (kept_of writes q)

  pub all_kept : (writes : List Wrote) → AllByRecursion (λ w. p w.key ≡ true) (filter (λ w. p w.key) writes)
  all_kept [] = tt
  all_kept (w ∷ writes) = go (p w.key) refl (all_kept writes)
    where
      go : (c : Bool) → p w.key ≡ c → AllByRecursion (λ w. p w.key ≡ true) (filter (λ w. p w.key) writes) → AllByRecursion (λ w. p w.key ≡ true) (cond c (w ∷ filter (λ w. p w.key) writes) (filter (λ w. p w.key) writes))
      go true e rest = (e, rest)
      go false e rest = rest

  -- what holds of all holds of those that are kept
  pub still_all : (P : Wrote → Type 0) (writes : List Wrote) → AllByRecursion P writes → AllByRecursion P (filter (λ w. p w.key) writes)
  still_all P [] all = tt
  still_all P (w ∷ writes) all = go (p w.key) (still_all P writes all.1)
    where
      go : (c : Bool) → AllByRecursion P (filter (λ w. p w.key) writes) → AllByRecursion P (cond c (w ∷ filter (λ w. p w.key) writes) (filter (λ w. p w.key) writes))
      go true rest = (all.0, rest)
      go false rest = rest

  -- where no key that isn't such is written, all writes are of such keys
  pub all_of : (b : Bool) (writes : List Wrote) → ((q : List ℕ) → p q ≡ not b → history_of writes q ≡ []) → AllByRecursion (λ w. p w.key ≡ b) writes
  all_of b [] none = tt
  all_of b (w ∷ writes) none = (head (p w.key) b refl (none w.key), all_of b writes (λ q other. tail q (same_bytes q w.key) refl (none q other)))
    where
      written_here : history_of (w ∷ writes) w.key ≡ [] → ⊥
      written_here e = cc (sym (ap (λ (c : Bool). map item_of (cond c (w ∷ filter (of_key w.key) writes) (filter (of_key w.key) writes))) (same_itself w.key)) ∙ e)

      head : (x b : Bool) → p w.key ≡ x → (p w.key ≡ not b → history_of (w ∷ writes) w.key ≡ []) → p w.key ≡ b
      head true true e f = e
      head false false e f = e
      head true false e f = absurd (written_here (f e))
      head false true e f = absurd (written_here (f e))

      tail : (q : List ℕ) (c : Bool) → same_bytes q w.key ≡ c → history_of (w ∷ writes) q ≡ [] → history_of writes q ≡ []
      tail q true e f = absurd (cc (sym (ap (λ (c : Bool). map item_of (cond c (w ∷ filter (of_key q) writes) (filter (of_key q) writes))) e) ∙ f))
      tail q false e f = sym (ap (λ (c : Bool). map item_of (cond c (w ∷ filter (of_key q) writes) (filter (of_key q) writes))) e) ∙ f
