-- A state that is put at its region's place.
use Rattle.std.proofs.Common.{◌≡◌, ℕ, suc, ◌≤◌, ◌<◌, Bool, true, false, cond, List, [], ◌∷◌, length, set, refl, ap, sym, arith}
use Rattle.std.specs.Prelude.{ltb, ◌==◌}
use Rattle.std.specs.List.{insert}
use Rattle.rs_region.specs.declared.state.RegionState.{RegionState}
use Rattle.rs_table.specs.Changes.{is_there, place_of, with_state}

pub place_within : (id : ℕ) (rows : List RegionState) → place_of id rows ≤ length rows
place_within id [] = omega arith
place_within id (r ∷ rs) = go (ltb r.region id) (place_within id rs) where
  go : (b : Bool) → place_of id rs ≤ length rs → cond b (suc (place_of id rs)) 0 ≤ length (r ∷ rs)
  go true h = omega arith
  go false h = omega arith

pub there_within : (id : ℕ) (rows : List RegionState) → is_there id rows ≡ true → place_of id rows < length rows
there_within id [] h = absurd cc
there_within id (r ∷ rs) h = go (ltb r.region id) h (there_within id rs) where
  go : (b : Bool) → cond b (is_there id rs) (r.region == id) ≡ true → (is_there id rs ≡ true → place_of id rs < length rs) → cond b (suc (place_of id rs)) 0 < length (r ∷ rs)
  go true h rest = let k = rest h in omega arith
  go false h rest = omega arith

pub put_over : (s : RegionState) (rows : List RegionState) → is_there s.region rows ≡ true → set rows (place_of s.region rows) s ≡ with_state s rows
put_over s [] h = absurd cc
put_over s (r ∷ rs) h = go (ltb r.region s.region) h (put_over s rs) where
  go : (b : Bool) → cond b (is_there s.region rs) (r.region == s.region) ≡ true → (is_there s.region rs ≡ true → set rs (place_of s.region rs) s ≡ with_state s rs)
      → set (r ∷ rs) (cond b (suc (place_of s.region rs)) 0) s ≡ cond b (r ∷ with_state s rs) (cond (r.region == s.region) (s ∷ rs) (s ∷ r ∷ rs))
  go true h rest = ap (λ xs. r ∷ xs) (rest h)
  go false h rest = sym (ap (λ b. cond b (s ∷ rs) (s ∷ r ∷ rs)) h)

pub put_in : (s : RegionState) (rows : List RegionState) → is_there s.region rows ≡ false → insert rows (place_of s.region rows) s ≡ with_state s rows
put_in s [] h = refl
put_in s (r ∷ rs) h = go (ltb r.region s.region) h (put_in s rs) where
  go : (b : Bool) → cond b (is_there s.region rs) (r.region == s.region) ≡ false → (is_there s.region rs ≡ false → insert rs (place_of s.region rs) s ≡ with_state s rs)
      → insert (r ∷ rs) (cond b (suc (place_of s.region rs)) 0) s ≡ cond b (r ∷ with_state s rs) (cond (r.region == s.region) (s ∷ rs) (s ∷ r ∷ rs))
  go true h rest = ap (λ xs. r ∷ xs) (rest h)
  go false h rest = sym (ap (λ b. cond b (s ∷ rs) (s ∷ r ∷ rs)) h)
