-- The runs of writes that a stable sort by key gave are their histories.
use Rattle.std.proofs.Common.{◌≡◌, ◌∙◌, sym, refl, ap, ℕ, suc, List, [], ◌∷◌, map, subst, true, false, arith, get_or, ◌+◌}
use Rattle.std.specs.List.{filter}
use Rattle.std.specs.List.Sorted.{IsSortedBy}
use Rattle.std.specs.Ordering.{is_lt, ordering_reverse}
use Rattle.std.specs.declared.cmp.Ordering.{Ordering}
use Rattle.std.specs.declared.cmp.Ordering.TheVariants.{Less, Equal, Greater}
use Rattle.rs_key.specs.Keys.{same_bytes}
use Rattle.rs_store.specs.Stores.{Wrote}
use Rattle.rs_part.specs.Items.{of_key}
use Rattle.rs_history.specs.Writes.{key_below}
use Rattle.rs_history.specs.Histories.{put_at, insert_key, keys_of, histories_of}
use Rattle.rs_history.proofs.HistoryLaws.{IsBefore, Rise, below_all, equal_keys, has, has_keys, history_at, none_left, not_there, order, rise_keys, same_as, same_histories, same_itself, turned}
use Rattle.rs_history.specs.Runs.{add_first, groups}

abbrev NotAbove : Wrote → List Wrote → Type 0
NotAbove w [] = Unit {0}
NotAbove w (v ∷ vs) = key_below v w ≡ false

abbrev Sorted : List Wrote → Type 0
Sorted [] = Unit {0}
Sorted (w ∷ ws) = NotAbove w ws × Sorted ws

tail_sorted : (w : Wrote) (ws : List Wrote) → IsSortedBy key_below (w ∷ ws) → IsSortedBy key_below ws
tail_sorted w ws h = λ k d low high.
    let P : ℕ → Type 0 = λ n. key_below (get_or (w ∷ ws) n d) (get_or (w ∷ ws) (suc k) d) ≡ false in
    let one : suc k + 1 ≡ suc (k + 1) = omega arith in
    subst P one (h (suc k) d (omega arith) (omega (arith, high)))

sorted_from : (ws : List Wrote) → IsSortedBy key_below ws → Sorted ws
sorted_from [] h = tt
sorted_from (w ∷ []) h = (tt, tt)
sorted_from (w ∷ v ∷ vs) h = (h 0 w (omega arith) (omega arith), sorted_from (v ∷ vs) (tail_sorted w (v ∷ vs) h))

-- a write that isn't above another, by the order of their keys
not_above : (w v : Wrote) → key_below v w ≡ false → order w.key v.key ≡ Greater → ⊥
not_above w v h e =
    let less : order v.key w.key ≡ Less = turned v.key w.key ∙ ap ordering_reverse e in
    let both : true ≡ false = sym (ap is_lt less) ∙ h in cc

pub record FirstKey (w : Wrote) (ws : List Wrote) : Type 0 where
  pub rest : List (List ℕ)
  pub keys : keys_of (w ∷ ws) ≡ w.key ∷ rest

first_key : (w : Wrote) (ws : List Wrote) → Sorted (w ∷ ws) → FirstKey w ws
first_key w [] s = record { rest = []; keys = refl }
first_key w (v ∷ vs) s = go (first_key v vs s.1) where
  by_order : (rest : List (List ℕ)) (o : Ordering) → order w.key v.key ≡ o → keys_of (v ∷ vs) ≡ v.key ∷ rest
      → (more : List (List ℕ)) × (put_at o w.key v.key rest (insert_key w.key rest) ≡ w.key ∷ more)
  by_order rest Less e k = (v.key ∷ rest, refl)
  by_order rest Equal e k = (rest, let same : v.key ≡ w.key = sym (equal_keys w.key v.key e) in ap (λ (j : List ℕ). j ∷ rest) same)
  by_order rest Greater e k = absurd (not_above w v s.0 e)

  go : FirstKey v vs → FirstKey w (v ∷ vs)
  go f = let found = by_order f.rest (order w.key v.key) refl f.keys in record { rest = found.0; keys = ap (insert_key w.key) f.keys ∙ found.1 }

-- a write of a lesser key is in no history of the keys above it
others : (w : Wrote) (ws : List Wrote) (ks : List (List ℕ)) → IsBefore w.key ks → Rise ks → map (history_at (w ∷ ws)) ks ≡ map (history_at ws) ks
others w ws [] b r = refl
others w ws (k ∷ ks) b r =
    let other : same_bytes k w.key ≡ false = same_as k w.key Greater (turned k w.key ∙ ap ordering_reverse b) in
    let more = others w ws ks (below_all w.key k ks b r.0) r.1 in
    rw (other, more) refl

no_history : (k : List ℕ) (ws : List Wrote) → has k (keys_of ws) ≡ false → filter (of_key k) ws ≡ []
no_history k ws h = none_left (filter (of_key k) ws) (sym (has_keys k ws) ∙ h)

add_below : (w v : Wrote) (vs : List Wrote) (rest : List (List ℕ)) → order w.key v.key ≡ Less → keys_of (v ∷ vs) ≡ v.key ∷ rest
    → add_first w (map (history_at (v ∷ vs)) (v.key ∷ rest)) ≡ map (history_at (w ∷ v ∷ vs)) (w.key ∷ v.key ∷ rest)
add_below w v vs rest e keys =
    let rise : Rise (v.key ∷ rest) = subst Rise keys (rise_keys (v ∷ vs)) in
    let none : filter (of_key w.key) (v ∷ vs) ≡ [] = no_history w.key (v ∷ vs) (ap (has w.key) keys ∙ not_there w.key (v.key ∷ rest) e rise) in
    let apart : same_bytes w.key v.key ≡ false = same_as w.key v.key Less e in
    let kept = others w (v ∷ vs) (v.key ∷ rest) e rise in
    let none_behind : filter (of_key w.key) vs ≡ [] = rw apart at none in
    rw (apart, same_itself w.key, kept, none_behind) refl

add_same : (w v : Wrote) (vs : List Wrote) (rest : List (List ℕ)) → order w.key v.key ≡ Equal → keys_of (v ∷ vs) ≡ v.key ∷ rest
    → add_first w (map (history_at (v ∷ vs)) (v.key ∷ rest)) ≡ map (history_at (w ∷ v ∷ vs)) (v.key ∷ rest)
add_same w v vs rest e keys =
    let rise : Rise (v.key ∷ rest) = subst Rise keys (rise_keys (v ∷ vs)) in
    let same : v.key ≡ w.key = sym (equal_keys w.key v.key e) in
    let P : List ℕ → Type 0 = λ k. IsBefore k rest in
    let kept = others w (v ∷ vs) rest (subst P same rise.0) rise.1 in
    let there : same_bytes w.key v.key ≡ true = same_as w.key v.key Equal e in
    let here : same_bytes v.key w.key ≡ true = ap (λ (k : List ℕ). same_bytes v.key k) (sym same) ∙ same_itself v.key in
    rw (there, here, kept) refl

add_one : (w v : Wrote) (vs : List Wrote) → Sorted (w ∷ v ∷ vs) → FirstKey v vs
    → add_first w (map (history_at (v ∷ vs)) (keys_of (v ∷ vs))) ≡ map (history_at (w ∷ v ∷ vs)) (keys_of (w ∷ v ∷ vs))
add_one w v vs s f =
    let P : List (List ℕ) → Type 0 = λ ks. add_first w (map (history_at (v ∷ vs)) ks) ≡ map (history_at (w ∷ v ∷ vs)) (insert_key w.key ks) in
    subst P (sym f.keys) (go (order w.key v.key) refl) where
      go : (o : Ordering) → order w.key v.key ≡ o
          → add_first w (map (history_at (v ∷ vs)) (v.key ∷ f.rest)) ≡ map (history_at (w ∷ v ∷ vs)) (put_at o w.key v.key f.rest (insert_key w.key f.rest))
      go Less e = add_below w v vs f.rest e f.keys
      go Equal e = add_same w v vs f.rest e f.keys
      go Greater e = absurd (not_above w v s.0 e)

runs : (ws : List Wrote) → Sorted ws → groups ws ≡ map (history_at ws) (keys_of ws)
runs [] s = refl
runs (w ∷ []) s = rw (same_itself w.key) refl
runs (w ∷ v ∷ vs) s = ap (add_first w) (runs (v ∷ vs) s.1) ∙ add_one w v vs s (first_key v vs s.1)

-- the runs of writes that a stable sort by key gave are the histories of the unsorted ones
pub sorted_histories : (xs ys : List Wrote) → IsSortedBy key_below ys → ((k : List ℕ) → filter (of_key k) ys ≡ filter (of_key k) xs) → groups ys ≡ histories_of xs
unfolding histories_of
sorted_histories xs ys sorted same = runs ys (sorted_from ys sorted) ∙ same_histories xs ys same
