-- Changes of peers keep a list that rises.
use Rattle.std.proofs.Common.{◌≡◌, ℕ, ◌+◌, ◌<◌, ◌≤◌, Bool, true, false, not, List, [], ◌∷◌, ◌++◌, filter, length, length-append, cond, refl, ap, sym, ◌∙◌, arith, subst, nat_lt, ◌==◌}
use Rattle.std.proofs.lemmas.Bool.{and_parts, ltb-true, ltb-false, eqb-true, ne_eqb, le-ltb}
use Rattle.std.proofs.lemmas.List.Sums.{length-filter, count_by-le-length}
use Rattle.rs_entry.specs.declared.entry.Change.TheVariants as change
use Rattle.rs_entry.specs.WellFormed.{Rising, IsNumber}
use Rattle.rs_region.specs.Verdicts.{is_peer}
use Rattle.rs_region.specs.Reshapings.{with_peer, without_peer}
use Rattle.rs_region.specs.Laws.{ChangeKeepsPeers}

-- a list that rises from a number on rises from a lesser one on
lower : (m n : ℕ) (xs : List ℕ) → m ≤ n → Rising n xs → Rising m xs
lower m n [] h r = tt
lower m n (x ∷ xs) h r = (omega (arith, r.0), r.1, r.2)

-- what passes a test rises too
pub filter_rises : (p : ℕ → Bool) (low : ℕ) (xs : List ℕ) → Rising low xs → Rising low (filter p xs)
filter_rises p low [] r = tt
filter_rises p low (x ∷ xs) r = go (p x) refl (filter_rises p x xs r.2)
  where
    go : (b : Bool) → p x ≡ b → Rising x (filter p xs) → Rising low (filter p (x ∷ xs))
    go true e rest = subst (λ (z : Bool). Rising low (cond z (x ∷ filter p xs) (filter p xs))) (sym e) (r.0, r.1, rest)
    go false e rest = subst (λ (z : Bool). Rising low (cond z (x ∷ filter p xs) (filter p xs))) (sym e) (lower low x (filter p xs) (omega (arith, r.0)) rest)

-- those above a number rise from it on
above_rises : (peer low : ℕ) (xs : List ℕ) → Rising low xs → Rising peer (filter (λ p. nat_lt peer p) xs)
above_rises peer low [] r = tt
above_rises peer low (x ∷ xs) r = go (nat_lt peer x) refl (filter_rises (λ p. nat_lt peer p) x xs r.2) (above_rises peer x xs r.2)
  where
    go : (b : Bool) → nat_lt peer x ≡ b → Rising x (filter (λ p. nat_lt peer p) xs) → Rising peer (filter (λ p. nat_lt peer p) xs) → Rising peer (filter (λ p. nat_lt peer p) (x ∷ xs))
    go true e rest more = subst (λ (z : Bool). Rising peer (cond z (x ∷ filter (λ p. nat_lt peer p) xs) (filter (λ p. nat_lt peer p) xs))) (sym e) (ltb-true peer x e, r.1, rest)
    go false e rest more = subst (λ (z : Bool). Rising peer (cond z (x ∷ filter (λ p. nat_lt peer p) xs) (filter (λ p. nat_lt peer p) xs))) (sym e) more

-- a list that rises from a number on has nothing below it
none_below : (peer low : ℕ) (xs : List ℕ) → peer ≤ low → Rising low xs → filter (λ p. nat_lt p peer) xs ≡ []
none_below peer low [] h r = refl
none_below peer low (x ∷ xs) h r =
    let f : nat_lt x peer ≡ false = le-ltb x peer (omega (arith, r.0)) in
    ap (λ (z : Bool). cond z (x ∷ filter (λ p. nat_lt p peer) xs) (filter (λ p. nat_lt p peer) xs)) f ∙ none_below peer x xs (omega (arith, r.0)) r.2

with_rises : (peer low : ℕ) (xs : List ℕ) → low < peer → IsNumber peer → Rising low xs → Rising low (with_peer xs peer)
with_rises peer low [] h n r = (h, n, tt)
with_rises peer low (x ∷ xs) h n r = go (nat_lt x peer) refl (λ g. with_rises peer x xs g n r.2)
  where
    lesser : List ℕ
    lesser = filter (λ p. nat_lt p peer) xs

    go : (b : Bool) → nat_lt x peer ≡ b → (x < peer → Rising x (with_peer xs peer)) → Rising low (with_peer (x ∷ xs) peer)
    go true e rest =
        let f : nat_lt peer x ≡ false = le-ltb peer x (omega (arith, ltb-true x peer e)) in
        subst (λ (z : Bool). Rising low (cond z (x ∷ filter (λ p. nat_lt p peer) xs) (filter (λ p. nat_lt p peer) xs) ++ (peer ∷ []) ++ cond (nat_lt peer x) (x ∷ filter (λ p. nat_lt peer p) xs) (filter (λ p. nat_lt peer p) xs))) (sym e)
        (subst (λ (z : Bool). Rising low ((x ∷ filter (λ p. nat_lt p peer) xs) ++ (peer ∷ []) ++ cond z (x ∷ filter (λ p. nat_lt peer p) xs) (filter (λ p. nat_lt peer p) xs))) (sym f)
        (r.0, r.1, rest (ltb-true x peer e)))
    go false e rest =
        let l : peer ≤ x = ltb-false x peer e in
        subst (λ (ys : List ℕ). Rising low (ys ++ (peer ∷ []) ++ filter (λ p. nat_lt peer p) (x ∷ xs)))
        (sym (ap (λ (z : Bool). cond z (x ∷ filter (λ p. nat_lt p peer) xs) (filter (λ p. nat_lt p peer) xs)) e ∙ none_below peer x xs l r.2))
        (h, n, above_rises peer low (x ∷ xs) r)

-- what is below and what is above are no more than all
few : (peer : ℕ) (xs : List ℕ) → length (filter (λ p. nat_lt p peer) xs) + length (filter (λ p. nat_lt peer p) xs) ≤ length xs
few peer [] = omega arith
few peer (x ∷ xs) = go (nat_lt x peer) refl (nat_lt peer x) refl (few peer xs)
  where
    go : (b : Bool) → nat_lt x peer ≡ b → (c : Bool) → nat_lt peer x ≡ c
        → length (filter (λ p. nat_lt p peer) xs) + length (filter (λ p. nat_lt peer p) xs) ≤ length xs
        → length (filter (λ p. nat_lt p peer) (x ∷ xs)) + length (filter (λ p. nat_lt peer p) (x ∷ xs)) ≤ length (x ∷ xs)
    go true e true f h = absurd (omega (arith, ltb-true x peer e, ltb-true peer x f))
    go true e false f h = rw (e, f) (omega arith)
    go false e true f h = rw (e, f) (omega arith)
    go false e false f h = rw (e, f) (omega arith)

length_with : (peer : ℕ) (xs : List ℕ) → length (with_peer xs peer) ≡ length (filter (λ p. nat_lt p peer) xs) + 1 + length (filter (λ p. nat_lt peer p) xs)
length_with peer xs = simp length-append

-- a list that rises from a number on is kept whole without that number
all_kept : (peer low : ℕ) (xs : List ℕ) → peer ≤ low → Rising low xs → without_peer xs peer ≡ xs
all_kept peer low [] h r = refl
all_kept peer low (x ∷ xs) h r =
    let f : (x == peer) ≡ false = ne_eqb x peer (λ e. omega (arith, r.0)) in
    ap (λ (z : Bool). cond (not z) (x ∷ without_peer xs peer) (without_peer xs peer)) f ∙ ap (λ (ys : List ℕ). x ∷ ys) (all_kept peer x xs (omega (arith, r.0)) r.2)

-- no more than one is left out
one_out : (peer low : ℕ) (xs : List ℕ) → Rising low xs → length xs ≤ length (without_peer xs peer) + 1
one_out peer low [] r = omega arith
one_out peer low (x ∷ xs) r = go (x == peer) refl (one_out peer x xs r.2)
  where
    go : (b : Bool) → (x == peer) ≡ b → length xs ≤ length (without_peer xs peer) + 1 → length (x ∷ xs) ≤ length (without_peer (x ∷ xs) peer) + 1
    go true e h =
        let k : length (without_peer xs peer) ≡ length xs = ap length (all_kept peer x xs (omega (arith, eqb-true x peer e)) r.2) in
        rw e (omega arith)
    go false e h = rw e (omega arith)

length_without : (peer : ℕ) (xs : List ℕ) → length (without_peer xs peer) ≤ length xs
length_without peer xs = omega (arith, length-filter (λ p. not (p == peer)) xs, count_by-le-length (λ p. not (p == peer)) xs)

pub change_keeps_peers : ChangeKeepsPeers
change_keeps_peers peers (change.Add peer) are good ok = record {
  rising = with_rises peer 0 peers good.0 good.1 are.rising;
  some = omega (arith, length_with peer peers);
  most = omega (arith, length_with peer peers, few peer peers, ltb-true (length peers) 64 (and_parts (not (is_peer peers peer)) (nat_lt (length peers) 64) ok).1);
}
change_keeps_peers peers (change.Remove peer) are good ok = record {
  rising = filter_rises (λ p. not (p == peer)) 0 peers are.rising;
  some = omega (arith, one_out peer 0 peers are.rising, ltb-true 1 (length peers) (and_parts (is_peer peers peer) (nat_lt 1 (length peers)) ok).1);
  most = omega (arith, length_without peer peers, are.most);
}
