-- One cut more.
use Rattle.std.proofs.Common.{◌≡◌, suc, ℕ, Bool, true, false, not, ◌&&◌, cond, List, [], ◌∷◌, ◌++◌, Option, Some, None, refl, ap, sym, ◌∙◌, subst}
use Rattle.std.proofs.lemmas.Bool.{and_parts}
use Rattle.std.proofs.lemmas.List.{append_assoc}
use Rattle.rs_key.specs.Keys.{is_below, is_key}
use Rattle.rs_key.specs.Ranges.{Bounds, bad_cut_from, cut, cut_from, first_bad_cut, is_from, is_past, is_to}
use Rattle.rs_key.proofs.RangeLaws.{below_trans}
use Rattle.rs_part.specs.Items.{Items}
use Rattle.rs_msg.specs.Cuts.{AddsCuts, AreKept, IsKept}
use Rattle.rs_msg.specs.Maps.{Writes, HasItems, items_at, items_below, items_from}
use Rattle.rs_region.proofs.KeyOrder.{from_start}

still_below : (q k : List ℕ) (end : Option (List ℕ)) → is_below q k ≡ true → is_to end k ≡ true → is_to end q ≡ true
still_below q k None a b = refl
still_below q k (Some e) a b = below_trans q k e a b

-- a key that isn't below one past the start isn't below the start
still_from : (start : Option (List ℕ)) (q k : List ℕ) → is_past start k ≡ true → is_below q k ≡ false → is_from start q ≡ true
still_from None q k a b = refl
still_from (Some s) q k a b = go (is_below q s) refl
  where
    go : (c : Bool) → is_below q s ≡ c → is_from (Some s) q ≡ true
    go true e = let f : is_below q k ≡ true = below_trans q s k e a in absurd (cc (f, b))
    go false e = from_start s q ∙ ap not e

left_part : {A : Type 0} (k n e b : Bool) (x : List A) → (b ≡ true → e ≡ true) → cond b (cond (k && (n && e)) x []) [] ≡ cond (k && (n && b)) x []
left_part k n e true x h = ap (λ z. cond (k && (n && z)) x []) (h refl)
left_part true true e false x h = refl
left_part true false e false x h = refl
left_part false n e false x h = refl

right_part : {A : Type 0} (k n e b : Bool) (x : List A) → (b ≡ false → n ≡ true) → cond b [] (cond (k && (n && e)) x []) ≡ cond (k && (not b && e)) x []
right_part k n e false x h = ap (λ z. cond (k && (z && e)) x []) (h refl)
right_part true n e true x h = refl
right_part false n e true x h = refl

record Good (place : ℕ) (start end : Option (List ℕ)) (k : List ℕ) (ks : List (List ℕ)) : Type 0 where
  pub past : is_past start k ≡ true
  pub below : is_to end k ≡ true
  pub more : bad_cut_from (suc place) (Some k) end ks ≡ None

good_cut : (place : ℕ) (start end : Option (List ℕ)) (k : List ℕ) (ks : List (List ℕ)) → bad_cut_from place start end (k ∷ ks) ≡ None → Good place start end k ks
good_cut place start end k ks h = go (is_past start k && is_to end k) refl h
  where
    go : (b : Bool) → (is_past start k && is_to end k) ≡ b → cond b (bad_cut_from (suc place) (Some k) end ks) (Some place) ≡ None → Good place start end k ks
    go true e f = let p = and_parts (is_past start k) (is_to end k) e in record { past = p.0; below = p.1; more = f }
    go false e f = absurd (cc f)

-- the key stands past those before it
past_all : (place : ℕ) (start end : Option (List ℕ)) (ls : List (List ℕ)) (k : List ℕ) (rs : List (List ℕ)) → bad_cut_from place start end (ls ++ k ∷ rs) ≡ None → is_past start k ≡ true
past_all place start end [] k rs h = let g = good_cut place start end k rs h in g.past
past_all place start end (l ∷ ls) k rs h =
    let g = good_cut place start end l (ls ++ k ∷ rs) h in
    past_more start l k g.past (past_all (suc place) (Some l) end ls k rs g.more)
  where
    past_more : (start : Option (List ℕ)) (l k : List ℕ) → is_past start l ≡ true → is_below l k ≡ true → is_past start k ≡ true
    past_more None l k a b = refl
    past_more (Some s) l k a b = below_trans s l k a b

-- the keys before one cut what is below it
good_before : (place : ℕ) (start end : Option (List ℕ)) (ls : List (List ℕ)) (k : List ℕ) (rs : List (List ℕ)) → bad_cut_from place start end (ls ++ k ∷ rs) ≡ None → bad_cut_from place start (Some k) ls ≡ None
good_before place start end [] k rs h = refl
good_before place start end (l ∷ ls) k rs h =
    let g = good_cut place start end l (ls ++ k ∷ rs) h in
    rw (g.past, past_all (suc place) (Some l) end ls k rs g.more) (good_before (suc place) (Some l) end ls k rs g.more)

-- and those behind it what is from it on
record GoodBehind (end : Option (List ℕ)) (k : List ℕ) (rs : List (List ℕ)) : Type 0 where
  pub place : ℕ
  pub below : is_to end k ≡ true
  pub more : bad_cut_from place (Some k) end rs ≡ None

good_behind : (place : ℕ) (start end : Option (List ℕ)) (ls : List (List ℕ)) (k : List ℕ) (rs : List (List ℕ)) → bad_cut_from place start end (ls ++ k ∷ rs) ≡ None → GoodBehind end k rs
good_behind place start end [] k rs h = let g = good_cut place start end k rs h in record { place = suc place; below = g.below; more = g.more }
good_behind place start end (l ∷ ls) k rs h = let g = good_cut place start end l (ls ++ k ∷ rs) h in good_behind (suc place) (Some l) end ls k rs g.more

cut_both : (start end : Option (List ℕ)) (ls : List (List ℕ)) (k : List ℕ) (rs : List (List ℕ)) → cut_from start end (ls ++ k ∷ rs) ≡ cut_from start (Some k) ls ++ cut_from (Some k) end rs
cut_both start end [] k rs = refl
cut_both start end (l ∷ ls) k rs = ap (λ z. record { start = start; end = Some l } ∷ z) (cut_both (Some l) end ls k rs)

both_kept : (items : Items) (rs ss : List Bounds) (ms ns : List Writes) → AreKept items rs ms → AreKept items ss ns → AreKept items (rs ++ ss) (ms ++ ns)
both_kept items [] ss [] ns a b = b
both_kept items [] ss (m ∷ ms) ns a b = absurd a
both_kept items (r ∷ rs) ss [] ns a b = absurd a
both_kept items (r ∷ rs) ss (m ∷ ms) ns a b = (a.0, both_kept items rs ss ms ns a.1 b)

-- no key: the map itself
pub no_cut : (map : Writes) (old : List Writes) → AddsCuts [] map old (old ++ map ∷ [])
no_cut map old = record { maps = map ∷ []; added = refl; kept = λ items place start end good kept. (kept, tt) }

-- the maps of both sides of a key
pub both_cuts : (ls : List (List ℕ)) (k : List ℕ) (rs : List (List ℕ)) (map left right : Writes) (old more new : List Writes) → HasItems left (items_below k (items_at map)) → HasItems right (items_from k (items_at map))
    → AddsCuts ls left old more → AddsCuts rs right more new → AddsCuts (ls ++ k ∷ rs) map old new
both_cuts ls k rs map left right old more new is_left is_right a b = record {
  maps = a.maps ++ b.maps;
  added = b.added ∙ ap (λ z. z ++ b.maps) a.added ∙ append_assoc old a.maps b.maps;
  kept = λ items place start end good kept.
      let behind = good_behind place start end ls k rs good in
      subst (λ z. AreKept items z (a.maps ++ b.maps)) (sym (cut_both start end ls k rs))
      (both_kept items (cut_from start (Some k) ls) (cut_from (Some k) end rs) a.maps b.maps
      (a.kept items place start (Some k) (good_before place start end ls k rs good) (left_kept items start end kept behind.below))
      (b.kept items behind.place (Some k) end behind.more (right_kept items start end kept (past_all place start end ls k rs good))));
} where
  left_kept : (items : Items) (start end : Option (List ℕ)) → IsKept items (record { start = start; end = end }) map → is_to end k ≡ true → IsKept items (record { start = start; end = Some k }) left
  left_kept items start end kept below = λ q. is_left q ∙ ap (λ l. cond (is_below q k) l []) (kept q)
      ∙ left_part (is_key q) (is_from start q) (is_to end q) (is_below q k) (items q) (λ b. still_below q k end b below)

  right_kept : (items : Items) (start end : Option (List ℕ)) → IsKept items (record { start = start; end = end }) map → is_past start k ≡ true → IsKept items (record { start = Some k; end = end }) right
  right_kept items start end kept past = λ q. is_right q ∙ ap (cond (is_below q k) []) (kept q)
      ∙ right_part (is_key q) (is_from start q) (is_to end q) (is_below q k) (items q) (still_from start q k past)
      ∙ ap (λ b. cond (is_key q && (b && is_to end q)) (items q) []) (sym (from_start k q))

-- all keys, from no map on
pub all_cuts : (keys : List (List ℕ)) (map : Writes) (new : List Writes) → AddsCuts keys map [] new
    → (items : Items) (range : Bounds) → first_bad_cut range keys ≡ None → IsKept items range map → AreKept items (cut range keys) new
all_cuts keys map new a items range good kept = subst (AreKept items (cut range keys)) (sym a.added) (a.kept items 1 range.start range.end good kept)
