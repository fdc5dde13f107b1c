-- Parts that are split at a key, and parts that are joined.
use Rattle.std.proofs.Common.{◌≡◌, ◌≤◌, ◌<◌, ℕ, zero, suc, Bool, true, false, not, cond, List, [], ◌∷◌, ◌++◌, length, take, drop, refl, ap, sym, ◌∙◌, arith, subst, append-nil}
use Rattle.std.specs.List.{AllByRecursion, AllWithin, filter}
use Rattle.std.proofs.lemmas.Grind.{flat_map-append}
use Rattle.std.proofs.lemmas.List.{append_assoc, take-append-drop}
use Rattle.rs_key.specs.Keys.{is_below}
use Rattle.rs_key.proofs.RangeLaws.{below_trans}
use Rattle.rs_region.proofs.KeyOrder.{below_from}
use Rattle.rs_store.specs.Stores.{Wrote}
use Rattle.rs_part.specs.Items.{history_of}
use Rattle.rs_part.proofs.Items.{history_append}
use Rattle.rs_history.specs.Writes.{is_below as key_below, isnt_below}
use Rattle.rs_msg.specs.Maps.{Writes, NoneBelow, AllBelow, AreApart, begins_by, written, some_part}
use Rattle.rs_msg.specs.declared.part.Part.{Part}
use Rattle.rs_msg.proofs.Keys.{kept_of, none_of, still_all}
use Rattle.rs_msg.proofs.Parted.{AreAbove, all_both, below_start, later, nothing_later}

-- ---- two halves of writes

module _ (a m r : Writes) (k q : List ℕ) (low : is_below q k ≡ false → history_of a q ≡ []) (high : is_below q k ≡ true → history_of r q ≡ []) where
  whole : history_of (a ++ (m ++ r)) q ≡ history_of a q ++ (history_of m q ++ history_of r q)
  whole = history_append a (m ++ r) q ∙ ap (λ l. history_of a q ++ l) (history_append m r q)

  pub half_below : history_of (a ++ filter (key_below k) m) q ≡ cond (is_below q k) (history_of (a ++ (m ++ r)) q) []
  half_below = history_append a (filter (key_below k) m) q ∙ ap (λ l. history_of a q ++ l) (kept_of (λ x. is_below x k) m q) ∙ go (is_below q k) refl
    where
      go : (b : Bool) → is_below q k ≡ b → history_of a q ++ cond b (history_of m q) [] ≡ cond b (history_of (a ++ (m ++ r)) q) []
      go true e = sym (whole ∙ ap (λ l. history_of a q ++ (history_of m q ++ l)) (high e) ∙ ap (λ l. history_of a q ++ l) (append-nil (history_of m q)))
      go false e = append-nil (history_of a q) ∙ low e

  pub half_others : history_of (filter (isnt_below k) m ++ r) q ≡ cond (is_below q k) [] (history_of (a ++ (m ++ r)) q)
  half_others = history_append (filter (isnt_below k) m) r q ∙ ap (λ l. l ++ history_of r q) (kept_of (λ x. not (is_below x k)) m q) ∙ go (is_below q k) refl
    where
      go : (b : Bool) → is_below q k ≡ b → cond (not b) (history_of m q) [] ++ history_of r q ≡ cond b [] (history_of (a ++ (m ++ r)) q)
      go true e = high e
      go false e = sym (whole ∙ ap (λ l. l ++ (history_of m q ++ history_of r q)) (low e))

-- ---- the parts before one, and those behind it

pub apart_front : (first : Writes) (left right : List Part) → AreApart first (left ++ right) → AreApart first left
apart_front first [] right apart = tt
apart_front first (p ∷ left) right apart = (apart.0, apart.1, apart.2, apart_front p.writes left right apart.3)

pub apart_behind : (first : Writes) (left : List Part) (p : Part) (right : List Part) → AreApart first (left ++ p ∷ right) → AreApart p.writes right
apart_behind first [] p right apart = apart.3
apart_behind first (x ∷ left) p right apart = apart_behind x.writes left p right apart.3

-- a part with other writes of its keys
pub apart_with : (first : Writes) (left : List Part) (p : Part) (right : List Part) (ws : Writes) → AreApart first (left ++ p ∷ right) → NoneBelow p.start ws → AreApart first (left ++ some_part p.start ws)
apart_with first left p right [] apart none = subst (λ l. AreApart first l) (sym (append-nil left)) (apart_front first left (p ∷ right) apart)
apart_with first [] p right (w ∷ ws) apart none = (apart.0, none, omega arith, tt)
apart_with first (x ∷ left) p right (w ∷ ws) apart none = (apart.0, apart.1, apart.2, apart_with x.writes left p right (w ∷ ws) apart.3 none)

all_lower : (s t : List ℕ) (ws : Writes) → is_below s t ≡ true → AllBelow s ws → AllBelow t ws
all_lower s t [] lower all = tt
all_lower s t (w ∷ ws) lower all = (below_trans w.key s t all.0 lower, all_lower s t ws lower all.1)

start_lower : (s t : List ℕ) (ws : Writes) → 0 < length ws → NoneBelow s ws → AllBelow t ws → is_below s t ≡ true
start_lower s t [] some none all = absurd (omega (arith, some))
start_lower s t (w ∷ ws) some none all = below_start s w.key t none.0 all.0

front_of : (P : Wrote → Type 0) (xs ys : Writes) → AllByRecursion P (xs ++ ys) → AllByRecursion P xs
front_of P [] ys all = tt
front_of P (x ∷ xs) ys all = (all.0, front_of P xs ys all.1)

-- all that is written before a part is of keys below it
pub before_start : (first : Writes) (left : List Part) (p : Part) (right : List Part) → AreApart first (left ++ p ∷ right) → AllBelow p.start (written first left)
before_start first [] p right apart = all_both (λ w. is_below w.key p.start ≡ true) first [] apart.0 tt
before_start first (x ∷ left) p right apart =
    let rest : AllBelow p.start (written x.writes left) = before_start x.writes left p right apart.3 in
    let here : AllBelow p.start x.writes = front_of (λ w. is_below w.key p.start ≡ true) x.writes (later left) rest in
    all_both (λ w. is_below w.key p.start ≡ true) first (later (x ∷ left)) (all_lower x.start p.start first (start_lower x.start p.start x.writes apart.2 apart.1 here) apart.0) rest

pub written_more : (first : Writes) (left right : List Part) → written first (left ++ right) ≡ written first left ++ later right
written_more first left right = ap (λ l. first ++ l) (flat_map-append (λ (p : Part). p.writes) left right) ∙ sym (append_assoc first (later left) (later right))

some_later : (start : List ℕ) (ws : Writes) → later (some_part start ws) ≡ ws
some_later start [] = refl
some_later start (w ∷ ws) = append-nil (w ∷ ws)

-- ---- a split in a part, or in the first

pub kept_apart : (k : List ℕ) (ws : Writes) (right : List Part) → AreApart ws right → AreApart (filter (isnt_below k) ws) right
kept_apart k ws [] apart = tt
kept_apart k ws (r ∷ right) apart = (still_all (λ x. not (is_below x k)) (λ w. is_below w.key r.start ≡ true) ws apart.0, apart.1, apart.2, apart.3)

-- parts above a key are above those below it
above_lower : (q k : List ℕ) → is_below q k ≡ true → (parts : List Part) → AreAbove k parts → AreAbove q parts
above_lower q k under [] above = tt
above_lower q k under (r ∷ parts) above = (below_trans q k r.start under above.0, above_lower q k under parts above.1)

module _ (k : List ℕ) (first : Writes) (left : List Part) (p : Part) (right : List Part) (apart : AreApart first (left ++ p ∷ right)) (begins : begins_by k p ≡ true) (above : AreAbove k right) where
  pub split_below_apart : AreApart first (left ++ some_part p.start (filter (key_below k) p.writes))
  split_below_apart = apart_with first left p right (filter (key_below k) p.writes) apart (still_all (λ x. is_below x k) (λ w. is_below w.key p.start ≡ false) p.writes (none_here first left apart))
    where
      none_here : (f : Writes) (l : List Part) → AreApart f (l ++ p ∷ right) → NoneBelow p.start p.writes
      none_here f [] h = h.1
      none_here f (x ∷ l) h = none_here x.writes l h.3

  pub split_others_apart : AreApart (filter (isnt_below k) p.writes) right
  split_others_apart = kept_apart k p.writes right (apart_behind first left p right apart)

  -- a key that isn't below k isn't below the part's start
  not_before : (q : List ℕ) → is_below q k ≡ false → is_below q p.start ≡ false
  not_before q out = go (is_below q p.start) refl (is_below k p.start) refl
    where
      go : (b : Bool) → is_below q p.start ≡ b → (c : Bool) → is_below k p.start ≡ c → is_below q p.start ≡ false
      go true e true f = absurd (cc (begins, ap not f))
      go true e false f = let h : is_below q k ≡ true = below_from q p.start k e f in absurd (cc (h, out))
      go false e c f = e

  low : (q : List ℕ) → is_below q k ≡ false → history_of (written first left) q ≡ []
  low q out = none_of (λ x. is_below x p.start) true (written first left) q (before_start first left p right apart) (not_before q out)

  high : (q : List ℕ) → is_below q k ≡ true → history_of (later right) q ≡ []
  high q under = nothing_later p.writes right q (apart_behind first left p right apart) (above_lower q k under right above)

  abbrev all : Writes
  all = written first (left ++ p ∷ right)

  all_is : all ≡ written first left ++ (p.writes ++ later right)
  all_is = written_more first left (p ∷ right)

  pub split_below_items : (q : List ℕ) → history_of (written first (left ++ some_part p.start (filter (key_below k) p.writes))) q ≡ cond (is_below q k) (history_of all q) []
  split_below_items q =
      ap (λ l. history_of l q) (written_more first left (some_part p.start (filter (key_below k) p.writes)) ∙ ap (λ l. written first left ++ l) (some_later p.start (filter (key_below k) p.writes)))
      ∙ half_below (written first left) p.writes (later right) k q (low q) (high q) ∙ ap (λ l. cond (is_below q k) (history_of l q) []) (sym all_is)

  pub split_others_items : (q : List ℕ) → history_of (written (filter (isnt_below k) p.writes) right) q ≡ cond (is_below q k) [] (history_of all q)
  split_others_items q = half_others (written first left) p.writes (later right) k q (low q) (high q) ∙ ap (λ l. cond (is_below q k) [] (history_of l q)) (sym all_is)

module _ (k : List ℕ) (first : Writes) (right : List Part) (apart : AreApart first right) (above : AreAbove k right) where
  first_high : (q : List ℕ) → is_below q k ≡ true → history_of (later right) q ≡ []
  first_high q under = nothing_later first right q apart (above_lower q k under right above)

  pub first_below_items : (q : List ℕ) → history_of (written (filter (key_below k) first) []) q ≡ cond (is_below q k) (history_of (written first right) q) []
  first_below_items q = ap (λ l. history_of l q) (append-nil (filter (key_below k) first)) ∙ half_below [] first (later right) k q (λ e. refl) (first_high q)

  pub first_others_items : (q : List ℕ) → history_of (written (filter (isnt_below k) first) right) q ≡ cond (is_below q k) [] (history_of (written first right) q)
  first_others_items q = half_others [] first (later right) k q (λ e. refl) (first_high q)

-- ---- a join

pub joined_apart : (first : Writes) (left : List Part) (at : List ℕ) (others : Writes) (right : List Part) → AreApart first left → AllBelow at (written first left) → 0 < length others → NoneBelow at (written others right) → AreApart others right
    → AreApart first (left ++ record { start = at; writes = others } ∷ right)
joined_apart first [] at others right apart below some none behind =
    (front_of (λ w. is_below w.key at ≡ true) first [] below, front_of (λ w. is_below w.key at ≡ false) others (later right) none, some, behind)
joined_apart first (p ∷ left) at others right apart below some none behind =
    (apart.0, apart.1, apart.2, joined_apart p.writes left at others right apart.3 (back first below) some none behind)
  where
    back : (xs : Writes) → AllBelow at (xs ++ written p.writes left) → AllBelow at (written p.writes left)
    back [] all = all
    back (x ∷ xs) all = back xs all.1

-- ---- where a key's place cuts the parts

all_taken : (P : Part → Type 0) (parts : List Part) (n : ℕ) → n ≤ length parts → AllWithin P parts 0 n → AllByRecursion P (take n parts)
all_taken P parts zero fits all = tt
all_taken P [] (suc n) fits all = absurd (omega (arith, fits))
all_taken P (p ∷ parts) (suc n) fits all = (all 0 p (omega arith) (omega arith), all_taken P parts n (omega (arith, fits)) (λ k d low high. all (suc k) d (omega arith) (omega (arith, high))))

last_too : (P : Part → Type 0) (left : List Part) (p : Part) → AllByRecursion P (left ++ p ∷ []) → P p
last_too P [] p all = all.0
last_too P (x ∷ left) p all = last_too P left p all.1

-- the last part before the place begins by the key
pub last_begins : (k : List ℕ) (parts : List Part) (n : ℕ) (left : List Part) (p : Part) → n ≤ length parts → AllWithin (λ x. begins_by k x ≡ true) parts 0 n → take n parts ≡ left ++ p ∷ [] → begins_by k p ≡ true
last_begins k parts n left p fits all is = last_too (λ x. begins_by k x ≡ true) left p (subst (λ l. AllByRecursion (λ x. begins_by k x ≡ true) l) is (all_taken (λ x. begins_by k x ≡ true) parts n fits all))

pub cut_at : (parts : List Part) (n : ℕ) (left : List Part) (p : Part) → take n parts ≡ left ++ p ∷ [] → parts ≡ left ++ p ∷ drop n parts
cut_at parts n left p is = sym (take-append-drop n parts) ∙ ap (λ l. l ++ drop n parts) is ∙ append_assoc left (p ∷ []) (drop n parts)

pub cut_first : (parts : List Part) (n : ℕ) → take n parts ≡ [] → parts ≡ drop n parts
cut_first parts n none = sym (take-append-drop n parts) ∙ ap (λ l. l ++ drop n parts) none
