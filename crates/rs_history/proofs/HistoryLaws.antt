-- The keys of writes rise, each once, and a history is that of its key's writes.
use Rattle.std.proofs.Common.{◌≡◌, ◌∙◌, sym, refl, ap, ℕ, List, [], ◌∷◌, map, subst, Bool, true, false}
use Rattle.std.specs.Prelude.{◌||◌, if◌then◌else◌}
use Rattle.std.specs.List.{filter, list_any}
use Rattle.std.specs.Cmp.{IsTotalOrder}
use Rattle.std.specs.Cmp.Lexicographic.{slice_cmp, texts_ties}
use Rattle.std.specs.Ordering.{nat_cmp, is_eq, ordering_reverse}
use Rattle.std.specs.declared.cmp.Ordering.{Ordering}
use Rattle.std.specs.declared.cmp.Ordering.TheVariants.{Less, Equal, Greater}
use Rattle.std.proofs.lemmas.Cmp.{nat_list_cmp_total, tied_itself}
use Rattle.rs_key.specs.Keys.{same_bytes}
use Rattle.rs_key.proofs.RangeLaws.{same_bytes_is}
use Rattle.rs_entry.specs.declared.outcome.KeyHistory.{KeyHistory}
use Rattle.rs_store.specs.Stores.{Wrote}
use Rattle.rs_part.specs.Items.{item_of, of_key}
use Rattle.rs_part.specs.Items.{history_of}
use Rattle.rs_history.specs.Histories.{put_at, insert_key, keys_of, histories_of}

-- ---- keys in order

abbrev pub order : List ℕ → List ℕ → Ordering
order a b = slice_cmp nat_cmp a b

-- the key is below the first of the keys
abbrev pub IsBefore : List ℕ → List (List ℕ) → Type 0
IsBefore k [] = Unit {0}
IsBefore k (x ∷ xs) = order k x ≡ Less

-- keys that rise strictly
abbrev pub Rise : List (List ℕ) → Type 0
Rise [] = Unit {0}
Rise (x ∷ xs) = IsBefore x xs × Rise xs

abbrev pub has : List ℕ → List (List ℕ) → Bool
has k ks = list_any (λ x. same_bytes k x) ks

pub same_as : (a b : List ℕ) (o : Ordering) → order a b ≡ o → same_bytes a b ≡ is_eq o
same_as a b o h = texts_ties a b ∙ ap is_eq h

pub equal_keys : (a b : List ℕ) → order a b ≡ Equal → a ≡ b
equal_keys a b h = same_bytes_is a b (same_as a b Equal h)

pub same_itself : (a : List ℕ) → same_bytes a a ≡ true
same_itself a = same_as a a Equal (tied_itself nat_list_cmp_total a)

pub turned : (a b : List ℕ) → order a b ≡ ordering_reverse (order b a)
turned a b = IsTotalOrder.antisymm nat_list_cmp_total a b

pub below_all : (k x : List ℕ) (xs : List (List ℕ)) → order k x ≡ Less → IsBefore x xs → IsBefore k xs
below_all k x [] h b = tt
below_all k x (y ∷ ys) h b = IsTotalOrder.trans nat_list_cmp_total k x y h b

-- a key before rising keys is none of them
pub not_there : (k : List ℕ) (xs : List (List ℕ)) → IsBefore k xs → Rise xs → has k xs ≡ false
not_there k [] b r = refl
not_there k (x ∷ xs) b r = rw (same_as k x Less b, not_there k xs (below_all k x xs b r.0) r.1) refl

-- a list with an element
abbrev pub some_in : {X : Type 0} → List X → Bool
some_in [] = false
some_in (x ∷ xs) = true

any_filter : {X : Type 0} (p : X → Bool) (xs : List X) → list_any p xs ≡ some_in (filter p xs)
any_filter p [] = refl
any_filter {X} p (x ∷ xs) = by_test (p x) (any_filter p xs) where
  by_test : (t : Bool) → list_any p xs ≡ some_in (filter p xs) → (t || list_any p xs) ≡ some_in (if t then x ∷ filter p xs else filter p xs)
  by_test true h = refl
  by_test false h = h

pub none_left : {X : Type 0} (xs : List X) → some_in xs ≡ false → xs ≡ []
none_left [] h = refl
none_left (x ∷ xs) h = absurd (let e : true ≡ false = h in cc)

or_parts : (a b c : Bool) → (a || (b || c)) ≡ (b || (a || c))
or_parts true true c = refl
or_parts true false c = refl
or_parts false true c = refl
or_parts false false c = refl

or_twice : (a c : Bool) → (a || c) ≡ (a || (a || c))
or_twice true c = refl
or_twice false c = refl

-- ---- keys put into rising keys

before_insert : (j k : List ℕ) (xs : List (List ℕ)) → order j k ≡ Less → IsBefore j xs → IsBefore j (insert_key k xs)
before_insert j k [] h b = h
before_insert j k (x ∷ xs) h b = go (order k x) where
  go : (o : Ordering) → IsBefore j (put_at o k x xs (insert_key k xs))
  go Less = h
  go Equal = b
  go Greater = b

rise_insert : (k : List ℕ) (xs : List (List ℕ)) → Rise xs → Rise (insert_key k xs)
rise_insert k [] r = (tt, tt)
rise_insert k (x ∷ xs) r = go (order k x) refl (rise_insert k xs r.1) where
  go : (o : Ordering) → order k x ≡ o → Rise (insert_key k xs) → Rise (put_at o k x xs (insert_key k xs))
  go Less e more = (e, r)
  go Equal e more = r
  go Greater e more = (before_insert x k xs (turned x k ∙ ap ordering_reverse e) r.0, more)

has_insert : (j k : List ℕ) (xs : List (List ℕ)) → has j (insert_key k xs) ≡ (same_bytes j k || has j xs)
has_insert j k [] = refl
has_insert j k (x ∷ xs) = go (order k x) refl (has_insert j k xs) where
  go : (o : Ordering) → order k x ≡ o → has j (insert_key k xs) ≡ (same_bytes j k || has j xs)
      → has j (put_at o k x xs (insert_key k xs)) ≡ (same_bytes j k || (same_bytes j x || has j xs))
  go Less e more = refl
  go Equal e more = rw (equal_keys k x e) (or_twice (same_bytes j x) (has j xs))
  go Greater e more = rw more (or_parts (same_bytes j x) (same_bytes j k) (has j xs))

pub rise_keys : (ws : List Wrote) → Rise (keys_of ws)
rise_keys [] = tt
rise_keys (w ∷ ws) = rise_insert w.key (keys_of ws) (rise_keys ws)

pub has_keys : (k : List ℕ) (ws : List Wrote) → has k (keys_of ws) ≡ some_in (filter (of_key k) ws)
has_keys k ws = go ws ∙ any_filter (of_key k) ws where
  step : (w : Wrote) (vs : List Wrote) → has k (keys_of vs) ≡ list_any (of_key k) vs → has k (insert_key w.key (keys_of vs)) ≡ (same_bytes k w.key || list_any (of_key k) vs)
  step w vs h = has_insert k w.key (keys_of vs) ∙ ap (λ (b : Bool). same_bytes k w.key || b) h

  go : (vs : List Wrote) → has k (keys_of vs) ≡ list_any (of_key k) vs
  go [] = refl
  go (v ∷ vs) = step v vs (go vs)

-- ---- rising keys with the same members are the same

tail_has : (k x : List ℕ) (xs ys : List (List ℕ)) → IsBefore x xs → Rise xs → IsBefore x ys → Rise ys
    → (same_bytes k x || has k xs) ≡ (same_bytes k x || has k ys) → has k xs ≡ has k ys
tail_has k x xs ys b r c s h = go (same_bytes k x) refl h where
  go : (t : Bool) → same_bytes k x ≡ t → (t || has k xs) ≡ (t || has k ys) → has k xs ≡ has k ys
  go true e h =
      let P : List ℕ → Type 0 = λ j. has j xs ≡ has j ys in
      subst P (sym (same_bytes_is k x e)) (not_there x xs b r ∙ sym (not_there x ys c s))
  go false e h = h

pub unique : (xs ys : List (List ℕ)) → Rise xs → Rise ys → ((k : List ℕ) → has k xs ≡ has k ys) → xs ≡ ys
unique [] [] r s h = refl
unique [] (y ∷ ys) r s h = absurd (let e : false ≡ true = h y ∙ ap (λ (b : Bool). b || has y ys) (same_itself y) in cc)
unique (x ∷ xs) [] r s h = absurd (let e : true ≡ false = sym (ap (λ (b : Bool). b || has x xs) (same_itself x)) ∙ h x in cc)
unique (x ∷ xs) (y ∷ ys) r s h = by_order (order x y) refl (unique xs ys r.1 s.1) where
  by_order : (o : Ordering) → order x y ≡ o → (((k : List ℕ) → has k xs ≡ has k ys) → xs ≡ ys) → x ∷ xs ≡ y ∷ ys
  by_order Less e more = absurd (
      let there : has x (x ∷ xs) ≡ true = ap (λ (b : Bool). b || has x xs) (same_itself x) in
      let both : true ≡ false = sym there ∙ h x ∙ not_there x (y ∷ ys) e s in cc)
  by_order Greater e more = absurd (
      let there : has y (y ∷ ys) ≡ true = ap (λ (b : Bool). b || has y ys) (same_itself y) in
      let both : true ≡ false = sym there ∙ sym (h y) ∙ not_there y (x ∷ xs) (turned y x ∙ ap ordering_reverse e) r in cc)
  by_order Equal e more =
      let same : x ≡ y = equal_keys x y e in
      let P : List ℕ → Type 0 = λ z. IsBefore z ys in
      let Q : List ℕ → Type 0 = λ z. (k : List ℕ) → (same_bytes k x || has k xs) ≡ (same_bytes k z || has k ys) in
      let tails : (k : List ℕ) → has k xs ≡ has k ys = λ k. tail_has k x xs ys r.0 r.1 (subst P (sym same) s.0) s.1 (subst Q (sym same) h k) in
      let rest : xs ≡ ys = more tails in
      rw (same, rest) refl

-- ---- a sort that keeps the writes of each key changes no history

abbrev pub history_at : List Wrote → List ℕ → KeyHistory
history_at ws k = record { key = k; items = history_of ws k }

pub maps : (f g : List ℕ → KeyHistory) → ((k : List ℕ) → f k ≡ g k) → (ks : List (List ℕ)) → map f ks ≡ map g ks
maps f g h [] = refl
maps f g h (k ∷ ks) = let e = h k in let es = maps f g h ks in rw (e, es) refl

pub same_histories : (xs ys : List Wrote) → ((k : List ℕ) → filter (of_key k) ys ≡ filter (of_key k) xs) → histories_of ys ≡ histories_of xs
unfolding histories_of
same_histories xs ys h =
    let keys : keys_of ys ≡ keys_of xs = unique (keys_of ys) (keys_of xs) (rise_keys ys) (rise_keys xs) (λ k. has_keys k ys ∙ ap some_in (h k) ∙ sym (has_keys k xs)) in
    let each : (k : List ℕ) → history_at ys k ≡ history_at xs k = λ k. ap (λ (ws : List Wrote). let r : KeyHistory = record { key = k; items = map item_of ws } in r) (h k) in
    ap (λ (ks : List (List ℕ)). map (history_at ys) ks) keys ∙ maps (history_at ys) (history_at xs) each (keys_of xs)
