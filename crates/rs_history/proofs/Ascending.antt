-- The ids of a store's regions rise, each once, and what is made of each of them.
use Rattle.std.proofs.Common.{◌≡◌, ◌∙◌, sym, refl, ap, ℕ, ◌<◌, ◌==◌, Bool, true, false, List, [], ◌∷◌, ◌++◌, map, arith, append-nil, inl, inr}
use Rattle.std.specs.Prelude.{ltb, if◌then◌else◌}
use Rattle.std.specs.List.{AllByRecursion, flat_map}
use Rattle.std.proofs.lemmas.Bool.{eqb-false, ltb-true, ltb-false}
use Rattle.rs_entry.specs.declared.input.Store.{Store}
use Rattle.rs_store.specs.Stores.{add_all, ids_in_log, ids_of, insert_id}
use Rattle.rs_part.specs.Counting.{IsAmong}

-- each is below those after it
abbrev pub Ascend : List ℕ → Type 0
Ascend [] = Unit {0}
Ascend (x ∷ xs) = AllByRecursion (λ y. x < y) xs × Ascend xs

all_insert : (n x : ℕ) (ys : List ℕ) → n < x → AllByRecursion (λ y. n < y) ys → AllByRecursion (λ y. n < y) (insert_id x ys)
all_insert n x [] p h = (p, tt)
all_insert n x (y ∷ ys) p h = go (x == y) (ltb x y) (all_insert n x ys p h.1) where
  go : (a b : Bool) → AllByRecursion (λ y. n < y) (insert_id x ys) → AllByRecursion (λ y. n < y) (if a then y ∷ ys else (if b then x ∷ y ∷ ys else y ∷ insert_id x ys))
  go true b rest = h
  go false true rest = (p, h)
  go false false rest = (h.0, rest)

all_above : (m n : ℕ) (ys : List ℕ) → m < n → AllByRecursion (λ y. n < y) ys → AllByRecursion (λ y. m < y) ys
all_above m n [] lt h = tt
all_above m n (y ∷ ys) lt h = (omega (arith, lt, h.0), all_above m n ys lt h.1)

insert_ascends : (x : ℕ) (ys : List ℕ) → Ascend ys → Ascend (insert_id x ys)
insert_ascends x [] h = (tt, tt)
insert_ascends x (y ∷ ys) h = go (x == y) refl (ltb x y) refl (insert_ascends x ys h.1) where
  go : (a : Bool) → (x == y) ≡ a → (b : Bool) → ltb x y ≡ b → Ascend (insert_id x ys) → Ascend (if a then y ∷ ys else (if b then x ∷ y ∷ ys else y ∷ insert_id x ys))
  go true e b f rest = h
  go false e true f rest = let lt : x < y = ltb-true x y f in ((lt, all_above x y ys lt h.0), h)
  go false e false f rest =
      let ne : x ≡ y → ⊥ = eqb-false x y e in
      let ge = ltb-false x y f in
      let lt : y < x = omega arith in
      (all_insert y x ys lt h.0, rest)

add_ascends : (done xs : List ℕ) → Ascend done → Ascend (add_all done xs)
add_ascends done [] h = h
add_ascends done (x ∷ xs) h = add_ascends (insert_id x done) xs (insert_ascends x done h)

pub ids_ascend : (store : Store) → Ascend (ids_of store)
ids_ascend store = add_ascends (add_all [] (map (λ b. b.region) store.regions)) (flat_map ids_in_log store.logs) (add_ascends [] (map (λ b. b.region) store.regions) tt)

-- ---- what is made of ids, one after another

above_among : (n x : ℕ) (ids : List ℕ) → AllByRecursion (λ y. n < y) ids → IsAmong x ids → n < x
above_among n x [] h i = absurd i
above_among n x (id ∷ ids) h (inl p) = omega (arith, p, h.0)
above_among n x (id ∷ ids) h (inr i) = above_among n x ids h.1 i

-- the ids behind the first are others
pub behind_first : (x id : ℕ) (ids : List ℕ) → Ascend (id ∷ ids) → IsAmong x ids → x ≡ id → ⊥
behind_first x id ids h i p = let lt : id < x = above_among id x ids h.0 i in omega (arith, p, lt)

module _ {A : Type 0} (made : ℕ → List A) where
  -- nothing, where nothing is made of each
  pub none_made : (ids : List ℕ) → ((id : ℕ) → IsAmong id ids → made id ≡ []) → flat_map made ids ≡ []
  none_made [] none = refl
  none_made (id ∷ ids) none = ap (λ zs. zs ++ flat_map made ids) (none id (inl refl)) ∙ none_made ids (λ x i. none x (inr i))

  -- what is made of one, where nothing is made of the others
  pub one_made : (x : ℕ) (ids : List ℕ) → Ascend ids → IsAmong x ids → ((id : ℕ) → (id ≡ x → ⊥) → made id ≡ []) → flat_map made ids ≡ made x
  one_made x [] h i others = absurd i
  one_made x (id ∷ ids) h (inl p) others =
      ap (λ zs. made id ++ zs) (none_made ids (λ y i. others y (λ q. behind_first y id ids h i (q ∙ p))))
      ∙ (append-nil (made id) ∙ ap made (sym p))
  one_made x (id ∷ ids) h (inr i) others =
      ap (λ zs. zs ++ flat_map made ids) (others id (λ q. behind_first x id ids h i (sym q))) ∙ one_made x ids h.1 i others
