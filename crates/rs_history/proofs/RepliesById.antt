-- Replies by region are those of each region, one after another.
use Rattle.std.proofs.Common.{◌≡◌, ◌∙◌, sym, refl, ap, subst, ℕ, ◌≤◌, ◌<◌, ◌==◌, Bool, true, false, cond, List, [], ◌∷◌, ◌++◌, map, arith, inl, inr}
use Rattle.std.specs.List.{AllByRecursion, filter, flat_map}
use Rattle.std.proofs.lemmas.Bool.{eqb-true, ne_eqb}
use Rattle.std.proofs.lemmas.List.Elements.{filter-append}
use Rattle.rs_entry.specs.declared.outcome.ReplyLine.{ReplyLine}
use Rattle.rs_store.specs.Stores.{Replied}
use Rattle.rs_part.specs.Whole.{replies_of}
use Rattle.rs_part.proofs.Members.{among_all, among_or}
use Rattle.rs_history.specs.Outcomes.{by_region, reply_line}
use Rattle.rs_history.specs.Replies.{of_region}
use Rattle.rs_history.proofs.Ascending.{Ascend, none_made, one_made}
use Rattle.rs_history.proofs.ReplyLaws.{AreFrom, Rise, by_region_rises, by_region_same, unique}
use Rattle.rs_history.proofs.SameOutcomes.{lines_of}

-- the lines of a region's replies
abbrev pub lines_for : List Replied → ℕ → List ReplyLine
lines_for ys id = map reply_line (replies_of ys id)

-- ---- they rise

all_mine : (id : ℕ) (ys : List Replied) → AllByRecursion (λ (y : ReplyLine). y.region ≡ id) (lines_for ys id)
all_mine id [] = tt
all_mine id (y ∷ ys) = go (id == y.region) refl (all_mine id ys) where
  go : (b : Bool) → (id == y.region) ≡ b → AllByRecursion (λ (z : ReplyLine). z.region ≡ id) (lines_for ys id)
      → AllByRecursion (λ (z : ReplyLine). z.region ≡ id) (map reply_line (cond b (y ∷ replies_of ys id) (replies_of ys id)))
  go true e rest = (sym (eqb-true id y.region e), rest)
  go false e rest = rest

mine_then : (n id : ℕ) (xs zs : List ReplyLine) → n ≤ id → AllByRecursion (λ (y : ReplyLine). y.region ≡ id) xs → AreFrom n zs → AreFrom n (xs ++ zs)
mine_then n id [] zs le mine from = from
mine_then n id (x ∷ xs) zs le mine from = (omega (arith, le, mine.0), mine_then n id xs zs le mine.1 from)

rise_then : (id : ℕ) (xs zs : List ReplyLine) → AllByRecursion (λ (y : ReplyLine). y.region ≡ id) xs → AreFrom id zs → Rise zs → Rise (xs ++ zs)
rise_then id [] zs mine from rise = rise
rise_then id (x ∷ xs) zs mine from rise =
    (subst (λ n. AreFrom n (xs ++ zs)) (sym mine.0) (mine_then id id xs zs (omega arith) mine.1 from), rise_then id xs zs mine.1 from rise)

all_from : (n : ℕ) (ys : List Replied) (ids : List ℕ) → AllByRecursion (λ id. n < id) ids → AreFrom n (flat_map (lines_for ys) ids)
all_from n ys [] h = tt
all_from n ys (id ∷ ids) h = mine_then n id (lines_for ys id) (flat_map (lines_for ys) ids) (omega (arith, h.0)) (all_mine id ys) (all_from n ys ids h.1)

rises : (ys : List Replied) (ids : List ℕ) → Ascend ids → Rise (flat_map (lines_for ys) ids)
rises ys [] h = tt
rises ys (id ∷ ids) h = rise_then id (lines_for ys id) (flat_map (lines_for ys) ids) (all_mine id ys) (all_from id ys ids h.0) (rises ys ids h.1)

-- ---- each region has its own

own_again : (id : ℕ) (ys : List Replied) → replies_of (replies_of ys id) id ≡ replies_of ys id
own_again id [] = refl
own_again id (y ∷ ys) = go (id == y.region) refl (own_again id ys) where
  go : (b : Bool) → (id == y.region) ≡ b → replies_of (replies_of ys id) id ≡ replies_of ys id
      → replies_of (cond b (y ∷ replies_of ys id) (replies_of ys id)) id ≡ cond b (y ∷ replies_of ys id) (replies_of ys id)
  go true e rest = ap (λ c. cond c (y ∷ replies_of (replies_of ys id) id) (replies_of (replies_of ys id) id)) e ∙ ap (λ zs. y ∷ zs) rest
  go false e rest = rest

no_others : (x id : ℕ) (ys : List Replied) → (x ≡ id → ⊥) → replies_of (replies_of ys id) x ≡ []
no_others x id [] ne = refl
no_others x id (y ∷ ys) ne = go (id == y.region) refl (no_others x id ys ne) where
  go : (b : Bool) → (id == y.region) ≡ b → replies_of (replies_of ys id) x ≡ [] → replies_of (cond b (y ∷ replies_of ys id) (replies_of ys id)) x ≡ []
  go true e rest =
      let other : (x == y.region) ≡ false = ne_eqb x y.region (λ p. ne (p ∙ sym (eqb-true id y.region e))) in
      ap (λ c. cond c (y ∷ replies_of (replies_of ys id) x) (replies_of (replies_of ys id) x)) other ∙ rest
  go false e rest = rest

-- a test of what is made of ids is one of what is made of each
filter_made : (p : ReplyLine → Bool) (made : ℕ → List ReplyLine) (ids : List ℕ) → filter p (flat_map made ids) ≡ flat_map (λ id. filter p (made id)) ids
filter_made p made [] = refl
filter_made p made (id ∷ ids) = filter-append p (made id) (flat_map made ids) ∙ ap (λ zs. filter p (made id) ++ zs) (filter_made p made ids)

-- where these are all ids of replies
pub replies_by_id : (ys : List Replied) (ids : List ℕ) → Ascend ids → ((x : ℕ) → AllByRecursion (λ d. d ≡ x → ⊥) ids → replies_of ys x ≡ [])
    → by_region (map reply_line ys) ≡ flat_map (lines_for ys) ids
replies_by_id ys ids ascend all =
    unique (by_region (map reply_line ys)) (flat_map (lines_for ys) ids) (by_region_rises (map reply_line ys)) (rises ys ids ascend)
    (λ x. by_region_same x (map reply_line ys) ∙ (lines_of x ys ∙ sym (each x)))
  where
    others : (x id : ℕ) → (id ≡ x → ⊥) → filter (of_region x) (lines_for ys id) ≡ []
    others x id ne = lines_of x (replies_of ys id) ∙ ap (map reply_line) (no_others x id ys (λ p. ne (sym p)))

    each : (x : ℕ) → filter (of_region x) (flat_map (lines_for ys) ids) ≡ lines_for ys x
    each x = filter_made (of_region x) (lines_for ys) ids ∙ elim (among_or x ids) [
      | inl i ↦ one_made (λ id. filter (of_region x) (lines_for ys id)) x ids ascend i (others x) ∙ (lines_of x (replies_of ys x) ∙ ap (map reply_line) (own_again x ys))
      | inr none ↦ none_made (λ id. filter (of_region x) (lines_for ys id)) ids (λ id i. others x id (among_all (λ d. d ≡ x → ⊥) id ids none i)) ∙ ap (map reply_line) (sym (all x none))
    ]
