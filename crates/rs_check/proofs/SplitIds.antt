-- Where no id is used again, the ids of a split differ from each other, and no other split names them.
use Rattle.std.proofs.Common.{◌≡◌, ℕ, ◌==◌, Bool, true, false, not, ◌&&◌, ◌||◌, if◌then◌else◌, List, [], ◌∷◌, ◌++◌, map, Option, Some, None, refl, ap, sym, ◌∙◌, inl, inr, subst}
use Rattle.std.specs.List.{find, list_any, AllByRecursion}
use Rattle.std.proofs.lemmas.Bool.{both_ways, and_parts, or_left, or_right, not-false, eqb-true, eq-eqb}
use Rattle.std.proofs.lemmas.List.Folds.{list_any-append}
use Rattle.rs_part.specs.Counting.{IsAmong}
use Rattle.rs_part.specs.Ranges.{EachOther}
use Rattle.rs_part.proofs.Members.{among_left, among_right}
use Rattle.rs_check.specs.Statements.{Stated}
use Rattle.rs_check.specs.Laws.{Named, naming, names_in, is_id, is_named, is_reused, reused_id, ids_said, reused_at, reused_in, first_reused}
use Rattle.rs_check.specs.Scripts.{names}
use Rattle.rs_check.proofs.Finding.{any_false, or_none, both_none}

-- ---- one split

-- the id is of no bootstrap region, stands nowhere before in its split, and no other split named it
record Fresh (boot_ids : List ℕ) (named : List Named) (region index : ℕ) (before : List ℕ) (id : ℕ) : Type 0 where
  pub not_boot : list_any (is_id id) boot_ids ≡ false
  pub not_before : list_any (is_id id) before ≡ false
  pub not_named : list_any (is_named id region index) named ≡ false

module _ (boot_ids : List ℕ) (named : List Named) (region index : ℕ) where
  fresh_first : (before : List ℕ) (id : ℕ) (ids : List ℕ) → reused_id boot_ids named region index before (id ∷ ids) ≡ None
      → Fresh boot_ids named region index before id × (reused_id boot_ids named region index (before ++ id ∷ []) ids ≡ None)
  fresh_first before id ids e = go (is_reused boot_ids named region index before id) refl e where
    go : (b : Bool) → is_reused boot_ids named region index before id ≡ b → (if b then Some id else reused_id boot_ids named region index (before ++ id ∷ []) ids) ≡ None
        → Fresh boot_ids named region index before id × (reused_id boot_ids named region index (before ++ id ∷ []) ids ≡ None)
    go true b k = absurd cc
    go false b k =
        let x = or_none (list_any (is_id id) boot_ids) (list_any (is_id id) before || list_any (is_named id region index) named) b in
        let y = or_none (list_any (is_id id) before) (list_any (is_named id region index) named) x.1 in
        (record { not_boot = x.0; not_before = y.0; not_named = y.1 }, k)

  -- an id that stands before is none of the later ones
  differs : (x : ℕ) (ids before : List ℕ) → list_any (is_id x) before ≡ true → reused_id boot_ids named region index before ids ≡ None → AllByRecursion (λ y. x ≡ y → ⊥) ids
  differs x [] before h e = tt
  differs x (id ∷ ids) before h e =
      let w = fresh_first before id ids e in (
        (λ same. both_ways (list_any (is_id id) before) w.0.not_before (ap (λ z. list_any (is_id z) before) (sym same) ∙ h)),
        differs x ids (before ++ id ∷ []) (list_any-append (is_id x) before (id ∷ []) ∙ or_left (list_any (is_id x) before) (list_any (is_id x) (id ∷ [])) h) w.1,
      )

  ids_differ : (ids before : List ℕ) → reused_id boot_ids named region index before ids ≡ None → EachOther ids
  ids_differ [] before e = tt
  ids_differ (id ∷ ids) before e =
      let w = fresh_first before id ids e in
      let here : list_any (is_id id) (id ∷ []) ≡ true = or_left (id == id) false (eq-eqb id id refl) in (
        differs id ids (before ++ id ∷ []) (list_any-append (is_id id) before (id ∷ []) ∙ or_right (list_any (is_id id) before) (list_any (is_id id) (id ∷ [])) here) w.1,
        ids_differ ids (before ++ id ∷ []) w.1,
      )

  -- each id is tested against the bootstrap ids and all that was named before
  each_tested : (ids before : List ℕ) (id : ℕ) → reused_id boot_ids named region index before ids ≡ None → list_any (is_id id) ids ≡ true
      → (list_any (is_id id) boot_ids ≡ false) × (list_any (is_named id region index) named ≡ false)
  each_tested [] before id e h = absurd cc
  each_tested (d ∷ ids) before id e h = go (d == id) refl h (each_tested ids (before ++ d ∷ []) id w.1) where
    w : Fresh boot_ids named region index before d × (reused_id boot_ids named region index (before ++ d ∷ []) ids ≡ None)
    w = fresh_first before d ids e

    go : (b : Bool) → (d == id) ≡ b → (b || list_any (is_id id) ids) ≡ true
        → (list_any (is_id id) ids ≡ true → (list_any (is_id id) boot_ids ≡ false) × (list_any (is_named id region index) named ≡ false))
        → (list_any (is_id id) boot_ids ≡ false) × (list_any (is_named id region index) named ≡ false)
    go true b k rest =
        let same : d ≡ id = eqb-true d id b in
        (ap (λ z. list_any (is_id z) boot_ids) (sym same) ∙ w.0.not_boot, ap (λ z. list_any (is_named z region index) named) (sym same) ∙ w.0.not_named)
    go false b k rest = rest k

-- ---- all splits

none_reused : (s : Stated) (o : Option ℕ) → reused_at s o ≡ None → o ≡ None
none_reused s None e = refl
none_reused s (Some x) e = absurd cc

-- a statement's ids pass the test against the ids that were named before it
each_passes : (boot_ids : List ℕ) (xs : List Stated) (named : List Named) → first_reused boot_ids named xs ≡ None → (s : Stated) → IsAmong s xs
    → (seen : List Named) × (reused_id boot_ids seen s.region s.index [] (ids_said s.what) ≡ None) × ((n : Named) → IsAmong n named → IsAmong n seen)
each_passes boot_ids [] named e s i = absurd i
each_passes boot_ids (x ∷ xs) named e s (inl same) =
    let w = both_none (reused_in boot_ids named x) (first_reused boot_ids (named ++ names_in x) xs) e in
    (named, ap (λ (z : Stated). reused_id boot_ids named z.region z.index [] (ids_said z.what)) same ∙ none_reused x (reused_id boot_ids named x.region x.index [] (ids_said x.what)) w.0, λ n k. k)
each_passes boot_ids (x ∷ xs) named e s (inr later) =
    let w = both_none (reused_in boot_ids named x) (first_reused boot_ids (named ++ names_in x) xs) e in
    let u = each_passes boot_ids xs (named ++ names_in x) w.1 s later in
    (u.0, u.1, λ n k. u.2 n (among_left n named (names_in x) k))

-- the ids of a split differ from each other
pub split_differs : (boot_ids : List ℕ) (xs : List Stated) → first_reused boot_ids [] xs ≡ None → (s : Stated) → IsAmong s xs → EachOther (ids_said s.what)
split_differs boot_ids xs e s i = let w = each_passes boot_ids xs [] e s i in ids_differ boot_ids w.0 s.region s.index (ids_said s.what) [] w.1

tested : (boot_ids : List ℕ) (xs : List Stated) (named : List Named) → first_reused boot_ids named xs ≡ None → (s : Stated) → IsAmong s xs → (id : ℕ) → names id s ≡ true
    → (list_any (is_id id) boot_ids ≡ false) × ((n : Named) → IsAmong n named → is_named id s.region s.index n ≡ false)
tested boot_ids xs named e s i id h =
    let w = each_passes boot_ids xs named e s i in
    let u = each_tested boot_ids w.0 s.region s.index (ids_said s.what) [] id w.1 h in
    (u.0, λ n k. any_false (is_named id s.region s.index) w.0 n u.1 (w.2 n k))

-- an id that a split names is of no bootstrap region
pub not_boot : (boot_ids : List ℕ) (xs : List Stated) → first_reused boot_ids [] xs ≡ None → (s : Stated) → IsAmong s xs → (id : ℕ) → names id s ≡ true
    → list_any (is_id id) boot_ids ≡ false
not_boot boot_ids xs e s i id h = (tested boot_ids xs [] e s i id h).0

-- an id of a statement is among what the statement names
in_names : (region index id : ℕ) (ids : List ℕ) → list_any (is_id id) ids ≡ true → IsAmong (naming region index id) (map (naming region index) ids)
in_names region index id [] e = absurd cc
in_names region index id (d ∷ ids) e = go (d == id) refl e (in_names region index id ids) where
  go : (b : Bool) → (d == id) ≡ b → (b || list_any (is_id id) ids) ≡ true → (list_any (is_id id) ids ≡ true → IsAmong (naming region index id) (map (naming region index) ids))
      → IsAmong (naming region index id) (map (naming region index) (d ∷ ids))
  go true b k rest = inl (ap (naming region index) (sym (eqb-true d id b)))
  go false b k rest = inr (rest k)

-- the first statement that names an id is about the same region and index as any other that does
pub first_names : (boot_ids : List ℕ) (xs : List Stated) (named : List Named) → first_reused boot_ids named xs ≡ None → (s : Stated) → IsAmong s xs → (id : ℕ) → names id s ≡ true
    → (t : Stated) × (find (names id) xs ≡ Some t) × (t.region ≡ s.region) × (t.index ≡ s.index)
first_names boot_ids [] named e s i id h = absurd i
first_names boot_ids (x ∷ xs) named e s (inl same) id h =
    let here : names id x ≡ true = subst (λ (z : Stated). names id z ≡ true) same h in
    (x, rw here refl, ap (λ (z : Stated). z.region) (sym same), ap (λ (z : Stated). z.index) (sym same))
first_names boot_ids (x ∷ xs) named e s (inr later) id h =
    let w = both_none (reused_in boot_ids named x) (first_reused boot_ids (named ++ names_in x) xs) e in
    go (names id x) refl (first_names boot_ids xs (named ++ names_in x) w.1 s later id h) (tested boot_ids xs (named ++ names_in x) w.1 s later id h).1 where
      go : (b : Bool) → names id x ≡ b → (t : Stated) × (find (names id) xs ≡ Some t) × (t.region ≡ s.region) × (t.index ≡ s.index)
          → ((n : Named) → IsAmong n (named ++ names_in x) → is_named id s.region s.index n ≡ false)
          → (t : Stated) × ((if b then Some x else find (names id) xs) ≡ Some t) × (t.region ≡ s.region) × (t.index ≡ s.index)
      go false b rest free = rest
      go true b rest free =
          let n : Named = naming x.region x.index id in
          let unnamed : is_named id s.region s.index n ≡ false = free n (among_right n named (names_in x) (in_names x.region x.index id (ids_said x.what) b)) in
          let itself : (id == id) ≡ true = eq-eqb id id refl in
          let test : Bool = (x.region == s.region) && (x.index == s.index) in
          let both = and_parts (x.region == s.region) (x.index == s.index) (not-false test (sym (ap (λ z. z && not test) itself) ∙ unnamed)) in
          (x, refl, eqb-true x.region s.region both.0, eqb-true x.index s.index both.1)
