-- Where no two statements differ and no bootstrap regions overlap, each store begins as the script says.
use Rattle.std.proofs.Common.{◌≡◌, ◌==◌, ◌<◌, ltb, Bool, true, false, if◌then◌else◌, List, [], ◌∷◌, ◌++◌, map, Some, None, refl, ap, ◌∙◌, inl, inr}
use Rattle.std.specs.List.{find, flat_map, AllByRecursion}
use Rattle.std.proofs.lemmas.Bool.{both_ways, and_from, eqb-true, eq-eqb, lt-ltb, cases_order}
use Rattle.rs_entry.specs.declared.input.Boot.{Boot}
use Rattle.rs_entry.specs.declared.input.Store.{Store}
use Rattle.rs_entry.specs.declared.input.Input.{Input}
use Rattle.rs_entry.specs.declared.law_fault.Statement.{Statement}
use Rattle.rs_entry.specs.declared.law_fault.Statement.TheVariants as said
use Rattle.rs_entry.specs.WellFormed.{WellFormed}
use Rattle.rs_part.specs.Counting.{IsAmong}
use Rattle.rs_part.specs.Ranges.{Apart, EachId, StatesApart}
use Rattle.rs_part.specs.Scripts.{Opened}
use Rattle.rs_part.specs.Telling.{Begins, boot_states}
use Rattle.rs_part.proofs.Members.{among_left, among_map, among_flat, among_find}
use Rattle.rs_check.specs.Laws.{boots, share_a_key, overlap, overlaps_of, overlaps, lesser, least, first_overlap}
use Rattle.rs_check.specs.Statements.{Stated, stated, store_stated, log_stated, of_boot, first_differ}
use Rattle.rs_check.specs.Scripts.{script_of, names, birth_by}
use Rattle.rs_check.proofs.Finding.{find_some, from_flat}
use Rattle.rs_check.proofs.SameEntries.{boots_are}
use Rattle.rs_check.proofs.Sharing.{apart_of}
use Rattle.rs_check.proofs.Telling.{Same, first_said}
use Rattle.rs_check.proofs.WholeStores.{boot_ids_differ, boot_ranges, boot_start}

-- ---- one bootstrap region on all stores

boot_what : (w : Statement) (b : Boot) → Same w (said.Boot b) → w ≡ said.Boot b
boot_what w b (inl e) = e
boot_what (said.Boot a) b (inr e) = ap said.Boot (boots_are a b e)
boot_what (said.Entry x) b (inr e) = absurd cc
boot_what (said.Carried c) b (inr e) = absurd cc

boot_stated : (input : Input) (s : Store) → IsAmong s input.stores → (b : Boot) → IsAmong b s.regions → IsAmong (of_boot s.id b) (stated input)
boot_stated input s i b j =
    among_flat store_stated (of_boot s.id b) s input.stores
    (among_left (of_boot s.id b) (map (of_boot s.id) s.regions) (flat_map (log_stated s.id) s.logs) (among_map (of_boot s.id) b s.regions j)) i

-- two bootstrap regions with one id are one, on whichever stores
boots_same : (input : Input) → first_differ [] (stated input) ≡ None → (s t : Store) (a b : Boot)
    → IsAmong s input.stores → IsAmong a s.regions → IsAmong t input.stores → IsAmong b t.regions → a.region ≡ b.region → a ≡ b
boots_same input fine s t a b si ai ti bi same =
    let x = first_said (stated input) [] fine (of_boot s.id a) (boot_stated input s si a ai) in
    let y = first_said (stated input) [] fine (of_boot t.id b) (boot_stated input t ti b bi) in
    let one : x.0 ≡ y.0 = cc (x.1, y.1, same) in
    cc (boot_what x.0.what a x.2, boot_what y.0.what b y.2, ap (λ (z : Stated). z.what) one)

-- ---- no overlap

least_some : (ps : List (Boot × Boot)) (q : Boot × Boot) → least (Some q) ps ≡ None → ⊥
least_some [] q e = cc e
least_some (p ∷ ps) q e = least_some ps (lesser (Some q) p) e

least_none : (ps : List (Boot × Boot)) → least None ps ≡ None → ps ≡ []
least_none [] e = refl
least_none (p ∷ ps) e = absurd (least_some ps (lesser None p) e)

front_nil : {A : Type 0} (xs ys : List A) → xs ++ ys ≡ [] → xs ≡ []
front_nil [] ys e = refl
front_nil (x ∷ xs) ys e = absurd cc

back_nil : {A : Type 0} (xs ys : List A) → xs ++ ys ≡ [] → ys ≡ []
back_nil [] ys e = e
back_nil (x ∷ xs) ys e = absurd cc

flat_nil : {A B : Type 0} (f : A → List B) (ys : List A) (y : A) → flat_map f ys ≡ [] → IsAmong y ys → f y ≡ []
flat_nil f [] y e h = absurd h
flat_nil f (z ∷ ys) y e (inl h) = ap f h ∙ front_nil (f z) (flat_map f ys) e
flat_nil f (z ∷ ys) y e (inr h) = flat_nil f ys y (back_nil (f z) (flat_map f ys) e) h

no_overlap : (a b : Boot) (bs : List Boot) → overlaps_of a bs ≡ [] → IsAmong b bs → overlap a b ≡ false
no_overlap a b [] e i = absurd i
no_overlap a b (x ∷ xs) e i = go (overlap a x) refl e i (no_overlap a b xs) where
  go : (c : Bool) → overlap a x ≡ c → (if c then (a, x) ∷ overlaps_of a xs else overlaps_of a xs) ≡ [] → IsAmong b (x ∷ xs)
      → (overlaps_of a xs ≡ [] → IsAmong b xs → overlap a b ≡ false) → overlap a b ≡ false
  go true c k i rest = absurd cc
  go false c k (inl p) rest = ap (overlap a) p ∙ c
  go false c k (inr i) rest = rest k i

lesser_apart : (input : Input) → first_overlap (boots input) ≡ None → (a b : Boot) → IsAmong a (boots input) → IsAmong b (boots input) → a.region < b.region
    → share_a_key a.range b.range ≡ false
lesser_apart input none a b ia ib lt = go (share_a_key a.range b.range) refl where
  test : overlap a b ≡ false
  test = no_overlap a b (boots input) (flat_nil (λ x. overlaps_of x (boots input)) (boots input) a (least_none (overlaps (boots input)) none) ia) ib

  go : (c : Bool) → share_a_key a.range b.range ≡ c → share_a_key a.range b.range ≡ false
  go false c = c
  go true c = absurd (both_ways (overlap a b) test (and_from (ltb a.region b.region) (share_a_key a.range b.range) (lt-ltb a.region b.region lt) c))

module _ (input : Input) (well : WellFormed input) (fine : first_differ [] (stated input) ≡ None) (none : first_overlap (boots input) ≡ None) (store : Store) (i : IsAmong store input.stores) where
  among : (b : Boot) → IsAmong b store.regions → IsAmong b (boots input)
  among b h = among_flat (λ (s : Store). s.regions) b store input.stores h i

  boots_apart : (a b : Boot) → IsAmong a store.regions → IsAmong b store.regions → (a.region ≡ b.region → ⊥) → Apart a.range b.range
  boots_apart a b ia ib ne = elim (cases_order a.region b.region) [
    | inl e ↦ absurd (ne e)
    | inr c ↦ elim c [
      | inl lt ↦ apart_of a.range b.range (boot_start input well store i a ia) (boot_start input well store i b ib) (lesser_apart input none a b (among a ia) (among b ib) lt)
      | inr gt ↦ (λ k x y. apart_of b.range a.range (boot_start input well store i b ib) (boot_start input well store i a ia) (lesser_apart input none b a (among b ib) (among a ia) gt) k y x)
    ]
  ]

  apart_from : (a : Boot) → IsAmong a store.regions → (bs : List Boot) → ((b : Boot) → IsAmong b bs → IsAmong b store.regions) → AllByRecursion (λ t. a.region ≡ t.region → ⊥) (boot_states bs)
      → AllByRecursion (λ t. Apart a.range t.range) (boot_states bs)
  apart_from a h [] f e = tt
  apart_from a h (b ∷ bs) f e = (boots_apart a b h (f b (inl refl)) e.0, apart_from a h bs (λ x k. f x (inr k)) e.1)

  all_apart : (bs : List Boot) → ((b : Boot) → IsAmong b bs → IsAmong b store.regions) → EachId (boot_states bs) → StatesApart (boot_states bs)
  all_apart [] f e = tt
  all_apart (b ∷ bs) f e = (apart_from b (f b (inl refl)) bs (λ x k. f x (inr k)) e.0, all_apart bs (λ x k. f x (inr k)) e.1)

  birth : (b : Boot) → IsAmong b store.regions → (script_of input).birth b.region ≡ Opened b.range b.peers
  birth b h =
      let x = find_some (λ y. y.region == b.region) b (boots input) (among b h) (eq-eqb b.region b.region refl) in
      let w = among_find (λ y. y.region == b.region) (boots input) x.0 x.1 in
      let s = from_flat (λ (y : Store). y.regions) x.0 input.stores w.0 in
      let one : x.0 ≡ b = boots_same input fine s.0 store x.0 b s.1 s.2 i h (eqb-true x.0.region b.region w.1) in
      ap (λ o. birth_by o (find (names b.region) (stated input))) x.1 ∙ ap (λ (z : Boot). Opened z.range z.peers) one

  births : (bs : List Boot) → ((b : Boot) → IsAmong b bs → IsAmong b store.regions) → AllByRecursion (λ s. (script_of input).birth s.region ≡ Opened s.range s.peers) (boot_states bs)
  births [] f = tt
  births (b ∷ bs) f = (birth b (f b (inl refl)), births bs (λ x h. f x (inr h)))

  -- the store begins as the script says
  pub begins_of : Begins (script_of input) store
  begins_of = record {
    births = births store.regions (λ b h. h);
    shapes = boot_ranges input well store i;
    ids = boot_ids_differ input well store i;
    apart = all_apart store.regions (λ b h. h) (boot_ids_differ input well store i);
  }
