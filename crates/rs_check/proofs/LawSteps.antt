-- Steps of the passes for overlapping ranges and for ids that are reused.
use Rattle.std.proofs.Common.{◌≡◌, ℕ, ◌+◌, ◌<◌, refl, sym, ap, ◌∙◌, List, [], ◌∷◌, ◌++◌, length, get_or, drop, take}
use Rattle.std.specs.Prelude.{Bool, true, false, Option, Some, None, ◌&&◌, ◌||◌, ◌==◌, not, if◌then◌else◌, map}
use Rattle.std.specs.List.{flat_map, list_any}
use Rattle.std.proofs.lemmas.Bool.{eqb-true, eq-eqb}
use Rattle.std.proofs.lemmas.List.Folds.{list_any-append}
use Rattle.std.proofs.lemmas.List.{map-append}
use Rattle.std.proofs.lemmas.Grind.{flat_map-append}
use Rattle.rs_entry.specs.declared.input.Boot.{Boot}
use Rattle.rs_store.specs.Stores.{first_some}
use Rattle.rs_check.specs.Statements.{Stated}
use Rattle.rs_check.specs.Laws.{least, lesser, is_id, Named, is_named, is_reused, reused_id, naming, names_in, reused_in, first_reused}
use Rattle.rs_check.specs.Namings.{Namings, with_naming, with_namings, is_other, is_there, is_reused_at, reused_by}
use Rattle.rs_store.proofs.Folds.{drop_here}
use Rattle.rs_store.proofs.Loops.{take_here}

pub least_more : (best : Option (Boot × Boot)) (xs ys : List (Boot × Boot)) → least best (xs ++ ys) ≡ least (least best xs) ys
least_more best [] ys = refl
least_more best (x ∷ xs) ys = least_more (Some (lesser best x)) xs ys

pub put_next : (f : Namings) (region index : ℕ) (ids : List ℕ) (i x : ℕ) → i < length ids → x ≡ get_or ids i x
    → with_namings f region index (drop i ids) ≡ with_namings (with_naming f x region index) region index (drop (i + 1) ids)
put_next f region index ids i x h e = ap (with_namings f region index) (drop_here ids i x h e)

or_true : (a : Bool) → (a || true) ≡ true
or_true true = refl
or_true false = refl

or_false : (a : Bool) → (a || false) ≡ a
or_false true = refl
or_false false = refl

or_same : (a : Bool) → (a || (a || false)) ≡ a
or_same true = refl
or_same false = refl

pub nil_right : {A : Type 0} (xs : List A) → xs ++ [] ≡ xs
nil_right [] = refl
nil_right (x ∷ xs) = ap (λ ys. x ∷ ys) (nil_right xs)

append_all : {A : Type 0} (xs ys zs : List A) → (xs ++ ys) ++ zs ≡ xs ++ (ys ++ zs)
append_all [] ys zs = refl
append_all (x ∷ xs) ys zs = ap (λ us. x ∷ us) (append_all xs ys zs)

-- one more bootstrap region
pub boots_more : (f : Namings) (roots : List Boot) (i : ℕ) (b : Boot) → i < length roots → b ≡ get_or roots i b
    → ((id : ℕ) → is_there (f id) ≡ list_any (is_id id) (map (λ (x : Boot). x.region) (take i roots)))
    → (id : ℕ) → is_there (with_naming f b.region 0 0 id) ≡ list_any (is_id id) (map (λ (x : Boot). x.region) (take (i + 1) roots))
boots_more f roots i b h e before id =
    go (b.region == id) refl
    ∙ sym (ap (λ xs. list_any (is_id id) (map (λ (x : Boot). x.region) xs)) (take_here roots i b h e)
    ∙ (ap (list_any (is_id id)) (map-append (λ (x : Boot). x.region) (take i roots) (b ∷ []))
    ∙ list_any-append (is_id id) (map (λ (x : Boot). x.region) (take i roots)) (b.region ∷ []))) where
      go : (t : Bool) → (b.region == id) ≡ t → is_there (if t then Some (0, 0) else f id) ≡ (list_any (is_id id) (map (λ (x : Boot). x.region) (take i roots)) || ((b.region == id) || false))
      go true q = rw q (sym (or_true (list_any (is_id id) (map (λ (x : Boot). x.region) (take i roots)))))
      go false q = rw q (before id ∙ sym (or_false (list_any (is_id id) (map (λ (x : Boot). x.region) (take i roots)))))

-- no other split named these
abbrev pub AreFree : Namings → ℕ → ℕ → List ℕ → Type 0
AreFree g region index [] = Unit {0}
AreFree g region index (id ∷ ids) = (is_other region index (g id) ≡ false) × AreFree g region index ids

or_parts : (a b : Bool) → (a || b) ≡ false → b ≡ false
or_parts true b h = absurd cc
or_parts false b h = h

pub free_of : (f g : Namings) (region index : ℕ) (before ids : List ℕ) → reused_by f g region index before ids ≡ None → AreFree g region index ids
free_of f g region index before [] h = tt
free_of f g region index before (id ∷ ids) h = go (free_of f g region index (before ++ id ∷ []) ids) (is_reused_at f g region index before id) refl h where
  go : (reused_by f g region index (before ++ id ∷ []) ids ≡ None → AreFree g region index ids) → (b : Bool) → is_reused_at f g region index before id ≡ b → (if b then Some id else reused_by f g region index (before ++ id ∷ []) ids) ≡ None → AreFree g region index (id ∷ ids)
  go rest true q k = absurd cc
  go rest false q k = (
    or_parts (list_any (is_id id) before) (is_other region index (g id)) (or_parts (is_there (f id)) (list_any (is_id id) before || is_other region index (g id)) q),
    rest k,
  )

both_same : (a b : ℕ) → ((a == a) && (b == b)) ≡ true
both_same a b = rw (eq-eqb a a refl, eq-eqb b b refl) refl

free_put : (g : Namings) (region index id : ℕ) (ids : List ℕ) → AreFree g region index ids → AreFree (with_naming g id region index) region index ids
free_put g region index id [] h = tt
free_put g region index id (y ∷ ys) h = (go (id == y), free_put g region index id ys h.1) where
  go : (b : Bool) → is_other region index (if b then Some (region, index) else g y) ≡ false
  go true = ap not (both_same region index)
  go false = h.0

first_and : (a b : Bool) → not (a && b) ≡ false → a ≡ true
first_and true b h = refl
first_and false b h = absurd cc

second_and : (a b : Bool) → not (a && b) ≡ false → b ≡ true
second_and true true h = refl
second_and true false h = absurd cc
second_and false b h = absurd cc

-- what is known of an id that this split may name
free_same : (o : Option (ℕ × ℕ)) (region index r x : ℕ) → is_other region index o ≡ false
    → (is_other r x o || (not ((region == r) && (index == x)) || false)) ≡ not ((region == r) && (index == x))
free_same None region index r x h = or_false (not ((region == r) && (index == x)))
free_same (Some p) region index r x h =
    let a : p.0 ≡ region = eqb-true p.0 region (first_and (p.0 == region) (p.1 == index) h) in
    let b : p.1 ≡ index = eqb-true p.1 index (second_and (p.0 == region) (p.1 == index) h) in
    ap (λ n. not ((n == r) && (p.1 == x)) || (not ((region == r) && (index == x)) || false)) a
    ∙ (ap (λ n. not ((region == r) && (n == x)) || (not ((region == r) && (index == x)) || false)) b
    ∙ or_same (not ((region == r) && (index == x))))

name_one : (named : List Named) (g : Namings) (region index id : ℕ) → is_other region index (g id) ≡ false
    → ((y r x : ℕ) → is_other r x (g y) ≡ list_any (is_named y r x) named)
    → (y r x : ℕ) → is_other r x (with_naming g id region index y) ≡ list_any (is_named y r x) (named ++ naming region index id ∷ [])
name_one named g region index id free names y r x =
    go (id == y) refl ∙ sym (list_any-append (is_named y r x) named (naming region index id ∷ [])) where
      go : (b : Bool) → (id == y) ≡ b → is_other r x (if b then Some (region, index) else g y) ≡ (list_any (is_named y r x) named || (((id == y) && not ((region == r) && (index == x))) || false))
      go true q = rw q (sym (ap (λ b. b || (not ((region == r) && (index == x)) || false)) (sym (names y r x) ∙ ap (λ z. is_other r x (g z)) (sym (eqb-true id y q))) ∙ free_same (g id) region index r x free))
      go false q = rw q (names y r x ∙ sym (or_false (list_any (is_named y r x) named)))

pub names_more : (ids : List ℕ) (named : List Named) (g : Namings) (region index : ℕ) → AreFree g region index ids
    → ((y r x : ℕ) → is_other r x (g y) ≡ list_any (is_named y r x) named)
    → (y r x : ℕ) → is_other r x (with_namings g region index ids y) ≡ list_any (is_named y r x) (named ++ map (naming region index) ids)
names_more [] named g region index free names y r x = names y r x ∙ ap (list_any (is_named y r x)) (sym (nil_right named))
names_more (id ∷ ids) named g region index free names y r x =
    names_more ids (named ++ naming region index id ∷ []) (with_naming g id region index) region index (free_put g region index id ids free.1) (name_one named g region index id free.0 names) y r x
    ∙ ap (list_any (is_named y r x)) (append_all named (naming region index id ∷ []) (map (naming region index) ids))

pub named_here : (all : List Stated) (i : ℕ) (s : Stated) → i < length all → s ≡ get_or all i s → flat_map names_in (take (i + 1) all) ≡ flat_map names_in (take i all) ++ names_in s
named_here all i s h e =
    ap (flat_map names_in) (take_here all i s h e)
    ∙ (flat_map-append names_in (take i all) (s ∷ []) ∙ ap (λ xs. flat_map names_in (take i all) ++ xs) (nil_right (names_in s)))

pub reused_far : (bs : List ℕ) (all : List Stated) (i : ℕ) (s : Stated) → i < length all → s ≡ get_or all i s
    → first_reused bs (flat_map names_in (take i all)) (drop i all)
    ≡ first_some (reused_in bs (flat_map names_in (take i all)) s) (first_reused bs (flat_map names_in (take (i + 1) all)) (drop (i + 1) all))
reused_far bs all i s h e =
    ap (first_reused bs (flat_map names_in (take i all))) (drop_here all i s h e)
    ∙ ap (λ ns. first_some (reused_in bs (flat_map names_in (take i all)) s) (first_reused bs ns (drop (i + 1) all))) (sym (named_here all i s h e))

if_no : {A : Type 0} (b : Bool) (x y : A) → b ≡ false → (if b then x else y) ≡ y
if_no true x y e = absurd cc
if_no false x y e = refl

if_yes : {A : Type 0} (b : Bool) (x y : A) → b ≡ true → (if b then x else y) ≡ x
if_yes true x y e = refl
if_yes false x y e = absurd cc

pub reused_next : (f g : Namings) (region index : ℕ) (ids : List ℕ) (i x : ℕ) → i < length ids → x ≡ get_or ids i x
    → is_reused_at f g region index (take i ids) x ≡ false
    → reused_by f g region index (take i ids) (drop i ids) ≡ reused_by f g region index (take (i + 1) ids) (drop (i + 1) ids)
reused_next f g region index ids i x h e free =
    ap (reused_by f g region index (take i ids)) (drop_here ids i x h e)
    ∙ (if_no (is_reused_at f g region index (take i ids) x) (Some x) (reused_by f g region index (take i ids ++ x ∷ []) (drop (i + 1) ids)) free
    ∙ ap (λ zs. reused_by f g region index zs (drop (i + 1) ids)) (sym (take_here ids i x h e)))

-- what the code keeps tells what the lists tell

module _ (boot_ids : List ℕ) (f : Namings) (boots : (id : ℕ) → is_there (f id) ≡ list_any (is_id id) boot_ids) where
  pub same_reused : (named : List Named) (g : Namings) (region index : ℕ) → ((id r x : ℕ) → is_other r x (g id) ≡ list_any (is_named id r x) named)
      → (before ids : List ℕ) → reused_by f g region index before ids ≡ reused_id boot_ids named region index before ids
  same_reused named g region index names before [] = refl
  same_reused named g region index names before (id ∷ ids) =
      let p : is_reused_at f g region index before id ≡ is_reused boot_ids named region index before id =
      ap (λ b. b || (list_any (is_id id) before || is_other region index (g id))) (boots id)
      ∙ ap (λ b. list_any (is_id id) boot_ids || (list_any (is_id id) before || b)) (names id region index) in
      ap (λ b. if b then Some id else reused_by f g region index (before ++ id ∷ []) ids) p
      ∙ ap (λ o. if is_reused boot_ids named region index before id then Some id else o) (same_reused named g region index names (before ++ id ∷ []) ids)
