-- The table of a cut, row by row.
use Rattle.std.proofs.Common.{◌≡◌, ℕ, zero, suc, ◌≤◌, ◌<◌, Bool, true, false, cond, List, [], ◌∷◌, ◌++◌, Option, Some, None, refl, ap, sym, ◌∙◌, arith, subst, ◌⊎◌, inl, inr, append-nil}
use Rattle.std.specs.Prelude.{◌==◌}
use Rattle.std.specs.Option.{option_map, option_to_list}
use Rattle.std.specs.List.{AllByRecursion}
use Rattle.std.proofs.lemmas.Bool.{cases_eq, cases_lt, eq-eqb, ne_eqb}
use Rattle.rs_entry.specs.WellFormed.{WellFormed}
use Rattle.rs_entry.specs.declared.input.Input.{Input}
use Rattle.rs_region.specs.declared.state.RegionState.{RegionState}
use Rattle.rs_region.proofs.CutParts.{all_map}
use Rattle.rs_part.specs.Parts.{Part}
use Rattle.rs_check.specs.Laws.{check}
use Rattle.rs_check.specs.Values.{count_of, part_at, region_of}
use Rattle.rs_table.specs.Cuts.{Cut, birth_of, covers, index_after, is_on}
use Rattle.rs_table.specs.Rows.{IsTable, address_in, is_removed, marked, marked_part, row_at, row_by, row_if, row_of, rows_below, state_of, table_of, taker}
use Rattle.rs_table.proofs.Addressing.{found_by, found_is, one_address}
use Rattle.rs_table.proofs.Between.{laws}
use Rattle.rs_table.proofs.CutRows.{row_unfold}
use Rattle.rs_table.proofs.NeedLists.{on_below}
use Rattle.rs_table.proofs.RowOrder.{regions_rise}
use Rattle.rs_table.proofs.Tables.{Ups, or_else, rise_of, ups_of}

-- ---- two tables that say the same are one

none_there : (rows : List RegionState) (id : ℕ) → AllByRecursion (λ t. id < t.region) rows → state_of rows id ≡ None
none_there [] id h = refl
none_there (r ∷ rs) id h = ap (λ b. cond b (Some r) (state_of rs id)) (ne_eqb r.region id (λ q. (let l = h.0 in omega (arith, q, l)))) ∙ none_there rs id h.1

head_there : (r : RegionState) (rs : List RegionState) → state_of (r ∷ rs) r.region ≡ Some r
head_there r rs = ap (λ b. cond b (Some r) (state_of rs r.region)) (eq-eqb r.region r.region refl)

below_all : (id : ℕ) (r : RegionState) (rs : List RegionState) → id < r.region → AllByRecursion (λ t. r.region < t.region) rs → AllByRecursion (λ t. id < t.region) (r ∷ rs)
below_all id r rs lt h = (lt, all_map (λ t. r.region < t.region) (λ t. id < t.region) (λ t l. omega (arith, lt, l)) rs h)

pub same_rows : (xs ys : List RegionState) → Ups xs → Ups ys → ((id : ℕ) → state_of xs id ≡ state_of ys id) → xs ≡ ys
same_rows [] [] u v same = refl
same_rows [] (y ∷ ys) u v same = absurd (let h = head_there y ys in let e : None ≡ state_of (y ∷ ys) y.region = same y.region in cc (h, e))
same_rows (x ∷ xs) [] u v same = absurd (let h = head_there x xs in let e : state_of (x ∷ xs) x.region ≡ None = same x.region in cc (h, e))
same_rows (x ∷ xs) (y ∷ ys) u v same = go (cases_lt x.region y.region) (cases_lt y.region x.region) (same_rows xs ys u.1 v.1) where
  tail : x ≡ y → (id : ℕ) → state_of xs id ≡ state_of ys id
  tail one id = elim (cases_eq x.region id) [
    | inl e ↦
        (let f : y.region ≡ id = ap (λ (z : RegionState). z.region) (sym one) ∙ e in
        subst (λ z. state_of xs z ≡ None) e (none_there xs x.region u.0) ∙ sym (subst (λ z. state_of ys z ≡ None) f (none_there ys y.region v.0)))
    | inr ne ↦
        (let a : state_of (x ∷ xs) id ≡ state_of xs id = ap (λ b. cond b (Some x) (state_of xs id)) (ne_eqb x.region id ne) in
        let nf : y.region ≡ id → ⊥ = λ q. ne (ap (λ (z : RegionState). z.region) one ∙ q) in
        let b : state_of (y ∷ ys) id ≡ state_of ys id = ap (λ b. cond b (Some y) (state_of ys id)) (ne_eqb y.region id nf) in
        sym a ∙ (same id ∙ b))
  ]

  go : (x.region < y.region) ⊎ (y.region ≤ x.region) → (y.region < x.region) ⊎ (x.region ≤ y.region) → (((id : ℕ) → state_of xs id ≡ state_of ys id) → xs ≡ ys) → x ∷ xs ≡ y ∷ ys
  go (inl lt) c rest = absurd (let n = none_there (y ∷ ys) x.region (below_all x.region y ys lt v.0) in let h = head_there x xs in cc (h, same x.region, n))
  go (inr ge) (inl lt) rest = absurd (let n = none_there (x ∷ xs) y.region (below_all y.region x xs lt u.0) in let h = head_there y ys in cc (h, same y.region, n))
  go (inr ge) (inr le) rest =
      let e : x.region ≡ y.region = omega (arith, ge, le) in
      let hx = head_there x xs in
      let hy : state_of (y ∷ ys) x.region ≡ Some y = ap (state_of (y ∷ ys)) e ∙ head_there y ys in
      let one : x ≡ y = cc (hx, same x.region, hy) in
      ap (λ z. z ∷ xs) one ∙ ap (λ zs. y ∷ zs) (rest (tail one))

-- ---- row by row

found_append : (xs ys : List RegionState) (id : ℕ) → state_of (xs ++ ys) id ≡ or_else (state_of xs id) (state_of ys id)
found_append [] ys id = refl
found_append (x ∷ xs) ys id = go (x.region == id) (found_append xs ys id) where
  go : (b : Bool) → state_of (xs ++ ys) id ≡ or_else (state_of xs id) (state_of ys id) → cond b (Some x) (state_of (xs ++ ys) id) ≡ or_else (cond b (Some x) (state_of xs id)) (state_of ys id)
  go true rest = refl
  go false rest = rest

or_none : (o : Option RegionState) → or_else o None ≡ o
or_none None = refl
or_none (Some s) = refl

all_append : (P : RegionState → Type 0) (xs ys : List RegionState) → AllByRecursion P xs → AllByRecursion P ys → AllByRecursion P (xs ++ ys)
all_append P [] ys h k = k
all_append P (x ∷ xs) ys h k = (h.0, all_append P xs ys h.1 k)

ups_append : (xs : List RegionState) (y : RegionState) → Ups xs → AllByRecursion (λ x. x.region < y.region) xs → Ups (xs ++ y ∷ [])
ups_append [] y u h = (tt, tt)
ups_append (x ∷ xs) y u h = (all_append (λ t. x.region < t.region) xs (y ∷ []) u.0 (h.0, tt), ups_append xs y u.1 h.1)

module _ (input : Input) (well : WellFormed input) (lawful : check input ≡ None) (place : ℕ) (n : Cut) where
  named : (a : ℕ) (s : RegionState) → a < count_of input → row_at input place n a ≡ Some s → s.region ≡ region_of input a
  named a s below h = go (covers n (birth_of input a)) (sym (row_unfold input place n a) ∙ h) where
    region_of_state : Option RegionState → ℕ
    region_of_state None = region_of input a
    region_of_state (Some x) = x.region

    region_marked : (t : Option ℕ) (b : Bool) (x : RegionState) → (marked t b x).region ≡ x.region
    region_marked (Some t) b x = refl
    region_marked None true x = refl
    region_marked None false x = refl

    by : (o : Option Part) → part_at input a (index_after input a (n a)) ≡ o → marked_part (option_map (region_of input) (taker input place n (region_of input a))) (is_removed input n a) o ≡ Some s → s.region ≡ region_of input a
    by None e f = absurd cc
    by (Some v) e f =
        sym (ap (λ o. region_of_state o) f)
        ∙ (region_marked (option_map (region_of input) (taker input place n (region_of input a))) (is_removed input n a) v.state ∙ (laws input well lawful).named a (index_after input a (n a)) v below e)

    go : (b : Bool) → row_if b input place n a ≡ Some s → s.region ≡ region_of input a
    go false f = absurd cc
    go true f = by (part_at input a (index_after input a (n a))) refl f

  -- what an address adds
  abbrev piece : ℕ → List RegionState
  piece a = cond (is_on input place a) (option_to_list (row_at input place n a)) []

  -- another region's address adds nothing of a region
  other_piece : (a id : ℕ) → (is_on input place a ≡ true → region_of input a ≡ id → ⊥) → state_of (piece a) id ≡ None
  other_piece a id ne = go (is_on input place a) refl where
    by : is_on input place a ≡ true → (o : Option RegionState) → row_at input place n a ≡ o → state_of (option_to_list o) id ≡ None
    by on None e = refl
    by on (Some s) e = ap (λ b. cond b (Some s) None) (ne_eqb s.region id (λ q. ne on (sym (named a s (on_below input place a on) e) ∙ q)))

    go : (b : Bool) → is_on input place a ≡ b → state_of (cond b (option_to_list (row_at input place n a)) []) id ≡ None
    go false e = refl
    go true e = by e (row_at input place n a) refl

  own_piece : (a : ℕ) → is_on input place a ≡ true → state_of (piece a) (region_of input a) ≡ row_at input place n a
  own_piece a on = ap (λ b. state_of (cond b (option_to_list (row_at input place n a)) []) (region_of input a)) on ∙ go (row_at input place n a) refl where
    go : (o : Option RegionState) → row_at input place n a ≡ o → state_of (option_to_list o) (region_of input a) ≡ o
    go None e = refl
    go (Some s) e = ap (λ b. cond b (Some s) None) (eq-eqb s.region (region_of input a) (named a s (on_below input place a on) e))

  none_below : (id k : ℕ) → ((a : ℕ) → a < k → is_on input place a ≡ true → region_of input a ≡ id → ⊥) → state_of (rows_below input place n k) id ≡ None
  none_below id zero f = refl
  none_below id (suc a) f =
      found_append (rows_below input place n a) (piece a) id
      ∙ (ap (λ o. or_else o (state_of (piece a) id)) (none_below id a (λ x lt. f x (omega arith))) ∙ other_piece a id (f a (omega arith)))

  there_below : (b k : ℕ) → is_on input place b ≡ true → b < k → state_of (rows_below input place n k) (region_of input b) ≡ row_at input place n b
  there_below b zero on lt = absurd (omega arith)
  there_below b (suc a) on lt = found_append (rows_below input place n a) (piece a) (region_of input b) ∙ elim (cases_eq a b) [
    | inl e ↦
        ap (λ o. or_else o (state_of (piece a) (region_of input b))) (none_below (region_of input b) a (λ x l on_x same. (let q = one_address input well place x b on_x on same in omega (arith, q, l, e))))
        ∙ (ap (λ z. state_of (piece z) (region_of input b)) e ∙ own_piece b on)
    | inr ne ↦
        ap (or_else (state_of (rows_below input place n a) (region_of input b))) (other_piece a (region_of input b) (λ on_a same. ne (one_address input well place a b on_a on same)))
        ∙ (or_none (state_of (rows_below input place n a) (region_of input b)) ∙ there_below b a on (omega (arith, lt, ne)))
  ]

  -- each row is of an address before
  pub record From (k : ℕ) (s : RegionState) : Type 0 where
    pub b : ℕ
    pub below : b < k
    pub on : is_on input place b ≡ true
    pub region : s.region ≡ region_of input b

  later_from : (k : ℕ) (s : RegionState) → From k s → From (suc k) s
  later_from k s f = let l = f.below in record { b = f.b; below = omega (arith, l); on = f.on; region = f.region }

  record Rows (k : ℕ) : Type 0 where
    pub ups : Ups (rows_below input place n k)
    pub from : AllByRecursion (From k) (rows_below input place n k)

  rows : (k : ℕ) → Rows k
  rows zero = record { ups = tt; from = tt }
  rows (suc a) = go (is_on input place a) refl (rows a) where
    by : is_on input place a ≡ true → Rows a → (o : Option RegionState) → row_at input place n a ≡ o → Ups (rows_below input place n a ++ option_to_list o) × AllByRecursion (From (suc a)) (rows_below input place n a ++ option_to_list o)
    by on r None e = (subst Ups (sym (append-nil (rows_below input place n a))) r.ups, subst (AllByRecursion (From (suc a))) (sym (append-nil (rows_below input place n a))) (all_map (From a) (From (suc a)) (later_from a) (rows_below input place n a) r.from))
    by on r (Some s) e =
        let region = named a s (on_below input place a on) e in (
          ups_append (rows_below input place n a) s r.ups (all_map (From a) (λ x. x.region < s.region)
              (λ x f. (let l = regions_rise input well place f.b a f.on on f.below in let q = f.region in omega (arith, l, q, region))) (rows_below input place n a) r.from),
          all_append (From (suc a)) (rows_below input place n a) (s ∷ []) (all_map (From a) (From (suc a)) (later_from a) (rows_below input place n a) r.from)
              (record { b = a; below = omega arith; on = on; region = region }, tt),
        )

    go : (b : Bool) → is_on input place a ≡ b → Rows a → Rows (suc a)
    go false e r =
        let same : rows_below input place n a ++ piece a ≡ rows_below input place n a = ap (λ b. rows_below input place n a ++ cond b (option_to_list (row_at input place n a)) []) e ∙ append-nil (rows_below input place n a) in
        record { ups = subst Ups (sym same) r.ups; from = subst (AllByRecursion (From (suc a))) (sym same) (all_map (From a) (From (suc a)) (later_from a) (rows_below input place n a) r.from) }
    go true e r =
        let w = by e r (row_at input place n a) refl in
        let same : rows_below input place n a ++ piece a ≡ rows_below input place n a ++ option_to_list (row_at input place n a) = ap (λ b. rows_below input place n a ++ cond b (option_to_list (row_at input place n a)) []) e in
        record { ups = subst Ups (sym same) w.0; from = subst (AllByRecursion (From (suc a))) (sym same) w.1 }

  pub is_table : IsTable input place n (table_of input place n)
  is_table = record { rise = rise_of (table_of input place n) (rows (count_of input)).ups; states = λ id. go id (address_in input place id) refl } where
    go : (id : ℕ) (o : Option ℕ) → address_in input place id ≡ o → state_of (table_of input place n) id ≡ row_of input place n id
    go id None e = none_below id (count_of input) (λ a lt on same. cc (ap (address_in input place) (sym same) ∙ found_by input well place a on, e)) ∙ sym (ap (row_by input place n) e)
    go id (Some b) e =
        let w = found_is input well place id b e in
        ap (state_of (table_of input place n)) (sym w.1) ∙ (there_below b (count_of input) w.0 (on_below input place b w.0) ∙ sym (ap (row_by input place n) e))

  pub table_is : (rows : List RegionState) → IsTable input place n rows → rows ≡ table_of input place n
  table_is rows table = same_rows rows (table_of input place n) (ups_of rows table.rise) (ups_of (table_of input place n) is_table.rise) (λ id. table.states id ∙ sym (is_table.states id))
