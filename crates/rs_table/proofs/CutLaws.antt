-- What holds of the tables of all cuts of a lawful plan's store.
use Rattle.std.proofs.Common.{◌≡◌, ℕ, zero, suc, ◌+◌, ◌-◌, ◌≤◌, ◌<◌, Bool, true, false, cond, List, [], ◌∷◌, ◌++◌, length, Option, Some, None, refl, ap, sym, ◌∙◌, arith, subst, ◌⊎◌, inl, inr}
use Rattle.std.specs.Prelude.{◌==◌, ◌&&◌, ◌||◌, leb, slice_get}
use Rattle.std.specs.Option.{option_to_list}
use Rattle.std.specs.List.{AllByRecursion, list_any}
use mathlib.Core.Path.{fun_ext}
use Rattle.std.proofs.lemmas.Bool.{and_from, and_parts, both_ways, cases_eq, eq-eqb, eqb-true, le-leb, leb-true, ne_eqb, or_cases}
use Rattle.rs_key.specs.Ranges.{holds, is_range}
use Rattle.rs_entry.specs.WellFormed.{WellFormed}
use Rattle.rs_entry.specs.declared.input.Boot.{Boot}
use Rattle.rs_entry.specs.declared.input.Input.{Input}
use Rattle.rs_entry.specs.declared.input.Store.{Store}
use Rattle.rs_region.specs.Reshapings.{boot}
use Rattle.rs_region.specs.declared.state.RegionState.{RegionState}
use Rattle.rs_store.specs.Stores.{is_live, is_unmerged}
use Rattle.rs_part.specs.Counting.{IsAmong}
use Rattle.rs_part.specs.Ranges.{EachId, StatesApart}
use Rattle.rs_part.specs.Telling.{boot_states}
use Rattle.rs_part.proofs.Cutting.{find_each}
use Rattle.rs_part.proofs.Members.{among_all, among_find, among_get, among_map}
use Rattle.rs_part.proofs.Modes.{live_unmerged}
use Rattle.rs_check.specs.Laws.{check}
use Rattle.rs_check.specs.Plans.{reshapings_of}
use Rattle.rs_check.specs.Tables.{owner, owns}
use Rattle.rs_check.specs.Tables.{region_of as owner_id}
use Rattle.rs_check.specs.Values.{count_of, region_of}
use Rattle.rs_check.proofs.Finding.{find_some}
use Rattle.rs_check.proofs.StoreEnds.{ending}
use Rattle.rs_table.specs.Covers.{AreWhole, TableLaws, boots_hold, has_key, is_boot_key, is_held}
use Rattle.rs_table.specs.Cuts.{AreKnown, Cut, IsCut, IsIn, Telling, is_known, is_on}
use Rattle.rs_table.specs.Moves.{boots_of, nothing_covered, opening_rows, raised}
use Rattle.rs_table.specs.Rows.{IsTable, final_state, finals_below, row_at, row_by, row_of, rows_below, state_of}
use Rattle.rs_table.specs.Tellings.{may_grow}
use Rattle.rs_table.proofs.Addressing.{found_by}
use Rattle.rs_table.proofs.Cutting.{cut_more, is_next, nothing_cut, off_stuck, raised_cases, raised_other, raised_same, told_next}
use Rattle.rs_table.proofs.Full.{full_row}
use Rattle.rs_table.proofs.Greatest.{is_greatest}
use Rattle.rs_table.proofs.NeedLists.{on_below, or_right}
use Rattle.rs_table.proofs.Openings.{opens}
use Rattle.rs_table.proofs.RangeSteps.{Sharing, pair_apart, sharing_same}
use Rattle.rs_table.proofs.StepRanges.{step_shares}
use Rattle.rs_table.proofs.StepTables.{moved_table}
use Rattle.rs_table.proofs.TableLists.{is_table, table_is}
use Rattle.rs_table.proofs.Tables.{Ups, ups_of}

-- ---- lists

any_there : {A : Type 0} (p : A → Bool) (xs : List A) → list_any p xs ≡ true → (x : A) × IsAmong x xs × (p x ≡ true)
any_there p [] h = absurd cc
any_there p (x ∷ xs) h = elim (or_cases (p x) (list_any p xs) h) [
  | inl e ↦ (x, inl refl, e)
  | inr e ↦ (let w = any_there p xs e in (w.0, inr w.1, w.2))
]

there_any : {A : Type 0} (p : A → Bool) (xs : List A) (x : A) → IsAmong x xs → p x ≡ true → list_any p xs ≡ true
there_any p [] x i h = absurd i
there_any p (y ∷ ys) x (inl q) h = ap (λ b. b || list_any p ys) (ap p (sym q) ∙ h)
there_any p (y ∷ ys) x (inr i) h = or_right (p y) (list_any p ys) (there_any p ys x i h)

ups_find : (rows : List RegionState) → Ups rows → (s : RegionState) → IsAmong s rows → state_of rows s.region ≡ Some s
ups_find [] u s i = absurd i
ups_find (x ∷ xs) u s (inl p) = ap (λ b. cond b (Some x) (state_of xs s.region)) (eq-eqb x.region s.region (ap (λ (z : RegionState). z.region) (sym p))) ∙ ap Some (sym p)
ups_find (x ∷ xs) u s (inr i) =
    let lt = among_all (λ t. x.region < t.region) s xs u.0 i in
    ap (λ b. cond b (Some x) (state_of xs s.region)) (ne_eqb x.region s.region (λ q. omega (arith, q, lt))) ∙ ups_find xs u.1 s i

-- ---- the beginning

booted : Boot → RegionState
booted b = boot b.region b.range b.peers

boot_among : (b : Boot) (bs : List Boot) → IsAmong b bs → IsAmong (boot b.region b.range b.peers) (boot_states bs)
boot_among b bs i = among_map (λ x. boot x.region x.range x.peers) b bs i

state_boot : (s : RegionState) (bs : List Boot) → IsAmong s (boot_states bs) → (b : Boot) × IsAmong b bs × (s ≡ boot b.region b.range b.peers)
state_boot s [] i = absurd i
state_boot s (b ∷ bs) (inl p) = (b, inl refl, p)
state_boot s (b ∷ bs) (inr i) = (let w = state_boot s bs i in (w.0, inr w.1, w.2))

sharing_boots : (s : Store) → AllByRecursion (λ x. is_range x.range.start x.range.end ≡ true) (boot_states s.regions) → EachId (boot_states s.regions) → StatesApart (boot_states s.regions)
    → Sharing (boots_hold (Some s)) (λ x. state_of (boot_states s.regions) x)
sharing_boots s shapes ids apart = record {
  rises = λ x t h u. among_all (λ z. is_range z.range.start z.range.end ≡ true) t (boot_states s.regions) shapes (among_find (λ z. z.region == x) (boot_states s.regions) t h).0;
  apart = λ x y a b ne ha hb ua ub. (
      let p = among_find (λ z. z.region == x) (boot_states s.regions) a ha in
      let q = among_find (λ z. z.region == y) (boot_states s.regions) b hb in
      pair_apart (boot_states s.regions) a b apart p.0 q.0 (λ e. ne (sym (eqb-true a.region x p.1) ∙ (e ∙ eqb-true b.region y q.1))));
  held = λ x t key h u has. (
      let p = among_find (λ z. z.region == x) (boot_states s.regions) t h in
      let w = state_boot t s.regions p.0 in
      there_any (λ b. holds b.range key) s.regions w.0 w.1 (ap (λ (z : RegionState). holds z.range key) (sym w.2) ∙ has));
  covers = λ key k. (
      let w = any_there (λ b. holds b.range key) s.regions k in
      let st : RegionState = boot w.0.region w.0.range w.0.peers in
      record { id = st.region; s = st; here = among_all (λ z. state_of (boot_states s.regions) z.region ≡ Some z) st (boot_states s.regions) (find_each (boot_states s.regions) ids) (boot_among w.0 s.regions w.1); unmerged = refl; has = w.2 });
}

module _ (input : Input) (well : WellFormed input) (lawful : check input ≡ None) (place : ℕ) where
  abbrev Shares : Cut → Type 0
  Shares n = Sharing (is_boot_key input place) (λ id. row_of input place n id)

  open_shares : Shares nothing_covered
  open_shares =
      sharing_same (is_boot_key input place) (λ id. state_of (opening_rows input place) id) (λ id. row_of input place nothing_covered id)
      ((opens input well lawful place).states) (go (slice_get input.stores place) refl)
    where
      go : (o : Option Store) → slice_get input.stores place ≡ o → Sharing (boots_hold o) (λ id. state_of (boots_of o) id)
      go None e = record { rises = λ x t h u. absurd cc; apart = λ x y a b ne ha hb ua ub. absurd cc; held = λ x t key h u has. absurd cc; covers = λ key k. absurd cc }
      go (Some s) e =
          let end = ending input well lawful s (among_get input.stores place s e) in
          sharing_boots s end.begins.shapes end.begins.ids end.begins.apart

  -- ---- each cut is come to, reshaping by reshaping

  pub record Reached (n : Cut) : Type 0 where
    pub rows : List RegionState
    pub table : IsTable input place n rows
    pub shares : Shares n

  module _ (m : Cut) (cut_m : IsCut input place m) where
    told : Telling
    told a nth = leb 1 nth && leb nth (m a)

    told_is : (a nth : ℕ) → 1 ≤ nth → nth ≤ m a → told a nth ≡ true
    unfolding told
    told_is a nth from upto = and_from (leb 1 nth) (leb nth (m a)) (le-leb 1 nth from) (le-leb nth (m a) upto)

    is_told : (a nth : ℕ) → told a nth ≡ true → (1 ≤ nth) × (nth ≤ m a)
    unfolding told
    is_told a nth h = let w = and_parts (leb 1 nth) (leb nth (m a)) h in (leb-true 1 nth w.0, leb-true nth (m a) w.1)

    known : AreKnown input place told
    known a nth h = go (is_on input place a) refl where
      w : (1 ≤ nth) × (nth ≤ m a)
      w = is_told a nth h

      go : (b : Bool) → is_on input place a ≡ b → is_known input place a nth ≡ true
      go false e = absurd (let z = cut_m.here a e in let x = w.0 in let y = w.1 in omega (arith, x, y, z))
      go true e =
          let len = cut_m.within a in let y = w.1 in
          and_from (is_on input place a) (leb 1 nth && leb nth (length (reshapings_of input a))) e
          (and_from (leb 1 nth) (leb nth (length (reshapings_of input a))) (le-leb 1 nth w.0) (le-leb nth (length (reshapings_of input a)) (omega (arith, y, len))))

    -- how much is left
    gap : Cut → ℕ → ℕ
    gap n zero = 0
    gap n (suc k) = gap n k + (m k - n k)

    gap_same : (n : Cut) (a k : ℕ) → k ≤ a → gap (raised n a) k ≡ gap n k
    unfolding gap
    gap_same n a zero h = refl
    gap_same n a (suc k) h =
        let e : raised n a k ≡ n k = raised_other n a k (λ q. omega (arith, q, h)) in
        ap (λ z. z + (m k - raised n a k)) (gap_same n a k (omega arith)) ∙ ap (λ z. gap n k + (m k - z)) e

    gap_falls : (n : Cut) (a k : ℕ) → a < k → n a < m a → gap (raised n a) k < gap n k
    unfolding gap
    gap_falls n a zero h more = absurd (omega arith)
    gap_falls n a (suc k) h more = elim (cases_eq a k) [
      | inl e ↦
          (let s = gap_same n a k (omega (arith, e)) in
          let x : raised n a k ≡ n k + 1 = subst (λ z. raised n a z ≡ n z + 1) e (raised_same n a) in
          let y : n k < m k = subst (λ z. n z < m z) e more in
          omega (arith, s, x, y))
      | inr ne ↦
          (let s = gap_falls n a k (omega (arith, ne, h)) more in
          let x : raised n a k ≡ n k = raised_other n a k (λ q. ne (sym q)) in
          omega (arith, s, x))
    ]

    search_one : (n : Cut) (k : ℕ) → ((a : ℕ) → a < k → may_grow input told n a ≡ false) ⊎ ((a : ℕ) × (may_grow input told n a ≡ true))
    search_one n zero = inl (λ a lt. absurd (omega arith))
    search_one n (suc k) = go (may_grow input told n k) refl (search_one n k) where
      go : (b : Bool) → may_grow input told n k ≡ b → ((a : ℕ) → a < k → may_grow input told n a ≡ false) ⊎ ((a : ℕ) × (may_grow input told n a ≡ true))
          → ((a : ℕ) → a < suc k → may_grow input told n a ≡ false) ⊎ ((a : ℕ) × (may_grow input told n a ≡ true))
      go true e rest = inr (k, e)
      go false e (inr w) = inr w
      go false e (inl f) = inl (λ a lt. elim (cases_eq a k) [ inl q ↦ ap (may_grow input told n) q ∙ e | inr ne ↦ f a (omega (arith, lt, ne)) ])

    come : (fuel : ℕ) (n : Cut) → IsCut input place n → IsIn n m → Reached n → gap n (count_of input) < fuel → Reached m
    come zero n cut below at small = absurd (omega arith)
    come (suc fuel) n cut below at small = elim (search_one n (count_of input)) [
      | inl none ↦
          (let stuck : (a : ℕ) → may_grow input told n a ≡ false = λ a. still none a (is_on input place a) refl in
          let g = is_greatest input well lawful place told n cut (λ a nth from upto. told_is a nth from (let b = below a in omega (arith, upto, b))) stuck in
          let back = g.greatest m cut_m (λ a nth from upto. told_is a nth from upto) in
          let same : n ≡ m = fun_ext (λ a. let x = below a in let y = back a in omega (arith, x, y)) in
          subst (λ (z : Cut). Reached z) same at)
      | inr w ↦
          (let a = w.0 in
          let next = is_next input place told n a w.1 known cut in
          let le = (is_told a (n a + 1) (told_next input place told n a w.1)).1 in
          let lt = on_below input place a next.on in
          let fall = gap_falls n a (count_of input) lt (omega (arith, le)) in
          come fuel (raised n a) (cut_more input place n a next)
          (λ x. elim (raised_cases n a x) [ inl p ↦ (let e = p.1 in let f : n x ≡ n a = ap n p.0 in let g : m x ≡ m a = ap m p.0 in omega (arith, e, f, g, le)) | inr p ↦ (let e = p.1 in let b = below x in omega (arith, e, b)) ])
          (record { rows = _; table = moved_table input well lawful place n a at.rows next at.table; shares = step_shares input well lawful place n a at.rows next at.table at.shares })
          (omega (arith, fall, small)))
    ]
      where
        still : ((a : ℕ) → a < count_of input → may_grow input told n a ≡ false) → (a : ℕ) (b : Bool) → is_on input place a ≡ b → may_grow input told n a ≡ false
        still none a true e = none a (on_below input place a e)
        still none a false e = sym (off_stuck input place told n a known e)

    pub reached : Reached m
    reached =
        come (suc (gap nothing_covered (count_of input))) nothing_covered (nothing_cut input place) (λ a. omega arith)
        (record { rows = opening_rows input place; table = opens input well lawful place; shares = open_shares }) (omega arith)

  -- ---- of a table

  module _ (n : Cut) (rows : List RegionState) (cut : IsCut input place n) (table : IsTable input place n rows) where
    shares : Shares n
    shares = (reached n cut).shares

    row_here : (s : RegionState) → IsAmong s rows → row_of input place n s.region ≡ Some s
    row_here s i = sym (table.states s.region) ∙ ups_find rows (ups_of rows table.rise) s i

    covers : (key : List ℕ) → is_held rows key ≡ is_boot_key input place key
    covers key = go (is_held rows key) refl (is_boot_key input place key) refl where
      go : (x : Bool) → is_held rows key ≡ x → (y : Bool) → is_boot_key input place key ≡ y → is_held rows key ≡ is_boot_key input place key
      go true e true f = e ∙ sym f
      go false e false f = e ∙ sym f
      go true e false f = absurd (
          let w = any_there (has_key key) rows e in
          let h = and_parts (is_unmerged w.0.mode) (holds w.0.range key) w.2 in
          both_ways (is_boot_key input place key) f (shares.held w.0.region w.0 key (row_here w.0 w.1) h.0 h.1))
      go false e true f = absurd (
          let c = shares.covers key f in
          let i = among_find (λ z. z.region == c.id) rows c.s (table.states c.id ∙ c.here) in
          both_ways (is_held rows key) e (there_any (has_key key) rows c.s i.0 (and_from (is_unmerged c.s.mode) (holds c.s.range key) c.unmerged c.has)))

    pub whole : AreWhole input place rows
    whole = record {
      apart = λ s t i j ne us ut. shares.apart s.region t.region s t ne (row_here s i) (row_here t j) us ut;
      covers = covers;
    }

    pub owned : (s : RegionState) (key : List ℕ) → IsAmong s rows → is_live s.mode ≡ true → holds s.range key ≡ true → owner rows key ≡ Some s.region
    owned s key i live has =
        let w = find_some (owns key) s rows i (and_from (is_live s.mode) (holds s.range key) live has) in
        let p = among_find (owns key) rows w.0 w.1 in
        let h = and_parts (is_live w.0.mode) (holds w.0.range key) p.1 in
        let same : w.0.region ≡ s.region = elim (cases_eq w.0.region s.region) [
          | inl e ↦ e
          | inr ne ↦ absurd (whole.apart w.0 s p.0 i ne (live_unmerged w.0.mode h.0) (live_unmerged s.mode live) key h.1 has)
        ] in
        ap owner_id w.1 ∙ ap Some same

-- where each row is the final one, the tables are
finals : (input : Input) (place : ℕ) (n : Cut) → ((a : ℕ) → is_on input place a ≡ true → row_at input place n a ≡ final_state input a) → (k : ℕ) → rows_below input place n k ≡ finals_below input place k
finals input place n same zero = refl
finals input place n same (suc a) =
    ap (λ xs. xs ++ piece (row_at input place n a)) (finals input place n same a)
    ∙ ap (λ ys. finals_below input place a ++ ys) (go (is_on input place a) refl)
  where
    piece : Option RegionState → List RegionState
    piece o = cond (is_on input place a) (option_to_list o) []

    go : (b : Bool) → is_on input place a ≡ b → piece (row_at input place n a) ≡ piece (final_state input a)
    go true e = ap piece (same a e)
    go false e = ap (λ b. cond b (option_to_list (row_at input place n a)) []) e ∙ sym (ap (λ b. cond b (option_to_list (final_state input a)) []) e)

pub cut_laws : (input : Input) (place : ℕ) → WellFormed input → check input ≡ None → TableLaws input place
cut_laws input place well lawful = record {
  tables = λ n cut. is_table input well lawful place n;
  unique = λ n rows cut table. table_is input well lawful place n rows table;
  whole = λ n rows cut table. whole input well lawful place n rows cut table;
  owned = λ n rows s key cut table i live has. owned input well lawful place n rows cut table s key i live has;
  found = λ n rows a table on. table.states (region_of input a) ∙ ap (row_by input place n) (found_by input well place a on);
  ends = λ n rows cut full table. table_is input well lawful place n rows table ∙ finals input place n (λ a on. full_row input well lawful place n cut full a on) (count_of input);
  full = λ n a cut full on. full_row input well lawful place n cut full a on;
}
