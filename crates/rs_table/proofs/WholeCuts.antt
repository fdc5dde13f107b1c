-- All reshapings of a store are a cut, and a cut that none can follow covers them.
use Rattle.std.proofs.Common.{◌≡◌, ℕ, ◌+◌, ◌<◌, ◌≤◌, Bool, true, false, cond, List, [], ◌∷◌, length, filter, get_or, refl, ap, sym, ◌∙◌, arith, inl, inr, Option, Some, None}
use Rattle.std.specs.Prelude.{◌&&◌, leb, ltb, if◌then◌else◌, position, slice_get}
use Rattle.std.specs.Option.{option_map}
use Rattle.std.proofs.lemmas.Bool.{and_from, and_parts, both_ways, cases_eq, eqb-true, le-leb, lt-leb, leb-true, lt-ltb, ltb-true}
use Rattle.std.proofs.lemmas.List.Quantifiers.{position-Some}
use Rattle.std.proofs.lemmas.Option.{slice_get-get_or}
use Rattle.rs_entry.specs.WellFormed.{WellFormed}
use Rattle.rs_entry.specs.declared.input.Input.{Input}
use Rattle.rs_check.specs.declared.plan.Maker.{Maker}
use Rattle.rs_check.specs.declared.plan.Maker.TheVariants as makers
use Rattle.rs_check.specs.declared.rows.Row.{Row}
use Rattle.rs_check.specs.Laws.{check}
use Rattle.rs_check.specs.Plans.{address_in, address_of, is_at, maker_of, reshapings_of, rows_of}
use Rattle.rs_check.specs.Values.{count_of, reshaped_by}
use Rattle.rs_check.proofs.PlanLaws.{position_within}
use Rattle.rs_table.specs.Cuts.{AllTold, AreKnown, Cut, IsCut, IsFull, IsGreatest, IsIn, Telling, at_index, beside, birth_in, birth_of, covers, entry_of_nth, is_known, is_on, merge_by, prepare_by, prepare_of}
use Rattle.rs_table.specs.Moves.{IsNext, raised}
use Rattle.rs_table.specs.Tellings.{can_follow, has_needs, may_grow}
use Rattle.rs_table.proofs.Addressing.{on_beside}
use Rattle.rs_table.proofs.Between.{laws, part_there}
use Rattle.rs_table.proofs.Births.{child}
use Rattle.rs_table.proofs.Cutting.{is_next, known_next, raised_in, raised_other, raised_same}
use Rattle.rs_table.proofs.Greatest.{birth_unfold, is_greatest}
use Rattle.rs_table.proofs.NeedLists.{on_below}

-- ---- what can follow

pub follows_next : (input : Input) (place : ℕ) (n : Cut) (a : ℕ) → IsCut input place n → can_follow input place n a ≡ true → IsNext input place n a
follows_next input place n a cut h =
    let on = and_parts (is_on input place a) (ltb (n a) (length (reshapings_of input a)) && has_needs input n a (n a + 1)) h in
    let more = and_parts (ltb (n a) (length (reshapings_of input a))) (has_needs input n a (n a + 1)) on.1 in
    let needs = and_parts (covers n (birth_of input a)) (covers n (prepare_of input a (n a + 1))) more.1 in
    record { cut = cut; on = on.0; more = ltb-true (n a) (length (reshapings_of input a)) more.0; birth = needs.0; prepare = needs.1 }

pub next_follows : (input : Input) (place : ℕ) (n : Cut) (a : ℕ) → IsNext input place n a → can_follow input place n a ≡ true
next_follows input place n a next =
    and_from (is_on input place a) (ltb (n a) (length (reshapings_of input a)) && has_needs input n a (n a + 1)) next.on
    (and_from (ltb (n a) (length (reshapings_of input a))) (has_needs input n a (n a + 1)) (lt-ltb (n a) (length (reshapings_of input a)) next.more)
    (and_from (covers n (birth_of input a)) (covers n (prepare_of input a (n a + 1))) next.birth next.prepare))

-- what was told of an address that nothing can follow at doesn't let the cut grow there
pub cannot_grow : (input : Input) (place : ℕ) (told : Telling) (n : Cut) (a : ℕ) → AreKnown input place told → can_follow input place n a ≡ false → may_grow input told n a ≡ false
cannot_grow input place told n a known stuck = go (may_grow input told n a) refl where
  go : (b : Bool) → may_grow input told n a ≡ b → may_grow input told n a ≡ false
  go false e = e
  go true e =
      let k = known_next input place told n a e known in
      let needs = (and_parts (told a (n a + 1)) (has_needs input n a (n a + 1)) e).1 in
      absurd (both_ways (can_follow input place n a) stuck
      (and_from (is_on input place a) (ltb (n a) (length (reshapings_of input a)) && has_needs input n a (n a + 1)) k.0
      (and_from (ltb (n a) (length (reshapings_of input a))) (has_needs input n a (n a + 1)) (lt-ltb (n a) (length (reshapings_of input a)) k.1) needs)))

-- beyond the addresses nothing can
pub none_beyond : (input : Input) (place : ℕ) (n : Cut) (a : ℕ) → count_of input ≤ a → can_follow input place n a ≡ false
none_beyond input place n a far = go (is_on input place a) refl where
  go : (b : Bool) → is_on input place a ≡ b → can_follow input place n a ≡ false
  go true e = absurd (let l = on_below input place a e in omega (arith, l, far))
  go false e = ap (λ b. b && (ltb (n a) (length (reshapings_of input a)) && has_needs input n a (n a + 1))) e

-- ---- all of them

filter_few : (index : ℕ) (xs : List ℕ) → length (filter (λ i. leb i index) xs) ≤ length xs
filter_few index [] = omega arith
filter_few index (x ∷ xs) = go (leb x index) (filter_few index xs) where
  go : (b : Bool) → length (filter (λ i. leb i index) xs) ≤ length xs → length (cond b (x ∷ filter (λ i. leb i index) xs) (filter (λ i. leb i index) xs)) ≤ length (x ∷ xs)
  go true h = omega (arith, h)
  go false h = omega (arith, h)

module _ (input : Input) (well : WellFormed input) (lawful : check input ≡ None) (place : ℕ) where
  -- all reshapings of the store's addresses
  abbrev pub whole_cut : Cut
  whole_cut a = if is_on input place a then length (reshapings_of input a) else 0

  pub all_there : (a : ℕ) → is_on input place a ≡ true → whole_cut a ≡ length (reshapings_of input a)
  all_there a on = ap (λ b. cond b (length (reshapings_of input a)) 0) on

  covered : (a index : ℕ) → is_on input place a ≡ true → covers whole_cut (Some (at_index input index a)) ≡ true
  covered a index on =
      let all = all_there a on in
      let few = filter_few index (reshapings_of input a) in
      le-leb (reshaped_by input a index) (whole_cut a) (omega (arith, all, few))

  has_one : (a : ℕ) → 1 ≤ whole_cut a → is_on input place a ≡ true
  has_one a = go (is_on input place a) refl where
    go : (b : Bool) → is_on input place a ≡ b → 1 ≤ cond b (length (reshapings_of input a)) 0 → is_on input place a ≡ true
    go true e h = e
    go false e h = absurd (omega (arith, h))

  born : (a : ℕ) → is_on input place a ≡ true → covers whole_cut (birth_of input a) ≡ true
  born a on = go (maker_of input a) refl where
    below : a < count_of input
    below = on_below input place a on

    go : (m : Maker) → maker_of input a ≡ m → covers whole_cut (birth_of input a) ≡ true
    go makers.Boot e = ap (covers whole_cut) (birth_unfold input a ∙ ap (birth_in input) e)
    go (makers.Split p index) e =
        let w = part_there input well lawful a below 5 (omega arith) ((laws input well lawful).starts a below) in
        let c = child input well lawful a below p index w.0 e w.1 in
        ap (covers whole_cut) (birth_unfold input a ∙ ap (birth_in input) e) ∙ covered p index (on_beside input place a p on c.below c.same)

  found_store : (rows : List Row) (store region b : ℕ) → rows ≡ rows_of input → position (is_at store region) rows ≡ Some b → (address_of input b).0 ≡ store
  found_store [] store region b r e = absurd (let w = position_within (is_at store region) [] b e in omega (arith, w))
  found_store (x ∷ xs) store region b r e =
      let w = position-Some (is_at store region) (x ∷ xs) b x e in
      let row : slice_get (x ∷ xs) b ≡ Some (get_or (x ∷ xs) b x) = slice_get-get_or (x ∷ xs) b x w.0 in
      ap (λ o. (address_in o).0) (ap (λ l. slice_get l b) (sym r) ∙ row) ∙ eqb-true (get_or (x ∷ xs) b x).store store (and_parts _ _ w.1).0

  prepared : (a nth : ℕ) → is_on input place a ≡ true → covers whole_cut (prepare_of input a nth) ≡ true
  unfolding prepare_of
  prepared a nth on = go (merge_by (entry_of_nth input a nth)) where
    source : (o : Option ℕ) (commit : ℕ) → ((b : ℕ) → o ≡ Some b → is_on input place b ≡ true) → covers whole_cut (option_map (at_index input commit) o) ≡ true
    source None commit h = refl
    source (Some b) commit h = covered b commit (h b refl)

    go : (m : Option (ℕ × ℕ)) → covers whole_cut (prepare_by input a m) ≡ true
    go None = refl
    go (Some m) = source (beside input a m.0) m.1 (λ b e.
        on_beside input place a b on (position_within (is_at (address_of input a).0 m.0) (rows_of input) b e) (found_store (rows_of input) (address_of input a).0 m.0 b refl e))

  pub whole_is_cut : IsCut input place whole_cut
  whole_is_cut = record {
    here = λ a off. ap (λ b. cond b (length (reshapings_of input a)) 0) off;
    within = λ a. go (is_on input place a) (length (reshapings_of input a));
    born = λ a one. born a (has_one a one);
    prepared = λ a nth one le. prepared a nth (has_one a (omega (arith, one, le)));
  }
    where
      go : (b : Bool) (n : ℕ) → cond b n 0 ≤ n
      go true n = omega arith
      go false n = omega arith

  -- a cut that no reshaping can follow covers them all
  pub stuck_is_full : (n : Cut) → IsCut input place n → ((a : ℕ) → can_follow input place n a ≡ false) → IsFull input place n
  stuck_is_full n cut stuck a on =
      let up = great.greatest whole_cut whole_is_cut (λ b nth one le. known b nth (has_one b (omega (arith, one, le))) one (let e = all_there b (has_one b (omega (arith, one, le))) in omega (arith, e, le))) a in
      let within = cut.within a in
      let all = all_there a on in
      omega (arith, up, within, all)
    where
      known : (b nth : ℕ) → is_on input place b ≡ true → 1 ≤ nth → nth ≤ length (reshapings_of input b) → is_known input place b nth ≡ true
      known b nth here one le =
          and_from (is_on input place b) (leb 1 nth && leb nth (length (reshapings_of input b))) here
          (and_from (leb 1 nth) (leb nth (length (reshapings_of input b))) (le-leb 1 nth one) (le-leb nth (length (reshapings_of input b)) le))

      on_one : (b nth : ℕ) → 1 ≤ nth → nth ≤ n b → is_on input place b ≡ true
      on_one b nth one le = go (is_on input place b) refl where
        go : (x : Bool) → is_on input place b ≡ x → is_on input place b ≡ true
        go true e = e
        go false e = absurd (let z = cut.here b e in omega (arith, z, one, le))

      great : IsGreatest input place (is_known input place) n
      great = is_greatest input well lawful place (is_known input place) n cut
          (λ b nth one le. known b nth (on_one b nth one le) one (let w = cut.within b in omega (arith, w, le)))
          (λ b. cannot_grow input place (is_known input place) n b (λ c nth e. e) (stuck b))

  -- one reshaping more makes a cut only where it may follow: else the smaller cut would be the greatest of what the greater one covers
  pub grown_is_next : (n : Cut) (a : ℕ) → IsCut input place n → IsCut input place (raised n a) → IsNext input place n a
  grown_is_next n a cut more = by (may_grow input told n a) refl where
    told : Telling
    told b nth = leb 1 nth && leb nth (raised n a b)

    tells : (m : Cut) → IsIn m (raised n a) → AllTold told m
    tells m within b nth one le = let w = within b in and_from (leb 1 nth) (leb nth (raised n a b)) (le-leb 1 nth one) (le-leb nth (raised n a b) (omega (arith, w, le)))

    on : is_on input place a ≡ true
    on = go (is_on input place a) refl where
      go : (b : Bool) → is_on input place a ≡ b → is_on input place a ≡ true
      go true e = e
      go false e = absurd (let z = more.here a e in let r = raised_same n a in omega (arith, z, r))

    known : AreKnown input place told
    known b nth e =
        let t = and_parts (leb 1 nth) (leb nth (raised n a b)) e in
        let one = leb-true 1 nth t.0 in
        let le = leb-true nth (raised n a b) t.1 in
        let w = more.within b in
        and_from (is_on input place b) (leb 1 nth && leb nth (length (reshapings_of input b))) (here b nth one le)
        (and_from (leb 1 nth) (leb nth (length (reshapings_of input b))) t.0 (le-leb nth (length (reshapings_of input b)) (omega (arith, w, le))))
      where
        here : (b nth : ℕ) → 1 ≤ nth → nth ≤ raised n a b → is_on input place b ≡ true
        here b nth one le = go (is_on input place b) refl where
          go : (x : Bool) → is_on input place b ≡ x → is_on input place b ≡ true
          go true e = e
          go false e = absurd (let z = more.here b e in omega (arith, z, one, le))

    others : (b : ℕ) → (b ≡ a → ⊥) → may_grow input told n b ≡ false
    others b ne =
        let same = raised_other n a b ne in
        let late : leb (n b + 1) (raised n a b) ≡ false = lt-leb (n b + 1) (raised n a b) (omega (arith, same)) in
        ap (λ x. (leb 1 (n b + 1) && x) && has_needs input n b (n b + 1)) late ∙ none (leb 1 (n b + 1)) (has_needs input n b (n b + 1))
      where
        none : (x y : Bool) → ((x && false) && y) ≡ false
        none true y = refl
        none false y = refl

    by : (x : Bool) → may_grow input told n a ≡ x → IsNext input place n a
    by true e = is_next input place told n a e known cut
    by false e = absurd
        (let g = is_greatest input well lawful place told n cut (tells n (raised_in n a)) (λ b. elim (cases_eq b a) [ inl same ↦ ap (may_grow input told n) same ∙ e | inr ne ↦ others b ne ]) in
        let up = g.greatest (raised n a) more (tells (raised n a) (λ b. omega arith)) a in
        let r = raised_same n a in
        omega (arith, up, r))
