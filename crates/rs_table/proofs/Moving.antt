-- What one reshaping more does to the rows of a cut.
use Rattle.std.proofs.Common.{◌≡◌, ℕ, ◌+◌, ◌<◌, Bool, true, false, length, Option, Some, None, refl, ap, sym, ◌∙◌, arith, subst, inl, inr}
use Rattle.std.specs.Prelude.{◌||◌}
use Rattle.std.specs.Option.{option_map}
use Rattle.std.proofs.lemmas.Bool.{both_ways, cases_lt, leb-true}
use Rattle.rs_entry.specs.WellFormed.{WellFormed}
use Rattle.rs_entry.specs.declared.input.Input.{Input}
use Rattle.rs_region.specs.Reshapings.{merged_into}
use Rattle.rs_part.specs.Parts.{Part}
use Rattle.rs_part.specs.Scripts.{accepted, after_by}
use Rattle.rs_check.specs.declared.plan.Maker.{Maker}
use Rattle.rs_check.specs.declared.plan.Maker.TheVariants as makers
use Rattle.rs_check.specs.Laws.{check}
use Rattle.rs_check.specs.Plans.{address_of, maker_of, reshapings_of}
use Rattle.rs_check.specs.Values.{count_of, part_at, part_on, region_of, reshaped_by}
use Rattle.rs_table.specs.Cuts.{Cut, IsCut, Reshaping, birth_in, birth_of, covers, entry_of_nth, index_after, is_on}
use Rattle.rs_table.specs.Moves.{IsNext, raised}
use Rattle.rs_table.specs.Rows.{commits, is_removal, is_removed, marked, marked_part, removes, row_at, row_if, some_of, taker}
use Rattle.rs_table.proofs.Between.{Base, Reshaped, base, laws, part_there, reshaped, zero_index}
use Rattle.rs_table.proofs.Births.{Child, Made_by, child}
use Rattle.rs_table.proofs.CutRows.{gone, not_begun, not_removed, not_taken, removed_is, row_is, row_unfold, some_next, some_there, some_taker, taken, taker_same, taker_some}
use Rattle.rs_table.proofs.Cutting.{covers_more, cut_more, raised_cases, raised_in, raised_other, raised_same}
use Rattle.rs_table.proofs.Greatest.{birth_unfold}
use Rattle.rs_table.proofs.NeedLists.{on_below}

module _ (input : Input) (well : WellFormed input) (lawful : check input ≡ None) (place : ℕ) (n : Cut) (a : ℕ) (next : IsNext input place n a) where
  pub below : a < count_of input
  below = on_below input place a next.on

  pub r : Reshaped input well lawful a below (n a)
  r = reshaped input well lawful a below (n a) next.more

  pub cut : IsCut input place (raised n a)
  cut = cut_more input place n a next

  -- the region is neither merged nor removed yet
  taken_not : taker input place n (region_of input a) ≡ None
  taken_not = not_taken input well lawful place n next.cut a next.on next.more

  -- a region that the cut has is there before
  born : covers n (birth_of input a) ≡ true
  born = next.birth

  pub row_before : row_at input place n a ≡ Some r.v.state
  row_before =
      let w = next.more in
      let b = base input well lawful a below (n a) (omega (arith, w)) in
      row_is input well lawful place n a below b None false born (ap (option_map (region_of input)) taken_not) (not_removed input well lawful place n next.cut a next.on next.more)
      ∙ ap Some (sym (r.state b))

  -- no commit of its own region is the reshaping
  pub not_own : commits (region_of input a) (entry_of_nth input a (n a + 1)) ≡ true → ⊥
  not_own h =
      let x = taken input well lawful place a (n a) a next.on next.on next.more h in
      let le = leb-true (length (reshapings_of input a)) (n a) (ap (covers n) (sym x.needs) ∙ next.prepare) in
      let m = next.more in
      omega (arith, le, m)

  still_not : taker input place (raised n a) (region_of input a) ≡ None
  still_not = go (taker input place (raised n a) (region_of input a)) refl where
    before : (t k : ℕ) → is_on input place t ≡ true → k < n t → commits (region_of input a) (entry_of_nth input t (k + 1)) ≡ true → ⊥
    before t k on lt h =
        let w = next.cut.within t in
        let x = taken input well lawful place t k a on next.on (omega (arith, lt, w)) h in
        let c = next.cut.prepared t (k + 1) (omega arith) (omega (arith, lt)) in
        let le = leb-true (length (reshapings_of input a)) (n a) (ap (covers n) (sym x.needs) ∙ c) in
        let m = next.more in
        omega (arith, le, m)

    go : (o : Option ℕ) → taker input place (raised n a) (region_of input a) ≡ o → taker input place (raised n a) (region_of input a) ≡ None
    go None e = e
    go (Some t) e = absurd (
        let w = taker_some input place (raised n a) (region_of input a) t e in
        let s = some_there (commits (region_of input a)) input t (raised n a t) w.1 in
        elim (raised_cases n a t) [
          | inl p ↦ elim (cases_lt s.0 (n t)) [
            | inl lt ↦ before t s.0 w.0 lt s.2
            | inr ge ↦
                (let up = p.1 in let lt = s.1 in
                let at : s.0 ≡ n t = omega (arith, up, lt, ge) in
                let same : n t ≡ n a = ap n p.0 in
                not_own (ap (λ x. commits (region_of input a) (entry_of_nth input x (n a + 1))) (sym p.0) ∙ (ap (λ x. commits (region_of input a) (entry_of_nth input t (x + 1))) (sym (at ∙ same)) ∙ s.2)))
          ]
          | inr p ↦ before t s.0 w.0 (let up = p.1 in let lt = s.1 in omega (arith, up, lt)) s.2
        ])

  -- the region after it
  pub record After : Type 0 where
    pub w : Part
    pub part : part_at input a (r.j + 1) ≡ Some w
    pub step : accepted (part_on input a) (region_of input a) (r.j + 1) r.v r.e.body ≡ Some w
    pub row : row_at input place (raised n a) a ≡ Some (marked None (is_removal (address_of input a).0 r.e.body) w.state)

  pub after : After
  after =
      let f = r.accepted.from in
      let t = r.accepted.to in
      let p = part_there input well lawful a below (r.j + 1) (omega (arith, f)) (omega (arith, t)) in
      let m = next.more in
      let b = base input well lawful a below (n a + 1) (omega (arith, m)) in
      let same : b.part ≡ p.0 = cc (b.is_part, ap (part_at input a) r.index, p.1) in
      let up = raised_same n a in
      let out : is_removed input (raised n a) a ≡ is_removal (address_of input a).0 r.e.body =
      removed_is input (raised n a) a
      ∙ (ap (some_of (removes (address_of input a).0) input a) up
      ∙ (some_next (removes (address_of input a).0) input a (n a)
      ∙ (ap (λ x. removes (address_of input a).0 x || some_of (removes (address_of input a).0) input a (n a)) r.entry
      ∙ (ap (λ x. is_removal (address_of input a).0 r.e.body || x) (sym (removed_is input n a) ∙ not_removed input well lawful place n next.cut a next.on next.more)
      ∙ or_false (is_removal (address_of input a).0 r.e.body))))) in
      record {
        w = p.0;
        part = p.1;
        step =
            ap (λ x. after_by x (part_on input a) (region_of input a) (r.j + 1) r.v r.e.body) (sym r.accepted.accepted)
            ∙ ((laws input well lawful).steps a r.j r.v r.e below r.accepted.from r.accepted.to r.accepted.part r.accepted.entry ∙ p.1);
        row =
            row_is input well lawful place (raised n a) a below (subst (Base input well lawful a below) (sym up) b) None (is_removal (address_of input a).0 r.e.body)
            (covers_more n (raised n a) (birth_of input a) (raised_in n a) born) (ap (option_map (region_of input)) still_not) out
            ∙ ap (λ (q : Part). Some (marked None (is_removal (address_of input a).0 r.e.body) q.state)) (same_part up b ∙ same);
      }
    where
      or_false : (b : Bool) → (b || false) ≡ b
      or_false true = refl
      or_false false = refl

      same_part : (e : raised n a a ≡ n a + 1) (b : Base input well lawful a below (n a + 1)) → (subst (Base input well lawful a below) (sym e) b).part ≡ b.part
      same_part e b =
          let c = subst (Base input well lawful a below) (sym e) b in
          let x : part_at input a (index_after input a (n a + 1)) ≡ Some c.part = ap (λ z. part_at input a (index_after input a z)) (sym e) ∙ c.is_part in
          cc (x, b.is_part)

  -- ---- the others

  -- a region that is born by the reshaping
  newly : (b : ℕ) → covers n (birth_of input b) ≡ false → covers (raised n a) (birth_of input b) ≡ true → birth_of input b ≡ Some (a, n a + 1)
  newly b was now = go (birth_of input b) was now where
    go : (o : Option Reshaping) → covers n o ≡ false → covers (raised n a) o ≡ true → o ≡ Some (a, n a + 1)
    go None was now = absurd cc
    go (Some x) was now =
        let le = leb-true x.1 (raised n a x.0) now in
        let gt : n x.0 < x.1 = grind (arith, was) in
        elim (raised_cases n a x.0) [
          | inl p ↦
              (let e = p.1 in
              let f : n x.0 ≡ n a = ap n p.0 in
              let at : x.1 ≡ n a + 1 = omega (arith, le, gt, e, f) in
              ap (λ (z : ℕ). let q : ℕ × ℕ = (z, x.1) in Some q) p.0 ∙ ap (λ (z : ℕ). let q : ℕ × ℕ = (a, z) in Some q) at)
          | inr p ↦ absurd (let e = p.1 in omega (arith, le, gt, e))
        ]

  -- it is a child of the split
  pub record Newborn (b : ℕ) : Type 0 where
    pub w : Part
    pub part : part_at input b 5 ≡ Some w
    pub made : Made_by (region_of input b) r.v r.e w.state

  pub newborn : (b : ℕ) → is_on input place b ≡ true → covers n (birth_of input b) ≡ false → covers (raised n a) (birth_of input b) ≡ true → Newborn b
  newborn b on was now = go (maker_of input b) refl where
    birth : birth_of input b ≡ Some (a, n a + 1)
    birth = newly b was now

    go : (m : Maker) → maker_of input b ≡ m → Newborn b
    go makers.Boot e = absurd (let x : birth_of input b ≡ None = birth_unfold input b ∙ ap (birth_in input) e in cc (birth, x))
    go (makers.Split p index) e =
        let is : birth_of input b ≡ Some (p, reshaped_by input p index) = birth_unfold input b ∙ ap (birth_in input) e in
        let pair : Some (p, reshaped_by input p index) ≡ Some (a, n a + 1) = sym is ∙ birth in
        let one : p ≡ a = ap (λ (o : Option Reshaping). first o) pair in
        let num : reshaped_by input p index ≡ n a + 1 = ap (λ (o : Option Reshaping). second o) pair in
        let below_b = on_below input place b on in
        let w = part_there input well lawful b below_b 5 (omega arith) ((laws input well lawful).starts b below_b) in
        let c = child input well lawful b below_b p index w.0 e w.1 in
        at_parent p one c (ap (reshaped_by input p) (sym c.at) ∙ c.reshaping.number) num
      where
        first : Option Reshaping → ℕ
        first None = 0
        first (Some x) = x.0

        second : Option Reshaping → ℕ
        second None = 0
        second (Some x) = x.1

        at_parent : (p : ℕ) → p ≡ a → {index : ℕ} → (c : Child input well lawful b p index) → reshaped_by input p index ≡ c.k + 1 → reshaped_by input p index ≡ n a + 1 → Newborn b
        at_parent p one c num is =
            let k : c.k ≡ n a = omega (arith, num, is) in
            let j : c.reshaping.j ≡ r.j = (let x = c.reshaping.index in let y = r.index in
            let z : index_after input p (c.k + 1) ≡ index_after input a (n a + 1) = ap (λ q. index_after input q (c.k + 1)) one ∙ ap (λ q. index_after input a (q + 1)) k in omega (arith, x, y, z)) in
            let v : c.reshaping.v ≡ r.v = cc (c.reshaping.accepted.part, r.accepted.part, ap (λ q. part_at input q c.reshaping.j) one, ap (part_at input a) j) in
            let e : c.reshaping.e ≡ r.e = cc (c.reshaping.entry, r.entry, ap (λ q. entry_of_nth input q (c.k + 1)) one, ap (λ q. entry_of_nth input a (q + 1)) k) in
            record { w = c.w; part = c.part; made = subst (λ x. Made_by (region_of input b) x r.e c.w.state) v (subst (λ x. Made_by (region_of input b) c.reshaping.v x c.w.state) e c.made) }

  -- whose row is its first state
  pub born_row : (b : ℕ) (p : Part) → is_on input place b ≡ true → covers n (birth_of input b) ≡ false → covers (raised n a) (birth_of input b) ≡ true → part_at input b 5 ≡ Some p → (b ≡ a → ⊥)
      → row_at input place (raised n a) b ≡ Some p.state
  born_row b p on was now part ne =
      let below_b = on_below input place b on in
      let same = raised_other n a b ne in
      let zero_b : n b ≡ 0 = elim (cases_lt 0 (n b)) [ inl pos ↦ absurd (both_ways (covers n (birth_of input b)) was (next.cut.born b pos)) | inr z ↦ omega (arith, z) ] in
      let none : raised n a b ≡ 0 = same ∙ zero_b in
      let bs = base input well lawful b below_b 0 (omega arith) in
      let out : is_removed input (raised n a) b ≡ false = removed_is input (raised n a) b ∙ ap (some_of (removes (address_of input b).0) input b) none in
      let first : index_after input b 0 ≡ 5 = zero_index input well lawful b below_b in
      let one : bs.part ≡ p = cc (bs.is_part, ap (part_at input b) first, part) in
      row_is input well lawful place (raised n a) b below_b (subst (Base input well lawful b below_b) (sym none) bs) None false now
      (ap (option_map (region_of input)) (not_begun input well lawful place (raised n a) cut b on none)) out
      ∙ ap (λ (q : Part). Some q.state) (same_part b below_b none bs ∙ one)
    where
      same_part : (b : ℕ) (below_b : b < count_of input) (e : raised n a b ≡ 0) (bs : Base input well lawful b below_b 0) → (subst (Base input well lawful b below_b) (sym e) bs).part ≡ bs.part
      same_part b below_b e bs =
          let c = subst (Base input well lawful b below_b) (sym e) bs in
          let x : part_at input b (index_after input b 0) ≡ Some c.part = ap (λ z. part_at input b (index_after input b z)) (sym e) ∙ c.is_part in
          cc (x, bs.is_part)

  -- a region that isn't merged by the reshaping keeps its taker
  taker_stays : (region : ℕ) → commits region (entry_of_nth input a (n a + 1)) ≡ false → taker input place (raised n a) region ≡ taker input place n region
  taker_stays region h = taker_same input place (raised n a) n region (λ t on. elim (raised_cases n a t) [
    | inl p ↦
        (let f : n t ≡ n a = ap n p.0 in
        ap (some_of (commits region) input t) p.1
        ∙ (some_next (commits region) input t (n t)
        ∙ ap (λ x. x || some_of (commits region) input t (n t)) (ap (λ x. commits region (entry_of_nth input x (n t + 1))) p.0 ∙ (ap (λ x. commits region (entry_of_nth input a (x + 1))) f ∙ h))))
    | inr p ↦ ap (some_of (commits region) input t) p.1
  ])

  -- another region that was there, or still isn't, stays
  pub stays : (b : ℕ) → is_on input place b ≡ true → (b ≡ a → ⊥) → covers (raised n a) (birth_of input b) ≡ covers n (birth_of input b) → commits (region_of input b) (entry_of_nth input a (n a + 1)) ≡ false
      → row_at input place (raised n a) b ≡ row_at input place n b
  stays b on ne same h =
      let eq = raised_other n a b ne in
      row_unfold input place (raised n a) b
      ∙ (ap (λ x. row_if x input place (raised n a) b) same
      ∙ (inner (covers n (birth_of input b)) eq (taker_stays (region_of input b) h)
      ∙ sym (row_unfold input place n b)))
    where
      inner : (x : Bool) → raised n a b ≡ n b → taker input place (raised n a) (region_of input b) ≡ taker input place n (region_of input b) → row_if x input place (raised n a) b ≡ row_if x input place n b
      inner false eq t = refl
      inner true eq t =
          let out : is_removed input (raised n a) b ≡ is_removed input n b = removed_is input (raised n a) b ∙ (ap (some_of (removes (address_of input b).0) input b) eq ∙ sym (removed_is input n b)) in
          ap (λ x. marked_part (option_map (region_of input) x) (is_removed input (raised n a) b) (part_at input b (index_after input b (raised n a b)))) t
          ∙ (ap (λ x. marked_part (option_map (region_of input) (taker input place n (region_of input b))) x (part_at input b (index_after input b (raised n a b)))) out
          ∙ ap (λ x. marked_part (option_map (region_of input) (taker input place n (region_of input b))) (is_removed input n b) (part_at input b (index_after input b x))) eq)

  -- the source of a commit is merged
  pub merged_row : (b : ℕ) (on : is_on input place b ≡ true) → covers (raised n a) (birth_of input b) ≡ true → commits (region_of input b) (entry_of_nth input a (n a + 1)) ≡ true
      → (bs : Base input well lawful b (on_below input place b on) (raised n a b)) → row_at input place (raised n a) b ≡ Some (merged_into bs.part.state (region_of input a))
  merged_row b on born_b h bs =
      let up = raised_same n a in
      let some : some_of (commits (region_of input b)) input a (raised n a a) ≡ true =
      ap (some_of (commits (region_of input b)) input a) up ∙ (some_next (commits (region_of input b)) input a (n a) ∙ ap (λ x. x || some_of (commits (region_of input b)) input a (n a)) h) in
      let t = some_taker input place (raised n a) (region_of input b) a next.on some in
      let g = gone input well lawful place (raised n a) cut b t.0 on t.1 in
      let x = taken input well lawful place a (n a) b next.on on next.more h in
      let region : region_of input t.0 ≡ region_of input a = cc (g.ends, x.ends) in
      row_is input well lawful place (raised n a) b (on_below input place b on) bs (Some (region_of input a)) (is_removed input (raised n a) b) born_b
      (ap (option_map (region_of input)) t.1 ∙ ap Some region) refl
