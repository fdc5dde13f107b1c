-- A region's state from one reshaping to the next, and what a reshaping is.
use Rattle.std.proofs.Common.{◌≡◌, ℕ, zero, suc, ◌+◌, ◌-◌, ◌≤◌, ◌<◌, Bool, true, false, cond, length, Option, Some, None, refl, ap, sym, ◌∙◌, arith, subst}
use Rattle.std.specs.Prelude.{◌&&◌}
use Rattle.std.proofs.lemmas.Bool.{and_parts}
use Rattle.rs_entry.specs.WellFormed.{WellFormed}
use Rattle.rs_entry.specs.declared.entry.Body.{Body}
use Rattle.rs_entry.specs.declared.entry.Body.TheVariants as body
use Rattle.rs_entry.specs.declared.entry.Entry.{Entry}
use Rattle.rs_entry.specs.declared.input.Input.{Input}
use Rattle.rs_region.specs.Verdicts.{verdict}
use Rattle.rs_region.specs.declared.state.RegionState.{RegionState}
use Rattle.rs_region.specs.declared.verdict.Verdict.{Verdict}
use Rattle.rs_region.specs.declared.verdict.Verdict.TheVariants as verdicts
use Rattle.rs_store.specs.Stores.{is_accept, is_reshaping}
use Rattle.rs_part.specs.Parts.{Part}
use Rattle.rs_part.specs.Scripts.{Found, accepted, after_by}
use Rattle.rs_check.specs.Laws.{check}
use Rattle.rs_check.specs.Lawfulness.{Accepted, PlanLaws}
use Rattle.rs_check.specs.Plans.{reshapings_of, stop_of}
use Rattle.rs_check.specs.Values.{count_of, entry_at, part_at, part_on, region_of, reshaped_by}
use Rattle.rs_check.proofs.Addresses.{home}
use Rattle.rs_check.proofs.LawfulPlans.{plan_laws}
use Rattle.rs_check.proofs.PartLaws.{entry_there, reached_at}
use Rattle.rs_table.specs.Cuts.{entry_of_nth, index_after}
use Rattle.rs_table.proofs.PlanReshapings.{all_by_stop, index_there, nth_at, nth_index, number_at, number_before, numbers_grow}

pub accept_of : (v : Verdict) → is_accept v ≡ true → v ≡ verdicts.Accept
accept_of verdicts.Accept e = refl
accept_of verdicts.Empty e = absurd cc
accept_of verdicts.Stale e = absurd cc
accept_of verdicts.Merging e = absurd cc
accept_of (verdicts.Outside place) e = absurd cc
accept_of (verdicts.BadSplit place) e = absurd cc
accept_of verdicts.BadPeer e = absurd cc
accept_of verdicts.BadRollback e = absurd cc

plain : (f : Found) (id i : ℕ) (v w : Part) (b : Body) → is_reshaping b ≡ false → accepted f id i v b ≡ Some w → w.state ≡ v.state
plain f id i v w body.Empty not_so h = let e : v ≡ w = cc in ap (λ p. p.state) (sym e)
plain f id i v w (body.Write ops) not_so h = state_some h where
  state_of : Option Part → RegionState
  state_of None = v.state
  state_of (Some x) = x.state

  state_some : {x : Option Part} → x ≡ Some w → w.state ≡ state_of x
  state_some e = sym (ap state_of e)
plain f id i v w (body.Split side ids keys) not_so h = absurd cc
plain f id i v w (body.Prepare target) not_so h = absurd cc
plain f id i v w (body.Commit source commit carried) not_so h = absurd cc
plain f id i v w (body.Rollback commit) not_so h = absurd cc
plain f id i v w (body.Conf c) not_so h = absurd cc

-- an entry that reshapes nothing leaves the state
unchanged : (x : Verdict) (f : Found) (id i : ℕ) (v w : Part) (b : Body) → (is_accept x && is_reshaping b) ≡ false → after_by x f id i v b ≡ Some w → w.state ≡ v.state
unchanged verdicts.Accept f id i v w b not_so h = plain f id i v w b not_so h
unchanged verdicts.BadRollback f id i v w b not_so h = absurd cc
unchanged verdicts.Empty f id i v w b not_so h = let e : v ≡ w = cc in ap (λ p. p.state) (sym e)
unchanged verdicts.Stale f id i v w b not_so h = let e : v ≡ w = cc in ap (λ p. p.state) (sym e)
unchanged verdicts.Merging f id i v w b not_so h = let e : v ≡ w = cc in ap (λ p. p.state) (sym e)
unchanged (verdicts.Outside place) f id i v w b not_so h = let e : v ≡ w = cc in ap (λ p. p.state) (sym e)
unchanged (verdicts.BadSplit place) f id i v w b not_so h = let e : v ≡ w = cc in ap (λ p. p.state) (sym e)
unchanged verdicts.BadPeer f id i v w b not_so h = let e : v ≡ w = cc in ap (λ p. p.state) (sym e)

module _ (input : Input) (well : WellFormed input) (lawful : check input ≡ None) where
  pub laws : PlanLaws input
  laws = plan_laws input well lawful

  module _ (a : ℕ) (below : a < count_of input) where
    -- the part and the entry at an index
    pub part_there : (i : ℕ) → 5 ≤ i → i ≤ stop_of input a → (v : Part) × (part_at input a i ≡ Some v)
    part_there i five le = reached_at input well lawful a (home input well lawful a below) i five le

    pub line_there : (i : ℕ) → 5 ≤ i → i < stop_of input a → (e : Entry) × (entry_at input a (i + 1) ≡ Some e)
    line_there i five lt = entry_there input well lawful a (home input well lawful a below) i five lt

    stays : (i : ℕ) (v w : Part) → 5 ≤ i → i < stop_of input a → reshaped_by input a (i + 1) ≡ reshaped_by input a i → part_at input a i ≡ Some v → part_at input a (i + 1) ≡ Some w → w.state ≡ v.state
    stays i v w five lt same pv pw =
        let e = line_there i five lt in
        go e.0 e.1 (is_accept (verdict v.state e.0) && is_reshaping e.0.body) refl
      where
        go : (e : Entry) → entry_at input a (i + 1) ≡ Some e → (b : Bool) → (is_accept (verdict v.state e) && is_reshaping e.body) ≡ b → w.state ≡ v.state
        go e le true t =
            let r = laws.reshapes a i v e below five lt pv le in
            let one : reshaped_by input a (i + 1) ≡ reshaped_by input a i + 1 = r ∙ ap (λ b. cond b (reshaped_by input a i + 1) (reshaped_by input a i)) t in
            absurd (omega (arith, one, same))
        go e le false t = unchanged (verdict v.state e) (part_on input a) (region_of input a) (i + 1) v w e.body t (laws.steps a i v e below five lt pv le ∙ pw)

    -- between two reshapings the state stays
    pub between : (i n : ℕ) (v w : Part) → 5 ≤ i → i + n ≤ stop_of input a → reshaped_by input a (i + n) ≡ reshaped_by input a i → part_at input a i ≡ Some v → part_at input a (i + n) ≡ Some w → w.state ≡ v.state
    between i zero v w five le same pv pw =
        let z : i + 0 ≡ i = omega arith in
        let one : v ≡ w = cc (pv, pw, ap (part_at input a) z) in
        ap (λ p. p.state) (sym one)
    between i (suc n) v w five le same pv pw =
        let s : i + suc n ≡ (i + n) + 1 = omega arith in
        let u = part_there (i + n) (omega arith) (omega (arith, le)) in
        let lo = numbers_grow input a i (i + n) (omega arith) in
        let hi = numbers_grow input a (i + n) (i + suc n) (omega arith) in
        let mid : reshaped_by input a (i + n) ≡ reshaped_by input a i = omega (arith, lo, hi, same) in
        let up : reshaped_by input a ((i + n) + 1) ≡ reshaped_by input a (i + n) = ap (reshaped_by input a) (sym s) ∙ (same ∙ sym mid) in
        stays (i + n) u.0 w (omega arith) (omega (arith, le)) up u.1 (ap (part_at input a) (sym s) ∙ pw) ∙ between i n v u.0 five (omega (arith, le)) mid pv u.1

    -- the index after so many reshapings is one that the region comes to, where as many were made
    pub record Base (n : ℕ) : Type 0 where
      pub since : 5 ≤ index_after input a n
      pub upto : index_after input a n ≤ stop_of input a
      pub number : reshaped_by input a (index_after input a n) ≡ n
      pub part : Part
      pub is_part : part_at input a (index_after input a n) ≡ Some part

    base_of : (n i : ℕ) → index_after input a n ≡ i → 5 ≤ i → i ≤ stop_of input a → reshaped_by input a i ≡ n → Base n
    base_of n i is five le number =
        let p = part_there i five le in
        record {
          since = subst (λ x. 5 ≤ x) (sym is) five;
          upto = subst (λ x. x ≤ stop_of input a) (sym is) le;
          number = ap (reshaped_by input a) is ∙ number;
          part = p.0;
          is_part = ap (part_at input a) is ∙ p.1;
        }

    pub zero_index : index_after input a zero ≡ 5
    unfolding index_after
    zero_index = refl

    pub base : (n : ℕ) → n ≤ length (reshapings_of input a) → Base n
    base zero le = base_of zero 5 zero_index (omega arith) (laws.starts a below) (laws.unshaped a below)
    base (suc n) le =
        let k = nth_at input well lawful a below n (omega (arith, le)) in
        base_of (suc n) k.i (nth_index input a n k.i k.there) (let p = k.past in omega (arith, p)) k.upto (number_at input well lawful a below n k.i k.there ∙ omega arith)

    -- the state at an index is that after the reshapings up to there
    pub state_by : (n i : ℕ) (b : Base n) (w : Part) → reshaped_by input a i ≡ n → i ≤ stop_of input a → index_after input a n ≤ i → part_at input a i ≡ Some w → w.state ≡ b.part.state
    state_by n i b w is le from pw =
        let s = b.since in
        let d : index_after input a n + (i - index_after input a n) ≡ i = omega (arith, from) in
        let num = b.number in
        between (index_after input a n) (i - index_after input a n) b.part w s (omega (arith, d, le)) (ap (reshaped_by input a) d ∙ (is ∙ sym num)) b.is_part (ap (part_at input a) d ∙ pw)

    -- a reshaping: an accepted entry that changes the region, which was so after the reshapings before it
    pub record Reshaped (n : ℕ) : Type 0 where
      pub j : ℕ
      pub v : Part
      pub e : Entry
      pub accepted : Accepted input a j v e
      pub reshapes : is_reshaping e.body ≡ true
      pub index : index_after input a (n + 1) ≡ j + 1
      pub entry : entry_of_nth input a (n + 1) ≡ Some e
      pub number : reshaped_by input a (j + 1) ≡ n + 1
      pub before : reshaped_by input a j ≡ n
      pub state : (b : Base n) → v.state ≡ b.part.state

    pub index_below : (n j : ℕ) → reshaped_by input a j ≡ n → 5 ≤ j → index_after input a n ≤ j
    index_below zero j is five = subst (λ x. x ≤ j) (sym zero_index) five
    index_below (suc n) j is five =
        let w = index_there input well lawful a below n j (omega (arith, is)) in
        subst (λ x. x ≤ j) (sym (nth_index input a n w.0 w.1)) w.2

    pub reshaped : (n : ℕ) → n < length (reshapings_of input a) → Reshaped n
    reshaped n lt =
        let k = nth_at input well lawful a below n lt in
        let past = k.past in
        let j : ℕ = k.i - 1 in
        let up : j + 1 ≡ k.i = omega (arith, past) in
        let five : 5 ≤ j = omega (arith, past) in
        let upto = k.upto in
        let to : j < stop_of input a = omega (arith, up, upto) in
        let v = part_there j five (omega (arith, to)) in
        let e = line_there j five to in
        let num : reshaped_by input a (j + 1) ≡ n + 1 = ap (reshaped_by input a) up ∙ number_at input well lawful a below n k.i k.there in
        let low = number_before input well lawful a below n k.i j k.there (omega (arith, up)) in
        go j v.0 e.0 five to v.1 e.1 num low (nth_index input a n k.i k.there ∙ sym up) (is_accept (verdict v.0.state e.0) && is_reshaping e.0.body) refl
      where
        go : (j : ℕ) (v : Part) (e : Entry) → 5 ≤ j → j < stop_of input a → part_at input a j ≡ Some v → entry_at input a (j + 1) ≡ Some e → reshaped_by input a (j + 1) ≡ n + 1 → reshaped_by input a j ≤ n
            → index_after input a (suc n) ≡ j + 1 → (b : Bool) → (is_accept (verdict v.state e) && is_reshaping e.body) ≡ b → Reshaped n
        go j v e five to pv pe num low index false t =
            let r = laws.reshapes a j v e below five to pv pe in
            let one : reshaped_by input a (j + 1) ≡ reshaped_by input a j = r ∙ ap (λ b. cond b (reshaped_by input a j + 1) (reshaped_by input a j)) t in
            absurd (omega (arith, one, num, low))
        go j v e five to pv pe num low index true t =
            let r = laws.reshapes a j v e below five to pv pe in
            let one : reshaped_by input a (j + 1) ≡ reshaped_by input a j + 1 = r ∙ ap (λ b. cond b (reshaped_by input a j + 1) (reshaped_by input a j)) t in
            let h = and_parts (is_accept (verdict v.state e)) (is_reshaping e.body) t in
            let was : reshaped_by input a j ≡ n = omega (arith, one, num) in
            let s : n + 1 ≡ suc n = omega arith in
            let at : index_after input a (n + 1) ≡ j + 1 = ap (index_after input a) s ∙ index in
            record {
              j = j;
              v = v;
              e = e;
              accepted = record { from = five; to = to; part = pv; entry = pe; accepted = accept_of (verdict v.state e) h.0 };
              reshapes = h.1;
              index = at;
              entry = ap (entry_at input a) at ∙ pe;
              number = num;
              before = was;
              state = λ b. state_by n j b v was (omega (arith, to)) (index_below n j was five) pv;
            }

    -- the state at the end
    pub last_state : (b : Base (length (reshapings_of input a))) (w : Part) → part_at input a (stop_of input a) ≡ Some w → w.state ≡ b.part.state
    last_state b w pw = state_by (length (reshapings_of input a)) (stop_of input a) b w (all_by_stop input well lawful a below) (omega arith) b.upto pw
