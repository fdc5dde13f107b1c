-- Where nothing can follow, the cut is the greatest of what was told: by the canonical order, each cut of what was told lies within it.
use Rattle.std.proofs.Common.{◌≡◌, ℕ, zero, suc, ◌+◌, ◌≤◌, ◌<◌, Bool, true, false, List, length, Option, Some, None, refl, ap, sym, ◌∙◌, arith, subst, ◌⊎◌, inl, inr}
use Rattle.std.specs.Prelude.{◌==◌}
use Rattle.std.proofs.lemmas.Bool.{and_from, both_ways, cases_eq, cases_lt, eq-eqb, le-leb, leb-true}
use Rattle.rs_entry.specs.WellFormed.{WellFormed}
use Rattle.rs_entry.specs.declared.entry.Body.{Body}
use Rattle.rs_entry.specs.declared.entry.Body.TheVariants as body
use Rattle.rs_entry.specs.declared.entry.Carried.{Carried}
use Rattle.rs_entry.specs.declared.entry.Entry.{Entry}
use Rattle.rs_entry.specs.declared.input.Input.{Input}
use Rattle.rs_entry.specs.declared.outcome.Mode.TheVariants as mode
use Rattle.rs_region.specs.Verdicts.{verdict, verdict_on}
use Rattle.rs_region.specs.declared.verdict.Verdict.TheVariants as verdicts
use Rattle.rs_store.specs.declared.regions.Made.{Made}
use Rattle.rs_store.specs.Stores.{Applied, is_prepared_for, opening}
use Rattle.rs_store.proofs.Verdicts.{commit_good}
use Rattle.rs_part.specs.Effects.{Stepping}
use Rattle.rs_part.specs.Parts.{Part, part_of}
use Rattle.rs_part.specs.Scripts.{IsPart}
use Rattle.rs_part.specs.Sound.{Sound}
use Rattle.rs_part.proofs.Endings.{last_has}
use Rattle.rs_part.proofs.Modes.{live_unmarked, live_unmerged}
use Rattle.rs_part.proofs.Opening.{opening_normal}
use Rattle.rs_part.proofs.Parts.{one_part}
use Rattle.rs_check.specs.declared.plan.Maker.{Maker}
use Rattle.rs_check.specs.declared.plan.Maker.TheVariants as makers
use Rattle.rs_check.specs.Laws.{check}
use Rattle.rs_check.specs.Plans.{maker_of, reshapings_of, stop_of}
use Rattle.rs_check.specs.Scripts.{script_of}
use Rattle.rs_check.specs.Values.{count_of, region_of, reshaped_by}
use Rattle.rs_check.proofs.Addresses.{Home, home, stops}
use Rattle.rs_check.proofs.PartLaws.{is_part, line_here}
use Rattle.rs_table.specs.Cuts.{AllTold, Cut, IsCut, IsGreatest, IsIn, Telling, birth_in, birth_of, covers, entry_of_nth, index_after, is_on, merge_by, merge_in, prepare_by, prepare_of}
use Rattle.rs_table.specs.Tellings.{has_needs, may_grow}
use Rattle.rs_table.proofs.Addressing.{on_beside}
use Rattle.rs_table.proofs.Between.{Reshaped, base, index_below, laws, part_there, reshaped}
use Rattle.rs_table.proofs.Births.{Child, child}
use Rattle.rs_table.proofs.NeedLists.{on_below}
use Rattle.rs_table.proofs.Sources.{merged, prepare_is}

pub birth_unfold : (input : Input) (a : ℕ) → birth_of input a ≡ birth_in input (maker_of input a)
unfolding birth_of
birth_unfold input a = refl

pub prepare_unfold : (input : Input) (a nth : ℕ) → prepare_of input a nth ≡ prepare_by input a (merge_by (entry_of_nth input a nth))
unfolding prepare_of
prepare_unfold input a nth = refl

module _ (input : Input) (well : WellFormed input) (lawful : check input ≡ None) (place : ℕ) (told : Telling) (n m : Cut)
    (stuck : (a : ℕ) → may_grow input told n a ≡ false) (cut : IsCut input place m) (all : AllTold told m) where
  -- what the second cut covers up to the applied indexes is in the first
  abbrev Within : Applied → Type 0
  Within g = (b : ℕ) (r : Made) (k : ℕ) → is_on input place b ≡ true → g.region (region_of input b) ≡ Some r → k < length (reshapings_of input b) → index_after input b (k + 1) ≤ r.applied → k + 1 ≤ m b → k + 1 ≤ n b

  past_five : (b : ℕ) (below : b < count_of input) (k : ℕ) (lt : k < length (reshapings_of input b)) → 5 < index_after input b (k + 1)
  past_five b below k lt =
      let r = reshaped input well lawful b below k lt in
      let f = r.accepted.from in
      subst (λ i. 5 < i) (sym r.index) (omega (arith, f))

  module _ (a : ℕ) (h : Home input a) where
    start : Within (opening h.store)
    start b r k on here lt le in_m =
        let at = (opening_normal h.store (region_of input b) r here).0 in
        let past = past_five b (on_below input place b on) k lt in
        absurd (omega (arith, at, past, le))

    module _ (g k : Applied) (id : ℕ) (sound : Sound (script_of input) h.store g) (w : Stepping (script_of input) h.store g id k) (old : Within g) where
      -- the stepping region's next reshaping
      module _ (b : ℕ) (on : is_on input place b ≡ true) (same : region_of input b ≡ id) (i : ℕ) (lt : i < length (reshapings_of input b)) (at : index_after input b (i + 1) ≡ w.r.applied + 1) (in_m : i + 1 ≤ m b) (short : n b < i + 1) where
        below : b < count_of input
        below = on_below input place b on

        r : Reshaped input well lawful b below i
        r = reshaped input well lawful b below i lt

        j_is : r.j ≡ w.r.applied
        j_is = let x = r.index in omega (arith, x, at)

        here : g.region (region_of input b) ≡ Some w.r
        here = ap g.region same ∙ w.here

        entry : w.e ≡ r.e
        entry =
            let line = line_here input well lawful b (home input well lawful b below) r.j r.e r.accepted.from r.accepted.entry in
            cc (w.told, line, ap (λ z. (script_of input).line z (r.j + 1)) same, ap (λ z. (script_of input).line id (z + 1)) j_is)

        state : r.v.state ≡ w.r.state
        state =
            let mine = subst (λ x. IsPart (script_of input) x w.r.applied r.v) same
            (subst (λ y. IsPart (script_of input) (region_of input b) y r.v) j_is (is_part input well lawful b (home input well lawful b below) r.j r.v r.accepted.part)) in
            ap (λ (p : Part). p.state) (one_part (script_of input) id w.r.applied r.v (part_of g w.r) mine (sound.parts id w.r w.here (live_unmerged w.r.state.mode w.live))) ∙ live_unmarked w.r.state w.live

        accepted : verdict w.r.state w.e ≡ verdicts.Accept
        accepted = ap (λ s. verdict s w.e) (sym state) ∙ (ap (verdict r.v.state) entry ∙ r.accepted.accepted)

        -- those before it are covered
        before : i ≤ n b
        before = go i refl where
          go : (x : ℕ) → x ≡ i → i ≤ n b
          go zero e = omega (arith, e)
          go (suc x) e =
              let bs = base input well lawful b below i (omega (arith, lt)) in
              let rs = reshaped input well lawful b below x (omega (arith, e, lt)) in
              let s : x + 1 ≡ i = omega (arith, e) in
              let lower : index_after input b (x + 1) ≤ w.r.applied = lower_index x s in
              let y = old b w.r x on here (omega (arith, e, lt)) lower (omega (arith, e, in_m)) in
              omega (arith, y, e)
            where
              lower_index : (x : ℕ) → x + 1 ≡ i → index_after input b (x + 1) ≤ w.r.applied
              lower_index x s =
                  let num = r.before in
                  let five = r.accepted.from in
                  let l = index_below input well lawful b below i r.j num five in
                  subst (λ z. index_after input b z ≤ w.r.applied) (sym s) (subst (λ z. index_after input b i ≤ z) j_is l)

        exactly : n b ≡ i
        exactly = omega (arith, before, short)

        birth_covered : covers n (birth_of input b) ≡ true
        birth_covered = go (maker_of input b) refl where
          was : covers m (birth_of input b) ≡ true
          was = cut.born b (omega (arith, in_m))

          go : (x : Maker) → maker_of input b ≡ x → covers n (birth_of input b) ≡ true
          go makers.Boot e = ap (covers n) (birth_unfold input b ∙ ap (birth_in input) e)
          go (makers.Split p index) e =
              let is : birth_of input b ≡ Some (p, reshaped_by input p index) = birth_unfold input b ∙ ap (birth_in input) e in
              let w5 = part_there input well lawful b below 5 (omega arith) ((laws input well lawful).starts b below) in
              let c = child input well lawful b below p index w5.0 e w5.1 in
              let num : reshaped_by input p index ≡ c.k + 1 = ap (reshaped_by input p) (sym c.at) ∙ c.reshaping.number in
              let in_m : reshaped_by input p index ≤ m p = leb-true (reshaped_by input p index) (m p) (ap (covers m) (sym is) ∙ was) in
              let t = sound.makers id w.r (region_of input p) index w.here (ap (script_of input).birth (sym same) ∙ c.birth) in
              let on_p : is_on input place p ≡ true = on_parent p index c in
              let idx : index_after input p (c.k + 1) ≡ index = c.reshaping.index ∙ c.at in
              let upto : index_after input p (c.k + 1) ≤ t.0.applied = subst (λ z. z ≤ t.0.applied) (sym idx) t.2 in
              let y = old p t.0 c.k on_p t.1 c.more upto (omega (arith, num, in_m)) in
              ap (covers n) is ∙ le-leb (reshaped_by input p index) (n p) (omega (arith, y, num))
            where
              on_parent : (p index : ℕ) → Child input well lawful b p index → is_on input place p ≡ true
              on_parent p index c = on_beside input place b p on c.below c.same

        -- no region is its own source
        own_source : (q c : ℕ) (l : List Carried) → r.e.body ≡ body.Commit q c l → (t : Made) → g.region q ≡ Some t → t.state.mode ≡ mode.Merging id c → q ≡ id → ⊥
        own_source q c l e t ht merging eq =
            let one : t ≡ w.r = cc (ht, ap g.region eq, w.here) in
            let mode : w.r.state.mode ≡ mode.Merging id c = ap (λ (z : Made). z.state.mode) (sym one) ∙ merging in
            let good = commit_good w.r.state w.e.epoch id c q c l (ap (λ x. verdict_on w.r.state w.e.epoch x) (sym (ap (λ (x : Entry). x.body) entry ∙ e)) ∙ accepted) in
            let yes : is_prepared_for id c w.r.state.mode ≡ true = ap (is_prepared_for id c) mode ∙ and_from (id == id) (c == c) (eq-eqb id id refl) (eq-eqb c c refl) in
            both_ways (is_prepared_for id c w.r.state.mode) good yes

        -- all reshapings of a region that came to its stop
        last_of : (b : ℕ) (below : b < count_of input) → is_on input place b ≡ true → (c : ℕ) → stop_of input b ≡ c → 1 ≤ length (reshapings_of input b) → (x : ℕ) → x ≡ length (reshapings_of input b)
            → (t : Made) → g.region (region_of input b) ≡ Some t → t.applied ≡ c → x ≤ m b → x ≤ n b
        last_of b below on c stop some zero is t ht at in_m = omega (arith, is, some)
        last_of b below on c stop some (suc x) is t ht at in_m =
            let bs = base input well lawful b below (suc x) (omega (arith, is)) in
            let s : x + 1 ≡ suc x = omega arith in
            let up = bs.upto in
            let upto : index_after input b (x + 1) ≤ t.applied = subst (λ z. index_after input b z ≤ t.applied) (sym s) (omega (arith, up, stop, at)) in
            let y = old b t x on ht (omega (arith, is)) upto (omega (arith, in_m)) in
            omega (arith, y)

        prepare_covered : covers n (prepare_of input b (i + 1)) ≡ true
        prepare_covered = go r.e.body refl where
          other : merge_in r.e.body ≡ None → covers n (prepare_of input b (i + 1)) ≡ true
          other e = ap (covers n) (prepare_unfold input b (i + 1) ∙ (ap (λ o. prepare_by input b (merge_by o)) r.entry ∙ ap (prepare_by input b) e))

          go : (x : Body) → r.e.body ≡ x → covers n (prepare_of input b (i + 1)) ≡ true
          go (body.Commit q c l) e =
              let d = merged input well lawful b below r.j r.v r.e q c l r.accepted e in
              let is = prepare_is input well lawful b i q c l r.e d.b r.entry e d.found in
              let in_m : reshaped_by input d.b c ≤ m d.b = leb-true (reshaped_by input d.b c) (m d.b) (ap (covers m) (sym is) ∙ cut.prepared b (i + 1) (omega arith) in_m) in
              let eff = w.effect.merges q c l (ap (λ (x : Entry). x.body) entry ∙ e) accepted in
              let on_b : is_on input place d.b ≡ true = on_beside input place b d.b on d.below d.same in
              let region : region_of input d.b ≡ q = d.region in
              let apart : q ≡ id → ⊥ = own_source q c l e eff.4.0 eff.4.1 eff.4.2 in
              let applied : eff.4.0.applied ≡ c = elim (w.effect.others q eff.4.0 apart eff.4.1) [
                | inl stays ↦ (let one : eff.4.0 ≡ eff.0 = cc (stays, eff.1) in ap (λ (z : Made). z.applied) one ∙ eff.2)
                | inr x ↦ (let one : x.0 ≡ eff.0 = cc (x.1, eff.1) in ap (λ (z : Made). z.applied) (sym x.2.now) ∙ (ap (λ (z : Made). z.applied) one ∙ eff.2))
              ] in
              let y = last_of d.b d.below on_b c d.stop d.some (reshaped_by input d.b c) d.last eff.4.0 (ap g.region region ∙ eff.4.1) applied in_m in
              ap (covers n) is ∙ le-leb (reshaped_by input d.b c) (n d.b) y
          go body.Empty e = other (ap merge_in e)
          go (body.Write ops) e = other (ap merge_in e)
          go (body.Split side ids keys) e = other (ap merge_in e)
          go (body.Prepare target) e = other (ap merge_in e)
          go (body.Rollback commit) e = other (ap merge_in e)
          go (body.Conf c) e = other (ap merge_in e)

        pub impossible : ⊥
        impossible =
            let t : told b (n b + 1) ≡ true = ap (λ z. told b (z + 1)) exactly ∙ all b (i + 1) (omega arith) in_m in
            let p : covers n (prepare_of input b (n b + 1)) ≡ true = ap (λ z. covers n (prepare_of input b (z + 1))) exactly ∙ prepare_covered in
            both_ways (may_grow input told n b) (stuck b) (and_from (told b (n b + 1)) (has_needs input n b (n b + 1)) t
            (and_from (covers n (birth_of input b)) (covers n (prepare_of input b (n b + 1))) birth_covered p))

      pub step_within : Within k
      step_within b r i on here lt le in_m = go (g.region (region_of input b)) refl (cases_eq (region_of input b) id) where
        mine : region_of input b ≡ id → i + 1 ≤ n b
        mine same = elim (cases_lt (n b) (i + 1)) [
          | inr enough ↦ enough
          | inl short ↦
              (let e = w.effect.mine in
              let one : e.0 ≡ r = cc (e.1, ap k.region same, here) in
              let up : r.applied ≡ w.r.applied + 1 = ap (λ (z : Made). z.applied) (sym one) ∙ e.2 in
              elim (cases_lt w.r.applied (index_after input b (i + 1))) [
                | inl past ↦ absurd (impossible b on same i lt (omega (arith, up, past, le)) in_m short)
                | inr was ↦ old b w.r i on (ap g.region same ∙ w.here) lt was in_m
              ])
        ]

        go : (o : Option Made) → g.region (region_of input b) ≡ o → (region_of input b ≡ id) ⊎ (region_of input b ≡ id → ⊥) → i + 1 ≤ n b
        go o was (inl same) = mine same
        go None was (inr ne) = absurd (let five = (w.effect.new (region_of input b) r ne here was).0 in let past = past_five b (on_below input place b on) i lt in omega (arith, five, past, le))
        go (Some t) was (inr ne) = elim (w.effect.others (region_of input b) t ne was) [
          | inl same ↦ (let one : t ≡ r = cc (same, here) in old b t i on was lt (subst (λ (z : Made). index_after input b (i + 1) ≤ z.applied) (sym one) le) in_m)
          | inr d ↦
              (let one : d.0 ≡ r = cc (d.1, here) in
              let at : r.applied ≡ t.applied = ap (λ (z : Made). z.applied) (sym one ∙ d.2.now) in
              old b t i on was lt (omega (arith, at, le)) in_m)
        ]

    at_end : Within h.end.g
    at_end = last_has (script_of input) h.store h.end.tells h.end.begins Within start (λ g k id sound w st old. step_within g k id sound w old) h.end.g h.end.ends

  pub within : IsIn m n
  within a = go (is_on input place a) refl where
    go : (b : Bool) → is_on input place a ≡ b → m a ≤ n a
    go false off = (let z = cut.here a off in omega (arith, z))
    go true on = covered (m a) refl where
      below : a < count_of input
      below = on_below input place a on

      covered : (x : ℕ) → m a ≡ x → m a ≤ n a
      covered zero e = omega (arith, e)
      covered (suc x) e =
          let h = home input well lawful a below in
          let len = cut.within a in
          let bs = base input well lawful a below (suc x) (omega (arith, len, e)) in
          let s : x + 1 ≡ suc x = omega arith in
          let up = bs.upto in
          let top = stops input a h in
          let upto : index_after input a (x + 1) ≤ h.r.applied = subst (λ z. index_after input a z ≤ h.r.applied) (sym s) (omega (arith, up, top)) in
          let y = at_end a h a h.r x on h.made (omega (arith, len, e)) upto (omega (arith, e)) in
          omega (arith, y, e)

pub is_greatest : (input : Input) → WellFormed input → check input ≡ None → (place : ℕ) (told : Telling) (n : Cut) → IsCut input place n → AllTold told n → ((a : ℕ) → may_grow input told n a ≡ false) → IsGreatest input place told n
is_greatest input well lawful place told n is_cut told_all stuck = record { cut = is_cut; told_all = told_all; greatest = λ m cut all. within input well lawful place told n m stuck cut all }
