-- How a region's part goes on from index to index, and how it begins.
use Rattle.std.proofs.Common.{◌≡◌, ℕ, zero, suc, ◌+◌, ◌-◌, ◌≤◌, List, Option, Some, None, refl, ap, sym, ◌∙◌, arith}
use Rattle.std.specs.Option.{IsSome}
use Rattle.std.proofs.lemmas.Option.{cond_some}
use Rattle.rs_entry.specs.declared.entry.Body.{Body}
use Rattle.rs_entry.specs.declared.entry.Body.TheVariants as body
use Rattle.rs_entry.specs.declared.entry.Carried.{Carried}
use Rattle.rs_entry.specs.declared.entry.Entry.{Entry}
use Rattle.rs_entry.specs.declared.input.Store.{Store}
use Rattle.rs_region.specs.Verdicts.{verdict}
use Rattle.rs_region.specs.declared.verdict.Verdict.{Verdict}
use Rattle.rs_region.specs.declared.verdict.Verdict.TheVariants as verdicts
use Rattle.rs_part.specs.Parts.{Part, at}
use Rattle.rs_part.specs.Scripts.{Script, SplitOff, accepted, after_by, begun, child_of, found, joined_part, may_join, with_source}
use Rattle.rs_part.specs.Telling.{Begins, Tells}
use Rattle.rs_part.proofs.Faults.{part_back}
use Rattle.rs_part.proofs.Moments.{at_is_part}
use Rattle.rs_part.proofs.Parts.{one_part}

module _ (script : Script) (store : Store) (tells : Tells script store) (begins : Begins script store) where
  -- from one index to the next, by the entry there
  pub at_step : (id index : ℕ) (e : Entry) (v w : Part) → 5 ≤ index → at store id index ≡ Some v → script.line id (index + 1) ≡ Some e → at store id (index + 1) ≡ Some w
      → (n : ℕ) × (after_by (verdict v.state e) (found script n) id (index + 1) v e.body ≡ Some w)
  at_step id index e v w five a line b =
      let back = part_back script id index w five (at_is_part script store tells begins id (index + 1) w b) in
      let one : back.part ≡ v = one_part script id index back.part v (back.n, back.before) (at_is_part script store tells begins id index v a) in
      let same : back.entry ≡ e = cc (back.line, line) in
      (back.n, again back.n back.part back.entry one same back.after)
    where
      again : (n : ℕ) (u : Part) (x : Entry) → u ≡ v → x ≡ e → after_by (verdict u.state x) (found script n) id (index + 1) u x.body ≡ Some w
          → after_by (verdict v.state e) (found script n) id (index + 1) v e.body ≡ Some w
      again n u x one same h =
          ap (λ z. after_by (verdict z.state e) (found script n) id (index + 1) z e.body) (sym one)
          ∙ (ap (λ z. after_by (verdict u.state z) (found script n) id (index + 1) u z.body) (sym same) ∙ h)

  -- what is found of a source is its part on this store, where it has one
  same_source : (n q c : ℕ) (x : Part) → IsSome (at store q c) → found script n q c ≡ Some x → at store q c ≡ Some x
  same_source n q c x some f = go (at store q c) refl some
    where
      go : (o : Option Part) → at store q c ≡ o → IsSome o → at store q c ≡ Some x
      go None e h = absurd (cc h)
      go (Some y) e h = e ∙ ap Some (one_part script q c y x (at_is_part script store tells begins q c y e) (n, f))

  by_source : (id c : ℕ) (v w : Part) (n q : ℕ) → IsSome (at store q c) → with_source id c v (found script n q c) ≡ Some w → with_source id c v (at store q c) ≡ Some w
  by_source id c v w n q some h = go (found script n q c) refl h
    where
      go : (o : Option Part) → found script n q c ≡ o → with_source id c v o ≡ Some w → with_source id c v (at store q c) ≡ Some w
      go None e f = absurd (cc f)
      go (Some x) e f = ap (with_source id c v) (same_source n q c x some e) ∙ f

  -- the source of a commit has its part on this store
  abbrev pub HasSource : Body → Type 0
  HasSource (body.Commit q c l) = IsSome (at store q c)
  HasSource b = Unit {0}

  by_body : (x : Verdict) (id index n : ℕ) (v w : Part) (b : Body) → (x ≡ verdicts.Accept → HasSource b) → after_by x (found script n) id index v b ≡ Some w
      → after_by x (at store) id index v b ≡ Some w
  by_body verdicts.Empty id index n v w b some h = h
  by_body verdicts.Stale id index n v w b some h = h
  by_body verdicts.Merging id index n v w b some h = h
  by_body (verdicts.Outside place) id index n v w b some h = h
  by_body (verdicts.BadSplit place) id index n v w b some h = h
  by_body verdicts.BadPeer id index n v w b some h = h
  by_body verdicts.BadRollback id index n v w b some h = h
  by_body verdicts.Accept id index n v w body.Empty some h = h
  by_body verdicts.Accept id index n v w (body.Write ops) some h = h
  by_body verdicts.Accept id index n v w (body.Split side ids keys) some h = h
  by_body verdicts.Accept id index n v w (body.Prepare target) some h = h
  by_body verdicts.Accept id index n v w (body.Rollback commit) some h = h
  by_body verdicts.Accept id index n v w (body.Conf c) some h = h
  by_body verdicts.Accept id index n v w (body.Commit q c l) some h = by_source id c v w n q (some refl) h

  -- the same, with the parts of the same store for the sources
  pub at_next : (id index : ℕ) (e : Entry) (v w : Part) → 5 ≤ index → at store id index ≡ Some v → script.line id (index + 1) ≡ Some e → at store id (index + 1) ≡ Some w
      → (verdict v.state e ≡ verdicts.Accept → HasSource e.body) → after_by (verdict v.state e) (at store) id (index + 1) v e.body ≡ Some w
  at_next id index e v w five a line b some =
      let s = at_step id index e v w five a line b in
      by_body (verdict v.state e) id (index + 1) s.0 v w e.body some s.1

  -- an accepted commit joins the source's part at its commit
  pub at_commit : (id index : ℕ) (e : Entry) (q c : ℕ) (l : List Carried) (v u w : Part) → 5 ≤ index → at store id index ≡ Some v → script.line id (index + 1) ≡ Some e → e.body ≡ body.Commit q c l
      → verdict v.state e ≡ verdicts.Accept → at store q c ≡ Some u → at store id (index + 1) ≡ Some w → w ≡ joined_part v u
  at_commit id index e q c l v u w five a line is accept b to = go (found script s.0 q c) refl
    where
      s : (n : ℕ) × (after_by (verdict v.state e) (found script n) id (index + 1) v e.body ≡ Some w)
      s = at_step id index e v w five a line to

      joined : with_source id c v (found script s.0 q c) ≡ Some w
      joined = ap (λ x. accepted (found script s.0) id (index + 1) v x) (sym is) ∙ (ap (λ x. after_by x (found script s.0) id (index + 1) v e.body) (sym accept) ∙ s.1)

      go : (o : Option Part) → found script s.0 q c ≡ o → w ≡ joined_part v u
      go None f = absurd (cc (sym (ap (with_source id c v) f) ∙ joined))
      go (Some x) f =
          let one : x ≡ u = one_part script q c x u (s.0, f) (at_is_part script store tells begins q c u b) in
          sym (cond_some (may_join id c v x) (joined_part v x) w (sym (ap (with_source id c v) f) ∙ joined)).1 ∙ ap (joined_part v) one

  -- a region begins as the part that the split cut off
  pub at_birth : (id parent index : ℕ) (v w : Part) → script.birth id ≡ SplitOff parent (index + 1) → at store parent index ≡ Some v → at store id 5 ≡ Some w
      → child_of id (script.line parent (index + 1)) (Some v) ≡ Some w
  at_birth id parent index v w birth a b = go (at_is_part script store tells begins id 5 w b).0 (at_is_part script store tells begins id 5 w b).1
    where
      back : (index + 1) - 1 ≡ index
      back = omega arith

      none : (l : Option Entry) → child_of id l None ≡ Some w → ⊥
      none None h = cc h
      none (Some e) h = cc h

      go : (n : ℕ) → found script n id 5 ≡ Some w → child_of id (script.line parent (index + 1)) (Some v) ≡ Some w
      go zero f = absurd cc
      go (suc n) f = by_part (found script n parent index) refl
        where
          child : child_of id (script.line parent (index + 1)) (found script n parent index) ≡ Some w
          child = ap (λ i. child_of id (script.line parent (index + 1)) (found script n parent i)) (sym back) ∙ (ap (begun script (found script n) id) (sym birth) ∙ f)

          by_part : (o : Option Part) → found script n parent index ≡ o → child_of id (script.line parent (index + 1)) (Some v) ≡ Some w
          by_part None o = absurd (none (script.line parent (index + 1)) (sym (ap (child_of id (script.line parent (index + 1))) o) ∙ child))
          by_part (Some x) o =
              let one : x ≡ v = one_part script parent index x v (n, o) (at_is_part script store tells begins parent index v a) in
              ap (λ z. child_of id (script.line parent (index + 1)) (Some z)) (sym one) ∙ (sym (ap (child_of id (script.line parent (index + 1))) o) ∙ child)
