-- The source of a merge, in a plan and in a cut.
use Rattle.std.proofs.Common.{◌≡◌, ℕ, zero, suc, ◌+◌, ◌-◌, ◌≤◌, ◌<◌, Bool, true, false, cond, List, length, Some, None, refl, ap, sym, ◌∙◌, arith}
use Rattle.std.specs.Prelude.{◌==◌}
use Rattle.std.specs.Option.{option_map}
use Rattle.std.specs.List.{find}
use Rattle.std.proofs.lemmas.Bool.{and_parts}
use Rattle.rs_key.specs.Ranges.{is_next_to}
use Rattle.rs_entry.specs.WellFormed.{WellFormed}
use Rattle.rs_entry.specs.declared.entry.Body.TheVariants as body
use Rattle.rs_entry.specs.declared.entry.Carried.{Carried}
use Rattle.rs_entry.specs.declared.entry.Entry.{Entry}
use Rattle.rs_entry.specs.declared.input.Input.{Input}
use Rattle.rs_entry.specs.declared.outcome.Mode.TheVariants as mode
use Rattle.rs_region.specs.Reshapings.{boot}
use Rattle.rs_region.specs.declared.state.RegionState.{RegionState}
use Rattle.rs_store.specs.Stores.{is_prepared_for}
use Rattle.rs_part.specs.Items.{no_items}
use Rattle.rs_part.specs.Parts.{Part}
use Rattle.rs_part.specs.Scripts.{accepted, after_by, joined_part, may_join, with_source}
use Rattle.rs_check.specs.declared.plan.Maker.{Maker}
use Rattle.rs_check.specs.declared.plan.Maker.TheVariants as makers
use Rattle.rs_check.specs.Laws.{check}
use Rattle.rs_check.specs.Lawfulness.{Accepted, Source}
use Rattle.rs_check.specs.Plans.{address_of, ends_of, maker_of, reshapings_of, stop_of}
use Rattle.rs_check.specs.Values.{count_of, part_at, part_in, part_on, region_of, reshaped_by}
use Rattle.rs_table.specs.Cuts.{Cut, at_index, beside, entry_of_nth, merge_by, merge_in, prepare_by, prepare_of}
use Rattle.rs_table.proofs.Between.{Reshaped, between, laws, part_there}
use Rattle.rs_table.proofs.Births.{child, new_normal}
use Rattle.rs_table.proofs.PlanReshapings.{all_by_stop}

pub on_store : (input : Input) (a b id i : ℕ) → (address_of input b).0 ≡ (address_of input a).0 → part_on input b id i ≡ part_on input a id i
unfolding part_on
on_store input a b id i same = ap (λ n. part_in (find (λ s. s.id == n) input.stores) id i) same

prepare_unfold : (input : Input) (a nth : ℕ) → prepare_of input a nth ≡ prepare_by input a (merge_by (entry_of_nth input a nth))
unfolding prepare_of
prepare_unfold input a nth = refl

module _ (input : Input) (well : WellFormed input) (lawful : check input ≡ None) where
  -- each region begins normal
  pub begins_normal : (a : ℕ) → a < count_of input → (w : Part) → part_at input a 5 ≡ Some w → w.state.mode ≡ mode.Normal
  begins_normal a below w pw = go (maker_of input a) refl where
    go : (m : Maker) → maker_of input a ≡ m → w.state.mode ≡ mode.Normal
    go makers.Boot e =
        let o = (laws input well lawful).opens a below e in
        let begun : Part = record { state = boot o.1.region o.1.range o.1.peers; items = no_items } in
        let one : w ≡ begun = cc (pw, o.4) in
        ap (λ (p : Part). p.state.mode) one
    go (makers.Split p index) e =
        let c = child input well lawful a below p index w e pw in
        let one : w ≡ c.w = cc (pw, c.part) in
        ap (λ (p : Part). p.state.mode) one ∙ (new_normal (region_of input a) c.reshaping.v c.reshaping.e c.w.state c.made).0

  -- the source of an accepted commit
  pub record Merged (a j : ℕ) (v : Part) (source commit : ℕ) : Type 0 where
    pub b : ℕ
    pub below : b < count_of input
    pub found : beside input a source ≡ Some b
    pub region : region_of input b ≡ source
    pub same : (address_of input b).0 ≡ (address_of input a).0
    pub stop : stop_of input b ≡ commit
    pub ends : ends_of input b ≡ mode.Merged (region_of input a)
    pub u : Part
    pub part : part_at input b (stop_of input b) ≡ Some u
    pub next : is_next_to v.state.range u.state.range ≡ true
    pub joined : part_at input a (j + 1) ≡ Some (joined_part v u)
    -- it has reshapings, the last of which is its prepare
    pub some : 1 ≤ length (reshapings_of input b)
    pub last : reshaped_by input b commit ≡ length (reshapings_of input b)

  module _ (a : ℕ) (below : a < count_of input) (j : ℕ) (v : Part) (e : Entry) (q c : ℕ) (l : List Carried) (acc : Accepted input a j v e) (is : e.body ≡ body.Commit q c l) where
    source : Source input a q c
    source = (laws input well lawful).merges a j v e q c l below acc is

    region : region_of input source.b ≡ q
    region = ap (λ p. p.1) source.placed.address

    same : (address_of input source.b).0 ≡ (address_of input a).0
    same = ap (λ p. p.0) source.placed.address

    there : part_on input a q c ≡ Some source.part
    there = sym (on_store input a source.b q c same) ∙ (ap (λ z. part_on input source.b z c) (sym region) ∙ source.is_part)

    step : with_source (region_of input a) c v (Some source.part) ≡ part_at input a (j + 1)
    step =
        ap (with_source (region_of input a) c v) (sym there)
        ∙ (ap (accepted (part_on input a) (region_of input a) (j + 1) v) (sym is)
        ∙ (ap (λ x. after_by x (part_on input a) (region_of input a) (j + 1) v e.body) (sym acc.accepted)
        ∙ (laws input well lawful).steps a j v e below acc.from acc.to acc.part acc.entry))

    record Joins : Type 0 where
      pub can : may_join (region_of input a) c v source.part ≡ true
      pub next : part_at input a (j + 1) ≡ Some (joined_part v source.part)

    joins : Joins
    joins = go (may_join (region_of input a) c v source.part) refl where
      go : (b : Bool) → may_join (region_of input a) c v source.part ≡ b → Joins
      go true h = record { can = h; next = sym step ∙ ap (λ z. cond z (Some (joined_part v source.part)) None) h }
      go false h =
          let p = part_there input well lawful a below (j + 1) (let f = acc.from in omega (arith, f)) (let t = acc.to in omega (arith, t)) in
          let none : None ≡ part_at input a (j + 1) = ap (λ z. cond z (Some (joined_part v source.part)) None) (sym h) ∙ step in
          absurd (cc (none, p.1))

    at_stop : part_at input source.b (stop_of input source.b) ≡ Some source.part
    at_stop = ap (part_at input source.b) source.stop ∙ source.is_part

    all : reshaped_by input source.b c ≡ length (reshapings_of input source.b)
    all = ap (reshaped_by input source.b) (sym source.stop) ∙ all_by_stop input well lawful source.b source.placed.within

    some_made : 1 ≤ length (reshapings_of input source.b)
    some_made = go (length (reshapings_of input source.b)) refl where
      go : (n : ℕ) → length (reshapings_of input source.b) ≡ n → 1 ≤ length (reshapings_of input source.b)
      go (suc n) h = omega (arith, h)
      go zero h =
          let w = source.placed.within in
          let starts = (laws input well lawful).starts source.b w in
          let five = part_there input well lawful source.b w 5 (omega arith) starts in
          let d : 5 + (stop_of input source.b - 5) ≡ stop_of input source.b = omega (arith, starts) in
          let n : reshaped_by input source.b (5 + (stop_of input source.b - 5)) ≡ reshaped_by input source.b 5 =
          ap (reshaped_by input source.b) (d ∙ source.stop) ∙ (all ∙ (h ∙ sym ((laws input well lawful).unshaped source.b w))) in
          let state = between input well lawful source.b w 5 (stop_of input source.b - 5) five.0 source.part (omega arith) (omega (arith, d)) n five.1 (ap (part_at input source.b) d ∙ at_stop) in
          let normal = begins_normal source.b w five.0 five.1 in
          let m : mode.Merging (region_of input a) c ≡ mode.Normal = sym source.merging ∙ (ap (λ (s : RegionState). s.mode) state ∙ normal) in
          absurd (cc m)

    pub merged : Merged a j v q c
    merged = record {
      b = source.b;
      below = source.placed.within;
      found = source.placed.found;
      region = region;
      same = same;
      stop = source.stop;
      ends = source.ends;
      u = source.part;
      part = at_stop;
      next = (and_parts (is_prepared_for (region_of input a) c source.part.state.mode) (is_next_to v.state.range source.part.state.range) joins.can).1;
      joined = joins.next;
      some = some_made;
      last = all;
    }

  -- ---- in a cut

  -- a covered commit
  pub record Covered (place : ℕ) (n : Cut) (t k : ℕ) (region : ℕ) : Type 0 where
    pub below : t < count_of input
    pub more : k < length (reshapings_of input t)
    pub reshaping : Reshaped input well lawful t below k
    pub commit : ℕ
    pub carried : List Carried
    pub body : reshaping.e.body ≡ body.Commit region commit carried
    pub merged : Merged t reshaping.j reshaping.v region commit

  -- what a commit's reshaping needs is its source's last
  pub prepare_is : (t k q c : ℕ) (l : List Carried) (e : Entry) (b : ℕ) → entry_of_nth input t (k + 1) ≡ Some e → e.body ≡ body.Commit q c l → beside input t q ≡ Some b → prepare_of input t (k + 1) ≡ Some (b, reshaped_by input b c)
  prepare_is t k q c l e b entry is found =
      prepare_unfold input t (k + 1)
      ∙ (ap (λ o. prepare_by input t (merge_by o)) entry
      ∙ (ap (λ x. prepare_by input t (merge_in x)) is
      ∙ ap (option_map (at_index input c)) found))
