-- The table of the cut that covers nothing.
use Rattle.std.proofs.Common.{◌≡◌, ℕ, ◌+◌, ◌<◌, Bool, true, false, cond, List, [], ◌∷◌, map, length, Option, Some, None, refl, ap, sym, ◌∙◌, arith, subst, inl, inr}
use Rattle.std.specs.Prelude.{◌==◌, find, slice_get}
use Rattle.std.specs.Option.{option_map}
use Rattle.std.specs.List.{AllByRecursion, cons_option, filter_map}
use Rattle.std.proofs.lemmas.Bool.{eqb-true, lt-leb}
use Rattle.rs_entry.specs.WellFormed.{IsStore, WellFormed}
use Rattle.rs_entry.specs.declared.input.Boot.{Boot}
use Rattle.rs_entry.specs.declared.input.Input.{Input}
use Rattle.rs_entry.specs.declared.input.Store.{Store}
use Rattle.rs_region.specs.Reshapings.{boot}
use Rattle.rs_region.specs.declared.state.RegionState.{RegionState}
use Rattle.rs_store.specs.Indexes.{AreRising}
use Rattle.rs_store.specs.Runs.{forget}
use Rattle.rs_store.specs.declared.regions.Made.{Made}
use Rattle.rs_store.specs.declared.regions.Origin.TheVariants as origins
use Rattle.rs_store.specs.Stores.{born, entries_in, ids_of, no_regions, opening, own, with_regions}
use Rattle.rs_part.specs.Counting.{IsAmong}
use Rattle.rs_part.specs.Items.{no_items}
use Rattle.rs_part.specs.Parts.{Part}
use Rattle.rs_part.specs.Telling.{boot_states}
use Rattle.rs_part.proofs.Canonical.{canonical}
use Rattle.rs_part.proofs.Covering.{regions_exact}
use Rattle.rs_part.proofs.Members.{among_all, among_find, among_flat, among_get}
use Rattle.rs_part.proofs.Opening.{opening_sound, order_grows}
use Rattle.rs_part.proofs.Origins.{boot_birth}
use Rattle.rs_check.specs.declared.plan.Maker.{Maker}
use Rattle.rs_check.specs.declared.plan.Maker.TheVariants as makers
use Rattle.rs_check.specs.declared.rows.Row.{Row}
use Rattle.rs_check.specs.Laws.{check}
use Rattle.rs_check.specs.Plans.{maker_of, row_of, rows_in, rows_of, store_rows}
use Rattle.rs_check.specs.Scripts.{script_of}
use Rattle.rs_check.specs.Values.{count_of, part_at, region_of, reshaped_by, store_at}
use Rattle.rs_check.proofs.Finding.{find_rising}
use Rattle.rs_check.proofs.PlanLaws.{store_rows_moved}
use Rattle.rs_check.proofs.RowPlaces.{row_stands}
use Rattle.rs_check.proofs.StoreEnds.{ending}
use Rattle.rs_check.proofs.Wellness.{rising_all}
use Rattle.rs_table.specs.Cuts.{birth_in, birth_of, covers, is_on}
use Rattle.rs_table.specs.Moves.{boots_of, nothing_covered, opening_rows}
use Rattle.rs_table.specs.Rows.{IsTable, address_in, address_on, row_at, row_by, row_if}
use Rattle.rs_table.specs.Rows.{row_of as row_on}
use Rattle.rs_table.proofs.Addressing.{found_is, on_of, on_store}
use Rattle.rs_table.proofs.Between.{base, laws, part_there, zero_index}
use Rattle.rs_table.proofs.Births.{Child, child}
use Rattle.rs_table.proofs.CutRows.{not_begun, removed_is, row_is, row_unfold}
use Rattle.rs_table.proofs.Cutting.{nothing_cut}
use Rattle.rs_table.proofs.Greatest.{birth_unfold}
use Rattle.rs_table.proofs.NeedLists.{on_below}

booted : Boot → RegionState
booted b = boot b.region b.range b.peers

same_ids : (bs : List Boot) → map (λ s. s.region) (boot_states bs) ≡ map (λ b. b.region) bs
same_ids [] = refl
same_ids (b ∷ bs) = ap (λ xs. b.region ∷ xs) (same_ids bs)

abbrev begun : Option Boot → Option RegionState
begun None = None
begun (Some b) = Some (boot b.region b.range b.peers)

find_states : (id : ℕ) (bs : List Boot) → find (λ s. s.region == id) (boot_states bs) ≡ begun (find (λ b. b.region == id) bs)
find_states id [] = refl
find_states id (b ∷ bs) = go (b.region == id) (find_states id bs) where
  go : (x : Bool) → find (λ s. s.region == id) (boot_states bs) ≡ begun (find (λ b. b.region == id) bs)
      → cond x (Some (boot b.region b.range b.peers)) (find (λ s. s.region == id) (boot_states bs)) ≡ begun (cond x (Some b) (find (λ b. b.region == id) bs))
  go true rest = refl
  go false rest = rest

to_rows : (h : ℕ → Option Row) (x : Row) (id : ℕ) (ids : List ℕ) → IsAmong id ids → h id ≡ Some x → IsAmong x (filter_map h ids)
to_rows h x id [] i e = absurd i
to_rows h x id (y ∷ ys) (inl p) e = subst (λ o. IsAmong x (cons_option o (filter_map h ys))) (sym (ap h (sym p) ∙ e)) (inl refl)
to_rows h x id (y ∷ ys) (inr i) e = go (h y) (to_rows h x id ys i e) where
  go : (o : Option Row) → IsAmong x (filter_map h ys) → IsAmong x (cons_option o (filter_map h ys))
  go None k = k
  go (Some z) k = inr k

row_value : Store → ℕ → Made → Row
row_value store id r = record { store = store.id; region = id; origin = r.origin; stop = r.applied; own = length (own store id); ends = r.state.mode; reshapings = r.reshapings }

among_rows : (input : Input) (s : Store) (x : Row) → IsAmong s input.stores → IsAmong x (store_rows s) → IsAmong x (rows_of input)
unfolding rows_of
among_rows input s x i j = among_flat store_rows x s input.stores j i

module _ (input : Input) (well : WellFormed input) (lawful : check input ≡ None) (place : ℕ) where
  -- a bootstrap region has an address
  boot_placed : (s : Store) → slice_get input.stores place ≡ Some s → (b : Boot) → IsAmong b s.regions → (a : ℕ) × (address_in input place b.region ≡ Some a)
  unfolding row_value address_in
  boot_placed s there b among =
      let i = among_get input.stores place s there in
      let end = ending input well lawful s i in
      let c = canonical s (entries_in s) end.g end.ends in
      let open_b : (opening s).region b.region ≡ Some (born (boot b.region b.range b.peers) origins.Boot) =
      exact s.regions (regions_exact no_regions origins.Boot (boot_states s.regions) end.begins.ids) among in
      let made = order_grows (script_of input) s end.tells c.0 1 (opening s) end.g (opening_sound (script_of input) s end.begins) c.1 b.region (born (boot b.region b.range b.peers) origins.Boot) open_b in
      let y : Row = row_value s b.region made.0 in
      let here : IsAmong y (rows_in s end.g.region (ids_of s)) = to_rows (λ id. row_of s id (end.g.region id)) y b.region (ids_of s) (end.invariant.whole.known b.region made.0 made.1) (ap (row_of s b.region) made.1) in
      let all = among_rows input s y i (subst (IsAmong y) (sym (store_rows_moved s end.g.region (ap forget end.ends))) here) in
      let st = row_stands input well y all in
      (st.b, ap (λ o. address_on input o b.region) there ∙ st.found)
    where
      exact : (bs : List Boot) → AllByRecursion (λ t. with_regions no_regions (boot_states s.regions) origins.Boot t.region ≡ Some (born t origins.Boot)) (boot_states bs) → IsAmong b bs
          → (opening s).region b.region ≡ Some (born (boot b.region b.range b.peers) origins.Boot)
      exact [] all i = absurd i
      exact (x ∷ bs) all (inl p) = subst (λ (z : Boot). (opening s).region z.region ≡ Some (born (boot z.region z.range z.peers) origins.Boot)) (sym p) all.0
      exact (x ∷ bs) all (inr i) = exact bs all.1 i

  module _ (a : ℕ) (on : is_on input place a ≡ true) (s : Store) (there : slice_get input.stores place ≡ Some s) where
    below : a < count_of input
    below = on_below input place a on

    store_is : store_at input a ≡ Some s
    store_is =
        let o = on_of input place a on in
        let one : o.store ≡ s = cc (o.there, there) in
        ap (λ n. find (λ t. t.id == n) input.stores) (on_store input place a o ∙ ap (λ t. t.id) one) ∙ find_rising (λ t. t.id) 0 input.stores well.ids s (among_get input.stores place s there)

    not_covered : covers nothing_covered (birth_of input a) ≡ false → row_at input place nothing_covered a ≡ None
    not_covered h = row_unfold input place nothing_covered a ∙ ap (λ x. row_if x input place nothing_covered a) h

    booted_row : maker_of input a ≡ makers.Boot → find (λ b. b.region == region_of input a) s.regions ≡ find (λ b. b.region == region_of input a) s.regions
        → row_at input place nothing_covered a ≡ begun (find (λ b. b.region == region_of input a) s.regions)
    booted_row m e =
        let o = (laws input well lawful).opens a below m in
        let one : o.0 ≡ s = cc (o.2, store_is) in
        let found : find (λ b. b.region == region_of input a) s.regions ≡ Some o.1 = ap (λ (t : Store). find (λ b. b.region == region_of input a) t.regions) (sym one) ∙ o.5 in
        let bs = base input well lawful a below 0 (omega arith) in
        let first : Part = record { state = boot o.1.region o.1.range o.1.peers; items = no_items } in
        let part : bs.part ≡ first = cc (bs.is_part, ap (part_at input a) (zero_index input well lawful a below), o.4) in
        let birth : covers nothing_covered (birth_of input a) ≡ true = ap (covers nothing_covered) (birth_unfold input a ∙ ap (birth_in input) m) in
        row_is input well lawful place nothing_covered a below bs None false birth
        (ap (option_map (region_of input)) (not_begun input well lawful place nothing_covered (nothing_cut input place) a on refl)) (removed_is input nothing_covered a)
        ∙ (ap (λ (p : Part). Some p.state) part ∙ sym (ap begun found))

    split_row : (p index : ℕ) → maker_of input a ≡ makers.Split p index → row_at input place nothing_covered a ≡ begun (find (λ b. b.region == region_of input a) s.regions)
    split_row p index m =
        let w = part_there input well lawful a below 5 (omega arith) ((laws input well lawful).starts a below) in
        let c = child input well lawful a below p index w.0 m w.1 in
        let num : reshaped_by input p index ≡ c.k + 1 = ap (reshaped_by input p) (sym c.at) ∙ c.reshaping.number in
        let off : covers nothing_covered (birth_of input a) ≡ false = ap (covers nothing_covered) (birth_unfold input a ∙ ap (birth_in input) m) ∙ lt-leb (reshaped_by input p index) 0 (omega (arith, num)) in
        not_covered off ∙ sym (ap begun (none c (find (λ b. b.region == region_of input a) s.regions) refl))
      where
        none : Child input well lawful a p index → (o : Option Boot) → find (λ b. b.region == region_of input a) s.regions ≡ o → find (λ b. b.region == region_of input a) s.regions ≡ None
        none c None e = e
        none c (Some b) e = absurd (
            let f = among_find (λ x. x.region == region_of input a) s.regions b e in
            let end = ending input well lawful s (among_get input.stores place s there) in
            let same : b.region ≡ region_of input a = eqb-true b.region (region_of input a) f.1 in
            let open_b = boot_birth (script_of input) s end.begins b f.0 in
            cc (open_b, ap (script_of input).birth same, c.birth))

    row_here : row_at input place nothing_covered a ≡ begun (find (λ b. b.region == region_of input a) s.regions)
    row_here = go (maker_of input a) refl where
      go : (m : Maker) → maker_of input a ≡ m → row_at input place nothing_covered a ≡ begun (find (λ b. b.region == region_of input a) s.regions)
      go makers.Boot e = booted_row e refl
      go (makers.Split p index) e = split_row p index e

  opens_at : (s : Store) → slice_get input.stores place ≡ Some s → IsTable input place nothing_covered (boot_states s.regions)
  opens_at s there = record {
    rise = subst AreRising (sym (same_ids s.regions)) (rising_all 0 (map (λ b. b.region) s.regions) (among_all (IsStore input.version) s input.stores well.stores (among_get input.stores place s there)).0);
    states = λ id. find_states id s.regions ∙ go id (address_in input place id) refl;
  }
    where
      go : (id : ℕ) (o : Option ℕ) → address_in input place id ≡ o → begun (find (λ b. b.region == id) s.regions) ≡ row_on input place nothing_covered id
      go id (Some a) e =
          let w = found_is input well place id a e in
          sym (ap (row_by input place nothing_covered) e ∙ (row_here a w.0 s there ∙ ap (λ z. begun (find (λ b. b.region == z) s.regions)) w.1))
      go id None e = ap begun (none (find (λ b. b.region == id) s.regions) refl) ∙ sym (ap (row_by input place nothing_covered) e) where
        none : (o : Option Boot) → find (λ b. b.region == id) s.regions ≡ o → find (λ b. b.region == id) s.regions ≡ None
        none None f = f
        none (Some b) f = absurd (
            let i = among_find (λ x. x.region == id) s.regions b f in
            let same : b.region ≡ id = eqb-true b.region id i.1 in
            let p = boot_placed s there b i.0 in
            cc (p.1, ap (address_in input place) same, e))

  no_store : slice_get input.stores place ≡ None → (id : ℕ) → address_in input place id ≡ None
  unfolding address_in
  no_store h id = ap (λ o. address_on input o id) h

  pub opens : IsTable input place nothing_covered (opening_rows input place)
  opens = go (slice_get input.stores place) refl where
    go : (o : Option Store) → slice_get input.stores place ≡ o → IsTable input place nothing_covered (boots_of o)
    go None e = record { rise = λ j k lt h. absurd (omega (arith, h)); states = λ id. sym (ap (row_by input place nothing_covered) (no_store e id)) }
    go (Some s) e = opens_at s e
