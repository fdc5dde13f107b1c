-- How regions of a lawful input begin.
use Rattle.std.proofs.Common.{◌≡◌, ℕ, zero, suc, ◌+◌, ◌-◌, ◌≤◌, ◌<◌, ◌==◌, true, List, map, length, Option, Some, None, refl, ap, sym, ◌∙◌, arith, subst}
use Rattle.std.specs.Prelude.{position, slice_get}
use Rattle.std.specs.List.{AllByRecursion, find}
use Rattle.rs_key.specs.Epochs.{after_split}
use Rattle.rs_key.specs.Ranges.{cut}
use Rattle.rs_entry.specs.WellFormed.{IsStore, Rising, WellFormed}
use Rattle.rs_entry.specs.declared.entry.Body.TheVariants as body
use Rattle.rs_entry.specs.declared.entry.Carried.{Carried}
use Rattle.rs_entry.specs.declared.entry.Entry.{Entry}
use Rattle.rs_entry.specs.declared.entry.Side.{Side}
use Rattle.rs_entry.specs.declared.input.Boot.{Boot}
use Rattle.rs_entry.specs.declared.input.Input.{Input}
use Rattle.rs_entry.specs.declared.input.Store.{Store}
use Rattle.rs_region.specs.Reshapings.{boot, new_ranges, split_new}
use Rattle.rs_region.specs.declared.state.RegionState.{RegionState}
use Rattle.rs_store.specs.declared.regions.Made.{Made}
use Rattle.rs_store.specs.declared.regions.Origin.{Origin}
use Rattle.rs_store.specs.declared.regions.Origin.TheVariants as origins
use Rattle.rs_store.specs.Runs.{IsFormed}
use Rattle.rs_store.specs.Stores.{first_some, is_accept, own, own_next}
use Rattle.rs_store.specs.Stores.{entry_at as carried_entry}
use Rattle.rs_store.proofs.FormLaws.{formed_store}
use Rattle.rs_store.proofs.Verdicts.{formed_carried}
use Rattle.rs_part.specs.Items.{kept_items, no_items}
use Rattle.rs_part.specs.Parts.{Part, at}
use Rattle.rs_part.specs.Scripts.{Birth, IsPart, Never, Opened, Script, SplitOff, begun, child_by, child_of, child_with, found}
use Rattle.rs_part.specs.Settled.{IsMade}
use Rattle.rs_part.proofs.Children.{children_born}
use Rattle.rs_part.proofs.Cutting.{all_both, all_ids, each_id, find_each}
use Rattle.rs_part.proofs.Laws.{at_birth}
use Rattle.rs_part.proofs.Reached.{reached_is_at}
use Rattle.rs_part.proofs.Members.{among_all}
use Rattle.rs_part.proofs.Origins.{boot_birth, last_boots, last_origins, origin_of}
use Rattle.rs_check.specs.declared.plan.Maker.TheVariants as makers
use Rattle.rs_check.specs.Laws.{check}
use Rattle.rs_check.specs.Lawfulness.{Accepted, Born}
use Rattle.rs_check.specs.Lines.{carried_at, entry_in}
use Rattle.rs_check.specs.Plans.{is_at, made_by, maker_in, maker_of, rows_of, row_of, split_off, stop_of}
use Rattle.rs_check.specs.Scripts.{script_of}
use Rattle.rs_check.specs.Values.{entry_at, part_at, region_of, store_at}
use Rattle.rs_check.proofs.Addresses.{Home, beside, beside_part, entry_here, part_here, stored, stops}
use Rattle.rs_check.proofs.Finding.{find_rising}
use Rattle.rs_check.proofs.PartLaws.{is_part, line_here, reached_at, starts_at}
use Rattle.rs_check.proofs.RowPlaces.{own_place}

-- what a region that begins so has at index 5
begun_is : (script : Script) (id : ℕ) (v : Part) → IsPart script id 5 v → (n : ℕ) × (begun script (found script n) id (script.birth id) ≡ Some v)
begun_is script id v p = go p.0 p.1 where
  go : (n : ℕ) → found script n id 5 ≡ Some v → (m : ℕ) × (begun script (found script m) id (script.birth id) ≡ Some v)
  go zero h = absurd cc
  go (suc n) h = (n, h)

split_birth : (b : Birth) (parent index : ℕ) → origins.Split parent index ≡ origin_of b → b ≡ SplitOff parent index
split_birth Never parent index h = absurd cc
split_birth (Opened range peers) parent index h = absurd cc
split_birth (SplitOff p i) parent index h =
    let a : parent ≡ p = cc in
    let b : index ≡ i = cc in
    ap (λ n. SplitOff n i) (sym a) ∙ ap (SplitOff parent) (sym b)

module _ (input : Input) (well : WellFormed input) (lawful : check input ≡ None) (a : ℕ) (h : Home input a) where
  maker_is : maker_of input a ≡ made_by (rows_of input) h.store.id h.r.origin
  maker_is = ap (maker_in (rows_of input)) h.row

  -- the parent of what was split off has an address
  not_split : (parent index : ℕ) → h.r.origin ≡ origins.Split parent index → maker_of input a ≡ makers.Boot → ⊥
  not_split parent index o m =
      let birth = split_birth ((script_of input).birth (region_of input a)) parent index
      (sym o ∙ last_origins (script_of input) h.store h.end.tells h.end.begins h.end.g h.end.ends (region_of input a) h.r h.made) in
      let t = h.end.invariant.sound.makers (region_of input a) h.r parent index h.made birth in
      let y = beside input well a h parent t.0 t.1 in
      let found : position (is_at h.store.id parent) (rows_of input) ≡ Some y.b = ap (λ n. position (is_at n parent) (rows_of input)) (sym (stored input a h)) ∙ y.placed.found in
      cc (m, maker_is, ap (made_by (rows_of input) h.store.id) o, ap (λ p. split_off p index) found)

  booted : maker_of input a ≡ makers.Boot → h.r.origin ≡ origins.Boot
  booted m = go h.r.origin refl where
    go : (o : Origin) → h.r.origin ≡ o → h.r.origin ≡ origins.Boot
    go origins.Boot e = e
    go (origins.Split parent index) e = absurd (not_split parent index e m)

  -- a region that wasn't split off begins as one of the store's bootstrap regions
  pub opens_at : maker_of input a ≡ makers.Boot
      → (s : Store) × (b : Boot) × (store_at input a ≡ Some s) × (b.region ≡ region_of input a)
      × (part_at input a 5 ≡ Some (record { state = boot b.region b.range b.peers; items = no_items })) × (find (λ x. x.region == region_of input a) s.regions ≡ Some b)
  opens_at m =
      let w = last_boots (script_of input) h.store h.end.tells h.end.begins h.end.g h.end.ends (region_of input a) h.r h.made (booted m) in
      let v = reached_at input well lawful a h 5 (omega arith) (starts_at input well lawful a h) in
      let birth : (script_of input).birth (region_of input a) ≡ Opened w.0.range w.0.peers = ap (script_of input).birth (sym w.2) ∙ boot_birth (script_of input) h.store h.end.begins w.0 w.1 in
      let n = begun_is (script_of input) (region_of input a) v.0 (is_part input well lawful a h 5 v.0 v.1) in
      let is : begun (script_of input) (found (script_of input) n.0) (region_of input a) (Opened w.0.range w.0.peers) ≡ Some v.0 =
      ap (begun (script_of input) (found (script_of input) n.0) (region_of input a)) (sym birth) ∙ n.1 in
      let ids : Rising 0 (map (λ b. b.region) h.store.regions) = (among_all (IsStore input.version) h.store input.stores well.stores h.end.among).0 in (
        h.store,
        w.0,
        h.found,
        w.2,
        v.1 ∙ (sym is ∙ ap (λ x. Some (record { state = boot x w.0.range w.0.peers; items = no_items })) (sym w.2)),
        ap (λ id. find (λ x. x.region == id) h.store.regions) (sym w.2) ∙ find_rising (λ b. b.region) 0 h.store.regions ids w.0 w.1,
      )

  -- ---- splits

  formed_entry : (i : ℕ) (e : Entry) → entry_in h.store (region_of input a) i ≡ Some e → IsFormed e.body
  formed_entry i e k = by_own (own_next (own h.store (region_of input a)) (i - 1)) refl k where
    by_carried : (o : Option Carried) → carried_entry o ≡ Some e → IsFormed e.body
    by_carried None k = absurd cc
    by_carried (Some c) k = subst (λ (x : Option Entry). FormedIn x) k (formed_carried c.body) where
      FormedIn : Option Entry → Type 0
      FormedIn None = Unit {0}
      FormedIn (Some x) = IsFormed x.body

    by_own : (o : Option Entry) → own_next (own h.store (region_of input a)) (i - 1) ≡ o → first_some o (carried_entry (carried_at (region_of input a) i h.store.logs)) ≡ Some e → IsFormed e.body
    by_own (Some x) o k = formed_store h.store h.end.formed (region_of input a) ((i - 1) - 5) e (o ∙ k)
    by_own None o k = by_carried (carried_at (region_of input a) i h.store.logs) k

  -- a split has as many ids as keys
  pub even_at : (i : ℕ) (e : Entry) (side : Side) (ids : List ℕ) (keys : List (List ℕ)) → entry_at input a i ≡ Some e → e.body ≡ body.Split side ids keys → length ids ≡ length keys
  even_at i e side ids keys entry is = (subst IsFormed is (formed_entry i e (sym (entry_here input a h i) ∙ entry))).0

  module _ (i : ℕ) (v : Part) (e : Entry) (side : Side) (ids : List ℕ) (keys : List (List ℕ)) (acc : Accepted input a i v e) (is : e.body ≡ body.Split side ids keys) where
    line : (script_of input).line (region_of input a) (i + 1) ≡ Some e
    line = line_here input well lawful a h i e acc.from acc.entry

    abbrev news : List RegionState
    news = split_new v.state side ids keys

    -- what is known of a new region
    abbrev IsNew : RegionState → Type 0
    IsNew s = IsMade h.end.g s.region × ((script_of input).birth s.region ≡ SplitOff (region_of input a) (i + 1))

    abbrev share : RegionState → Part
    share s = record { state = s; items = kept_items s.range v.items }

    all_of : (P : ℕ → Type 0) → AllByRecursion P ids → AllByRecursion (λ s. P s.region) news
    all_of P all = all_ids P (after_split v.state.epoch (length keys)) v.state.peers ids (new_ranges side (cut v.state.range keys)) all

    all_made : AllByRecursion (λ s. IsMade h.end.g s.region) news
    all_made =
        let top : stop_of input a ≡ h.r.applied = stops input a h in
        let to : i < stop_of input a = acc.to in
        all_of (IsMade h.end.g)
        (h.end.invariant.settled.children (region_of input a) h.r i v e side ids keys h.made acc.from (omega arith) (is_part input well lawful a h i v acc.part) line is acc.accepted)

    all_births : AllByRecursion (λ s. (script_of input).birth s.region ≡ SplitOff (region_of input a) (i + 1)) news
    all_births = children_born (script_of input) h.store h.end.tells (region_of input a) (i + 1) e line v.state side ids keys is

    all_found : AllByRecursion (λ s. find (λ t. t.region == s.region) news ≡ Some s) news
    all_found =
        find_each news (each_id (after_split v.state.epoch (length keys)) v.state.peers ids (new_ranges side (cut v.state.range keys))
        (h.end.tells.distinct (region_of input a) (i + 1) e side ids keys line is))

    begins_so : (s : RegionState) (w : Part) → find (λ t. t.region == s.region) news ≡ Some s → child_of s.region ((script_of input).line (region_of input a) (i + 1)) (Some v) ≡ Some w → share s ≡ w
    begins_so s w one c =
        let here : child_of s.region (Some e) (Some v) ≡ Some w = ap (λ l. child_of s.region l (Some v)) (sym line) ∙ c in
        let by : child_by s.region v (body.Split side ids keys) true ≡ Some w =
        ap (λ b. child_by s.region v b true) (sym is) ∙ (ap (λ x. child_by s.region v e.body (is_accept x)) (sym acc.accepted) ∙ here) in
        let some : Some (share s) ≡ Some w = ap (child_with v) (sym one) ∙ by in
        cc

    maker_of_new : (s : RegionState) (r : Made) (b : ℕ) → h.end.g.region s.region ≡ Some r → (script_of input).birth s.region ≡ SplitOff (region_of input a) (i + 1)
        → slice_get (rows_of input) b ≡ row_of h.store s.region (Some r) → maker_of input b ≡ makers.Split a (i + 1)
    maker_of_new s r b here birth row =
        let origin : r.origin ≡ origins.Split (region_of input a) (i + 1) =
        last_origins (script_of input) h.store h.end.tells h.end.begins h.end.g h.end.ends s.region r here ∙ ap origin_of birth in
        let found : position (is_at h.store.id (region_of input a)) (rows_of input) ≡ Some a = own_place input well a _ h.row in
        ap (maker_in (rows_of input)) row ∙ (ap (made_by (rows_of input) h.store.id) origin ∙ ap (λ p. split_off p (i + 1)) found)

    part_of_new : (s : RegionState) (r : Made) → h.end.g.region s.region ≡ Some r → (script_of input).birth s.region ≡ SplitOff (region_of input a) (i + 1)
        → find (λ t. t.region == s.region) news ≡ Some s → at h.store s.region 5 ≡ Some (share s)
    part_of_new s r here birth one =
        let since : 5 ≤ r.applied = h.end.invariant.sound.since s.region r here in
        let w = reached_is_at (script_of input) h.store h.end.tells h.end.begins h.end.g h.end.ends s.region r here 5 (omega arith) since in
        let child = at_birth (script_of input) h.store h.end.tells h.end.begins s.region (region_of input a) i v w.0 birth (sym (part_here input a h i) ∙ acc.part) w.1 in
        w.1 ∙ ap Some (sym (begins_so s w.0 one child))

    born_one : (s : RegionState) → IsNew s → find (λ t. t.region == s.region) news ≡ Some s → Born input a (i + 1) v s
    born_one s new one =
        let y = beside input well a h s.region new.0.0 new.0.1 in
        record {
          b = y.b;
          placed = y.placed;
          maker = maker_of_new s new.0.0 y.b new.0.1 new.1 y.row;
          part = beside_part input a h s.region new.0.0 y 5 ∙ part_of_new s new.0.0 new.0.1 new.1 one;
        }

  -- each new region of an accepted split begins with its share of the part
  pub births_at : (i : ℕ) (v : Part) (e : Entry) (side : Side) (ids : List ℕ) (keys : List (List ℕ)) → Accepted input a i v e → e.body ≡ body.Split side ids keys
      → AllByRecursion (Born input a (i + 1) v) (split_new v.state side ids keys)
  births_at i v e side ids keys acc is =
      all_both (IsNew i v e side ids keys acc is) (λ s. find (λ t. t.region == s.region) (split_new v.state side ids keys) ≡ Some s) (Born input a (i + 1) v)
      (born_one i v e side ids keys acc is) (split_new v.state side ids keys)
      (all_both (λ s. IsMade h.end.g s.region) (λ s. (script_of input).birth s.region ≡ SplitOff (region_of input a) (i + 1)) (IsNew i v e side ids keys acc is) (λ s m b. (m, b))
      (split_new v.state side ids keys) (all_made i v e side ids keys acc is) (all_births i v e side ids keys acc is))
      (all_found i v e side ids keys acc is)
