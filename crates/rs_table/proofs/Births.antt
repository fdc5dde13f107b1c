-- How the region of an address begins, at index 5.
use Rattle.std.proofs.Common.{◌≡◌, ℕ, zero, suc, ◌+◌, ◌-◌, ◌<◌, Bool, true, false, List, [], ◌∷◌, length, Option, Some, None, refl, ap, sym, ◌∙◌, arith, subst, inl, inr}
use Rattle.std.specs.Prelude.{◌==◌, slice_get, position}
use Rattle.std.specs.List.{find, zip}
use Rattle.std.proofs.lemmas.Bool.{eqb-true}
use Rattle.rs_key.specs.Epochs.{after_split}
use Rattle.rs_key.specs.Ranges.{cut}
use Rattle.rs_entry.specs.WellFormed.{WellFormed}
use Rattle.rs_entry.specs.declared.entry.Body.{Body}
use Rattle.rs_entry.specs.declared.entry.Body.TheVariants as body
use Rattle.rs_entry.specs.declared.entry.Entry.{Entry}
use Rattle.rs_entry.specs.declared.entry.Side.{Side}
use Rattle.rs_entry.specs.declared.input.Input.{Input}
use Rattle.rs_entry.specs.declared.outcome.Mode.TheVariants as mode
use Rattle.rs_region.specs.Reshapings.{new_ranges, split_new}
use Rattle.rs_region.specs.Verdicts.{verdict}
use Rattle.rs_region.specs.declared.state.RegionState.{RegionState}
use Rattle.rs_region.specs.declared.verdict.Verdict.TheVariants as verdicts
use Rattle.rs_store.specs.declared.regions.Origin.{Origin}
use Rattle.rs_store.specs.declared.regions.Origin.TheVariants as origins
use Rattle.rs_store.specs.Stores.{is_accept}
use Rattle.rs_part.specs.Counting.{IsAmong}
use Rattle.rs_part.specs.Parts.{Part}
use Rattle.rs_part.specs.Scripts.{Birth, IsPart, Never, Opened, Script, SplitOff, begun, child_by, child_in, child_of, child_with, found}
use Rattle.rs_part.proofs.Cutting.{all_normal}
use Rattle.rs_part.proofs.Members.{among_all, among_find}
use Rattle.rs_part.proofs.Origins.{last_origins, origin_of}
use Rattle.rs_part.proofs.Parts.{one_part}
use Rattle.rs_check.specs.declared.plan.Maker.TheVariants as makers
use Rattle.rs_check.specs.Laws.{check}
use Rattle.rs_check.specs.Plans.{address_of, is_at, made_by, maker_in, maker_of, reshapings_in, reshapings_of, rows_of, split_off}
use Rattle.rs_check.specs.Scripts.{script_of}
use Rattle.rs_check.specs.Values.{count_of, part_at, region_of}
use Rattle.rs_check.proofs.Addresses.{Home, beside, home, stored}
use Rattle.rs_check.proofs.PartLaws.{is_part, line_here}
use Rattle.rs_table.specs.Cuts.{index_after}
use Rattle.rs_table.proofs.Between.{Reshaped, accept_of, reshaped}
use Rattle.rs_table.proofs.PlanReshapings.{nth_index}
use Rattle.rs_table.proofs.Splits.{last_splits}

-- ---- in a script

-- a region that a split makes of a part
pub record Made_by (id : ℕ) (v : Part) (e : Entry) (s : RegionState) : Type 0 where
  pub side : Side
  pub ids : List ℕ
  pub keys : List (List ℕ)
  pub body : e.body ≡ body.Split side ids keys
  pub accepted : verdict v.state e ≡ verdicts.Accept
  pub found : find (λ t. t.region == id) (split_new v.state side ids keys) ≡ Some s

state_of : Option Part → RegionState → RegionState
state_of None s = s
state_of (Some x) s = x.state

child_some : (v w : Part) (o : Option RegionState) → child_with v o ≡ Some w → o ≡ Some w.state
child_some v w None h = absurd cc
child_some v w (Some s) h = ap Some (same h) where
  state : Option Part → RegionState
  state None = s
  state (Some x) = x.state

  same : {x : Option Part} → x ≡ Some w → state x ≡ w.state
  same e = ap state e

made_in : (id : ℕ) (v w : Part) (e : Entry) (b : Body) → e.body ≡ b → verdict v.state e ≡ verdicts.Accept → child_in id v b ≡ Some w → Made_by id v e w.state
made_in id v w e (body.Split side ids keys) is ok h = record { side = side; ids = ids; keys = keys; body = is; accepted = ok; found = child_some v w (find (λ t. t.region == id) (split_new v.state side ids keys)) h }
made_in id v w e body.Empty is ok h = absurd cc
made_in id v w e (body.Write ops) is ok h = absurd cc
made_in id v w e (body.Prepare target) is ok h = absurd cc
made_in id v w e (body.Commit source commit carried) is ok h = absurd cc
made_in id v w e (body.Rollback commit) is ok h = absurd cc
made_in id v w e (body.Conf c) is ok h = absurd cc

by_accept : (id : ℕ) (v w : Part) (e : Entry) (b : Bool) → is_accept (verdict v.state e) ≡ b → child_by id v e.body b ≡ Some w → Made_by id v e w.state
by_accept id v w e true t h = made_in id v w e e.body refl (accept_of (verdict v.state e) t) h
by_accept id v w e false t h = absurd cc

of_child : (id : ℕ) (v w : Part) (e : Entry) (l : Option Entry) (o : Option Part) → l ≡ Some e → child_of id l o ≡ Some w → ((u : Part) → o ≡ Some u → u ≡ v) → Made_by id v e w.state
of_child id v w e None o le h same = absurd cc
of_child id v w e (Some f) None le h same = absurd cc
of_child id v w e (Some f) (Some u) le h same =
    let a : f ≡ e = cc le in
    let b : u ≡ v = same u refl in
    let c : child_by id v e.body (is_accept (verdict v.state e)) ≡ Some w = subst (λ (z : Part). child_by id z e.body (is_accept (verdict z.state e)) ≡ Some w) b (subst (λ (z : Entry). child_by id u z.body (is_accept (verdict u.state z)) ≡ Some w) a h) in
    by_accept id v w e (is_accept (verdict v.state e)) refl c

-- what a split makes is normal
pub new_normal : (id : ℕ) (v : Part) (e : Entry) (s : RegionState) → Made_by id v e s → (s.mode ≡ mode.Normal) × (s.region ≡ id)
new_normal id v e s m =
    let w = among_find (λ t. t.region == id) (split_new v.state m.side m.ids m.keys) s m.found in (
      among_all (λ t. t.mode ≡ mode.Normal) s (split_new v.state m.side m.ids m.keys) (all_normal (after_split v.state.epoch (length m.keys)) v.state.peers (zip m.ids (new_ranges m.side (cut v.state.range m.keys)))) w.0,
      eqb-true s.region id w.1,
    )

-- what begins so has at index 5
begun_is : (script : Script) (id : ℕ) (v : Part) → IsPart script id 5 v → (n : ℕ) × (begun script (found script n) id (script.birth id) ≡ Some v)
begun_is script id v p = go p.0 p.1 where
  go : (n : ℕ) → found script n id 5 ≡ Some v → (m : ℕ) × (begun script (found script m) id (script.birth id) ≡ Some v)
  go zero h = absurd cc
  go (suc n) h = (n, h)

split_birth : (b : Birth) (parent index : ℕ) → origins.Split parent index ≡ origin_of b → b ≡ SplitOff parent index
split_birth Never parent index h = absurd cc
split_birth (Opened range peers) parent index h = absurd cc
split_birth (SplitOff p i) parent index h =
    let a : parent ≡ p = cc in
    let b : index ≡ i = cc in
    ap (λ n. SplitOff n i) (sym a) ∙ ap (SplitOff parent) (sym b)

get_among : (xs : List ℕ) (i : ℕ) → IsAmong i xs → (k : ℕ) × (slice_get xs k ≡ Some i)
get_among [] i h = absurd h
get_among (x ∷ xs) i (inl e) = (zero, ap Some (sym e))
get_among (x ∷ xs) i (inr h) = let w = get_among xs i h in (suc w.0, w.1)

pub get_below : (xs : List ℕ) (k i : ℕ) → slice_get xs k ≡ Some i → k < length xs
get_below [] k i h = absurd cc
get_below (x ∷ xs) zero i h = omega arith
get_below (x ∷ xs) (suc k) i h = let l = get_below xs k i h in omega arith

module _ (input : Input) (well : WellFormed input) (lawful : check input ≡ None) where
  -- the region was split off by one of its parent's reshapings
  pub record Child (x p index : ℕ) : Type 0 where
    pub below : p < count_of input
    pub k : ℕ
    pub more : k < length (reshapings_of input p)
    pub reshaping : Reshaped input well lawful p below k
    pub at : reshaping.j + 1 ≡ index
    pub same : (address_of input p).0 ≡ (address_of input x).0
    pub w : Part
    pub part : part_at input x 5 ≡ Some w
    pub made : Made_by (region_of input x) reshaping.v reshaping.e w.state
    pub birth : (script_of input).birth (region_of input x) ≡ SplitOff (region_of input p) index

  module _ (x : ℕ) (below : x < count_of input) where
    pub h : Home input x
    h = home input well lawful x below

    maker_is : maker_of input x ≡ made_by (rows_of input) h.store.id h.r.origin
    maker_is = ap (maker_in (rows_of input)) h.row

    -- the parent's id
    pub origin_is : (p index : ℕ) → maker_of input x ≡ makers.Split p index → (parent : ℕ) × (h.r.origin ≡ origins.Split parent index) × (position (is_at h.store.id parent) (rows_of input) ≡ Some p)
    origin_is p index m = go h.r.origin refl where
      go : (o : Origin) → h.r.origin ≡ o → (parent : ℕ) × (h.r.origin ≡ origins.Split parent index) × (position (is_at h.store.id parent) (rows_of input) ≡ Some p)
      go origins.Boot e = absurd (let b : maker_of input x ≡ makers.Boot = maker_is ∙ ap (made_by (rows_of input) h.store.id) e in cc (m, b))
      go (origins.Split parent i) e = by (position (is_at h.store.id parent) (rows_of input)) refl where
        by : (o : Option ℕ) → position (is_at h.store.id parent) (rows_of input) ≡ o → (q : ℕ) × (h.r.origin ≡ origins.Split q index) × (position (is_at h.store.id q) (rows_of input) ≡ Some p)
        by None f = absurd (let b : maker_of input x ≡ makers.Boot = maker_is ∙ (ap (made_by (rows_of input) h.store.id) e ∙ ap (λ y. split_off y i) f) in cc (m, b))
        by (Some q) f =
            let b : maker_of input x ≡ makers.Split q i = maker_is ∙ (ap (made_by (rows_of input) h.store.id) e ∙ ap (λ y. split_off y i) f) in
            let one : q ≡ p = cc (m, b) in
            let two : i ≡ index = cc (m, b) in
            (parent, e ∙ ap (origins.Split parent) two, f ∙ ap Some one)

    pub child : (p index : ℕ) (w : Part) → maker_of input x ≡ makers.Split p index → part_at input x 5 ≡ Some w → Child x p index
    child p index w m pw =
        let o = origin_is p index m in
        let sh = last_splits (script_of input) h.store h.end.tells h.end.begins h.end.g h.end.ends (region_of input x) h.r o.0 index h.made o.1 in
        let y = beside input well x h o.0 sh.r sh.here in
        let found_y : position (is_at h.store.id o.0) (rows_of input) ≡ Some y.b = ap (λ n. position (is_at n o.0) (rows_of input)) (sym (stored input x h)) ∙ y.placed.found in
        let one : y.b ≡ p = cc (found_y, o.2) in
        let rows : reshapings_of input y.b ≡ sh.r.reshapings = ap (λ r. reshapings_in r) y.row in
        let got = get_among (reshapings_of input y.b) index (subst (IsAmong index) (sym rows) sh.among) in
        let region : region_of input y.b ≡ o.0 = ap (λ a. a.1) y.placed.address in
        subst (λ q. Child x q index) one (at_parent y.b y.placed.within o.0 region (ap (λ a. a.0) y.placed.address) o.1 got.0 got.1)
      where
        at_parent : (q : ℕ) (within : q < count_of input) (parent : ℕ) → region_of input q ≡ parent → (address_of input q).0 ≡ (address_of input x).0 → h.r.origin ≡ origins.Split parent index
            → (k : ℕ) → slice_get (reshapings_of input q) k ≡ Some index → Child x q index
        at_parent q within parent region same origin k got =
            let lt = get_below (reshapings_of input q) k index got in
            let r = reshaped input well lawful q within k lt in
            let nth : index_after input q (suc k) ≡ index = nth_index input q k index got in
            let s : k + 1 ≡ suc k = omega arith in
            let at : r.j + 1 ≡ index = sym r.index ∙ (ap (index_after input q) s ∙ nth) in
            let birth : (script_of input).birth (region_of input x) ≡ SplitOff parent index =
            split_birth ((script_of input).birth (region_of input x)) parent index (sym origin ∙ last_origins (script_of input) h.store h.end.tells h.end.begins h.end.g h.end.ends (region_of input x) h.r h.made) in
            let n = begun_is (script_of input) (region_of input x) w (is_part input well lawful x h 5 w pw) in
            let is : begun (script_of input) (found (script_of input) n.0) (region_of input x) (SplitOff parent index) ≡ Some w = ap (begun (script_of input) (found (script_of input) n.0) (region_of input x)) (sym birth) ∙ n.1 in
            let hq = home input well lawful q within in
            let line : (script_of input).line parent index ≡ Some r.e =
            ap (λ z. (script_of input).line z index) (sym region) ∙ (ap ((script_of input).line (region_of input q)) (sym at) ∙ line_here input well lawful q hq r.j r.e r.accepted.from r.accepted.entry) in
            let down : index - 1 ≡ r.j = omega (arith, at) in
            record {
              below = within;
              k = k;
              more = lt;
              reshaping = r;
              at = at;
              same = same;
              w = w;
              part = pw;
              birth = birth ∙ ap (λ z. SplitOff z index) (sym region);
              made = of_child (region_of input x) r.v w r.e ((script_of input).line parent index) (found (script_of input) n.0 parent (index - 1)) line is
                  (λ u fu. one_part (script_of input) parent r.j u r.v (subst (λ i. IsPart (script_of input) parent i u) down (n.0, fu))
                  (subst (λ z. IsPart (script_of input) z r.j r.v) region (is_part input well lawful q hq r.j r.v r.accepted.part)));
            }
