-- The first fault of an input.
use Rattle.std.specs.Prelude.{ℕ, ◌==◌, ltb, ◌&&◌, ◌||◌, not, Bool, List, [], ◌∷◌, ◌++◌, map, Option, Some, None, if◌then◌else◌}
use Rattle.std.specs.List.{list_any, flat_map}
use Rattle.std.specs.Option.{option_map}
use Rattle.rs_key.specs.Ranges.{Bounds, holds}
use Rattle.rs_entry.specs.declared.input.Boot.{Boot}
use Rattle.rs_entry.specs.declared.input.Store.{Store}
use Rattle.rs_entry.specs.declared.input.Input.{Input}
use Rattle.rs_entry.specs.declared.law_fault.Statement.{Statement}
use Rattle.rs_entry.specs.declared.law_fault.Statement.TheVariants as said
use Rattle.rs_store.specs.declared.fault.StepFault.{StepFault}
use Rattle.rs_store.specs.declared.fault.StepFault.TheVariants as steps
use Rattle.rs_store.specs.declared.fault.StoreFault.{StoreFault}
use Rattle.rs_store.specs.declared.fault.StoreFault.TheVariants as ends
use Rattle.rs_entry.specs.declared.law_fault.LawFault.{LawFault}
use Rattle.rs_entry.specs.declared.law_fault.LawFault.TheVariants as laws
use Rattle.rs_store.specs.Stores.{first_some, ids_in, last}
use Rattle.rs_store.specs.Ends.{fault_at_end}
use Rattle.rs_check.specs.Statements.{Stated, stated, first_differ}

-- ---- differ

-- the fault of two statements that differ
abbrev pub differ_fault : Stated × Stated → LawFault
differ_fault p = laws.Differ p.0.store p.1.store p.1.region p.1.index p.0.what p.1.what

-- ---- overlap

-- the key; the least of all keys, 00, if there is none
abbrev pub or_least : Option (List ℕ) → List ℕ
or_least None = 0 ∷ []
or_least (Some s) = s

-- some key lies in both: the least key that one of them can hold, which is its start or the one byte 0
abbrev pub share_a_key : Bounds → Bounds → Bool
share_a_key a b =
    (holds a (or_least b.start) && holds b (or_least b.start)) || (holds a (or_least a.start) && holds b (or_least a.start))

-- the boot regions of all stores, in the file's order
abbrev pub boots : Input → List Boot
boots input = flat_map (λ s. s.regions) input.stores

-- a boot and one of greater id, which share a key
abbrev pub overlap : Boot → Boot → Bool
overlap a b = ltb a.region b.region && share_a_key a.range b.range

-- the pairs of this boot region with each later one that it overlaps
abbrev pub overlaps_of : Boot → List Boot → List (Boot × Boot)
overlaps_of a [] = []
overlaps_of a (b ∷ bs) = if overlap a b then (a, b) ∷ overlaps_of a bs else overlaps_of a bs

-- the pairs of boot regions that overlap
abbrev pub overlaps : List Boot → List (Boot × Boot)
overlaps bs = flat_map (λ a. overlaps_of a bs) bs

-- the lesser ids
abbrev pub is_lesser : Boot × Boot → Boot × Boot → Bool
is_lesser p q = ltb p.0.region q.0.region || ((p.0.region == q.0.region) && ltb p.1.region q.1.region)

-- the lesser of the two pairs, of which the first may be missing
abbrev pub lesser : Option (Boot × Boot) → Boot × Boot → Boot × Boot
lesser None p = p
lesser (Some q) p = if is_lesser p q then p else q

-- the pair of the least ids, the first of these
abbrev pub least : Option (Boot × Boot) → List (Boot × Boot) → Option (Boot × Boot)
least best [] = best
least best (p ∷ ps) = least (Some (lesser best p)) ps

-- the least pair of boot regions that overlap
abbrev pub first_overlap : List Boot → Option (Boot × Boot)
first_overlap bs = least None (overlaps bs)

-- the fault of two boot regions that overlap
abbrev pub overlap_fault : Boot × Boot → LawFault
overlap_fault p = laws.Overlap p.0 p.1

-- ---- reused

-- an id that a split named, with where the split stands
pub record Named : Type 0 where
  pub id : ℕ
  pub region : ℕ
  pub index : ℕ

-- named by another split
abbrev pub is_named : ℕ → ℕ → ℕ → Named → Bool
is_named id region index n = (n.id == id) && not ((n.region == region) && (n.index == index))

-- the id is this one
abbrev pub is_id : ℕ → ℕ → Bool
is_id id x = x == id

-- a bootstrap id, one that stands before in this split, or one that another split named
abbrev pub is_reused : List ℕ → List Named → ℕ → ℕ → List ℕ → ℕ → Bool
is_reused boot_ids named region index before id =
    list_any (is_id id) boot_ids || (list_any (is_id id) before || list_any (is_named id region index) named)

-- the first id of the split that a boot region, an earlier id of it or another split has
abbrev pub reused_id : List ℕ → List Named → ℕ → ℕ → List ℕ → List ℕ → Option ℕ
reused_id boot_ids named region index before [] = None
reused_id boot_ids named region index before (id ∷ ids) =
    if is_reused boot_ids named region index before id then Some id else reused_id boot_ids named region index (before ++ id ∷ []) ids

-- the ids of the new regions that a statement names
abbrev pub ids_said : Statement → List ℕ
ids_said (said.Entry e) = ids_in e.body
ids_said (said.Boot b) = []
ids_said (said.Carried c) = []

-- the id is named by the split at this region and index
abbrev pub naming : ℕ → ℕ → ℕ → Named
naming region index id = record { id = id; region = region; index = index }

-- the ids that the statement names, each with the statement's region and index
abbrev pub names_in : Stated → List Named
names_in s = map (naming s.region s.index) (ids_said s.what)

-- the fault of an id that the statement uses again
abbrev pub reused_at : Stated → Option ℕ → Option LawFault
reused_at s None = None
reused_at s (Some id) = Some (laws.Reused s.store s.region s.index id)

-- the fault of the first id that the statement uses again
abbrev pub reused_in : List ℕ → List Named → Stated → Option LawFault
reused_in boot_ids named s = reused_at s (reused_id boot_ids named s.region s.index [] (ids_said s.what))

-- the fault of the first statement that uses an id again
abbrev pub first_reused : List ℕ → List Named → List Stated → Option LawFault
first_reused boot_ids named [] = None
first_reused boot_ids named (s ∷ rest) = first_some (reused_in boot_ids named s) (first_reused boot_ids (named ++ names_in s) rest)

-- ---- the whole check

-- the fault of a step, with the store in which it happened
abbrev pub law_of_step : ℕ → StepFault → LawFault
law_of_step store (steps.BadRollback region index commit mode) = laws.BadRollback store region index commit mode
law_of_step store (steps.NotPrepared region index source commit) = laws.NotPrepared store region index source commit
law_of_step store (steps.NotNext region index source commit a b) = laws.NotNext store region index source commit a b

-- the fault of a store's order, with the store
abbrev pub law_of : ℕ → StoreFault → LawFault
law_of store (ends.Step fault) = law_of_step store fault
law_of store (ends.Waits region index source commit) = laws.Waits store region index source commit
law_of store (ends.Unborn region) = laws.Unborn store region

-- the fault of a store's canonical order, or of its end
unfoldable pub store_law : Store → Option LawFault
store_law store = option_map (law_of store.id) (fault_at_end store (last store))

-- the fault of the first store whose order has one
abbrev pub first_in_stores : List Store → Option LawFault
first_in_stores [] = None
first_in_stores (s ∷ ss) = first_some (store_law s) (first_in_stores ss)

-- the fault of the first two statements that differ
abbrev pub differ_law : Input → Option LawFault
differ_law input = option_map differ_fault (first_differ [] (stated input))

-- the fault of the least two boot regions that overlap
abbrev pub overlap_law : Input → Option LawFault
overlap_law input = option_map overlap_fault (first_overlap (boots input))

-- the fault of the first id that is used again
abbrev pub reused_law : Input → Option LawFault
reused_law input = first_reused (map (λ b. b.region) (boots input)) [] (stated input)

-- the first fault of an input, or none where it is lawful
unfoldable pub check : Input → Option LawFault
check input = first_some (differ_law input) (first_some (overlap_law input) (first_some (reused_law input) (first_in_stores input.stores)))
