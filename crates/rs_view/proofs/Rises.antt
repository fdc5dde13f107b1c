-- A step that takes no cut back keeps the rule.
use Rattle.std.proofs.Common.{◌≡◌, ◌≢◌, ℕ, zero, suc, List, Option, Some, None, [], ◌∷◌, fold, set, refl, sym, ◌∙◌, subst, ⊎_elim, le_refl, le_trans}
use mathlib.Core.Option.{some, some-injective, some-ne-none}
use lib.ListN.{get_elem?}
use Rattle.crossbeam_utils.specs.Register.{Admits, TurnsAt, Forks, Merges}
use Rattle.atomic_table.proofs.Lists.{at_set, at_snoc}
use Rattle.rs_table.specs.declared.cut_table.CutTable.{CutTable}
use Rattle.rs_view.specs.declared.step.Step.{Step}
use Rattle.rs_view.specs.declared.store_cut.StoreCut.{StoreCut}
use Rattle.rs_view.specs.Cuts.{Contains, Keeps, Knows, Remembers, Within, cut_of, numbers_of, stepped}
use Rattle.rs_view.proofs.Steps.{grows}

pub within_same : (c : StoreCut) → Within c c
within_same c = (refl, refl, λ i. le_refl (numbers_of c i))

pub within_then : (c d e : StoreCut) → Within c d → Within d e → Within c e
within_then c d e a b = (b.0 ∙ a.0, b.1 ∙ a.1, λ i. le_trans (a.2 i) (b.2 i))

pub within_fold : (c : StoreCut) (ops : List Step) → Within c (fold stepped c ops)
within_fold c [] = within_same c
within_fold c (s ∷ ops) = within_then c (stepped c s) (fold stepped (stepped c s) ops) (refl, refl, grows c.counts s.address) (within_fold (stepped c s) ops)

pub contains_more : (x y : StoreCut) (v : Option StoreCut) → Within x y → Contains x v → Contains y v
contains_more x y None up h = tt
contains_more x y (Some d) up h = within_then d x y h up

-- what is known is in each cut that contains the greatest
pub known_within : (x c : StoreCut) (v : Option StoreCut) → Contains x v → Knows v c → Within c x
known_within x c None h k = absurd k
known_within x c (Some d) h k = within_then c d x k h

pub begins : (x : StoreCut) → Keeps x (None ∷ [])
begins x zero v e = subst (Contains x) (some-injective None v e) tt
begins x (suc seat) v e = absurd (some-ne-none v (sym e))

pub admits : Admits (λ (t : CutTable). Keeps (cut_of t)) None
admits x views h seat v at = ⊎_elim (h seat v) (λ e. subst (Contains (cut_of x)) e tt) (at_snoc views None v seat at)

stays : (x y : StoreCut) (views : List (Option StoreCut)) (seat : ℕ) (w : Option StoreCut) → Within x y → Keeps x views → Contains y w → Keeps y (set views seat w)
stays x y views seat w up h mine j u e = ⊎_elim (λ t. subst (Contains y) t.1 mine) (λ t. contains_more x y u up (h j u t.1)) (at_set views seat j w u e)

pub rises : (seat : ℕ) (v : Option StoreCut) (x y : CutTable) → Within (cut_of x) (cut_of y) → TurnsAt (λ (t : CutTable). Keeps (cut_of t)) seat v x y (λ v x y w. (w ≡ Some (cut_of y)) × Contains (cut_of y) v)
rises seat v x y up views h at = let c = cut_of y in
    (Some c, stays (cut_of x) c views seat (Some c) up h (within_same c), (refl, contains_more (cut_of x) c v up (h seat v at)))

pub sees : (seat : ℕ) (v : Option StoreCut) (x : CutTable) → TurnsAt (λ (t : CutTable). Keeps (cut_of t)) seat v x x (λ v x y w. (w ≡ Some (cut_of y)) × Contains (cut_of y) v)
sees seat v x = rises seat v x x (within_same (cut_of x))

pub forks : (seat : ℕ) (v : Option StoreCut) → Forks (λ (t : CutTable). Keeps (cut_of t)) seat v v v
forks seat v x views h at j u e = let c = cut_of x in
    ⊎_elim (stays c c views seat v (within_same c) h (h seat v at) j u) (λ same. subst (Contains c) same (h seat v at)) (at_snoc (set views seat v) v u j e)

pub merges : (seat : ℕ) (v : Option StoreCut) (other : ℕ) (w : Option StoreCut) → Merges (λ (t : CutTable). Keeps (cut_of t)) seat v other w w None
merges seat v other w x views h at apart there = let c = cut_of x in
    let theirs : Contains c w = ⊎_elim (λ (t : (other ≡ seat) × (w ≡ w)). absurd (apart t.0)) (λ (t : (other ≢ seat) × (get_elem? views other ≡ some w)). h other w t.1) (at_set views seat other w w there) in
    stays c c (set views seat w) other None (within_same c) (stays c c views seat w (within_same c) h theirs) tt

pub remembers : (x y : StoreCut) (v w : Option StoreCut) → Within x y → Contains x v → w ≡ Some y → Remembers w v
remembers x y v w up h is c k = subst (λ (u : Option StoreCut). Knows u c) (sym is) (within_then c x y (known_within x c v h k) up)
