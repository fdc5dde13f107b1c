-- A region's part has items for keys of its range alone.
use Rattle.std.proofs.Common.{◌≡◌, ℕ, zero, suc, false, cond, List, [], Option, Some, None, refl, ap, ◌∙◌, subst}
use Rattle.rs_key.specs.Ranges.{holds}
use Rattle.rs_entry.specs.declared.input.Store.{Store}
use Rattle.rs_store.specs.declared.regions.Made.{Made}
use Rattle.rs_store.specs.Stores.{Applied, Broke, Stepped, Went, entries_in, first_some, opening, then_advance}
use Rattle.rs_part.specs.Items.{history_of}
use Rattle.rs_part.specs.Parts.{Part, at, first_part, part_of, part_when}
use Rattle.rs_part.proofs.Moments.{part_now_cases}

-- there are no items of a key outside the range
abbrev pub IsInside : Part → Type 0
IsInside v = (key : List ℕ) → holds v.state.range key ≡ false → v.items key ≡ []

of_part : (g : Applied) (r : Made) → IsInside (part_of g r)
of_part g r key out = ap (λ b. cond b (history_of g.writes key) []) out

of_when : (id index : ℕ) (s : Stepped) (v : Part) → part_when id index s ≡ Some v → IsInside v
of_when id index (Broke fault) v e = absurd (cc e)
of_when id index (Went g) v e = (let w = part_now_cases index g (g.region id) v e in subst IsInside w.3 (of_part g w.0))

of_first : (store : Store) (id index n : ℕ) (s : Stepped) (v : Part) → first_part store id index n s ≡ Some v → IsInside v
of_first store id index zero s v e = of_when id index s v e
of_first store id index (suc n) s v e = go (part_when id index s) refl e (of_first store id index n (then_advance store s) v)
  where
    go : (o : Option Part) → part_when id index s ≡ o → first_some o (first_part store id index n (then_advance store s)) ≡ Some v
        → (first_part store id index n (then_advance store s) ≡ Some v → IsInside v) → IsInside v
    go None f h more = more h
    go (Some x) f h more = of_when id index s v (f ∙ h)

-- the part at an index is so
pub at_inside : (store : Store) (id index : ℕ) (v : Part) → at store id index ≡ Some v → IsInside v
unfolding at
at_inside store id index v e = of_first store id index (entries_in store) (Went (opening store)) v e
