-- A join of two ranges next to each other holds exactly what its parts held.
use Rattle.std.proofs.Common.{◌≡◌, ℕ, Bool, true, false, ◌||◌, List, Option, Some, None, refl, ap, ◌∙◌, arith, subst}
use Rattle.std.specs.Prelude.{if◌then◌else◌}
use Rattle.rs_key.specs.Ranges.{Bounds, is_range, holds, meets, join}
use Rattle.rs_key.proofs.RangeLaws.{same_bytes_is, joined_is_range}
use Rattle.rs_region.specs.Laws.{Rises, JoinHoldsBoth, JoinRises}
use Rattle.rs_region.proofs.KeyOrder.{cut_in_two}

or_swap : (a b : Bool) → (a || b) ≡ (b || a)
or_swap true true = refl
or_swap true false = refl
or_swap false true = refl
or_swap false false = refl

-- the end of the first is the start of the second
joined_holds : (x e s y : Option (List ℕ)) → meets e s ≡ true → is_range x e ≡ true → is_range s y ≡ true → (key : List ℕ)
    → holds (record { start = x; end = y }) key ≡ (holds (record { start = x; end = e }) key || holds (record { start = s; end = y }) key)
joined_holds x None s y m a b key = absurd cc
joined_holds x (Some e) None y m a b key = absurd cc
joined_holds x (Some e) (Some s) y m a b key =
    subst (λ (z : List ℕ). is_range (Some z) y ≡ true → holds (record { start = x; end = y }) key ≡ (holds (record { start = x; end = Some e }) key || holds (record { start = Some z; end = y }) key))
    (same_bytes_is e s m) (λ c. cut_in_two x y e a c key) b

abbrev joined_by : Bool → Bounds → Bounds → Bounds
joined_by c a b = if c then record { start = a.start; end = b.end } else record { start = b.start; end = a.end }

pub join_holds : JoinHoldsBoth
join_holds a b sa sb next key = go (meets a.end b.start) refl (meets b.end a.start) refl
  where
    go : (c : Bool) → meets a.end b.start ≡ c → (d : Bool) → meets b.end a.start ≡ d → holds (join a b) key ≡ (holds a key || holds b key)
    go true e d f = ap (λ (z : Bool). holds (joined_by z a b) key) e ∙ joined_holds a.start a.end b.start b.end e sa sb key
    go false e true f =
        ap (λ (z : Bool). holds (joined_by z a b) key) e ∙ (joined_holds b.start b.end a.start a.end f sb sa key ∙ or_swap (holds b key) (holds a key))
    go false e false f = absurd (grind (arith, e, f, next))

pub join_rises : JoinRises
join_rises a b sa sb next = go (meets a.end b.start) refl (meets b.end a.start) refl
  where
    go : (c : Bool) → meets a.end b.start ≡ c → (d : Bool) → meets b.end a.start ≡ d → Rises (join a b)
    go true e d f = ap (λ (z : Bool). is_range (joined_by z a b).start (joined_by z a b).end) e ∙ joined_is_range a.start a.end b.start b.end sa sb e
    go false e true f = ap (λ (z : Bool). is_range (joined_by z a b).start (joined_by z a b).end) e ∙ joined_is_range b.start b.end a.start a.end sb sa f
    go false e false f = absurd (grind (arith, e, f, next))
