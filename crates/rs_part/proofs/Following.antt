-- What one step keeps, an order keeps.
use Rattle.std.proofs.Common.{◌≡◌, ℕ, suc, Bool, true, false, cond, List, [], ◌∷◌, ◌++◌, refl, ap, ◌∙◌, subst, arith}
use Rattle.rs_entry.specs.declared.input.Store.{Store}
use Rattle.rs_store.specs.declared.fault.StepFault.{StepFault}
use Rattle.rs_store.specs.Stores.{Applied, Broke, Stepped, Went, is_ready, step}
use Rattle.rs_part.specs.Orders.{End, Faulty, NotReady, follow, follow_by}

-- each step of a region that is ready keeps it
abbrev pub Keeps : Store → (Applied → Type 0) → Type 0
Keeps store P = (g k : Applied) (id : ℕ) → is_ready store g id ≡ true → step store g id ≡ Went k → P g → P k

-- so an order does
pub order_keeps : (store : Store) (P : Applied → Type 0) → Keeps store P → (order : List ℕ) (place : ℕ) (g h : Applied) → P g → follow store place order g ≡ End h → P h
order_keeps store P keeps [] place g h start e = subst P one start
  where
    one : g ≡ h
    one = cc
order_keeps store P keeps (id ∷ order) place g h start e =
    go (is_ready store g id) refl (step store g id) refl (λ k p f. order_keeps store P keeps order (suc place) k h p f)
  where
    go : (b : Bool) → is_ready store g id ≡ b → (s : Stepped) → step store g id ≡ s → ((k : Applied) → P k → follow store (suc place) order k ≡ End h → P h) → P h
    go true b (Went k) s rest = rest k (keeps g k id b s start) (grind (arith, b, s, e))
    go true b (Broke fault) s rest = absurd (grind (arith, b, s, e))
    go false b s t rest = absurd (grind (arith, b, e))

-- a region that is ready, in a state that has it, breaks with this fault
abbrev pub Breaks : Store → (Applied → Type 0) → StepFault → Type 0
Breaks store P fault = (k : Applied) × (id : ℕ) × P k × (is_ready store k id ≡ true) × (step store k id ≡ Broke fault)

-- an order that meets a fault meets it so
pub order_breaks : (store : Store) (P : Applied → Type 0) → Keeps store P → (order : List ℕ) (place : ℕ) (g : Applied) (fault : StepFault) → P g
    → follow store place order g ≡ Faulty fault
    → Breaks store P fault
order_breaks store P keeps [] place g fault start e = absurd cc
order_breaks store P keeps (id ∷ order) place g fault start e =
    go (is_ready store g id) refl (step store g id) refl (λ k p f. order_breaks store P keeps order (suc place) k fault p f)
  where
    go : (b : Bool) → is_ready store g id ≡ b → (s : Stepped) → step store g id ≡ s
        → ((k : Applied) → P k → follow store (suc place) order k ≡ Faulty fault → Breaks store P fault) → Breaks store P fault
    go true b (Went k) s rest = rest k (keeps g k id b s start) (grind (arith, b, s, e))
    go true b (Broke other) s rest = (g, id, start, b, s ∙ ap Broke (grind (arith, b, s, e)))
    go false b s t rest = absurd (grind (arith, b, e))

-- an order, and one step more
pub follow_more : (store : Store) (order : List ℕ) (place : ℕ) (g k h : Applied) (id : ℕ) → follow store place order g ≡ End k → is_ready store k id ≡ true → step store k id ≡ Went h
    → follow store place (order ++ id ∷ []) g ≡ End h
follow_more store [] place g k h id e ready st =
    let one : g ≡ k = cc e in
    ap (λ z. cond (is_ready store z id) (follow_by (follow store (suc place) []) (step store z id)) (NotReady place)) one
    ∙ (ap (λ b. cond b (follow_by (follow store (suc place) []) (step store k id)) (NotReady place)) ready ∙ ap (follow_by (follow store (suc place) [])) st)
follow_more store (x ∷ order) place g k h id e ready st =
    go (is_ready store g x) refl (step store g x) refl (λ j f. follow_more store order (suc place) j k h id f ready st)
  where
    go : (b : Bool) → is_ready store g x ≡ b → (s : Stepped) → step store g x ≡ s
        → ((j : Applied) → follow store (suc place) order j ≡ End k → follow store (suc place) (order ++ id ∷ []) j ≡ End h) → follow store place (x ∷ (order ++ id ∷ [])) g ≡ End h
    go true b (Went j) s rest =
        ap (λ z. cond z (follow_by (follow store (suc place) (order ++ id ∷ [])) (step store g x)) (NotReady place)) b
        ∙ (ap (follow_by (follow store (suc place) (order ++ id ∷ []))) s ∙ rest j (grind (arith, b, s, e)))
    go true b (Broke fault) s rest = absurd (grind (arith, b, s, e))
    go false b s t rest = absurd (grind (arith, b, e))
