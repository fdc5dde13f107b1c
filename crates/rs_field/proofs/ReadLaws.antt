-- What a step of a reader that went well shows.
use Rattle.std.proofs.Common.{◌≡◌, Bool, true, false, [], ◌∷◌, Result, Ok, Err, refl}
use Rattle.rs_field.specs.declared.fault.TextKind.{TextKind}
use Rattle.rs_field.specs.Fields.{◌>>=◌, Fields, guard, end_at}

-- the value of a step that did not fail
pub bind_ok : {A B : Type 0} (r : Result A TextKind) (f : A → Result B TextKind) (y : B) → (r >>= f) ≡ Ok y → (x : A) × (r ≡ Ok x) × (f x ≡ Ok y)
bind_ok (Ok x) f y e = (x, refl, e)
bind_ok (Err d) f y e = absurd cc

-- the test held
pub guard_ok : (b : Bool) (kind : TextKind) (u : Unit {0}) → guard b kind ≡ Ok u → b ≡ true
guard_ok true kind u e = refl
guard_ok false kind u e = absurd cc

-- no field was left
pub ended : (fields : Fields) (u : Unit {0}) → end_at fields ≡ Ok u → fields ≡ []
ended [] u e = refl
ended (f ∷ fs) u e = absurd cc
