-- What holds after a call that may want memory.
use Rattle.std.proofs.Common.{◌≡◌, subst, sym}
use Rattle.std.specs.Prelude.{Result, Ok, Err, OnOk, OnErr}

-- what holds of both values that a call may leave holds of the one that it left
pub either_way : {A B X : Type 0} (r : Result A B) (P : X → Type 0) (old more new : X) → OnOk r (new ≡ more) → OnErr r (new ≡ old) → P old → P more → P new
either_way (Ok x) P old more new ok err before after = subst P (sym ok) after
either_way (Err e) P old more new ok err before after = subst P (sym err) before

-- what a good answer comes with
pub with_ok : {A B : Type 0} {P : Type 0} (r : Result A B) (x : A) → r ≡ Ok x → OnOk r P → P
with_ok {P = P} r x is h = subst (λ z. OnOk z P) is h

-- what follows from that
pub then_ok : {A B : Type 0} {P Q : Type 0} (r : Result A B) → (P → Q) → OnOk r P → OnOk r Q
then_ok (Ok x) f h = f h
then_ok (Err e) f h = h
