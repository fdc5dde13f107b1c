-- What is left of a source after one read more.
use Rattle.std.proofs.Common.{◌≡◌, ℕ, ◌+◌, ◌≤◌, List, ◌++◌, length, take, arith, length-append, length-take}
use Rattle.std.specs.Prelude.{Option}
use Rattle.std.specs.Io.KnownBytes.{Consumes}
use Rattle.std.proofs.KnownBytes.{Consumes-trans}
use Rattle.rs_base.specs.Moves.{Takes}

-- some bytes were taken, and then the first n of a buffer
pub Takes-more : (a b c : Option (List ℕ)) (front buf : List ℕ) (n : ℕ) → Consumes a b front → Consumes b c (take n buf) → n ≤ length buf → Takes a c (length front + n)
Takes-more a b c front buf n before now within =
    let len : length (front ++ take n buf) ≡ length front + n = omega (arith, length-append front (take n buf), length-take n buf) in
    (front ++ take n buf, len, Consumes-trans a b c front (take n buf) before now)
