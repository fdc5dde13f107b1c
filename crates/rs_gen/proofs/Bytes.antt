-- How large a round's bytes and keys are.
use Rattle.std.proofs.Common.{ℕ, ◌+◌, ◌-◌, ◌*◌, ◌<◌, ◌≤◌, ◌%◌, arith}
use Rattle.std.proofs.lemmas.Nat.{mod_below}
use Rattle.rs_gen.specs.Rounds.{byte, byte_in, cut, high, low}
use Rattle.rs_gen.specs.Inputs.{rounds_of}

pub byte_below : (n t place : ℕ) → byte_in n t place < 256
unfolding byte
byte_below n t place = mod_below (n % 256 + 91 * (17 * t + place)) 256 (omega arith)

pub cut_some : (n t : ℕ) → 0 < cut n t
unfolding cut
cut_some n t = omega arith

pub cut_below : (n t : ℕ) → cut n t < 256
unfolding cut
cut_below n t = (let below : byte_in n t 0 % 255 < 255 = mod_below (byte_in n t 0) 255 (omega arith) in omega arith)

pub low_below : (n t place : ℕ) → low n t place < cut n t
low_below n t place = mod_below (byte_in n t place) (cut n t) (cut_some n t)

pub high_below : (n t place : ℕ) → high n t place < 256
high_below n t place =
    let most : cut n t < 256 = cut_below n t in
    let below : byte_in n t place % (256 - cut n t) < 256 - cut n t = mod_below (byte_in n t place) (256 - cut n t) (omega arith) in
    omega arith

pub few_rounds : (n : ℕ) → rounds_of n ≤ 2000
unfolding rounds_of
few_rounds n = (let below : n % 2000 < 2000 = mod_below n 2000 (omega arith) in omega arith)
