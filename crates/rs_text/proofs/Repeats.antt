-- Operations and pairs, one after the other, as a loop reads them.
use Rattle.rs_field.specs.declared.fault.LineError.TheVariants as errors
use Rattle.std.proofs.Common.{◌≡◌, ℕ, zero, suc, ◌+◌, ◌-◌, ◌<◌, ◌≤◌, Bool, false, ltb, List, [], ◌∷◌, ◌++◌, Result, Ok, Err, refl, sym, ap, ◌∙◌, arith}
use Rattle.std.proofs.lemmas.List.{append-nil, append_assoc}
use Rattle.std.proofs.lemmas.Bool.{le-ltb, lt-ltb}
use Rattle.rs_field.specs.declared.fault.TextKind.{TextKind}
use Rattle.rs_field.specs.declared.fault.TextKind.TheVariants.{Limit, BadLine}
use Rattle.rs_field.specs.declared.fault.LineError.{LineError}
use Rattle.rs_field.specs.Fields.{◌>>=◌, Fields, Read, id_of}
use Rattle.rs_field.specs.Gives.{Fails}
use Rattle.rs_text.specs.Bodies.{many_at, peers_at}

-- what was read before, and what is still read
abbrev pub with_front : {A : Type 0} → List A → Result (List A) TextKind → Result (List A) TextKind
with_front front read = read >>= λ xs. Ok (front ++ xs)

regroup : {A : Type 0} (front : List A) (x : A) (read : Result (List A) TextKind) → with_front front (read >>= λ xs. Ok (x ∷ xs)) ≡ with_front (front ++ x ∷ []) read
regroup front x (Ok xs) = ap (λ ys. Ok ys) (sym (append_assoc front (x ∷ []) xs))
regroup front x (Err kind) = refl

-- one more item is read
pub goes_on : {A : Type 0} (item : Bool → List ℕ → Fields → Read A) (all most count total : ℕ) (field : List ℕ) (fs : Fields) (front : List A) (x : A) (after : Fields) (whole : Result (List A) TextKind) → count < most
    → item (ltb (total + count) all) field fs ≡ Ok (x, after)
    → with_front front (many_at item all (most - count) (total + count) (field ∷ fs)) ≡ whole
    → with_front (front ++ x ∷ []) (many_at item all (most - (count + 1)) (total + (count + 1)) after) ≡ whole
unfolding many_at
goes_on item all most count total field fs front x after whole lt h so_far =
    let k : most - count ≡ suc (most - (count + 1)) = omega arith in
    let t : total + (count + 1) ≡ (total + count) + 1 = omega arith in
    let one : with_front front (many_at item all (most - count) (total + count) (field ∷ fs)) ≡ with_front (front ++ x ∷ []) (many_at item all (most - (count + 1)) ((total + count) + 1) after) = rw (k, h) (regroup front x (many_at item all (most - (count + 1)) ((total + count) + 1) after)) in
    rw t (sym one ∙ so_far)

-- an item is bad
pub stops : {A : Type 0} (item : Bool → List ℕ → Fields → Read A) (all most count total : ℕ) (field : List ℕ) (fs : Fields) (front : List A) (e : LineError) (whole : Result (List A) TextKind) → count < most
    → Fails e (item (ltb (total + count) all) field fs)
    → with_front front (many_at item all (most - count) (total + count) (field ∷ fs)) ≡ whole
    → Fails e whole
unfolding many_at
stops item all most count total field fs front errors.NoMemory whole lt h so_far = tt
stops item all most count total field fs front (errors.Bad kind) whole lt h so_far =
    let k : most - count ≡ suc (most - (count + 1)) = omega arith in
    let one : with_front front (many_at item all (most - count) (total + count) (field ∷ fs)) ≡ Err kind = rw (k, h) refl in
    sym so_far ∙ one

-- the line has ended
pub is_done : {A : Type 0} (item : Bool → List ℕ → Fields → Read A) (all left total : ℕ) (front : List A) (whole : Result (List A) TextKind) → with_front front (many_at item all left total []) ≡ whole → whole ≡ Ok front
unfolding many_at
is_done item all left total front whole so_far = sym so_far ∙ ap (λ xs. Ok xs) (append-nil front)

-- an item past the last: its fault, or none
pub is_full : {A : Type 0} (item : Bool → List ℕ → Fields → Read A) (all most count total : ℕ) (field : List ℕ) (fs : Fields) (front : List A) (x : A × Fields) (whole : Result (List A) TextKind) → most ≤ count
    → item false field fs ≡ Ok x
    → with_front front (many_at item all (most - count) (total + count) (field ∷ fs)) ≡ whole
    → whole ≡ Ok front
unfolding many_at
is_full item all most count total field fs front x whole le h so_far =
    let k : most - count ≡ 0 = omega arith in
    let one : with_front front (many_at item all (most - count) (total + count) (field ∷ fs)) ≡ Ok front = rw (k, h) (ap (λ xs. Ok xs) (append-nil front)) in
    sym so_far ∙ one

pub stops_full : {A : Type 0} (item : Bool → List ℕ → Fields → Read A) (all most count total : ℕ) (field : List ℕ) (fs : Fields) (front : List A) (e : LineError) (whole : Result (List A) TextKind) → most ≤ count
    → Fails e (item false field fs)
    → with_front front (many_at item all (most - count) (total + count) (field ∷ fs)) ≡ whole
    → Fails e whole
unfolding many_at
stops_full item all most count total field fs front errors.NoMemory whole le h so_far = tt
stops_full item all most count total field fs front (errors.Bad kind) whole le h so_far =
    let k : most - count ≡ 0 = omega arith in
    let one : with_front front (many_at item all (most - count) (total + count) (field ∷ fs)) ≡ Err kind = rw (k, h) refl in
    sym so_far ∙ one

-- ---- peers

-- one more peer is read
pub peer_goes_on : (count before : ℕ) (field : List ℕ) (fs : Fields) (front : List ℕ) (id : ℕ) (whole : Result (List ℕ) TextKind) → count < 64 → id_of field ≡ Ok id → before < id
    → with_front front (peers_at (64 - count) before (field ∷ fs)) ≡ whole
    → with_front (front ++ id ∷ []) (peers_at (64 - (count + 1)) id fs) ≡ whole
unfolding peers_at
peer_goes_on count before field fs front id whole lt h above so_far =
    let k : 64 - count ≡ suc (64 - (count + 1)) = omega arith in
    let one : with_front front (peers_at (64 - count) before (field ∷ fs)) ≡ with_front (front ++ id ∷ []) (peers_at (64 - (count + 1)) id fs) = rw (k, h, lt-ltb before id above) (regroup front id (peers_at (64 - (count + 1)) id fs)) in
    sym one ∙ so_far

pub peer_stops : (count before : ℕ) (field : List ℕ) (fs : Fields) (front : List ℕ) (kind : TextKind) (whole : Result (List ℕ) TextKind) → id_of field ≡ Err kind
    → with_front front (peers_at (64 - count) before (field ∷ fs)) ≡ whole → whole ≡ Err kind
unfolding peers_at
peer_stops count before field fs front kind whole h so_far = go (64 - count) so_far where
  go : (left : ℕ) → with_front front (peers_at left before (field ∷ fs)) ≡ whole → whole ≡ Err kind
  go zero e = sym e ∙ rw h refl
  go (suc left) e = sym e ∙ rw h refl

pub peer_below : (count before : ℕ) (field : List ℕ) (fs : Fields) (front : List ℕ) (id : ℕ) (whole : Result (List ℕ) TextKind) → count < 64 → id_of field ≡ Ok id → id ≤ before
    → with_front front (peers_at (64 - count) before (field ∷ fs)) ≡ whole → whole ≡ Err BadLine
unfolding peers_at
peer_below count before field fs front id whole lt h le so_far =
    let k : 64 - count ≡ suc (64 - (count + 1)) = omega arith in
    sym so_far ∙ rw (k, h, le-ltb before id le) refl

pub peers_done : (left before : ℕ) (front : List ℕ) (whole : Result (List ℕ) TextKind) → with_front front (peers_at left before []) ≡ whole → whole ≡ Ok front
unfolding peers_at
peers_done left before front whole so_far = sym so_far ∙ ap (λ xs. Ok xs) (append-nil front)

pub peer_full : (count before : ℕ) (field : List ℕ) (fs : Fields) (front : List ℕ) (id : ℕ) (whole : Result (List ℕ) TextKind) → 64 ≤ count → id_of field ≡ Ok id
    → with_front front (peers_at (64 - count) before (field ∷ fs)) ≡ whole → whole ≡ Err Limit
unfolding peers_at
peer_full count before field fs front id whole le h so_far =
    let k : 64 - count ≡ 0 = omega arith in
    sym so_far ∙ rw (k, h) refl
