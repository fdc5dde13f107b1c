-- What is read has room in the totals.
use Rattle.rs_entry.specs.declared.entry.Body.TheVariants as body
use Rattle.std.proofs.Common.{◌≡◌, ℕ, zero, suc, ◌+◌, ◌≤◌, Bool, true, false, cond, eqb, ltb, List, [], ◌∷◌, length, map, codes, Result, Ok, Err, refl, subst, arith}
use Rattle.std.specs.Str.{bytes_eq}
use Rattle.std.proofs.lemmas.Bool.{ltb-true}
use Rattle.std.proofs.lemmas.List.{length-map}
use Rattle.rs_entry.specs.declared.entry.Op.{Op}
use Rattle.rs_entry.specs.declared.entry.Body.{Body}
use Rattle.rs_field.specs.declared.fault.TextKind.{TextKind}
use Rattle.rs_field.specs.declared.fault.TextKind.TheVariants.{Limit, BadLine}
use Rattle.rs_field.specs.Fields.{◌>>=◌, Fields, Read, guard, id_of}
use Rattle.rs_text.specs.Bodies.{op_at, pair_at, many_at, write_at, split_at, side_at}
use Rattle.rs_entry.specs.Entries.{ops_in, pairs_in}
use Rattle.rs_field.proofs.ReadLaws.{bind_ok}

-- an item that was read had room
abbrev pub Refuses : {A : Type 0} → (Bool → List ℕ → Fields → Read A) → Type 0
Refuses {A} item = (room : Bool) (field : List ℕ) (fs : Fields) (x : A × Fields) → item room field fs ≡ Ok x → room ≡ true

no_op : {A : Type 0} (put del : Bool) (k : Read A) (room : Bool) (x : A × Fields) (f g : Unit {0} → Read A) → cond put (guard room Limit >>= f) (cond del (guard room Limit >>= g) (Err BadLine)) ≡ Ok x → room ≡ true
no_op true del k true x f g e = refl
no_op true del k false x f g e = absurd cc
no_op false true k true x f g e = refl
no_op false true k false x f g e = absurd cc
no_op false false k room x f g e = absurd cc

pub op_refuses : Refuses op_at
unfolding op_at
op_refuses room word fs x e = no_op (bytes_eq word (codes "put")) (bytes_eq word (codes "del")) (Err BadLine) room x _ _ e

no_pair : {A : Type 0} (id : Result ℕ TextKind) (room : Bool) (x : A × Fields) (f : ℕ → Read A) → (id >>= λ n. guard room Limit >>= λ _. f n) ≡ Ok x → room ≡ true
no_pair (Ok n) true x f e = refl
no_pair (Ok n) false x f e = absurd cc
no_pair (Err k) room x f e = absurd cc

pub pair_refuses : Refuses pair_at
unfolding pair_at
pair_refuses room field fs x e = no_pair (id_of field) room x _ e

pub many_fits : {A : Type 0} (item : Bool → List ℕ → Fields → Read A) (all left total : ℕ) (fs : Fields) (xs : List A) → Refuses item → total ≤ all → many_at item all left total fs ≡ Ok xs → total + length xs ≤ all
unfolding many_at
many_fits item all left total [] xs full le e = let n : [] ≡ xs = cc in subst (λ (ys : List _). total + length ys ≤ all) n (omega arith)
many_fits item all zero total (f ∷ fs) xs full le e =
    let b = bind_ok (item false f fs) (λ x. Ok []) xs e in
    let r = full false f fs b.0 b.1 in absurd cc
many_fits {A} item all (suc left) total (f ∷ fs) xs full le e =
    let b = bind_ok (item (ltb total all) f fs) (λ x. many_at item all left (total + 1) x.1 >>= λ ys. Ok (x.0 ∷ ys)) xs e in
    let r = ltb-true _ _ (full (ltb total all) f fs b.0 b.1) in
    let d = bind_ok (many_at item all left (total + 1) b.0.1) (λ ys. Ok (b.0.0 ∷ ys)) xs b.2 in
    let h = many_fits item all left (total + 1) b.0.1 d.0 full (omega arith) d.1 in
    let n : b.0.0 ∷ d.0 ≡ xs = cc (d.2) in
    subst (λ (ys : List A). total + length ys ≤ all) n (omega (arith, h))

pub not_none : {A : Type 0} (b : Bool) (x y : A) → cond b (Err BadLine) (Ok x) ≡ Ok y → x ≡ y
not_none true x y e = absurd cc
not_none false x y e = cc

pub write_fits : (total : ℕ) (fs : Fields) (xs : List Op) → total ≤ 1048576 → write_at total fs ≡ Ok xs → total + length xs ≤ 1048576
unfolding write_at
write_fits total fs xs le e =
    let b = bind_ok (many_at op_at 1048576 1024 total fs) (λ ops. cond (eqb (length ops) 0) (Err BadLine) (Ok ops)) xs e in
    let h = many_fits op_at 1048576 1024 total fs b.0 op_refuses le b.1 in
    subst (λ (ys : List Op). total + length ys ≤ 1048576) (not_none (eqb (length b.0) 0) b.0 xs b.2) h

abbrev pub FitsSplit : ℕ → Body → Type 0
FitsSplit boots b = (ops_in b ≡ 0) × (boots + pairs_in b ≤ 4096)

pub split_fits : (boots : ℕ) (fs : Fields) (b : Body) → boots ≤ 4096 → split_at boots fs ≡ Ok b → FitsSplit boots b
unfolding split_at
split_fits boots fs b le e =
    let s = bind_ok (side_at fs) (λ side. many_at pair_at 4096 64 boots side.1 >>= λ pairs. cond (eqb (length pairs) 0) (Err BadLine) (Ok (body.Split side.0 (map (λ p. p.0) pairs) (map (λ p. p.1) pairs)))) b e in
    let p = bind_ok (many_at pair_at 4096 64 boots s.0.1) (λ pairs. cond (eqb (length pairs) 0) (Err BadLine) (Ok (body.Split s.0.0 (map (λ p. p.0) pairs) (map (λ p. p.1) pairs)))) b s.2 in
    let h = many_fits pair_at 4096 64 boots s.0.1 p.0 pair_refuses le p.1 in
    let split : Body = body.Split s.0.0 (map (λ p. p.0) p.0) (map (λ p. p.1) p.0) in
    subst (FitsSplit boots) (not_none (eqb (length p.0) 0) split b p.2) (refl, omega (arith, h, length-map p.0 (λ p. p.0)))
