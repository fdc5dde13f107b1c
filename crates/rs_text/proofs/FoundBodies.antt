-- A body that is read is spelled so.
-- `X_spelled`: the fields that the reader X took are spelled as what it gave, and that keeps its limits.
use Rattle.rs_entry.specs.declared.entry.CarriedBody.TheVariants as carried
use Rattle.rs_entry.specs.declared.entry.Body.TheVariants as body
use Rattle.std.proofs.Common.{◌≡◌, ℕ, zero, suc, ◌+◌, ◌<◌, ◌≤◌, Bool, true, false, ◌||◌, cond, eqb, ltb, leb, List, [], ◌∷◌, ◌++◌, length, map, codes, Ok, Err, refl, ap, subst, inl, inr, ◌⊎◌, arith}
use Rattle.std.specs.List.{flat_map, AllByRecursion}
use Rattle.std.specs.Str.{bytes_eq}
use Rattle.std.proofs.lemmas.Bool.{ltb-true, leb-true, eqb-true, eqb-false}
use Rattle.std.proofs.lemmas.List.{length-map}
use Rattle.rs_entry.specs.declared.entry.Op.{Op}
use Rattle.rs_entry.specs.declared.entry.Op.TheVariants.{Put, Delete}
use Rattle.rs_entry.specs.declared.entry.Side.{Side}
use Rattle.rs_entry.specs.declared.entry.Side.TheVariants.{Right, Left}
use Rattle.rs_entry.specs.declared.entry.Change.TheVariants.{Add, Remove}
use Rattle.rs_entry.specs.declared.entry.CarriedBody.{CarriedBody}
use Rattle.rs_entry.specs.declared.entry.Body.{Body}
use Rattle.rs_text.specs.declared.progress.Progress.{Progress}
use Rattle.rs_field.specs.declared.fault.TextKind.TheVariants.{BadLine, BadCarry, Limit}
use Rattle.rs_field.specs.Fields.{◌>>=◌, Fields, Read, guard, end_at, number_at, id_of, id_at, key_at, value_at}
use Rattle.rs_text.specs.Bodies.{op_at, many_at, write_at, side_at, pair_at, split_at, target_at, last_number_at, commit_at, conf_at, peers_at, boot_peers_at, carried_body_at, bad_word}
use Rattle.rs_text.specs.Steps.{body_at}
use Rattle.rs_entry.specs.Entries.{ops_in, pairs_in, carried_ops_in}
use Rattle.rs_field.specs.Forms.{Hex, Forms, number, value, SpellsFields}
use Rattle.rs_text.specs.Logs.{op_forms, side, pair_forms, body_forms, carried_body_forms}
use Rattle.rs_entry.specs.WellFormed.{IsNumber, IsId, IsKey, IsOp, IsWrite, IsBody, Rising, ArePeers}
use Rattle.rs_field.proofs.ReadLaws.{bind_ok, guard_ok}
use Rattle.rs_text.proofs.FieldLaws.{TakesOne, id_spelled, id_takes, is_word, key_takes, none_left, number_takes, then_spelled, value_takes}
use Rattle.rs_text.proofs.OnlyBodies.{IsPlainBody}
use Rattle.rs_text.proofs.Totals.{Refuses, not_none, op_refuses, pair_refuses, split_fits, write_fits}

-- ---- items

-- an item that is read is spelled so, whatever follows it
abbrev pub Takes : {A : Type 0} → (Bool → List ℕ → Fields → Read A) → (A → Forms) → (A → Type 0) → Type 0
Takes {A} item forms Is = (room : Bool) (field : List ℕ) (fs : Fields) (x : A × Fields) → item room field fs ≡ Ok x → ((more : Forms) → SpellsFields x.1 more → SpellsFields (field ∷ fs) (forms x.0 ++ more)) × Is x.0

AreRead : {A : Type 0} → (A → Forms) → (A → Type 0) → ℕ → Fields → List A → Type 0
AreRead forms Is left fields xs = SpellsFields fields (flat_map forms xs) × AllByRecursion Is xs × (length xs ≤ left)

many_spelled : {A : Type 0} (item : Bool → List ℕ → Fields → Read A) (forms : A → Forms) (Is : A → Type 0) (all left total : ℕ) (fields : Fields) (xs : List A) → Takes item forms Is → Refuses item → many_at item all left total fields ≡ Ok xs → AreRead forms Is left fields xs
unfolding many_at AreRead
many_spelled {A} item forms Is all left total [] xs take full e =
    let same : [] ≡ xs = cc in
    subst (λ (ys : List A). AreRead forms Is left [] ys) same (tt, tt, omega arith)
many_spelled item forms Is all zero total (f ∷ fs) xs take full e =
    let b = bind_ok (item false f fs) (λ x. Ok []) xs e in
    let r = full false f fs b.0 b.1 in absurd cc
many_spelled {A} item forms Is all (suc left) total (f ∷ fs) xs take full e =
    let b = bind_ok (item (ltb total all) f fs) (λ x. many_at item all left (total + 1) x.1 >>= λ ys. Ok (x.0 ∷ ys)) xs e in
    let d = bind_ok (many_at item all left (total + 1) b.0.1) (λ ys. Ok (b.0.0 ∷ ys)) xs b.2 in
    let t = take (ltb total all) f fs b.0 b.1 in
    let h = many_spelled item forms Is all left (total + 1) b.0.1 d.0 take full d.1 in
    let same : b.0.0 ∷ d.0 ≡ xs = cc (d.2) in
    subst (λ (ys : List A). AreRead forms Is (suc left) (f ∷ fs) ys) same (t.0 (flat_map forms d.0) h.0, (t.1, h.1), omega (arith, h.2))

op_takes : Takes op_at op_forms IsOp
unfolding op_at
op_takes room word fs x e = go (bytes_eq word (codes "put")) (bytes_eq word (codes "del")) refl refl e where
  go : (t u : Bool) → bytes_eq word (codes "put") ≡ t → bytes_eq word (codes "del") ≡ u → cond t (guard room Limit >>= λ _. key_at fs >>= λ k. value_at k.1 >>= λ v. Ok (Put k.0 v.0, v.1)) (cond u (guard room Limit >>= λ _. key_at fs >>= λ k. Ok (Delete k.0, k.1)) (Err BadLine)) ≡ Ok x
      → ((more : Forms) → SpellsFields x.1 more → SpellsFields (word ∷ fs) (op_forms x.0 ++ more)) × IsOp x.0
  go true u h k e =
      let a = bind_ok (guard room Limit) _ x e in
      let b = bind_ok (key_at fs) _ x a.2 in
      let c = bind_ok (value_at b.0.1) _ x b.2 in
      let key = key_takes fs b.0 b.1 in
      let val = value_takes b.0.1 c.0 c.1 in
      let made : Op × Fields = (Put b.0.0 c.0.0, c.0.1) in
      let same : made ≡ x = cc (c.2) in
      subst (λ (y : Op × Fields). ((more : Forms) → SpellsFields y.1 more → SpellsFields (word ∷ fs) (op_forms y.0 ++ more)) × IsOp y.0) same
      (λ more s. (is_word word (codes "put") h, then_spelled Hex fs b.0.0 b.0.1 (value c.0.0 ∷ more) key.0 (then_spelled value b.0.1 c.0.0 c.0.1 more val.0 s)), (key.1, (val.1, val.2)))
  go false true h k e =
      let a = bind_ok (guard room Limit) _ x e in
      let b = bind_ok (key_at fs) _ x a.2 in
      let key = key_takes fs b.0 b.1 in
      let made : Op × Fields = (Delete b.0.0, b.0.1) in
      let same : made ≡ x = cc (b.2) in
      subst (λ (y : Op × Fields). ((more : Forms) → SpellsFields y.1 more → SpellsFields (word ∷ fs) (op_forms y.0 ++ more)) × IsOp y.0) same
      (λ more s. (is_word word (codes "del") k, then_spelled Hex fs b.0.0 b.0.1 more key.0 s), key.1)
  go false false h k e = absurd cc

pub write_spelled : (total : ℕ) (fields : Fields) (ops : List Op) → write_at total fields ≡ Ok ops → SpellsFields fields (flat_map op_forms ops) × IsWrite ops
unfolding write_at AreRead
write_spelled total fields ops e =
    let b = bind_ok (many_at op_at 1048576 1024 total fields) (λ xs. cond (eqb (length xs) 0) (Err BadLine) (Ok xs)) ops e in
    let h = many_spelled op_at op_forms IsOp 1048576 1024 total fields b.0 op_takes op_refuses b.1 in
    go (eqb (length b.0) 0) b.0 refl b.2 h where
      go : (t : Bool) (xs : List Op) → eqb (length xs) 0 ≡ t → cond t (Err BadLine) (Ok xs) ≡ Ok ops → SpellsFields fields (flat_map op_forms xs) × AllByRecursion IsOp xs × (length xs ≤ 1024) → SpellsFields fields (flat_map op_forms ops) × IsWrite ops
      go true xs p q h = absurd cc
      go false xs p q h =
          let same : xs ≡ ops = cc in
          let some : 0 < length xs = omega (arith, eqb-false _ _ p) in
          subst (λ (ys : List Op). SpellsFields fields (flat_map op_forms ys) × IsWrite ys) same (h.0, (some, h.2, h.1))

-- ---- splits

abbrev pub pair_form : ℕ × List ℕ → Forms
pair_form p = number p.0 ∷ Hex p.1 ∷ []

abbrev pub IsPair : ℕ × List ℕ → Type 0
IsPair p = IsId p.0 × IsKey p.1

pair_takes : Takes pair_at pair_form IsPair
unfolding pair_at
pair_takes room field fs x e =
    let a = bind_ok (id_of field) _ x e in
    let b = bind_ok (guard room Limit) _ x a.2 in
    let c = bind_ok (key_at fs) _ x b.2 in
    let id = id_spelled field a.0 a.1 in
    let key = key_takes fs c.0 c.1 in
    let made : (ℕ × List ℕ) × Fields = ((a.0, c.0.0), c.0.1) in
    let same : made ≡ x = cc (c.2) in
    subst (λ (y : (ℕ × List ℕ) × Fields). ((more : Forms) → SpellsFields y.1 more → SpellsFields (field ∷ fs) (pair_form y.0 ++ more)) × IsPair y.0) same
    (λ more s. (id.0, then_spelled Hex fs c.0.0 c.0.1 more key.0 s), (id.1, key.1))

same_pairs : (ps : List (ℕ × List ℕ)) → flat_map pair_form ps ≡ pair_forms (map (λ p. p.0) ps) (map (λ p. p.1) ps)
same_pairs [] = refl
same_pairs (p ∷ ps) = ap (λ (fs : Forms). number p.0 ∷ Hex p.1 ∷ fs) (same_pairs ps)

ids_of : (ps : List (ℕ × List ℕ)) → AllByRecursion IsPair ps → AllByRecursion IsId (map (λ p. p.0) ps)
ids_of [] h = tt
ids_of (p ∷ ps) h = (h.0.0, ids_of ps h.1)

keys_of : (ps : List (ℕ × List ℕ)) → AllByRecursion IsPair ps → AllByRecursion IsKey (map (λ p. p.1) ps)
keys_of [] h = tt
keys_of (p ∷ ps) h = (h.0.1, keys_of ps h.1)

side_spelled : (right left : Bool) (word : List ℕ) (fs : Fields) (x : Side × Fields) → bytes_eq word (codes "right") ≡ right → bytes_eq word (codes "left") ≡ left → cond right (Ok (Right, fs)) (cond left (Ok (Left, fs)) (Err BadLine)) ≡ Ok x → TakesOne side (word ∷ fs) x.0 x.1
side_spelled true u word fs x h k e =
    let made : Side × Fields = (Right, fs) in
    let same : made ≡ x = cc e in
    subst (λ (y : Side × Fields). TakesOne side (word ∷ fs) y.0 y.1) same (record { field = word; parts = refl; spelled = is_word word (codes "right") h })
side_spelled false true word fs x h k e =
    let made : Side × Fields = (Left, fs) in
    let same : made ≡ x = cc e in
    subst (λ (y : Side × Fields). TakesOne side (word ∷ fs) y.0 y.1) same (record { field = word; parts = refl; spelled = is_word word (codes "left") k })
side_spelled false false word fs x h k e = absurd cc

side_takes : (fields : Fields) (x : Side × Fields) → side_at fields ≡ Ok x → TakesOne side fields x.0 x.1
unfolding side_at
side_takes [] x e = absurd cc
side_takes (word ∷ fs) x e = side_spelled (bytes_eq word (codes "right")) (bytes_eq word (codes "left")) word fs x refl refl e

-- what a body's fields spell
abbrev pub IsRead : ℕ → Fields → Body → Type 0
IsRead v fields b = SpellsFields fields (body_forms b) × IsBody v b

split_spelled : (v boots : ℕ) (word : List ℕ) (fields : Fields) (b : Body) → word ≡ codes "split" → split_at boots fields ≡ Ok b → IsRead v (word ∷ fields) b
unfolding split_at AreRead
split_spelled v boots word fields b w e =
    let s = bind_ok (side_at fields) _ b e in
    let p = bind_ok (many_at pair_at 4096 64 boots s.0.1) (λ pairs. cond (eqb (length pairs) 0) (Err BadLine) (Ok (body.Split s.0.0 (map (λ p. p.0) pairs) (map (λ p. p.1) pairs)))) b s.2 in
    let sd = side_takes fields s.0 s.1 in
    let h = many_spelled pair_at pair_form IsPair 4096 64 boots s.0.1 p.0 pair_takes pair_refuses p.1 in
    go (eqb (length p.0) 0) s.0.0 s.0.1 p.0 sd refl p.2 h where
      go : (t : Bool) (sd : Side) (rest : Fields) (ps : List (ℕ × List ℕ)) → TakesOne side fields sd rest → eqb (length ps) 0 ≡ t → cond t (Err BadLine) (Ok (body.Split sd (map (λ p. p.0) ps) (map (λ p. p.1) ps))) ≡ Ok b → SpellsFields rest (flat_map pair_form ps) × AllByRecursion IsPair ps × (length ps ≤ 64) → IsRead v (word ∷ fields) b
      go true sd rest ps k p q h = absurd cc
      go false sd rest ps k p q h =
          let split : Body = body.Split sd (map (λ p. p.0) ps) (map (λ p. p.1) ps) in
          let same : split ≡ b = cc in
          let some : 0 < length ps = omega (arith, eqb-false _ _ p) in
          let ids = length-map ps (λ (p : ℕ × List ℕ). p.0) in
          let keys = length-map ps (λ (p : ℕ × List ℕ). p.1) in
          subst (IsRead v (word ∷ fields)) same (
            (w, then_spelled side fields sd rest (pair_forms (map (λ p. p.0) ps) (map (λ p. p.1) ps)) k (subst (SpellsFields rest) (same_pairs ps) h.0)),
            (omega arith, omega arith, omega arith, ids_of ps h.1, keys_of ps h.1),
          )

-- ---- bodies

target_spelled : (fields : Fields) (n : ℕ) → target_at fields ≡ Ok n → SpellsFields fields (number n ∷ []) × IsId n
unfolding target_at
target_spelled fields n e =
    let a = bind_ok (id_at fields) _ n e in
    let b = bind_ok (end_at a.0.1) _ n a.2 in
    let t = id_takes fields a.0 a.1 in
    let same : a.0.0 ≡ n = cc (b.2) in
    subst (λ (m : ℕ). SpellsFields fields (number m ∷ []) × IsId m) same (then_spelled number fields a.0.0 a.0.1 [] t.0 (none_left a.0.1 b.0 b.1), t.1)

last_spelled : (fields : Fields) (n : ℕ) → last_number_at fields ≡ Ok n → SpellsFields fields (number n ∷ []) × IsNumber n
unfolding last_number_at
last_spelled fields n e =
    let a = bind_ok (number_at fields) _ n e in
    let b = bind_ok (end_at a.0.1) _ n a.2 in
    let t = number_takes fields a.0 a.1 in
    let same : a.0.0 ≡ n = cc (b.2) in
    subst (λ (m : ℕ). SpellsFields fields (number m ∷ []) × IsNumber m) same (then_spelled number fields a.0.0 a.0.1 [] t.0 (none_left a.0.1 b.0 b.1), t.1)

-- SOURCE, COMMIT and COUNT
abbrev pub IsCommit : Fields → ℕ × ℕ × ℕ → Type 0
IsCommit fields c = SpellsFields fields (number c.0 ∷ number c.1 ∷ number c.2 ∷ []) × IsId c.0 × IsNumber c.1 × (c.2 ≤ 4096) × ((eqb c.2 0 || leb (c.2 + 5) c.1) ≡ true)

pub commit_spelled : (fields : Fields) (c : ℕ × ℕ × ℕ) → commit_at fields ≡ Ok c → IsCommit fields c
unfolding commit_at
commit_spelled fields c e =
    let s = bind_ok (id_at fields) _ c e in
    let m = bind_ok (number_at s.0.1) _ c s.2 in
    let n = bind_ok (number_at m.0.1) _ c m.2 in
    let le = bind_ok (guard (leb n.0.0 4096) Limit) _ c n.2 in
    let fits = bind_ok (guard (eqb n.0.0 0 || leb (n.0.0 + 5) m.0.0) BadCarry) _ c le.2 in
    let end = bind_ok (end_at n.0.1) _ c fits.2 in
    let made : ℕ × ℕ × ℕ = (s.0.0, m.0.0, n.0.0) in
    let same : made ≡ c = cc (end.2) in
    let a = id_takes fields s.0 s.1 in
    let b = number_takes s.0.1 m.0 m.1 in
    let d = number_takes m.0.1 n.0 n.1 in
    subst (IsCommit fields) same (
      then_spelled number fields s.0.0 s.0.1 (number m.0.0 ∷ number n.0.0 ∷ []) a.0 (then_spelled number s.0.1 m.0.0 m.0.1 (number n.0.0 ∷ []) b.0 (then_spelled number m.0.1 n.0.0 n.0.1 [] d.0 (none_left n.0.1 end.0 end.1))),
      a.1,
      b.1,
      leb-true _ _ (guard_ok _ Limit le.0 le.1),
      guard_ok _ BadCarry fits.0 fits.1,
    )

-- a body that is read spells so, is no commit, and has room
pub record BodyRead (p : Progress) (w : List ℕ) (fields : Fields) (b : Body) : Type 0 where
  pub spelled : SpellsFields (w ∷ fields) (body_forms b)
  pub good : IsBody p.version b
  pub plain : IsPlainBody b
  pub ops : p.operations + ops_in b ≤ 1048576
  pub boots : p.boots + pairs_in b ≤ 4096

is_split : (boots : ℕ) (fields : Fields) (b : Body) → split_at boots fields ≡ Ok b → IsPlainBody b
unfolding split_at
is_split boots fields b e =
    let s = bind_ok (side_at fields) _ b e in
    let p = bind_ok (many_at pair_at 4096 64 boots s.0.1) (λ pairs. cond (eqb (length pairs) 0) (Err BadLine) (Ok (body.Split s.0.0 (map (λ p. p.0) pairs) (map (λ p. p.1) pairs)))) b s.2 in
    let split : Body = body.Split s.0.0 (map (λ p. p.0) p.0) (map (λ p. p.1) p.0) in
    subst IsPlainBody (not_none (eqb (length p.0) 0) split b p.2) tt

conf_spelled : (p : Progress) (w : List ℕ) (fields : Fields) (b : Body) → p.operations ≤ 1048576 → p.boots ≤ 4096 → conf_at p.version w fields ≡ Ok b → BodyRead p w fields b
unfolding conf_at
conf_spelled p w fields b few_o few_b e = go (eqb p.version 2) (bytes_eq w (codes "add")) (bytes_eq w (codes "remove")) refl refl refl e where
  go : (t t1 t2 : Bool) → eqb p.version 2 ≡ t → bytes_eq w (codes "add") ≡ t1 → bytes_eq w (codes "remove") ≡ t2
      → cond t (cond t1 (target_at fields >>= λ n. Ok (body.Conf (Add n))) (cond t2 (target_at fields >>= λ n. Ok (body.Conf (Remove n))) (Err BadLine))) (Err BadLine) ≡ Ok b → BodyRead p w fields b
  go true true t2 h h1 h2 e =
      let a = bind_ok (target_at fields) (λ n. Ok (body.Conf (Add n))) b e in
      let s = target_spelled fields a.0 a.1 in
      let same : body.Conf (Add a.0) ≡ b = cc (a.2) in
      subst (BodyRead p w fields) same (record { spelled = (is_word w (codes "add") h1, s.0); good = (eqb-true _ _ h, s.1); plain = tt; ops = omega arith; boots = omega arith })
  go true false true h h1 h2 e =
      let a = bind_ok (target_at fields) (λ n. Ok (body.Conf (Remove n))) b e in
      let s = target_spelled fields a.0 a.1 in
      let same : body.Conf (Remove a.0) ≡ b = cc (a.2) in
      subst (BodyRead p w fields) same (record { spelled = (is_word w (codes "remove") h2, s.0); good = (eqb-true _ _ h, s.1); plain = tt; ops = omega arith; boots = omega arith })
  go true false false h h1 h2 e = absurd cc
  go false t1 t2 h h1 h2 e = absurd cc

pub body_spelled : (p : Progress) (w : List ℕ) (fields : Fields) (b : Body) → p.operations ≤ 1048576 → p.boots ≤ 4096 → body_at p w fields ≡ Ok b → BodyRead p w fields b
unfolding body_at
body_spelled p w fields b few_o few_b e = go (bytes_eq w (codes "empty")) (bytes_eq w (codes "write")) (bytes_eq w (codes "split")) (bytes_eq w (codes "prepare")) (bytes_eq w (codes "rollback")) refl refl refl refl refl e where
  go : (t1 t2 t3 t4 t5 : Bool) → bytes_eq w (codes "empty") ≡ t1 → bytes_eq w (codes "write") ≡ t2 → bytes_eq w (codes "split") ≡ t3 → bytes_eq w (codes "prepare") ≡ t4 → bytes_eq w (codes "rollback") ≡ t5
      → cond t1 (end_at fields >>= λ _. Ok body.Empty) (cond t2 (write_at p.operations fields >>= λ ops. Ok (body.Write ops)) (cond t3 (split_at p.boots fields) (cond t4 (target_at fields >>= λ t. Ok (body.Prepare t)) (cond t5 (last_number_at fields >>= λ n. Ok (body.Rollback n)) (conf_at p.version w fields))))) ≡ Ok b → BodyRead p w fields b
  go true t2 t3 t4 t5 h1 h2 h3 h4 h5 e =
      let a = bind_ok (end_at fields) (λ _. Ok body.Empty) b e in
      let same : body.Empty ≡ b = cc (a.2) in
      subst (BodyRead p w fields) same (record { spelled = (is_word w (codes "empty") h1, none_left fields a.0 a.1); good = tt; plain = tt; ops = omega arith; boots = omega arith })
  go false true t3 t4 t5 h1 h2 h3 h4 h5 e =
      let a = bind_ok (write_at p.operations fields) (λ ops. Ok (body.Write ops)) b e in
      let s = write_spelled p.operations fields a.0 a.1 in
      let same : body.Write a.0 ≡ b = cc (a.2) in
      subst (BodyRead p w fields) same (record { spelled = (is_word w (codes "write") h2, s.0); good = s.1; plain = tt; ops = write_fits p.operations fields a.0 few_o a.1; boots = omega arith })
  go false false true t4 t5 h1 h2 h3 h4 h5 e =
      let s = split_spelled p.version p.boots w fields b (is_word w (codes "split") h3) e in
      let f = split_fits p.boots fields b few_b e in
      record { spelled = s.0; good = s.1; plain = is_split p.boots fields b e; ops = omega (arith, f.0); boots = f.1 }
  go false false false true t5 h1 h2 h3 h4 h5 e =
      let a = bind_ok (target_at fields) (λ n. Ok (body.Prepare n)) b e in
      let s = target_spelled fields a.0 a.1 in
      let same : body.Prepare a.0 ≡ b = cc (a.2) in
      subst (BodyRead p w fields) same (record { spelled = (is_word w (codes "prepare") h4, s.0); good = s.1; plain = tt; ops = omega arith; boots = omega arith })
  go false false false false true h1 h2 h3 h4 h5 e =
      let a = bind_ok (last_number_at fields) (λ n. Ok (body.Rollback n)) b e in
      let s = last_spelled fields a.0 a.1 in
      let same : body.Rollback a.0 ≡ b = cc (a.2) in
      subst (BodyRead p w fields) same (record { spelled = (is_word w (codes "rollback") h5, s.0); good = s.1; plain = tt; ops = omega arith; boots = omega arith })
  go false false false false false h1 h2 h3 h4 h5 e = conf_spelled p w fields b few_o few_b e

-- the body of a carried entry that others follow
abbrev pub IsPassing : CarriedBody → Type 0
IsPassing carried.Empty = Unit {0}
IsPassing (carried.Write ops) = IsWrite ops
IsPassing (carried.Prepare target) = ⊥

-- the body of the last carried entry
abbrev pub IsEnding : CarriedBody → Type 0
IsEnding (carried.Prepare target) = IsId target
IsEnding _ = ⊥

pub record CarriedRead (operations : ℕ) (w : List ℕ) (fields : Fields) (b : CarriedBody) : Type 0 where
  pub spelled : SpellsFields (w ∷ fields) (carried_body_forms b)
  pub ops : operations + carried_ops_in b ≤ 1048576

pub ending_spelled : (v operations : ℕ) (w : List ℕ) (fields : Fields) (b : CarriedBody) → operations ≤ 1048576 → carried_body_at v operations true w fields ≡ Ok b → CarriedRead operations w fields b × IsEnding b
unfolding carried_body_at
ending_spelled v operations w fields b few e = go (bytes_eq w (codes "prepare")) refl e where
  go : (t : Bool) → bytes_eq w (codes "prepare") ≡ t → cond t (target_at fields >>= λ n. Ok (carried.Prepare n)) (Err (bad_word v w)) ≡ Ok b → CarriedRead operations w fields b × IsEnding b
  go true h e =
      let a = bind_ok (target_at fields) (λ n. Ok (carried.Prepare n)) b e in
      let s = target_spelled fields a.0 a.1 in
      let same : carried.Prepare a.0 ≡ b = cc (a.2) in
      subst (λ (c : CarriedBody). CarriedRead operations w fields c × IsEnding c) same (record { spelled = (is_word w (codes "prepare") h, s.0); ops = omega arith }, s.1)
  go false h e = absurd cc

pub passing_spelled : (v operations : ℕ) (w : List ℕ) (fields : Fields) (b : CarriedBody) → operations ≤ 1048576 → carried_body_at v operations false w fields ≡ Ok b → CarriedRead operations w fields b × IsPassing b
unfolding carried_body_at
passing_spelled v operations w fields b few e = go (bytes_eq w (codes "empty")) (bytes_eq w (codes "write")) refl refl e where
  go : (t1 t2 : Bool) → bytes_eq w (codes "empty") ≡ t1 → bytes_eq w (codes "write") ≡ t2 → cond t1 (end_at fields >>= λ _. Ok carried.Empty) (cond t2 (write_at operations fields >>= λ ops. Ok (carried.Write ops)) (Err (bad_word v w))) ≡ Ok b → CarriedRead operations w fields b × IsPassing b
  go true t2 h k e =
      let a = bind_ok (end_at fields) (λ _. Ok carried.Empty) b e in
      let same : carried.Empty ≡ b = cc (a.2) in
      subst (λ (c : CarriedBody). CarriedRead operations w fields c × IsPassing c) same (record { spelled = (is_word w (codes "empty") h, none_left fields a.0 a.1); ops = omega arith }, tt)
  go false true h k e =
      let a = bind_ok (write_at operations fields) (λ ops. Ok (carried.Write ops)) b e in
      let s = write_spelled operations fields a.0 a.1 in
      let same : carried.Write a.0 ≡ b = cc (a.2) in
      subst (λ (c : CarriedBody). CarriedRead operations w fields c × IsPassing c) same (record { spelled = (is_word w (codes "write") k, s.0); ops = write_fits operations fields a.0 few a.1 }, s.1)
  go false false h k e = absurd cc

-- ---- peers

abbrev pub PeersRead : ℕ → ℕ → Fields → List ℕ → Type 0
PeersRead left before fields ids = SpellsFields fields (map number ids) × Rising before ids × (length ids ≤ left)

peers_spelled : (left before : ℕ) (fields : Fields) (ids : List ℕ) → peers_at left before fields ≡ Ok ids → PeersRead left before fields ids
unfolding peers_at
peers_spelled left before [] ids e =
    let same : [] ≡ ids = cc in
    subst (PeersRead left before []) same (tt, tt, omega arith)
peers_spelled zero before (f ∷ fs) ids e = let a = bind_ok (id_of f) _ ids e in let wrong = a.2 in absurd cc
peers_spelled (suc left) before (f ∷ fs) ids e =
    let a = bind_ok (id_of f) _ ids e in
    let g = bind_ok (guard (ltb before a.0) BadLine) _ ids a.2 in
    let r = bind_ok (peers_at left a.0 fs) _ ids g.2 in
    let id = id_spelled f a.0 a.1 in
    let rest = peers_spelled left a.0 fs r.0 r.1 in
    let same : a.0 ∷ r.0 ≡ ids = cc (r.2) in
    subst (PeersRead (suc left) before (f ∷ fs)) same ((id.0, rest.0), (ltb-true _ _ (guard_ok _ BadLine g.0 g.1), (id.1).1, rest.1), omega (arith, rest.2))

pub boot_peers_spelled : (v : ℕ) (fields : Fields) (peers : List ℕ) → (v ≡ 1) ⊎ (v ≡ 2) → boot_peers_at v fields ≡ Ok peers → SpellsFields fields (map number peers) × ArePeers v peers
unfolding boot_peers_at
boot_peers_spelled v fields peers known e = go (eqb v 2) refl e where
  some_left : (t : Bool) (ids : List ℕ) → eqb (length ids) 0 ≡ t → cond t (Err BadLine) (Ok ids) ≡ Ok peers → (ids ≡ peers) × (0 < length ids)
  some_left true ids h e = absurd cc
  some_left false ids h e = (cc, omega (arith, eqb-false _ _ h))

  go : (t : Bool) → eqb v 2 ≡ t → cond t (peers_at 64 0 fields >>= λ ids. cond (eqb (length ids) 0) (Err BadLine) (Ok ids)) (end_at fields >>= λ _. Ok []) ≡ Ok peers → SpellsFields fields (map number peers) × ArePeers v peers
  go true h e =
      let a = bind_ok (peers_at 64 0 fields) _ peers e in
      let s = some_left (eqb (length a.0) 0) a.0 refl a.2 in
      let r = peers_spelled 64 0 fields a.0 a.1 in
      subst (λ (ids : List ℕ). SpellsFields fields (map number ids) × ArePeers v ids) s.0 (r.0, inr (eqb-true _ _ h, s.1, r.2, r.1))
  go false h e =
      let a = bind_ok (end_at fields) (λ _. Ok []) peers e in
      let same : [] ≡ peers = cc (a.2) in
      let one : v ≡ 1 = elim known [ inl o ↦ o | inr w ↦ absurd (eqb-false _ _ h w) ] in
      subst (λ (ids : List ℕ). SpellsFields fields (map number ids) × ArePeers v ids) same (none_left fields a.0 a.1, inl (one, refl))
