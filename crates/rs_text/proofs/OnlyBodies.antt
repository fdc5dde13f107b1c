-- Bodies that are spelled so are read.
-- `X_again`: fields that are spelled so are read by X as that, where the totals have room.
use Rattle.std.specs.Fmt as fmt
use Rattle.rs_entry.specs.declared.entry.CarriedBody.TheVariants as carried
use Rattle.rs_entry.specs.declared.entry.Body.TheVariants as body
use Rattle.std.proofs.Common.{◌≡◌, ℕ, zero, suc, ◌+◌, ◌<◌, ◌≤◌, Bool, true, false, List, [], ◌∷◌, length, codes, Ok, refl, sym, ap, ◌∙◌, arith, ◌||◌, cond, eqb, leb, map, inl, inr}
use Rattle.std.specs.List.{flat_map, AllByRecursion}
use Rattle.std.specs.Str.{bytes_eq}
use Rattle.std.proofs.lemmas.Bool.{lt-ltb, ne_eqb, le-leb, eq-eqb}
use Rattle.rs_entry.specs.declared.entry.Op.{Op}
use Rattle.rs_entry.specs.declared.entry.Op.TheVariants.{Put, Delete}
use Rattle.rs_field.specs.Fields.{Fields, ◌>>=◌}
use Rattle.rs_text.specs.Bodies.{op_at, many_at, pair_at, write_at, side_at, split_at, target_at, last_number_at, commit_at, conf_at, peers_at, boot_peers_at, carried_body_at}
use Rattle.rs_field.specs.Forms.{SpellsFields, number}
use Rattle.rs_text.specs.Logs.{op_forms, side, pair_forms, body_forms, carried_body_forms}
use Rattle.rs_entry.specs.WellFormed.{IsKey, IsOp, IsNumber, IsId, IsWrite, IsEpoch, IsBody, IsCarriedBody, Rising, ArePeers}
use Rattle.rs_key.specs.declared.epoch.Epoch.{Epoch}
use Rattle.rs_entry.specs.declared.entry.Side.{Side}
use Rattle.rs_entry.specs.declared.entry.Side.TheVariants.{Right, Left}
use Rattle.rs_entry.specs.declared.entry.Change.TheVariants.{Add, Remove}
use Rattle.rs_entry.specs.declared.entry.CarriedBody.{CarriedBody}
use Rattle.rs_entry.specs.declared.entry.Carried.{Carried}
use Rattle.rs_entry.specs.declared.entry.Body.{Body}
use Rattle.rs_text.specs.declared.progress.Progress.{Progress}
use Rattle.rs_text.specs.Steps.{index_of, epoch_at, body_at, entry_line, entry_to, commit_to}
use Rattle.rs_entry.specs.Entries.{ops_in, pairs_in, carried_ops_in}
use Rattle.rs_field.proofs.NumberLaws.{number_again}
use Rattle.rs_text.proofs.FieldLaws.{id_again, id_at_again, key_again, number_at_again, value_again}

-- ---- operations

pub ops_again : (ops : List Op) (left total : ℕ) (fields : Fields) → SpellsFields fields (flat_map op_forms ops) → AllByRecursion IsOp ops → length ops ≤ left → total + length ops ≤ 1048576 → many_at op_at 1048576 left total fields ≡ Ok ops
unfolding many_at op_at
ops_again [] left total [] s h le room = refl
ops_again [] left total (f ∷ fs) s h le room = absurd s
ops_again (op ∷ ops) zero total fields s h le room = absurd (omega arith)
ops_again (Put k v ∷ ops) (suc left) total [] s h le room = absurd s
ops_again (Put k v ∷ ops) (suc left) total (w ∷ []) s h le room = absurd s.1
ops_again (Put k v ∷ ops) (suc left) total (w ∷ f ∷ []) s h le room = absurd s.1.1
ops_again (Put k v ∷ ops) (suc left) total (w ∷ f ∷ g ∷ fs) s h le room =
    rw (s.0, lt-ltb total 1048576 (omega arith), key_again f k (g ∷ fs) s.1.0 h.0.0, value_again g v fs s.1.1.0 (h.0.1).0, ops_again ops left (total + 1) fs s.1.1.1 h.1 (omega arith) (omega arith)) refl
ops_again (Delete k ∷ ops) (suc left) total [] s h le room = absurd s
ops_again (Delete k ∷ ops) (suc left) total (w ∷ []) s h le room = absurd s.1
ops_again (Delete k ∷ ops) (suc left) total (w ∷ f ∷ fs) s h le room =
    rw (s.0, lt-ltb total 1048576 (omega arith), key_again f k fs s.1.0 h.0, ops_again ops left (total + 1) fs s.1.1 h.1 (omega arith) (omega arith)) refl

-- ---- pairs

abbrev pub pairs_of : List ℕ → List (List ℕ) → List (ℕ × List ℕ)
pairs_of (id ∷ ids) (key ∷ keys) = (id, key) ∷ pairs_of ids keys
pairs_of _ _ = []

firsts : (ids : List ℕ) (keys : List (List ℕ)) → length ids ≡ length keys → map (λ p. p.0) (pairs_of ids keys) ≡ ids
firsts [] keys e = refl
firsts (id ∷ ids) [] e = absurd (omega arith)
firsts (id ∷ ids) (key ∷ keys) e = ap (λ (xs : List ℕ). id ∷ xs) (firsts ids keys (omega arith))

seconds : (ids : List ℕ) (keys : List (List ℕ)) → length ids ≡ length keys → map (λ p. p.1) (pairs_of ids keys) ≡ keys
seconds [] [] e = refl
seconds [] (key ∷ keys) e = absurd (omega arith)
seconds (id ∷ ids) [] e = absurd (omega arith)
seconds (id ∷ ids) (key ∷ keys) e = ap (λ (xs : List (List ℕ)). key ∷ xs) (seconds ids keys (omega arith))

pairs_length : (ids : List ℕ) (keys : List (List ℕ)) → length ids ≡ length keys → length (pairs_of ids keys) ≡ length ids
pairs_length [] keys e = refl
pairs_length (id ∷ ids) [] e = absurd (omega arith)
pairs_length (id ∷ ids) (key ∷ keys) e = omega (arith, pairs_length ids keys (omega arith))

pairs_again : (ids : List ℕ) (keys : List (List ℕ)) (left total : ℕ) (fields : Fields) → SpellsFields fields (pair_forms ids keys) → length ids ≡ length keys → AllByRecursion IsId ids → AllByRecursion IsKey keys → length ids ≤ left → total + length ids ≤ 4096 → many_at pair_at 4096 left total fields ≡ Ok (pairs_of ids keys)
unfolding many_at pair_at
pairs_again [] keys left total [] s e h k le room = refl
pairs_again [] keys left total (f ∷ fs) s e h k le room = absurd s
pairs_again (id ∷ ids) [] left total fields s e h k le room = absurd (omega arith)
pairs_again (id ∷ ids) (key ∷ keys) zero total fields s e h k le room = absurd (omega arith)
pairs_again (id ∷ ids) (key ∷ keys) (suc left) total [] s e h k le room = absurd s
pairs_again (id ∷ ids) (key ∷ keys) (suc left) total (f ∷ []) s e h k le room = absurd s.1
pairs_again (id ∷ ids) (key ∷ keys) (suc left) total (f ∷ g ∷ fs) s e h k le room =
    rw (s.0, id_again id h.0, lt-ltb total 4096 (omega arith), key_again g key fs s.1.0 k.0, pairs_again ids keys left (total + 1) fs s.1.1 (omega arith) h.1 k.1 (omega arith) (omega arith)) refl

split_again : (v boots : ℕ) (s : Side) (ids : List ℕ) (keys : List (List ℕ)) (fields : Fields) → SpellsFields fields (side s ∷ pair_forms ids keys) → IsBody v (body.Split s ids keys) → boots + length ids ≤ 4096 → split_at boots fields ≡ Ok (body.Split s ids keys)
unfolding split_at side_at
split_again v boots s ids keys [] h w room = absurd h
split_again v boots Right ids keys (f ∷ fs) h w room =
    rw (h.0, pairs_again ids keys 64 boots fs h.1 w.2 w.3 w.4 w.1 room, ne_eqb (length (pairs_of ids keys)) 0 (omega (arith, pairs_length ids keys w.2, w.0)), firsts ids keys w.2, seconds ids keys w.2) refl
split_again v boots Left ids keys (f ∷ fs) h w room =
    rw (h.0, pairs_again ids keys 64 boots fs h.1 w.2 w.3 w.4 w.1 room, ne_eqb (length (pairs_of ids keys)) 0 (omega (arith, pairs_length ids keys w.2, w.0)), firsts ids keys w.2, seconds ids keys w.2) refl

write_again : (total : ℕ) (ops : List Op) (fields : Fields) → SpellsFields fields (flat_map op_forms ops) → IsWrite ops → total + length ops ≤ 1048576 → write_at total fields ≡ Ok ops
unfolding write_at
write_again total ops fields s h room = rw (ops_again ops 1024 total fields s h.2 h.1 room, ne_eqb (length ops) 0 (omega (arith, h.0))) refl

target_again : (n : ℕ) (fields : Fields) → SpellsFields fields (number n ∷ []) → IsId n → target_at fields ≡ Ok n
unfolding target_at
target_again n [] s h = absurd s
target_again n (f ∷ g ∷ fs) s h = absurd s.1
target_again n (f ∷ []) s h = rw (s.0, id_at_again n [] h) refl

last_again : (n : ℕ) (fields : Fields) → SpellsFields fields (number n ∷ []) → IsNumber n → last_number_at fields ≡ Ok n
unfolding last_number_at
last_again n [] s h = absurd s
last_again n (f ∷ g ∷ fs) s h = absurd s.1
last_again n (f ∷ []) s h = rw (s.0, number_at_again n [] h) refl

pub commit_again : (source commit count : ℕ) (fields : Fields) → SpellsFields fields (number source ∷ number commit ∷ number count ∷ []) → IsId source → IsNumber commit → count ≤ 4096 → (eqb count 0 || leb (count + 5) commit) ≡ true → commit_at fields ≡ Ok (source, commit, count)
unfolding commit_at
commit_again source commit count [] s i n le fits = absurd s
commit_again source commit count (f ∷ []) s i n le fits = absurd s.1
commit_again source commit count (f ∷ g ∷ []) s i n le fits = absurd s.1.1
commit_again source commit count (f ∷ g ∷ h ∷ k ∷ fs) s i n le fits = absurd s.1.1.1
commit_again source commit count (f ∷ g ∷ h ∷ []) s i n le fits =
    rw (s.0, id_at_again source (g ∷ h ∷ []) i, s.1.0, number_at_again commit (h ∷ []) n, s.1.1.0, number_at_again count [] (omega arith), le-leb count 4096 le, fits) refl

-- a body that is no commit
abbrev pub IsPlainBody : Body → Type 0
IsPlainBody (body.Commit source commit cs) = ⊥
IsPlainBody _ = Unit {0}

pub body_again : (p : Progress) (b : Body) (w : List ℕ) (fields : Fields) → SpellsFields (w ∷ fields) (body_forms b) → IsPlainBody b → IsBody p.version b → p.operations + ops_in b ≤ 1048576 → p.boots + pairs_in b ≤ 4096 → (bytes_eq w (codes "commit") ≡ false) × (body_at p w fields ≡ Ok b)
unfolding body_at conf_at
body_again p body.Empty w [] s n h o b = (rw (s.0) refl, rw (s.0) refl)
body_again p body.Empty w (f ∷ fs) s n h o b = absurd s.1
body_again p (body.Write ops) w fields s n h o b = (rw (s.0) refl, rw (s.0, write_again p.operations ops fields s.1 h o) refl)
body_again p (body.Split sd ids keys) w fields s n h o b = (rw (s.0) refl, rw (s.0) (split_again p.version p.boots sd ids keys fields s.1 h b))
body_again p (body.Prepare target) w fields s n h o b = (rw (s.0) refl, rw (s.0, target_again target fields s.1 h) refl)
body_again p (body.Rollback commit) w fields s n h o b = (rw (s.0) refl, rw (s.0, last_again commit fields s.1 h) refl)
body_again p (body.Conf (Add peer)) w fields s n h o b = (rw (s.0) refl, rw (s.0, eq-eqb p.version 2 h.0, target_again peer fields s.1 h.1) refl)
body_again p (body.Conf (Remove peer)) w fields s n h o b = (rw (s.0) refl, rw (s.0, eq-eqb p.version 2 h.0, target_again peer fields s.1 h.1) refl)
body_again p (body.Commit source commit cs) w fields s n h o b = absurd n

-- the body of a carried entry that others follow, or none
pub carried_again : (v operations : ℕ) (cs : List Carried) (b : CarriedBody) (last : Bool) (w : List ℕ) (fields : Fields) → SpellsFields (w ∷ fields) (carried_body_forms b) → IsCarriedBody cs b → eqb (length cs) 0 ≡ last → operations + carried_ops_in b ≤ 1048576 → carried_body_at v operations last w fields ≡ Ok b
unfolding carried_body_at
carried_again v operations [] (carried.Prepare target) false w fields s h l o = absurd (cc)
carried_again v operations [] (carried.Prepare target) true w fields s h l o = rw (s.0, target_again target fields s.1 h) refl
carried_again v operations [] carried.Empty last w fields s h l o = absurd h
carried_again v operations [] (carried.Write ops) last w fields s h l o = absurd h
carried_again v operations (c ∷ cs) (carried.Prepare target) last w fields s h l o = absurd h
carried_again v operations (c ∷ cs) carried.Empty true w fields s h l o = let wrong = sym l ∙ ne_eqb (length (c ∷ cs)) 0 (omega arith) in absurd cc
carried_again v operations (c ∷ cs) carried.Empty false w [] s h l o = rw (s.0) refl
carried_again v operations (c ∷ cs) carried.Empty false w (f ∷ fs) s h l o = absurd s.1
carried_again v operations (c ∷ cs) (carried.Write ops) true w fields s h l o = let wrong = sym l ∙ ne_eqb (length (c ∷ cs)) 0 (omega arith) in absurd cc
carried_again v operations (c ∷ cs) (carried.Write ops) false w fields s h l o = rw (s.0, write_again operations ops fields s.1 h o) refl

-- an entry line up to its body
pub entry_opened : (p : Progress) (index : ℕ) (epoch : Epoch) (f g h w : List ℕ) (fields : Fields) → f ≡ fmt.decimal index → g ≡ fmt.decimal epoch.conf_ver → h ≡ fmt.decimal epoch.version → index ≡ p.next → IsNumber index → IsEpoch epoch → p.lines < 1048576
    → entry_line p f (g ∷ h ∷ w ∷ fields) ≡ cond (bytes_eq w (codes "commit")) (commit_at fields >>= λ c. Ok (commit_to index epoch c p)) (body_at p w fields >>= λ b. Ok (entry_to (record { index = index; epoch = epoch; body = b }) p))
unfolding entry_line index_of epoch_at
entry_opened p index epoch f g h w fields a b c i n k room =
    rw (a, number_again index n, lt-ltb p.lines 1048576 room, eq-eqb index p.next i, b, number_at_again epoch.conf_ver (h ∷ w ∷ fields) k.0, c, number_at_again epoch.version (w ∷ fields) k.1) refl

-- ---- peers

peers_again : (ids : List ℕ) (left before : ℕ) (fields : Fields) → SpellsFields fields (map number ids) → Rising before ids → length ids ≤ left → peers_at left before fields ≡ Ok ids
unfolding peers_at
peers_again [] left before [] s h le = refl
peers_again [] left before (f ∷ fs) s h le = absurd s
peers_again (id ∷ ids) left before [] s h le = absurd s
peers_again (id ∷ ids) zero before (f ∷ fs) s h le = absurd (omega arith)
peers_again (id ∷ ids) (suc left) before (f ∷ fs) s h le =
    rw (s.0, id_again id (omega (arith, h.0), h.1), lt-ltb before id h.0, peers_again ids left id fs s.1 h.2 (omega arith)) refl

pub boot_peers_again : (v : ℕ) (peers : List ℕ) (fields : Fields) → SpellsFields fields (map number peers) → ArePeers v peers → boot_peers_at v fields ≡ Ok peers
unfolding boot_peers_at
boot_peers_again v peers [] s (inl h) = rw (ne_eqb v 2 (omega (arith, h.0)), h.1) refl
boot_peers_again v [] (f ∷ fs) s (inl h) = absurd s
boot_peers_again v (id ∷ ids) (f ∷ fs) s (inl h) = let wrong = h.1 in absurd cc
boot_peers_again v peers fields s (inr h) =
    rw (eq-eqb v 2 h.0, peers_again peers 64 0 fields s h.3 h.2, ne_eqb (length peers) 0 (omega (arith, h.1))) refl
