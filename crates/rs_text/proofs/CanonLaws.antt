-- The canonical text of a well-formed input belongs to it.
use Rattle.std.specs.Fmt as fmt
use Rattle.rs_entry.specs.declared.entry.CarriedBody.TheVariants as carried
use Rattle.rs_entry.specs.declared.entry.Body.TheVariants as body
use Rattle.std.proofs.Common.{◌≡◌, ℕ, zero, suc, ◌+◌, ◌/◌, ◌%◌, ◌<◌, ◌≤◌, Bool, true, false, not, ◌&&◌, eqb, leb, List, [], ◌∷◌, ◌++◌, length, map, get_or, codes, Option, Some, None, refl, sym, subst, inl, inr, ◌⊎◌, arith}
use Rattle.std.specs.Prelude.{IfSome}
use Rattle.std.specs.List.{flat_map, AllByRecursion}
use Rattle.std.specs.Str.{all_ascii_digits}
use Rattle.std.proofs.lemmas.List.Elements.{All-from_recursion}
use Rattle.std.proofs.lemmas.Fmt.{digits_decimal, decimal_nonempty}
use Rattle.std.proofs.lemmas.Bool.{and_parts, and_from, leb-true, ne_eqb, not-true}
use Rattle.hex.specs.Hex.{encode_with, encode_lower, lower_digits}
use Rattle.hex.proofs.HexLemmas.{decode_of-encode_lower, length-encode_with}
use Rattle.rs_key.specs.declared.epoch.Epoch.{Epoch}
use Rattle.rs_entry.specs.declared.entry.Op.{Op}
use Rattle.rs_entry.specs.declared.entry.Op.TheVariants.{Put, Delete}
use Rattle.rs_entry.specs.declared.entry.Side.{Side}
use Rattle.rs_entry.specs.declared.entry.Side.TheVariants.{Right, Left}
use Rattle.rs_entry.specs.declared.entry.Change.TheVariants.{Add, Remove}
use Rattle.rs_entry.specs.declared.entry.CarriedBody.{CarriedBody}
use Rattle.rs_entry.specs.declared.entry.Carried.{Carried}
use Rattle.rs_entry.specs.declared.entry.Body.{Body}
use Rattle.rs_entry.specs.declared.entry.Entry.{Entry}
use Rattle.rs_entry.specs.declared.input.Log.{Log}
use Rattle.rs_entry.specs.declared.input.Boot.{Boot}
use Rattle.rs_entry.specs.declared.input.Store.{Store}
use Rattle.rs_entry.specs.declared.input.Input.{Input}
use Rattle.rs_field.specs.Forms.{Exact, Hex, Forms, number, dash, bound, value}
use Rattle.rs_text.specs.Logs.{op_forms, side, pair_forms, body_forms, carried_body_forms, head, carry_forms, carried_lines, entry_lines, log_lines, region_forms, store_lines, lines_of, text_of}
use Rattle.rs_entry.specs.WellFormed.{IsNumber, IsId, Rising, IsKey, IsOp, IsEpoch, IsCarriedBody, AreCarried, IsBody, AreEntries, IsBoot, IsStore, WellFormed, AreBytes, ArePeers}
use Rattle.rs_text.specs.Grammar.{Belongs}
use Rattle.rs_field.proofs.TextLaws.{lines_again, IsPlain, IsField, AreFields, AreLines}
use Rattle.rs_field.proofs.NumberLaws.{own}

abbrev pub clean : ℕ → Bool
clean b = not (eqb b 32) && not (eqb b 10)

abbrev pub all_clean : List ℕ → Bool
all_clean [] = true
all_clean (b ∷ bs) = clean b && all_clean bs

no_spaces : (f : List ℕ) → all_clean f ≡ true → AllByRecursion (λ b. eqb b 32 ≡ false) f
no_spaces [] h = tt
no_spaces (b ∷ bs) h = let p = and_parts (clean b) (all_clean bs) h in (not-true _ (and_parts (not (eqb b 32)) (not (eqb b 10)) p.0).0, no_spaces bs p.1)

no_lines : (f : List ℕ) → all_clean f ≡ true → AllByRecursion (λ b. eqb b 10 ≡ false) f
no_lines [] h = tt
no_lines (b ∷ bs) h = let p = and_parts (clean b) (all_clean bs) h in (not-true _ (and_parts (not (eqb b 32)) (not (eqb b 10)) p.0).1, no_lines bs p.1)

pub plain : (f : List ℕ) → 0 < length f → all_clean f ≡ true → IsPlain f
plain f some h = record { some = some; no_space = All-from_recursion (λ b. eqb b 32 ≡ false) f (no_spaces f h); no_line = All-from_recursion (λ b. eqb b 10 ≡ false) f (no_lines f h) }

pub exact_field : (f : List ℕ) → 0 < length f → all_clean f ≡ true → IsField (Exact f)
exact_field f some h = record { plain = plain f some h; again = refl }

clean_at : (b : ℕ) → 33 ≤ b → clean b ≡ true
clean_at b h = rw (ne_eqb b 32 (omega arith), ne_eqb b 10 (omega arith)) refl

clean_digits : (ds : List ℕ) → all_ascii_digits ds ≡ true → all_clean ds ≡ true
clean_digits [] h = refl
clean_digits (c ∷ cs) h =
    let p = and_parts (leb 48 c && leb c 57) (all_ascii_digits cs) h in
    let q = leb-true _ _ (and_parts (leb 48 c) (leb c 57) p.0).0 in
    and_from (clean c) (all_clean cs) (clean_at c (omega (arith, q))) (clean_digits cs p.1)

pub number_field : (n : ℕ) → IsNumber n → IsField (number n)
number_field n h = exact_field (fmt.decimal n) (decimal_nonempty n (omega (arith, h))) (clean_digits (fmt.decimal n) (digits_decimal own n (omega (arith, h))))

clean_read : (t : List ℕ) (i : ℕ) → all_clean t ≡ true → clean (get_or t i 0) ≡ true
clean_read [] i h = refl
clean_read (b ∷ bs) zero h = (and_parts (clean b) (all_clean bs) h).0
clean_read (b ∷ bs) (suc i) h = clean_read bs i (and_parts (clean b) (all_clean bs) h).1

clean_hex : (t xs : List ℕ) → all_clean t ≡ true → all_clean (encode_with t xs) ≡ true
unfolding encode_with
clean_hex t [] h = refl
clean_hex t (x ∷ xs) h = and_from _ _ (clean_read t (x / 16) h) (and_from _ _ (clean_read t (x % 16) h) (clean_hex t xs h))

bytes_at : (xs : List ℕ) (i : ℕ) → AreBytes xs → get_or xs i 0 < 256
bytes_at [] i h = omega arith
bytes_at (x ∷ xs) zero h = h.0
bytes_at (x ∷ xs) (suc i) h = bytes_at xs i h.1

pub hex_field : (bytes : List ℕ) → 0 < length bytes → AreBytes bytes → IsField (Hex bytes)
hex_field bytes some h = record {
  plain = plain (encode_lower bytes) (omega (arith, length-encode_with lower_digits bytes)) (clean_hex lower_digits bytes refl);
  again = decode_of-encode_lower bytes (λ i. bytes_at bytes i h);
}

AreFields-append : (a b : Forms) → AreFields a → AreFields b → AreFields (a ++ b)
AreFields-append [] b h k = k
AreFields-append (g ∷ a) b h k = (h.0, AreFields-append a b h.1 k)

AreLines-append : (a b : List Forms) → AreLines a → AreLines b → AreLines (a ++ b)
AreLines-append [] b h k = k
AreLines-append ([] ∷ a) b h k = absurd h
AreLines-append ((g ∷ gs) ∷ a) b h k = (h.0, AreLines-append a b h.1 k)

dash_field : IsField dash
dash_field = exact_field (codes "-") (omega arith) refl

key_field : (k : List ℕ) → IsKey k → IsField (Hex k)
key_field k h = hex_field k h.0 h.2

value_field : (v : List ℕ) → AreBytes v → IsField (value v)
value_field [] h = dash_field
value_field (b ∷ bs) h = hex_field (b ∷ bs) (omega arith) h

bound_field : (b : Option (List ℕ)) → IfSome b IsKey → IsField (bound b)
bound_field None h = dash_field
bound_field (Some k) h = key_field k h

op_fields : (op : Op) → IsOp op → AreFields (op_forms op)
op_fields (Put k v) h = (exact_field (codes "put") (omega arith) refl, (key_field k h.0, (value_field v (h.1).1, tt)))
op_fields (Delete k) h = (exact_field (codes "del") (omega arith) refl, (key_field k h, tt))

ops_fields : (ops : List Op) → AllByRecursion IsOp ops → AreFields (flat_map op_forms ops)
ops_fields [] h = tt
ops_fields (op ∷ ops) h = AreFields-append (op_forms op) (flat_map op_forms ops) (op_fields op h.0) (ops_fields ops h.1)

pairs_fields : (ids : List ℕ) (keys : List (List ℕ)) → AllByRecursion IsId ids → AllByRecursion IsKey keys → AreFields (pair_forms ids keys)
pairs_fields [] keys h k = tt
pairs_fields (id ∷ ids) [] h k = tt
pairs_fields (id ∷ ids) (key ∷ keys) h k = (number_field id h.0.1, (key_field key k.0, pairs_fields ids keys h.1 k.1))

side_field : (s : Side) → IsField (side s)
side_field Right = exact_field (codes "right") (omega arith) refl
side_field Left = exact_field (codes "left") (omega arith) refl

body_fields : (v : ℕ) (b : Body) → IsBody v b → AreFields (body_forms b)
body_fields v body.Empty h = (exact_field (codes "empty") (omega arith) refl, tt)
body_fields v (body.Write ops) h = (exact_field (codes "write") (omega arith) refl, ops_fields ops h.2)
body_fields v (body.Split s ids keys) h = (exact_field (codes "split") (omega arith) refl, (side_field s, pairs_fields ids keys h.3 h.4))
body_fields v (body.Prepare target) h = (exact_field (codes "prepare") (omega arith) refl, (number_field target h.1, tt))
body_fields v (body.Commit source commit cs) h = (exact_field (codes "commit") (omega arith) refl, (number_field source h.0.1, (number_field commit h.1, (number_field (length cs) (omega (arith, h.2)), tt))))
body_fields v (body.Rollback commit) h = (exact_field (codes "rollback") (omega arith) refl, (number_field commit h, tt))
body_fields v (body.Conf (Add peer)) h = (exact_field (codes "add") (omega arith) refl, (number_field peer h.1.1, tt))
body_fields v (body.Conf (Remove peer)) h = (exact_field (codes "remove") (omega arith) refl, (number_field peer h.1.1, tt))

carried_fields : (cs : List Carried) (b : CarriedBody) → IsCarriedBody cs b → AreFields (carried_body_forms b)
carried_fields [] (carried.Prepare target) h = (exact_field (codes "prepare") (omega arith) refl, (number_field target h.1, tt))
carried_fields [] carried.Empty h = absurd h
carried_fields [] (carried.Write ops) h = absurd h
carried_fields (c ∷ cs) carried.Empty h = (exact_field (codes "empty") (omega arith) refl, tt)
carried_fields (c ∷ cs) (carried.Write ops) h = (exact_field (codes "write") (omega arith) refl, ops_fields ops h.2)
carried_fields (c ∷ cs) (carried.Prepare target) h = absurd h

head_fields : (index : ℕ) (e : Epoch) (rest : Forms) → IsNumber index → IsEpoch e → AreFields rest → AreFields (head index e rest)
head_fields index e rest i h k = (number_field index i, (number_field e.conf_ver h.0, (number_field e.version h.1, k)))

carry_lines : (commit : ℕ) (cs : List Carried) → IsNumber commit → AreCarried commit cs → AreLines (map carry_forms cs)
carry_lines commit [] n h = tt
carry_lines commit (c ∷ cs) n h = ((exact_field (codes "carry") (omega arith) refl, head_fields c.index c.epoch (carried_body_forms c.body) (omega (arith, h.0, n)) h.2 (carried_fields cs c.body h.3)), carry_lines commit cs n h.4)

more_lines : (v : ℕ) (b : Body) → IsBody v b → AreLines (carried_lines b)
more_lines v (body.Commit source commit cs) h = carry_lines commit cs h.1 h.3
more_lines v body.Empty h = tt
more_lines v (body.Write ops) h = tt
more_lines v (body.Split s ids keys) h = tt
more_lines v (body.Prepare target) h = tt
more_lines v (body.Rollback commit) h = tt
more_lines v (body.Conf change) h = tt

entries_lines : (v n : ℕ) (es : List Entry) → AreEntries v n es → AreLines (flat_map entry_lines es)
entries_lines v n [] h = tt
entries_lines v n (e ∷ es) h = (head_fields e.index e.epoch (body_forms e.body) h.1 h.2 (body_fields v e.body h.3), AreLines-append (carried_lines e.body) (flat_map entry_lines es) (more_lines v e.body h.3) (entries_lines v (n + 1) es h.4))

logs_lines : (v low : ℕ) (ls : List Log) → Rising low (map (λ l. l.region) ls) → AllByRecursion (λ l. AreEntries v 6 l.entries) ls → AreLines (flat_map log_lines ls)
logs_lines v low [] r h = tt
logs_lines v low (l ∷ ls) r h = ((exact_field (codes "log") (omega arith) refl, (number_field l.region r.1, tt)), AreLines-append (flat_map entry_lines l.entries) (flat_map log_lines ls) (entries_lines v 6 l.entries h.0) (logs_lines v l.region ls r.2 h.1))

numbers_fields : (low : ℕ) (ns : List ℕ) → Rising low ns → AreFields (map number ns)
numbers_fields low [] h = tt
numbers_fields low (n ∷ ns) h = (number_field n h.1, numbers_fields n ns h.2)

peers_fields : (v : ℕ) (peers : List ℕ) → ArePeers v peers → AreFields (map number peers)
peers_fields v peers (inl h) = subst (λ (ns : List ℕ). AreFields (map number ns)) (sym h.1) tt
peers_fields v peers (inr h) = numbers_fields 0 peers h.3

regions_lines : (v low : ℕ) (bs : List Boot) → Rising low (map (λ b. b.region) bs) → AllByRecursion (IsBoot v) bs → AreLines (map region_forms bs)
regions_lines v low [] r h = tt
regions_lines v low (b ∷ bs) r h = ((exact_field (codes "region") (omega arith) refl, (number_field b.region r.1, (bound_field b.range.start (h.0.0).0, (bound_field b.range.end (h.0.0).1, peers_fields v b.peers h.0.1)))), regions_lines v b.region bs r.2 h.1)

stores_lines : (v low : ℕ) (ss : List Store) → Rising low (map (λ s. s.id) ss) → AllByRecursion (IsStore v) ss → AreLines (flat_map store_lines ss)
stores_lines v low [] r h = tt
stores_lines v low (s ∷ ss) r h = ((exact_field (codes "store") (omega arith) refl, (number_field s.id r.1, tt)), AreLines-append (map region_forms s.regions ++ flat_map log_lines s.logs) (flat_map store_lines ss) (AreLines-append (map region_forms s.regions) (flat_map log_lines s.logs) (regions_lines v 0 s.regions h.0.0 h.0.1) (logs_lines v 0 s.logs h.0.2 h.0.3)) (stores_lines v s.id ss r.2 h.1))

version_number : (v : ℕ) → (v ≡ 1) ⊎ (v ≡ 2) → IsNumber v
version_number v (inl h) = omega arith
version_number v (inr h) = omega arith

pub input_lines : (x : Input) → WellFormed x → AreLines (lines_of x)
unfolding lines_of
input_lines x w = ((exact_field (codes "raftreplay") (omega arith) refl, (number_field x.version (version_number x.version w.version), tt)), AreLines-append (flat_map store_lines x.stores) ((Exact (codes "end") ∷ []) ∷ []) (stores_lines x.version 0 x.stores w.ids w.stores) ((exact_field (codes "end") (omega arith) refl, tt), tt))

-- a well-formed input has a text that belongs to it, its canonical one
pub canonical_belongs : (x : Input) → WellFormed x → Belongs (text_of x) x
unfolding text_of
canonical_belongs x w = record { well_formed = w; spelled = lines_again (lines_of x) (input_lines x w) }
