-- What a line that was read spells, line by line.
-- `X_read`: what a line of the kind X that went well shows, as a record.
use Rattle.std.specs.Fmt as fmt
use Rattle.std.proofs.Common.{◌≡◌, ℕ, ◌+◌, ◌<◌, Bool, true, false, not, ◌&&◌, cond, eqb, ltb, List, [], ◌∷◌, length, map, get_or, codes, Option, Result, Ok, Err, refl, sym, ap, subst, ◌⊎◌, arith, ◌∙◌}
use Rattle.std.specs.Prelude.{IfSome}
use Rattle.std.specs.Str.{bytes_eq}
use Rattle.std.proofs.lemmas.Bool.{ltb-true, eqb-true, eqb-false, and_parts, not-true}
use Rattle.std.specs.Fmt.{decimal}
use Rattle.rs_key.specs.Ranges.{is_range}
use Rattle.rs_key.specs.declared.epoch.Epoch.{Epoch}
use Rattle.rs_entry.specs.declared.entry.CarriedBody.{CarriedBody}
use Rattle.rs_text.specs.declared.progress.OpenCommit.{OpenCommit}
use Rattle.rs_text.specs.declared.progress.Progress.{Progress}
use Rattle.rs_field.specs.declared.fault.TextKind.{TextKind}
use Rattle.rs_field.specs.declared.fault.TextKind.TheVariants.{BadLine, BadKey, BadIndex, BadCarry, Limit}
use Rattle.rs_field.specs.Fields.{◌>>=◌, Fields, guard, field_at, end_at, number_of, number_at, id_at, bound_at, is_digit}
use Rattle.rs_text.specs.Steps.{index_of, epoch_at, body_at, entry_to, commit_to, entry_line, carried_to, carry_line, region_line, region_to, log_line, open_log, close_log, store_line, end_line, free_line, close_store, open_store, stores_so_far}
use Rattle.rs_text.specs.Bodies.{commit_at, carried_body_at, boot_peers_at}
use Rattle.rs_field.specs.Forms.{Forms, number, bound, SpellsFields}
use Rattle.rs_text.specs.Logs.{head}
use Rattle.rs_entry.specs.WellFormed.{IsNumber, IsId, IsKey, IsEpoch, ArePeers}
use Rattle.rs_field.proofs.NumberLaws.{number_spelled}
use Rattle.rs_field.proofs.ReadLaws.{bind_ok, ended, guard_ok}
use Rattle.rs_text.proofs.FieldLaws.{bound_takes, id_takes, is_word, none_left, number_takes, then_spelled}
use Rattle.rs_text.proofs.FoundBodies.{boot_peers_spelled}

field_takes : (fields : Fields) (x : List ℕ × Fields) → field_at fields ≡ Ok x → fields ≡ x.0 ∷ x.1
field_takes [] x e = absurd cc
field_takes (f ∷ fs) x e =
    let made : List ℕ × Fields = (f, fs) in
    let same : made ≡ x = cc in
    ap (λ (y : List ℕ × Fields). y.0 ∷ y.1) same

index_spelled : (lines : ℕ) (f : List ℕ) (i : ℕ) → index_of lines f ≡ Ok i → (f ≡ fmt.decimal i) × IsNumber i × (lines < 1048576)
unfolding index_of
index_spelled lines f i e =
    let a = bind_ok (number_of f) _ i e in
    let b = bind_ok (guard (ltb lines 1048576) Limit) _ i a.2 in
    let same : a.0 ≡ i = cc (b.2) in
    let s = number_spelled f a.0 a.1 in
    let room : lines < 1048576 = ltb-true _ _ (guard_ok _ Limit b.0 b.1) in
    subst (λ (j : ℕ). (f ≡ fmt.decimal j) × IsNumber j × (lines < 1048576)) same (s.0, s.1, room)

abbrev pub AfterEpoch : Fields → Epoch × Fields → Type 0
AfterEpoch fields x = ((more : Forms) → SpellsFields x.1 more → SpellsFields fields (number (x.0).conf_ver ∷ number (x.0).version ∷ more)) × IsEpoch x.0

epoch_takes : (fields : Fields) (x : Epoch × Fields) → epoch_at fields ≡ Ok x → AfterEpoch fields x
unfolding epoch_at
epoch_takes fields x e =
    let a = bind_ok (number_at fields) _ x e in
    let b = bind_ok (number_at a.0.1) _ x a.2 in
    let conf = number_takes fields a.0 a.1 in
    let version = number_takes a.0.1 b.0 b.1 in
    let made : Epoch × Fields = (record { conf_ver = a.0.0; version = b.0.0 }, b.0.1) in
    let same : made ≡ x = cc (b.2) in
    subst (AfterEpoch fields) same (λ more s. then_spelled number fields a.0.0 a.0.1 (number b.0.0 ∷ more) conf.0 (then_spelled number a.0.1 b.0.0 b.0.1 more version.0 s), (conf.1, version.1))

-- an entry line up to the word of its body
pub record EntryRead (p q : Progress) (first : List ℕ) (fields : Fields) : Type 0 where
  pub index : ℕ
  pub epoch : Epoch
  pub word : List ℕ
  pub rest : Fields
  pub spelled : (more : Forms) → SpellsFields (word ∷ rest) more → SpellsFields (first ∷ fields) (head index epoch more)
  pub is_next : index ≡ p.next
  pub is_number : IsNumber index
  pub is_epoch : IsEpoch epoch
  pub room : p.lines < 1048576
  pub tail : cond (bytes_eq word (codes "commit")) (commit_at rest >>= λ c. Ok (commit_to index epoch c p)) (body_at p word rest >>= λ b. Ok (entry_to (record { index = index; epoch = epoch; body = b }) p)) ≡ Ok q

pub entry_read : (p q : Progress) (first : List ℕ) (fields : Fields) → entry_line p first fields ≡ Ok q → EntryRead p q first fields
unfolding entry_line
entry_read p q first fields e =
    let i = bind_ok (index_of p.lines first) _ q e in
    let g = bind_ok (guard (eqb i.0 p.next) BadIndex) _ q i.2 in
    let ep = bind_ok (epoch_at fields) _ q g.2 in
    let w = bind_ok (field_at ep.0.1) _ q ep.2 in
    let index = index_spelled p.lines first i.0 i.1 in
    let epoch = epoch_takes fields ep.0 ep.1 in
    let word = field_takes ep.0.1 w.0 w.1 in
    record {
      index = i.0;
      epoch = ep.0.0;
      word = w.0.0;
      rest = w.0.1;
      spelled = λ more s. (index.0, epoch.0 more (subst (λ (fs : Fields). SpellsFields fs more) (sym word) s));
      is_next = eqb-true _ _ (guard_ok _ BadIndex g.0 g.1);
      is_number = index.1;
      is_epoch = epoch.1;
      room = index.2;
      tail = w.2;
    }

-- a carry line up to the word of its body
pub record CarryRead (p q : Progress) (o : OpenCommit) (fields : Fields) : Type 0 where
  pub index : ℕ
  pub epoch : Epoch
  pub word : List ℕ
  pub rest : Fields
  pub body : CarriedBody
  pub spelled : (more : Forms) → SpellsFields (word ∷ rest) more → SpellsFields fields (head index epoch more)
  pub at : index + o.count ≡ o.commit + (length o.carried + 1)
  pub is_number : IsNumber index
  pub is_epoch : IsEpoch epoch
  pub room : p.lines < 1048576
  pub read : carried_body_at p.version p.operations (eqb (length o.carried + 1) o.count) word rest ≡ Ok body
  pub is : carried_to o (record { index = index; epoch = epoch; body = body }) p ≡ q

pub carry_read : (p q : Progress) (o : OpenCommit) (fields : Fields) → carry_line p o fields ≡ Ok q → CarryRead p q o fields
unfolding carry_line
carry_read p q o fields e =
    let f = bind_ok (field_at fields) _ q e in
    let i = bind_ok (index_of p.lines f.0.0) _ q f.2 in
    let g = bind_ok (guard (eqb (i.0 + o.count) (o.commit + (length o.carried + 1))) BadCarry) _ q i.2 in
    let ep = bind_ok (epoch_at f.0.1) _ q g.2 in
    let w = bind_ok (field_at ep.0.1) _ q ep.2 in
    let b = bind_ok (carried_body_at p.version p.operations (eqb (length o.carried + 1) o.count) w.0.0 w.0.1) _ q w.2 in
    let first = field_takes fields f.0 f.1 in
    let index = index_spelled p.lines f.0.0 i.0 i.1 in
    let epoch = epoch_takes f.0.1 ep.0 ep.1 in
    let word = field_takes ep.0.1 w.0 w.1 in
    record {
      index = i.0;
      epoch = ep.0.0;
      word = w.0.0;
      rest = w.0.1;
      body = b.0;
      spelled = λ more s. subst (λ (fs : Fields). SpellsFields fs (head i.0 ep.0.0 more)) (sym first) (index.0, epoch.0 more (subst (λ (fs : Fields). SpellsFields fs more) (sym word) s));
      at = eqb-true _ _ (guard_ok _ BadCarry g.0 g.1);
      is_number = index.1;
      is_epoch = epoch.1;
      room = index.2;
      read = b.1;
      is = cc (b.2);
    }

pub record RegionRead (p q : Progress) (fields : Fields) : Type 0 where
  pub id : ℕ
  pub start : Option (List ℕ)
  pub end : Option (List ℕ)
  pub peers : List ℕ
  pub spelled : SpellsFields fields (number id ∷ bound start ∷ bound end ∷ map number peers)
  pub is_id : IsId id
  pub room : p.boots < 4096
  pub above : p.last_region < id
  pub is_start : IfSome start IsKey
  pub is_end : IfSome end IsKey
  pub rise : is_range start end ≡ true
  pub are_peers : ArePeers p.version peers
  pub is : region_to id start end peers p ≡ q

pub region_read : (p q : Progress) (fields : Fields) → (p.version ≡ 1) ⊎ (p.version ≡ 2) → region_line p fields ≡ Ok q → RegionRead p q fields
unfolding region_line
region_read p q fields known e =
    let i = bind_ok (id_at fields) _ q e in
    let m = bind_ok (guard (ltb p.boots 4096) Limit) _ q i.2 in
    let g = bind_ok (guard (ltb p.last_region i.0.0) BadLine) _ q m.2 in
    let s = bind_ok (bound_at i.0.1) _ q g.2 in
    let t = bind_ok (bound_at s.0.1) _ q s.2 in
    let r = bind_ok (guard (is_range s.0.0 t.0.0) BadKey) _ q t.2 in
    let u = bind_ok (boot_peers_at p.version t.0.1) _ q r.2 in
    let peers = boot_peers_spelled p.version t.0.1 u.0 known u.1 in
    let id = id_takes fields i.0 i.1 in
    let start = bound_takes i.0.1 s.0 s.1 in
    let end = bound_takes s.0.1 t.0 t.1 in
    record {
      id = i.0.0;
      start = s.0.0;
      end = t.0.0;
      peers = u.0;
      spelled = then_spelled number fields i.0.0 i.0.1 (bound s.0.0 ∷ bound t.0.0 ∷ map number u.0) id.0 (then_spelled bound i.0.1 s.0.0 s.0.1 (bound t.0.0 ∷ map number u.0) start.0 (then_spelled bound s.0.1 t.0.0 t.0.1 (map number u.0) end.0 peers.0));
      is_id = id.1;
      room = ltb-true _ _ (guard_ok _ Limit m.0 m.1);
      above = ltb-true _ _ (guard_ok _ BadLine g.0 g.1);
      is_start = start.1;
      is_end = end.1;
      rise = guard_ok _ BadKey r.0 r.1;
      are_peers = peers.1;
      is = cc (u.2);
    }

pub record LogRead (p q : Progress) (fields : Fields) : Type 0 where
  pub id : ℕ
  pub spelled : SpellsFields fields (number id ∷ [])
  pub is_id : IsId id
  pub above : p.log < id
  pub is : open_log id (close_log p) ≡ q

pub log_read : (p q : Progress) (fields : Fields) → log_line p fields ≡ Ok q → LogRead p q fields
unfolding log_line
log_read p q fields e =
    let i = bind_ok (id_at fields) _ q e in
    let g = bind_ok (guard (ltb p.log i.0.0) BadLine) _ q i.2 in
    let u = bind_ok (end_at i.0.1) _ q g.2 in
    let id = id_takes fields i.0 i.1 in
    record {
      id = i.0.0;
      spelled = then_spelled number fields i.0.0 i.0.1 [] id.0 (none_left i.0.1 u.0 u.1);
      is_id = id.1;
      above = ltb-true _ _ (guard_ok _ BadLine g.0 g.1);
      is = cc (u.2);
    }

pub record StoreRead (p q : Progress) (fields : Fields) : Type 0 where
  pub id : ℕ
  pub spelled : SpellsFields fields (number id ∷ [])
  pub is_id : IsId id
  pub above : p.store < id
  pub room : stores_so_far p < 64
  pub is : q ≡ open_store id (close_store (close_log p))

pub store_spelled : (p q : Progress) (fields : Fields) → store_line p fields ≡ Ok q → StoreRead p q fields
unfolding store_line
store_spelled p q fields e =
    let a = bind_ok (id_at fields) (λ id. guard (ltb (stores_so_far p) 64) Limit >>= λ _. guard (ltb p.store id.0) BadLine >>= λ _. end_at id.1 >>= λ _. Ok (open_store id.0 (close_store (close_log p)))) q e in
    let b = bind_ok (guard (ltb (stores_so_far p) 64) Limit) (λ _. guard (ltb p.store a.0.0) BadLine >>= λ _. end_at a.0.1 >>= λ _. Ok (open_store a.0.0 (close_store (close_log p)))) q a.2 in
    let c = bind_ok (guard (ltb p.store a.0.0) BadLine) (λ _. end_at a.0.1 >>= λ _. Ok (open_store a.0.0 (close_store (close_log p)))) q b.2 in
    let d = bind_ok (end_at a.0.1) (λ _. Ok (open_store a.0.0 (close_store (close_log p)))) q c.2 in
    let t = id_takes fields a.0 a.1 in
    record {
      id = a.0.0;
      spelled = subst (λ (fs : Fields). SpellsFields fs (number a.0.0 ∷ [])) (sym (t.0.parts ∙ ap (λ (r : Fields). t.0.field ∷ r) (ended a.0.1 d.0 d.1))) (t.0.spelled, tt);
      is_id = t.1;
      above = ltb-true _ _ (guard_ok _ BadLine c.0 c.1);
      room = ltb-true _ _ (guard_ok _ Limit b.0 b.1);
      is = cc (d.2);
    }

-- ---- which line it is

pub data LineIs (p : Progress) (word : List ℕ) (fields : Fields) (q : Progress) : Type 0 where
  StoreLine : word ≡ codes "store" → store_line p fields ≡ Ok q → LineIs p word fields q
  EndLine : word ≡ codes "end" → end_line p fields ≡ Ok q → LineIs p word fields q
  RegionLine : word ≡ codes "region" → 0 < p.store → p.log ≡ 0 → region_line p fields ≡ Ok q → LineIs p word fields q
  LogLine : word ≡ codes "log" → 0 < p.store → log_line p fields ≡ Ok q → LineIs p word fields q
  EntryLine : 0 < p.log → entry_line p word fields ≡ Ok q → LineIs p word fields q

pub where_true : {A : Type 0} (b : Bool) (x : Result A TextKind) (kind : TextKind) (y : A) → cond b x (Err kind) ≡ Ok y → (b ≡ true) × (x ≡ Ok y)
where_true true x kind y e = (refl, e)
where_true false x kind y e = absurd cc

pub where_false : {A : Type 0} (b : Bool) (x : Result A TextKind) (kind : TextKind) (y : A) → cond b (Err kind) x ≡ Ok y → (b ≡ false) × (x ≡ Ok y)
where_false true x kind y e = absurd cc
where_false false x kind y e = (refl, e)

pub line_is : (p q : Progress) (word : List ℕ) (fields : Fields) → free_line p word fields ≡ Ok q → LineIs p word fields q
unfolding free_line
line_is p q word fields e = go (bytes_eq word (codes "store")) (bytes_eq word (codes "end")) (bytes_eq word (codes "region")) (bytes_eq word (codes "log")) (is_digit (get_or word 0 0)) refl refl refl refl e where
  go : (t1 t2 t3 t4 t5 : Bool) → bytes_eq word (codes "store") ≡ t1 → bytes_eq word (codes "end") ≡ t2 → bytes_eq word (codes "region") ≡ t3 → bytes_eq word (codes "log") ≡ t4
      → cond t1 (store_line p fields) (cond t2 (end_line p fields) (cond t3 (cond (not (eqb p.store 0) && eqb p.log 0) (region_line p fields) (Err BadLine)) (cond t4 (cond (eqb p.store 0) (Err BadLine) (log_line p fields)) (cond t5 (cond (eqb p.log 0) (Err BadLine) (entry_line p word fields)) (Err BadLine))))) ≡ Ok q → LineIs p word fields q
  go true t2 t3 t4 t5 h1 h2 h3 h4 e = StoreLine (is_word word (codes "store") h1) e
  go false true t3 t4 t5 h1 h2 h3 h4 e = EndLine (is_word word (codes "end") h2) e
  go false false true t4 t5 h1 h2 h3 h4 e =
      let c = where_true (not (eqb p.store 0) && eqb p.log 0) (region_line p fields) BadLine q e in
      let b = and_parts (not (eqb p.store 0)) (eqb p.log 0) c.0 in
      RegionLine (is_word word (codes "region") h3) (omega (arith, eqb-false _ _ (not-true _ b.0))) (eqb-true _ _ b.1) c.1
  go false false false true t5 h1 h2 h3 h4 e =
      let c = where_false (eqb p.store 0) (log_line p fields) BadLine q e in
      LogLine (is_word word (codes "log") h4) (omega (arith, eqb-false _ _ c.0)) c.1
  go false false false false true h1 h2 h3 h4 e =
      let c = where_false (eqb p.log 0) (entry_line p word fields) BadLine q e in
      EntryLine (omega (arith, eqb-false _ _ c.0)) c.1
  go false false false false false h1 h2 h3 h4 e = absurd cc
