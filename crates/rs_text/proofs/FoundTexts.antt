-- A text that is read belongs to the input that it gives.
-- First the other kinds of lines, then any line, then whole texts by the list of their parts.
use Rattle.std.specs.Fmt as fmt
use Rattle.std.proofs.Common.{◌≡◌, ℕ, zero, suc, ◌+◌, ◌<◌, ◌≤◌, Bool, true, false, cond, eqb, List, [], ◌∷◌, ◌++◌, length, map, codes, Option, Some, None, Result, Ok, Err, refl, sym, ap, subst, ◌∙◌, append_assoc, inl, inr, ◌⊎◌, arith}
use Rattle.std.specs.List.{flat_map, AllByRecursion}
use Rattle.std.specs.Str.{bytes_eq}
use Rattle.std.proofs.lemmas.Bool.{ne_eqb}
use Rattle.std.proofs.lemmas.List.{append-nil, length-append, map-append}
use Rattle.std.proofs.lemmas.List.Sums.{sum_by_push}
use Rattle.std.proofs.lemmas.Grind.{flat_map-append}
use Rattle.rs_entry.specs.declared.entry.Entry.{Entry}
use Rattle.rs_entry.specs.declared.input.Log.{Log}
use Rattle.rs_entry.specs.declared.input.Boot.{Boot}
use Rattle.rs_entry.specs.declared.input.Store.{Store}
use Rattle.rs_entry.specs.declared.input.Input.{Input}
use Rattle.rs_text.specs.declared.progress.OpenCommit.{OpenCommit}
use Rattle.rs_text.specs.declared.progress.Progress.{Progress}
use Rattle.rs_field.specs.declared.fault.TextKind.{TextKind}
use Rattle.rs_field.specs.declared.fault.TextKind.TheVariants.{BadLine, NoEnd}
use Rattle.rs_field.specs.Lines.{parts_of, fields_of}
use Rattle.rs_field.specs.Fields.{Fields}
use Rattle.rs_text.specs.Steps.{region_to, close_log, close_store, open_log, open_store, end_line, carry_or_bad, line_after, step, start}
use Rattle.rs_text.specs.Reading.{Fault, input_of, at_line, last_line, read_from, header_of, at_header, read_parts, read_text}
use Rattle.rs_field.specs.Forms.{Exact, Forms, number, SpellsFields, SpellsLines}
use Rattle.rs_text.specs.Logs.{log_lines, region_forms, store_lines, lines_of}
use Rattle.rs_entry.specs.WellFormed.{IsNumber, IsId, AreEntries, IsBoot, IsStore, WellFormed}
use Rattle.rs_text.specs.Grammar.{Belongs}
use Rattle.rs_text.proofs.FieldLaws.{is_word}
use Rattle.rs_text.proofs.FoundEntries.{carry_found, entry_found, same_totals}
use Rattle.rs_text.proofs.FoundLines.{CarryRead, EndLine, EntryLine, EntryRead, LineIs, LogLine, LogRead, RegionLine, RegionRead, StoreLine, carry_read, entry_read, line_is, log_read, region_read, store_spelled, where_true}
use Rattle.rs_text.proofs.OnlyTexts.{all_entries, lines_total, ops_total, pairs_total, regions_total, same_stores}
use Rattle.rs_text.proofs.SoFar.{Good, RisesTo, Steps, Totals, all_more, at_end, is_open, log_entries, log_part, mk, rises_more, rising, so_far, store_part}

-- ---- region lines

region_found : (v : ℕ) (ss : List Store) (s : ℕ) (rs : List Boot) (last : ℕ) (ls : List Log) (l : ℕ) (es : List Entry) (n b c o : ℕ) (word : List ℕ) (fields : Fields) (q : Progress) → Good (mk v ss s rs last ls l es n None b c o)
    → word ≡ codes "region" → 0 < s → l ≡ 0 → RegionRead (mk v ss s rs last ls l es n None b c o) q fields → Steps (mk v ss s rs last ls l es n None b c o) (word ∷ fields) q
region_found v ss zero rs last ls l es n b c o word fields q g w some none r = absurd (omega arith)
region_found v ss (suc s) rs last ls (suc l) es n b c o word fields q g w some none r = absurd (omega arith)
region_found v ss (suc s) rs last (k ∷ ls) zero es n b c o word fields q g w some none r = absurd g.open_log
region_found v ss (suc s) rs last [] zero (e ∷ es) n b c o word fields q g w some none r = absurd g.open_log
region_found v ss (suc s) rs last [] zero [] n b c o word fields q g w some none r =
    let p : Progress = mk v ss (suc s) rs last [] zero [] n None b c o in
    let x : Boot = record { region = r.id; range = record { start = r.start; end = r.end }; peers = r.peers } in
    let f : Forms = region_forms x in
    let st : Forms = Exact (codes "store") ∷ number (suc s) ∷ [] in
    let t = g.totals in
    let tb : b ≡ regions_total ss + length rs + pairs_total (all_entries ss ++ []) = t.boots in
    let room : b < 4096 = r.room in
    let long = length-append rs (x ∷ []) in
    let grown : store_part (suc s) (rs ++ x ∷ []) [] ++ [] ≡ (store_part (suc s) rs [] ++ []) ++ f ∷ [] =
    append-nil (store_part (suc s) (rs ++ x ∷ []) []) ∙ ap (λ (y : List Forms). st ∷ y) (append-nil (map region_forms (rs ++ x ∷ [])) ∙ map-append region_forms rs (x ∷ []))
    ∙ sym (ap (λ (y : List Forms). y ++ f ∷ []) (append-nil (store_part (suc s) rs []) ∙ ap (λ (y : List Forms). st ∷ y) (append-nil (map region_forms rs)))) in
    let steps : Steps p (word ∷ fields) (region_to r.id r.start r.end r.peers p) = record {
      forms = f;
      spelled = (w, r.spelled);
      lines = ap (λ (y : List Forms). flat_map store_lines ss ++ y) grown ∙ sym (append_assoc (flat_map store_lines ss) (store_part (suc s) rs [] ++ []) (f ∷ []));
      same_version = refl;
      good = record {
        ended = refl;
        version = g.version;
        last_store = g.last_store;
        stores = g.stores;
        store_ids = g.store_ids;
        open_store = g.open_store;
        count = g.count;
        regions = all_more (IsBoot v) rs x g.regions ((r.is_start, r.is_end, r.rise), r.are_peers);
        region_ids = rises_more (λ (y : Boot). y.region) 0 rs last x g.region_ids r.above (r.is_id).1;
        last_log = g.last_log;
        logs = g.logs;
        log_ids = g.log_ids;
        open_log = g.open_log;
        entries = g.entries;
        next = g.next;
        pending = tt;
        totals = record { boots = omega arith; few_boots = omega arith; lines = t.lines; few_lines = t.few_lines; ops = t.ops; few_ops = t.few_ops };
      };
    } in
    subst (Steps p (word ∷ fields)) r.is steps

-- ---- log lines

log_ids_more : (ls : List Log) (l last : ℕ) (es : List Entry) → RisesTo (λ k. k.region) 0 ls last → last < suc l → IsNumber (suc l) → RisesTo (λ k. k.region) 0 (ls ++ record { region = suc l; entries = es } ∷ []) (suc l)
log_ids_more ls l last es h lt i = rises_more (λ (k : Log). k.region) 0 ls last (record { region = suc l; entries = es }) h lt i

log_entries_more : (ls : List Log) (k : Log) → log_entries (ls ++ k ∷ []) ≡ log_entries ls ++ k.entries
log_entries_more ls k = flat_map-append (λ (j : Log). j.entries) ls (k ∷ []) ∙ ap (λ (y : List Entry). log_entries ls ++ y) (append-nil k.entries)

log_lines_more : (ls : List Log) (k : Log) → flat_map log_lines (ls ++ k ∷ []) ≡ flat_map log_lines ls ++ log_lines k
log_lines_more ls k = flat_map-append log_lines ls (k ∷ []) ∙ ap (λ (y : List Forms). flat_map log_lines ls ++ y) (append-nil (log_lines k))

joined : (a b k : List Forms) (f : Forms) → (a ++ (b ++ k)) ++ f ∷ [] ≡ ((a ++ b) ++ (k ++ [])) ++ f ∷ []
joined a b k f = ap (λ (y : List Forms). y ++ f ∷ []) (sym (append_assoc a b k) ∙ ap (λ (y : List Forms). (a ++ b) ++ y) (sym (append-nil k)))

log_opened : (v : ℕ) (ss : List Store) (s : ℕ) (rs : List Boot) (last : ℕ) (ls : List Log) (l : ℕ) (es : List Entry) (n b c o id : ℕ) (word : List ℕ) (fields : Fields) → Good (mk v ss (suc s) rs last ls l es n None b c o)
    → word ≡ codes "log" → SpellsFields fields (number id ∷ []) → IsId id → l < id → Steps (mk v ss (suc s) rs last ls l es n None b c o) (word ∷ fields) (open_log id (close_log (mk v ss (suc s) rs last ls l es n None b c o)))
unfolding close_log
log_opened v ss s rs last ls l es n b c o zero word fields g w sp i above = absurd (omega (arith, i.0))
log_opened v ss s rs last (k ∷ ls) zero es n b c o (suc id) word fields g w sp i above = absurd g.open_log
log_opened v ss s rs last [] zero (e ∷ es) n b c o (suc id) word fields g w sp i above = absurd g.open_log
log_opened v ss s rs last [] zero [] n b c o (suc id) word fields g w sp i above =
    let f : Forms = Exact (codes "log") ∷ number (suc id) ∷ [] in
    let none : g.last_log ≡ 0 = g.open_log in
    record {
      forms = f;
      spelled = (w, sp);
      lines = at_end (flat_map store_lines ss) (store_part (suc s) rs []) [] (f ∷ []) f refl;
      same_version = refl;
      good = record {
        ended = refl;
        version = g.version;
        last_store = g.last_store;
        stores = g.stores;
        store_ids = g.store_ids;
        open_store = g.open_store;
        count = g.count;
        regions = g.regions;
        region_ids = g.region_ids;
        last_log = g.last_log;
        logs = g.logs;
        log_ids = g.log_ids;
        open_log = (omega arith, i.1);
        entries = g.entries;
        next = refl;
        pending = tt;
        totals = g.totals;
      };
    }
log_opened v ss s rs last ls (suc l) es n b c o (suc id) word fields g w sp i above =
    let f : Forms = Exact (codes "log") ∷ number (suc id) ∷ [] in
    let k : Log = record { region = suc l; entries = es } in
    let st : Forms = Exact (codes "store") ∷ number (suc s) ∷ [] in
    let p : Progress = mk v ss (suc s) rs last ls (suc l) es n None b c o in
    let q : Progress = mk v ss (suc s) rs last (ls ++ k ∷ []) (suc id) [] 6 None b c o in
    let is : open_log (suc id) (close_log p) ≡ q = rw (ne_eqb (suc l) 0 (omega arith)) refl in
    let was : (g.last_log < suc l) × IsNumber (suc l) = g.open_log in
    let moved : log_entries ls ++ es ≡ log_entries (ls ++ k ∷ []) ++ [] = sym (append-nil (log_entries (ls ++ k ∷ [])) ∙ log_entries_more ls k) in
    let grown : store_part (suc s) rs (ls ++ k ∷ []) ++ f ∷ [] ≡ (store_part (suc s) rs ls ++ (log_part (suc l) es ++ [])) ++ f ∷ [] =
    ap (λ (y : List Forms). (st ∷ (map region_forms rs ++ y)) ++ f ∷ []) (log_lines_more ls k) ∙ joined (st ∷ map region_forms rs) (flat_map log_lines ls) (log_part (suc l) es) f in
    subst (Steps p (word ∷ fields)) (sym is) (record {
      forms = f;
      spelled = (w, sp);
      lines = ap (λ (y : List Forms). flat_map store_lines ss ++ y) grown ∙ sym (append_assoc (flat_map store_lines ss) (store_part (suc s) rs ls ++ (log_part (suc l) es ++ [])) (f ∷ []));
      same_version = refl;
      good = record {
        ended = refl;
        version = g.version;
        last_store = g.last_store;
        stores = g.stores;
        store_ids = g.store_ids;
        open_store = g.open_store;
        count = g.count;
        regions = g.regions;
        region_ids = g.region_ids;
        last_log = suc l;
        logs = all_more (λ (j : Log). AreEntries v 6 j.entries) ls k g.logs g.entries;
        log_ids = log_ids_more ls l g.last_log es g.log_ids was.0 was.1;
        open_log = (above, i.1);
        entries = tt;
        next = refl;
        pending = tt;
        totals = same_totals _ _ _ _ b c o 0 0 (ap (λ (y : List Entry). all_entries ss ++ y) moved) refl g.totals;
      };
    })

-- ---- store lines, and the end

-- the stores of a progress of which all is closed
pub record Closed (p : Progress) : Type 0 where
  pub stores : List Store
  pub is : close_store (close_log p) ≡ mk p.version stores 0 [] 0 [] 0 [] 6 None p.boots p.lines p.operations
  pub lines : flat_map store_lines stores ≡ so_far p
  pub version : (p.version ≡ 1) ⊎ (p.version ≡ 2)
  pub good : AllByRecursion (IsStore p.version) stores
  pub last : ℕ
  pub ids : RisesTo (λ s. s.id) 0 stores last
  pub below : last ≤ p.store
  pub size : length stores ≡ length p.stores + is_open p.store
  pub totals : Totals (all_entries stores) (regions_total stores) p.boots p.lines p.operations 0 0

all_entries_more : (ss : List Store) (x : Store) → all_entries (ss ++ x ∷ []) ≡ all_entries ss ++ log_entries x.logs
all_entries_more ss x = flat_map-append (λ (s : Store). log_entries s.logs) ss (x ∷ []) ∙ ap (λ (y : List Entry). all_entries ss ++ y) (append-nil (log_entries x.logs))

store_lines_more : (ss : List Store) (x : Store) → flat_map store_lines (ss ++ x ∷ []) ≡ flat_map store_lines ss ++ store_lines x
store_lines_more ss x = flat_map-append store_lines ss (x ∷ []) ∙ ap (λ (y : List Forms). flat_map store_lines ss ++ y) (append-nil (store_lines x))

-- an open store, whose logs are closed to `ks`
store_closed : (v : ℕ) (ss : List Store) (s : ℕ) (rs : List Boot) (last : ℕ) (ls : List Log) (l : ℕ) (es : List Entry) (n b c o : ℕ) (ks : List Log) (last_log : ℕ) → Good (mk v ss (suc s) rs last ls l es n None b c o)
    → close_log (mk v ss (suc s) rs last ls l es n None b c o) ≡ mk v ss (suc s) rs last ks 0 [] 6 None b c o → AllByRecursion (λ k. AreEntries v 6 k.entries) ks → RisesTo (λ k. k.region) 0 ks last_log
    → log_entries ls ++ es ≡ log_entries ks → flat_map log_lines ks ≡ flat_map log_lines ls ++ (log_part l es ++ [])
    → Closed (mk v ss (suc s) rs last ls l es n None b c o)
unfolding close_store
store_closed v ss s rs last ls l es n b c o ks last_log g closes logs ids same_entries same_lines =
    let x : Store = record { id = suc s; regions = rs; logs = ks } in
    let st : Forms = Exact (codes "store") ∷ number (suc s) ∷ [] in
    let was : (g.last_store < suc s) × IsNumber (suc s) = g.open_store in
    let shut : close_store (mk v ss (suc s) rs last ks 0 [] 6 None b c o) ≡ mk v (ss ++ x ∷ []) 0 [] 0 [] 0 [] 6 None b c o = rw (ne_eqb (suc s) 0 (omega arith)) refl in
    let grown : store_lines x ≡ store_part (suc s) rs ls ++ (log_part l es ++ []) =
    ap (λ (y : List Forms). st ∷ (map region_forms rs ++ y)) same_lines ∙ sym (ap (λ (y : List Forms). st ∷ y) (append_assoc (map region_forms rs) (flat_map log_lines ls) (log_part l es ++ []))) in
    let long = length-append ss (x ∷ []) in
    record {
      stores = ss ++ x ∷ [];
      is = ap close_store closes ∙ shut;
      lines = store_lines_more ss x ∙ ap (λ (y : List Forms). flat_map store_lines ss ++ y) grown;
      version = g.version;
      good = all_more (IsStore v) ss x g.stores (rising (λ (r : Boot). r.region) 0 rs last g.region_ids, g.regions, rising (λ (k : Log). k.region) 0 ks last_log ids, logs);
      last = suc s;
      ids = rises_more (λ (y : Store). y.id) 0 ss g.last_store x g.store_ids was.0 was.1;
      below = omega arith;
      size = omega arith;
      totals = same_totals _ _ _ _ b c o 0 0 (ap (λ (y : List Entry). all_entries ss ++ y) same_entries ∙ sym (all_entries_more ss x)) (sym (sum_by_push (λ (y : Store). length y.regions) ss x)) g.totals;
    }

closed : (v : ℕ) (ss : List Store) (s : ℕ) (rs : List Boot) (last : ℕ) (ls : List Log) (l : ℕ) (es : List Entry) (n b c o : ℕ) → Good (mk v ss s rs last ls l es n None b c o) → Closed (mk v ss s rs last ls l es n None b c o)
unfolding close_log close_store
closed v ss zero (r ∷ rs) last ls l es n b c o g = absurd g.open_store
closed v ss zero [] last (k ∷ ls) l es n b c o g = absurd g.open_store
closed v ss zero [] last [] (suc l) es n b c o g = absurd g.open_store
closed v ss zero [] last [] zero (e ∷ es) n b c o g = absurd g.open_log
closed v ss zero [] last [] zero [] n b c o g =
    let first : last ≡ 0 = sym g.region_ids in
    let six : n ≡ 6 = g.next in
    let none : g.last_store ≡ 0 = g.open_store in
    record {
      stores = ss;
      is = rw (first, six) refl;
      lines = sym (append-nil (flat_map store_lines ss));
      version = g.version;
      good = g.stores;
      last = g.last_store;
      ids = g.store_ids;
      below = omega arith;
      size = omega arith;
      totals = same_totals _ _ _ _ b c o 0 0 (append-nil (all_entries ss)) (omega arith) g.totals;
    }
closed v ss (suc s) rs last (k ∷ ls) zero es n b c o g = absurd g.open_log
closed v ss (suc s) rs last [] zero (e ∷ es) n b c o g = absurd g.open_log
closed v ss (suc s) rs last [] zero [] n b c o g =
    let six : n ≡ 6 = g.next in
    store_closed v ss s rs last [] zero [] n b c o [] g.last_log g (rw six refl) tt g.log_ids refl refl
closed v ss (suc s) rs last ls (suc l) es n b c o g =
    let k : Log = record { region = suc l; entries = es } in
    let was : (g.last_log < suc l) × IsNumber (suc l) = g.open_log in
    store_closed v ss s rs last ls (suc l) es n b c o (ls ++ k ∷ []) (suc l) g (rw (ne_eqb (suc l) 0 (omega arith)) refl) (all_more (λ (j : Log). AreEntries v 6 j.entries) ls k g.logs g.entries) (log_ids_more ls l g.last_log es g.log_ids was.0 was.1)
    (sym (log_entries_more ls k)) (log_lines_more ls k ∙ ap (λ (y : List Forms). flat_map log_lines ls ++ y) (sym (append-nil (log_part (suc l) es))))

room_left : (n s : ℕ) → cond (eqb s 0) n (n + 1) < 64 → n + is_open s < 64
room_left n zero h = omega arith
room_left n (suc s) h = let m : n + 1 < 64 = rw (ne_eqb (suc s) 0 (omega arith)) at h in omega arith

store_opened : (p : Progress) (id : ℕ) (word : List ℕ) (fields : Fields) → Closed p → word ≡ codes "store" → SpellsFields fields (number id ∷ []) → IsId id → p.store < id → length p.stores + is_open p.store < 64 → Steps p (word ∷ fields) (open_store id (close_store (close_log p)))
store_opened p zero word fields k w sp i above room = absurd (omega (arith, i.0))
store_opened p (suc id) word fields k w sp i above room =
    let f : Forms = Exact (codes "store") ∷ number (suc id) ∷ [] in
    let q : Progress = mk p.version k.stores (suc id) [] 0 [] 0 [] 6 None p.boots p.lines p.operations in
    let is : open_store (suc id) (close_store (close_log p)) ≡ q = ap (open_store (suc id)) k.is in
    let size : length k.stores ≡ length p.stores + is_open p.store = k.size in
    let below : k.last ≤ p.store = k.below in
    subst (Steps p (word ∷ fields)) (sym is) (record {
      forms = f;
      spelled = (w, sp);
      lines = ap (λ (y : List Forms). y ++ f ∷ []) k.lines;
      same_version = refl;
      good = record {
        ended = refl;
        version = k.version;
        last_store = k.last;
        stores = k.good;
        store_ids = k.ids;
        open_store = (omega arith, i.1);
        count = omega arith;
        regions = tt;
        region_ids = refl;
        last_log = 0;
        logs = tt;
        log_ids = refl;
        open_log = refl;
        entries = tt;
        next = refl;
        pending = tt;
        totals = same_totals _ _ _ _ p.boots p.lines p.operations 0 0 (sym (append-nil (all_entries k.stores))) (omega arith) k.totals;
      };
    })

-- ---- one line

-- a line leads to more lines, or it is the line `end`
pub data StepsOrEnds (p : Progress) (fields : Fields) (q : Progress) : Type 0 where
  GoesOn : Steps p fields q → StepsOrEnds p fields q
  Ends : SpellsFields fields (Exact (codes "end") ∷ []) → record p { ended = true } ≡ q → Closed p → StepsOrEnds p fields q

end_found : (p q : Progress) (word : List ℕ) (fields : Fields) → Closed p → word ≡ codes "end" → end_line p fields ≡ Ok q → StepsOrEnds p (word ∷ fields) q
end_found p q word [] k w e = Ends (w, tt) (cc) k
end_found p q word (f ∷ fs) k w e = absurd cc

log_found : (v : ℕ) (ss : List Store) (s : ℕ) (rs : List Boot) (last : ℕ) (ls : List Log) (l : ℕ) (es : List Entry) (n b c o : ℕ) (word : List ℕ) (fields : Fields) (q : Progress) → Good (mk v ss s rs last ls l es n None b c o)
    → word ≡ codes "log" → 0 < s → LogRead (mk v ss s rs last ls l es n None b c o) q fields → Steps (mk v ss s rs last ls l es n None b c o) (word ∷ fields) q
log_found v ss zero rs last ls l es n b c o word fields q g w some r = absurd (omega arith)
log_found v ss (suc s) rs last ls l es n b c o word fields q g w some r =
    subst (Steps (mk v ss (suc s) rs last ls l es n None b c o) (word ∷ fields)) r.is (log_opened v ss s rs last ls l es n b c o r.id word fields g w r.spelled r.is_id r.above)

some_entry_found : (v : ℕ) (ss : List Store) (s : ℕ) (rs : List Boot) (last : ℕ) (ls : List Log) (l : ℕ) (es : List Entry) (n b c o : ℕ) (word : List ℕ) (fields : Fields) (q : Progress) → Good (mk v ss s rs last ls l es n None b c o)
    → 0 < l → EntryRead (mk v ss s rs last ls l es n None b c o) q word fields → Steps (mk v ss s rs last ls l es n None b c o) (word ∷ fields) q
some_entry_found v ss s rs last ls zero es n b c o word fields q g some r = absurd (omega arith)
some_entry_found v ss s rs last ls (suc l) es n b c o word fields q g some r = entry_found v ss s rs last ls l es n b c o word fields q g r

free_found : (v : ℕ) (ss : List Store) (s : ℕ) (rs : List Boot) (last : ℕ) (ls : List Log) (l : ℕ) (es : List Entry) (n b c o : ℕ) (word : List ℕ) (fields : Fields) (q : Progress) → Good (mk v ss s rs last ls l es n None b c o)
    → LineIs (mk v ss s rs last ls l es n None b c o) word fields q → StepsOrEnds (mk v ss s rs last ls l es n None b c o) (word ∷ fields) q
free_found v ss s rs last ls l es n b c o word fields q g (StoreLine w e) =
    let p : Progress = mk v ss s rs last ls l es n None b c o in
    let r = store_spelled p q fields e in
    GoesOn (subst (Steps p (word ∷ fields)) (sym r.is) (store_opened p r.id word fields (closed v ss s rs last ls l es n b c o g) w r.spelled r.is_id r.above (room_left (length ss) s r.room)))
free_found v ss s rs last ls l es n b c o word fields q g (EndLine w e) = end_found (mk v ss s rs last ls l es n None b c o) q word fields (closed v ss s rs last ls l es n b c o g) w e
free_found v ss s rs last ls l es n b c o word fields q g (RegionLine w some none e) = GoesOn (region_found v ss s rs last ls l es n b c o word fields q g w some none (region_read (mk v ss s rs last ls l es n None b c o) q fields g.version e))
free_found v ss s rs last ls l es n b c o word fields q g (LogLine w some e) = GoesOn (log_found v ss s rs last ls l es n b c o word fields q g w some (log_read (mk v ss s rs last ls l es n None b c o) q fields e))
free_found v ss s rs last ls l es n b c o word fields q g (EntryLine some e) = GoesOn (some_entry_found v ss s rs last ls l es n b c o word fields q g some (entry_read (mk v ss s rs last ls l es n None b c o) q word fields e))

some_carry_found : (v : ℕ) (ss : List Store) (s : ℕ) (rs : List Boot) (last : ℕ) (ls : List Log) (l : ℕ) (es : List Entry) (n : ℕ) (oc : OpenCommit) (b c o : ℕ) (word : List ℕ) (fields : Fields) (q : Progress) → Good (mk v ss s rs last ls l es n (Some oc) b c o)
    → word ≡ codes "carry" → CarryRead (mk v ss s rs last ls l es n None b c o) q oc fields → Steps (mk v ss s rs last ls l es n (Some oc) b c o) (word ∷ fields) q
some_carry_found v ss s rs last (k ∷ ls) zero es n oc b c o word fields q g w r = absurd g.open_log
some_carry_found v ss s rs last [] zero (e ∷ es) n oc b c o word fields q g w r = absurd g.open_log
some_carry_found v ss s rs last [] zero [] n oc b c o word fields q g w r = absurd g.open_log
some_carry_found v ss s rs last ls (suc l) es n oc b c o word fields q g w r = carry_found v ss s rs last ls l es n oc b c o word fields q g w r

step_mk : (v : ℕ) (ss : List Store) (s : ℕ) (rs : List Boot) (last : ℕ) (ls : List Log) (l : ℕ) (es : List Entry) (n : ℕ) (pending : Option OpenCommit) (b c o : ℕ) (fields : Fields) (q : Progress) → Good (mk v ss s rs last ls l es n pending b c o)
    → step (mk v ss s rs last ls l es n pending b c o) fields ≡ Ok q → StepsOrEnds (mk v ss s rs last ls l es n pending b c o) fields q
unfolding step line_after carry_or_bad
step_mk v ss s rs last ls l es n pending b c o [] q g e = absurd cc
step_mk v ss s rs last ls l es n None b c o (word ∷ fields) q g e = free_found v ss s rs last ls l es n b c o word fields q g (line_is (mk v ss s rs last ls l es n None b c o) q word fields e)
step_mk v ss s rs last ls l es n (Some oc) b c o (word ∷ fields) q g e =
    let a = where_true (bytes_eq word (codes "carry")) _ BadLine q e in
    GoesOn (some_carry_found v ss s rs last ls l es n oc b c o word fields q g (is_word word (codes "carry") a.0) (carry_read (mk v ss s rs last ls l es n None b c o) q oc fields a.1))

step_found : (p : Progress) (fields : Fields) (q : Progress) → Good p → step p fields ≡ Ok q → StepsOrEnds p fields q
step_found p fields q g e =
    let is : record p { ended = false } ≡ p = ap (λ (t : Bool). record p { ended = t }) (sym g.ended) in
    subst (λ (r : Progress). Good r → step r fields ≡ Ok q → StepsOrEnds r fields q) is
    (step_mk p.version p.stores p.store p.regions p.last_region p.logs p.log p.entries p.next p.commit p.boots p.lines p.operations fields q) g e

-- ---- whole texts

pub record Found (p : Progress) (parts : List (List ℕ)) (x : Input) : Type 0 where
  pub version : p.version ≡ x.version
  pub lines : List Forms
  pub spelled : SpellsLines parts (lines ++ (Exact (codes "end") ∷ []) ∷ [])
  pub is : flat_map store_lines x.stores ≡ so_far p ++ lines
  pub well_formed : WellFormed x

at_ok : (n : ℕ) (r : Result Progress TextKind) (f : Progress → Result Input Fault) (x : Input) → at_line n r f ≡ Ok x → (q : Progress) × (r ≡ Ok q) × (f q ≡ Ok x)
at_ok n (Ok q) f x e = (q, refl, e)
at_ok n (Err kind) f x e = absurd cc

not_whole : (n : ℕ) (p : Progress) (last : List ℕ) (x : Input) → p.ended ≡ false → last_line n p last ≡ Ok x → ⊥
unfolding last_line
not_whole n p last x h e = go (eqb (length last) 0) p.ended h e where
  go : (t u : Bool) → u ≡ false → cond {A = Result Input Fault} t (cond {A = Result Input Fault} u (Ok (input_of p)) (Err (n, NoEnd))) (Err (n, BadLine)) ≡ Ok x → ⊥
  go true true h e = absurd cc
  go true false h e = absurd cc
  go false u h e = absurd cc

none_more : (p q : Progress) (fields : Fields) → step (record p { ended = true }) fields ≡ Ok q → ⊥
unfolding step
none_more p q [] e = absurd cc
none_more p q (word ∷ fields) e = absurd cc

-- after `end` nothing may follow
ended_found : (n : ℕ) (p : Progress) (next : List ℕ) (more : List (List ℕ)) (x : Input) → read_from n (record p { ended = true }) (next ∷ more) ≡ Ok x → (next ≡ []) × (more ≡ []) × (input_of (record p { ended = true }) ≡ x)
unfolding read_from last_line
ended_found n p next (m ∷ ms) x e =
    let a = at_ok n (step (record p { ended = true }) (fields_of next)) _ x e in
    absurd (none_more p a.0 (fields_of next) a.1)
ended_found n p [] [] x e = (refl, refl, cc)
ended_found n p (b ∷ bs) [] x e = let wrong = ne_eqb (length (b ∷ bs)) 0 (omega arith) in absurd (longer (eqb (length (b ∷ bs)) 0) wrong e) where
  longer : (t : Bool) → t ≡ false → cond {A = Result Input Fault} t (Ok (input_of (record p { ended = true }))) (Err (n, BadLine)) ≡ Ok x → ⊥
  longer true h e = absurd cc
  longer false h e = absurd cc

whole_found : (p : Progress) (line next : List ℕ) (more : List (List ℕ)) (x : Input) → Good p → Closed p → SpellsFields (fields_of line) (Exact (codes "end") ∷ []) → (next ≡ []) × (more ≡ []) × (input_of (record p { ended = true }) ≡ x) → Found p (line ∷ next ∷ more) x
whole_found p line next more x g k sp h =
    let stores : (close_store (close_log (record p { ended = true }))).stores ≡ k.stores = same_stores p ∙ ap (λ (q : Progress). q.stores) k.is in
    let made : Input = record { version = p.version; stores = k.stores } in
    let is : made ≡ x = sym (ap (λ (ss : List Store). record { version = p.version; stores = ss }) stores) ∙ h.2 in
    let size : length k.stores ≡ length p.stores + is_open p.store = k.size in
    let count : length p.stores + is_open p.store ≤ 64 = g.count in
    let t = k.totals in
    let tb : p.boots ≡ regions_total k.stores + pairs_total (all_entries k.stores) = t.boots in
    let tl : p.lines ≡ lines_total (all_entries k.stores) + 0 = t.lines in
    let to : p.operations ≡ ops_total (all_entries k.stores) + 0 = t.ops in
    let fb : p.boots ≤ 4096 = t.few_boots in
    let fl : p.lines ≤ 1048576 = t.few_lines in
    let fo : p.operations ≤ 1048576 = t.few_ops in
    let spelled : SpellsLines (line ∷ [] ∷ []) ([] ++ (Exact (codes "end") ∷ []) ∷ []) = (sp, refl) in
    subst (Found p (line ∷ next ∷ more)) is (record {
      version = refl;
      lines = [];
      spelled = subst (λ (ms : List (List ℕ)). SpellsLines (line ∷ next ∷ ms) ([] ++ (Exact (codes "end") ∷ []) ∷ [])) (sym h.1) (subst (λ (l : List ℕ). SpellsLines (line ∷ l ∷ []) ([] ++ (Exact (codes "end") ∷ []) ∷ [])) (sym h.0) spelled);
      is = k.lines ∙ sym (append-nil (so_far p));
      well_formed = record { version = g.version; ids = rising (λ (s : Store). s.id) 0 k.stores k.last k.ids; stores = k.good; count = omega arith; boots = omega arith; lines = omega arith; operations = omega arith };
    })

read_found : (parts : List (List ℕ)) (n : ℕ) (p : Progress) (x : Input) → Good p → read_from n p parts ≡ Ok x → Found p parts x
unfolding read_from
read_found [] n p x g e = absurd cc
read_found (last ∷ []) n p x g e = absurd (not_whole n p last x g.ended e)
read_found (line ∷ next ∷ more) n p x g e =
    let a = at_ok n (step p (fields_of line)) (λ q. read_from (n + 1) q (next ∷ more)) x e in
    elim (step_found p (fields_of line) a.0 g a.1) [
      | GoesOn s ↦
          let rest = read_found (next ∷ more) (n + 1) a.0 x s.good a.2 in
          record {
            version = sym s.same_version ∙ rest.version;
            lines = s.forms ∷ rest.lines;
            spelled = (s.spelled, rest.spelled);
            is = rest.is ∙ ap (λ (y : List Forms). y ++ rest.lines) s.lines ∙ append_assoc (so_far p) (s.forms ∷ []) rest.lines;
            well_formed = rest.well_formed;
          }
      | Ends sp is k ↦ whole_found p line next more x g k sp (ended_found (n + 1) p next more x (ap (λ (q : Progress). read_from (n + 1) q (next ∷ more)) is ∙ a.2))
    ]

header_found : (fields : Fields) (v : ℕ) → header_of fields ≡ Some v → SpellsFields fields (Exact (codes "raftreplay") ∷ number v ∷ []) × ((v ≡ 1) ⊎ (v ≡ 2))
unfolding fmt.digits
header_found [] v h = absurd cc
header_found (a ∷ []) v h = absurd cc
header_found (a ∷ b ∷ c ∷ fields) v h = absurd cc
header_found (a ∷ b ∷ []) v h = go (bytes_eq a (codes "raftreplay")) (bytes_eq b (codes "1")) (bytes_eq b (codes "2")) refl refl refl h where
  go : (t t1 t2 : Bool) → bytes_eq a (codes "raftreplay") ≡ t → bytes_eq b (codes "1") ≡ t1 → bytes_eq b (codes "2") ≡ t2 → cond t (cond t1 (Some 1) (cond t2 (Some 2) None)) None ≡ Some v
      → SpellsFields (a ∷ b ∷ []) (Exact (codes "raftreplay") ∷ number v ∷ []) × ((v ≡ 1) ⊎ (v ≡ 2))
  go false t1 t2 p p1 p2 e = absurd cc
  go true false false p p1 p2 e = absurd cc
  go true true t2 p p1 p2 e =
      let same : 1 ≡ v = cc in
      subst (λ (n : ℕ). SpellsFields (a ∷ b ∷ []) (Exact (codes "raftreplay") ∷ number n ∷ []) × ((n ≡ 1) ⊎ (n ≡ 2))) same ((is_word a (codes "raftreplay") p, (is_word b (codes "1") p1, tt)), inl refl)
  go true false true p p1 p2 e =
      let same : 2 ≡ v = cc in
      subst (λ (n : ℕ). SpellsFields (a ∷ b ∷ []) (Exact (codes "raftreplay") ∷ number n ∷ []) × ((n ≡ 1) ⊎ (n ≡ 2))) same ((is_word a (codes "raftreplay") p, (is_word b (codes "2") p2, tt)), inr refl)

good_start : (v : ℕ) → (v ≡ 1) ⊎ (v ≡ 2) → Good (start v)
good_start v h = record {
  ended = refl;
  version = h;
  last_store = 0;
  stores = tt;
  store_ids = refl;
  open_store = refl;
  count = omega arith;
  regions = tt;
  region_ids = refl;
  last_log = 0;
  logs = tt;
  log_ids = refl;
  open_log = refl;
  entries = tt;
  next = refl;
  pending = tt;
  totals = record { boots = refl; few_boots = omega arith; lines = refl; few_lines = omega arith; ops = refl; few_ops = omega arith };
}

headed : (h : Option ℕ) (f : ℕ → Result Input Fault) (x : Input) → at_header h f ≡ Ok x → (v : ℕ) × (h ≡ Some v) × (f v ≡ Ok x)
headed None f x e = absurd cc
headed (Some v) f x e = (v, refl, e)

parts_found : (parts : List (List ℕ)) (x : Input) → read_parts parts ≡ Ok x → WellFormed x × SpellsLines parts (lines_of x)
unfolding read_parts lines_of
parts_found [] x e = absurd cc
parts_found (line ∷ []) x e = absurd cc
parts_found (line ∷ next ∷ more) x e =
    let h = headed (header_of (fields_of line)) (λ version. read_from 2 (start version) (next ∷ more)) x e in
    let hd = header_found (fields_of line) h.0 h.1 in
    let f = read_found (next ∷ more) 2 (start h.0) x (good_start h.0 hd.1) h.2 in
    let same : h.0 ≡ x.version = f.version in
    (f.well_formed, (subst (λ (v : ℕ). SpellsFields (fields_of line) (Exact (codes "raftreplay") ∷ number v ∷ [])) same hd.0, subst (λ (ls : List Forms). SpellsLines (next ∷ more) (ls ++ (Exact (codes "end") ∷ []) ∷ [])) (sym f.is) f.spelled))

-- a text that is read belongs to what is read
pub found : (text : List ℕ) (x : Input) → read_text text ≡ Ok x → Belongs text x
unfolding read_text
found text x e =
    let h = parts_found (parts_of text) x e in
    record { well_formed = h.0; spelled = h.1 }
