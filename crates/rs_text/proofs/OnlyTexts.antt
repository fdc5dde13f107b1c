-- A text that belongs to an input is read as it.
-- `X_lead`: the lines of some logs, regions or stores lead from one progress to the next.
use Rattle.std.specs.Fmt as fmt
use Rattle.std.proofs.Common.{◌≡◌, ℕ, ◌+◌, ◌<◌, ◌≤◌, Bool, true, false, cond, eqb, List, [], ◌∷◌, ◌++◌, length, map, codes, Some, None, Ok, refl, sym, ap, ◌∙◌, append_assoc, inl, inr, ◌⊎◌, arith, Result, Err}
use Rattle.std.specs.List.{flat_map, sum_by, AllByRecursion}
use Rattle.std.proofs.lemmas.Bool.{lt-ltb, ne_eqb}
use Rattle.std.proofs.lemmas.List.{append-nil, length-append}
use Rattle.std.proofs.lemmas.List.Sums.{sum_by-cons, sum_by-append}
use Rattle.std.specs.Fmt.{decimal}
use Rattle.rs_entry.specs.declared.entry.Carried.{Carried}
use Rattle.rs_entry.specs.declared.entry.Entry.{Entry}
use Rattle.rs_entry.specs.declared.input.Log.{Log}
use Rattle.rs_entry.specs.declared.input.Boot.{Boot}
use Rattle.rs_entry.specs.declared.input.Store.{Store}
use Rattle.rs_entry.specs.declared.input.Input.{Input}
use Rattle.rs_text.specs.declared.progress.Progress.{Progress}
use Rattle.rs_field.specs.Lines.{parts_of, fields_of}
use Rattle.rs_field.specs.Fields.{Fields, id_at}
use Rattle.rs_text.specs.Steps.{step, line_after, free_line, region_line, log_line, region_to, close_log, close_store, open_log, open_store, stores_so_far, start, store_line}
use Rattle.rs_text.specs.Reading.{header_of, last_line, read_parts, read_text}
use Rattle.rs_entry.specs.Entries.{ops_in, pairs_in, carried_ops_in, carried_of}
use Rattle.rs_field.specs.Forms.{Exact, Forms, number, SpellsFields, SpellsLines}
use Rattle.rs_text.specs.Logs.{entry_lines, log_lines, region_forms, store_lines, lines_of, text_of}
use Rattle.rs_entry.specs.WellFormed.{IsNumber, Rising, AreEntries, IsBoot, IsStore, WellFormed, IsId}
use Rattle.rs_text.specs.Grammar.{Belongs}
use Rattle.rs_field.specs.declared.fault.TextKind.{TextKind}
use Rattle.rs_field.specs.declared.fault.TextKind.TheVariants.{BadLine}
use Rattle.rs_text.proofs.CanonLaws.{canonical_belongs}
use Rattle.rs_text.proofs.FieldLaws.{bound_again, id_again, id_at_again}
use Rattle.rs_text.proofs.OnlyBodies.{boot_peers_again}
use Rattle.rs_text.proofs.OnlyEntries.{entries_lead, on}
use Rattle.rs_text.proofs.Runs.{Leads, Leads-append, run}

-- ---- logs

log_step : (p : Progress) (ls : List Log) (l : ℕ) (es : List Entry) (n b c o id : ℕ) (fields : Fields) → SpellsFields fields (Exact (codes "log") ∷ number id ∷ []) → 0 < p.store → l < id → IsNumber id
    → step (on p ls l es n b c o) fields ≡ Ok (open_log id (close_log (on p ls l es n b c o)))
unfolding step line_after free_line log_line
log_step p ls l es n b c o id [] s some above i = absurd s
log_step p ls l es n b c o id (w ∷ []) s some above i = absurd s.1
log_step p ls l es n b c o id (w ∷ f ∷ g ∷ fields) s some above i = absurd s.1.1
log_step p ls l es n b c o id (w ∷ f ∷ []) s some above i =
    rw (s.0, ne_eqb p.store 0 (omega arith), s.1.0, id_at_again id [] (omega arith, i), lt-ltb l id above) refl

abbrev pub pairs_total : List Entry → ℕ
pairs_total es = sum_by (λ e. pairs_in e.body) es

abbrev pub lines_total : List Entry → ℕ
lines_total es = sum_by (λ e. 1 + length (carried_of e.body)) es

abbrev pub ops_total : List Entry → ℕ
ops_total es = sum_by (λ e. ops_in e.body + sum_by (λ x. carried_ops_in x.body) (carried_of e.body)) es

-- the logs were read, of which the last may be open
pub record LogsRead (p from : Progress) (lines : List Forms) (all : List Log) (b c o : ℕ) : Type 0 where
  pub logs : List Log
  pub log : ℕ
  pub entries : List Entry
  pub next : ℕ
  pub leads : Leads from lines (on p logs log entries next b c o)
  pub closes : close_log (on p logs log entries next b c o) ≡ on p all 0 [] 6 b c o

logs_lead : (p : Progress) (ls : List Log) (l : ℕ) (es : List Entry) (n b b' c c' o o' : ℕ) (done ks all : List Log) → 0 < p.store → close_log (on p ls l es n b c o) ≡ on p done 0 [] 6 b c o → done ++ ks ≡ all → Rising l (map (λ k. k.region) ks) → AllByRecursion (λ k. AreEntries p.version 6 k.entries) ks
    → b + pairs_total (flat_map (λ k. k.entries) ks) ≡ b' → b' ≤ 4096 → c + lines_total (flat_map (λ k. k.entries) ks) ≡ c' → c' ≤ 1048576 → o + ops_total (flat_map (λ k. k.entries) ks) ≡ o' → o' ≤ 1048576
    → LogsRead p (on p ls l es n b c o) (flat_map log_lines ks) all b' c' o'
unfolding close_log
logs_lead p ls l es n b b' c c' o o' done [] all some closes whole r h boots fits_b lines fits_c ops fits_o =
    let a : all ≡ done = sym whole ∙ append-nil done in
    let e1 : b' ≡ b = omega arith in
    let e2 : c' ≡ c = omega arith in
    let e3 : o' ≡ o = omega arith in
    rw (a, e1, e2, e3) (record { logs = ls; log = l; entries = es; next = n; leads = refl; closes = closes })
logs_lead p ls l es n b b' c c' o o' done (k ∷ ks) all some closes whole r h boots fits_b lines fits_c ops fits_o =
    let b1 : ℕ = b + pairs_total k.entries in
    let c1 : ℕ = c + lines_total k.entries in
    let o1 : ℕ = o + ops_total k.entries in
    let n1 : ℕ = 6 + length k.entries in
    let rest : List Entry = flat_map (λ j. j.entries) ks in
    let split_b = sum_by-append (λ (e : Entry). pairs_in e.body) k.entries rest in
    let split_c = sum_by-append (λ (e : Entry). 1 + length (carried_of e.body)) k.entries rest in
    let split_o = sum_by-append (λ (e : Entry). ops_in e.body + sum_by (λ (x : Carried). carried_ops_in x.body) (carried_of e.body)) k.entries rest in
    let positive : 0 < k.region = omega (arith, r.0) in
    let q0 : Progress = on p ls l es n b c o in
    let q1 : Progress = on p done k.region [] 6 b c o in
    let q2 : Progress = on p done k.region k.entries n1 b1 c1 o1 in
    let opened : Leads q0 ((Exact (codes "log") ∷ number k.region ∷ []) ∷ []) q1 = (open_log k.region (close_log q0), λ fields s. log_step p ls l es n b c o k.region fields s some r.0 r.1, ap (open_log k.region) closes) in
    let filled : Leads q1 (flat_map entry_lines k.entries) q2 = entries_lead p done k.region [] k.entries k.entries 6 n1 b b1 c c1 o o1 refl h.0 positive refl refl (omega arith) refl (omega arith) refl (omega arith) in
    let closed : close_log q2 ≡ on p (done ++ k ∷ []) 0 [] 6 b1 c1 o1 = rw (ne_eqb k.region 0 (omega arith)) refl in
    let more = logs_lead p done k.region k.entries n1 b1 b' c1 c' o1 o' (done ++ k ∷ []) ks all some closed (append_assoc done (k ∷ []) ks ∙ whole) r.2 h.1 (omega arith) fits_b (omega arith) fits_c (omega arith) fits_o in
    let q3 : Progress = on p more.logs more.log more.entries more.next b' c' o' in
    record {
      logs = more.logs;
      log = more.log;
      entries = more.entries;
      next = more.next;
      leads = Leads-append q0 (log_lines k) (flat_map log_lines ks) q2 q3 (Leads-append q0 ((Exact (codes "log") ∷ number k.region ∷ []) ∷ []) (flat_map entry_lines k.entries) q1 q2 opened filled) more.leads;
      closes = more.closes;
    }

-- ---- regions

-- an open store, of which no log was read
abbrev pub store_at : ℕ → List Store → ℕ → List Boot → ℕ → ℕ → ℕ → ℕ → Progress
store_at v ss s rs last b c o = record { version = v; stores = ss; store = s; regions = rs; last_region = last; logs = []; log = 0; entries = []; next = 6; commit = None; boots = b; lines = c; operations = o; ended = false }

abbrev pub last_id : ℕ → List Boot → ℕ
last_id low [] = low
last_id low (r ∷ rs) = last_id r.region rs

region_step : (v : ℕ) (ss : List Store) (s : ℕ) (rs : List Boot) (last b c o : ℕ) (r : Boot) (fields : Fields) → SpellsFields fields (region_forms r) → 0 < s → last < r.region → IsNumber r.region → IsBoot v r → b < 4096
    → step (store_at v ss s rs last b c o) fields ≡ Ok (region_to r.region r.range.start r.range.end r.peers (store_at v ss s rs last b c o))
unfolding step line_after free_line region_line
region_step v ss s rs last b c o r [] h some above i k room = absurd h
region_step v ss s rs last b c o r (w ∷ []) h some above i k room = absurd h.1
region_step v ss s rs last b c o r (w ∷ f ∷ []) h some above i k room = absurd h.1.1
region_step v ss s rs last b c o r (w ∷ f ∷ g ∷ []) h some above i k room = absurd h.1.1.1
region_step v ss s rs last b c o r (w ∷ f ∷ g ∷ e ∷ fields) h some above i k room =
    rw (
      h.0,
      ne_eqb s 0 (omega arith),
      h.1.0,
      id_at_again r.region (g ∷ e ∷ fields) (omega arith, i),
      lt-ltb b 4096 room,
      lt-ltb last r.region above,
      bound_again g r.range.start (e ∷ fields) h.1.1.0 (k.0).0,
      bound_again e r.range.end fields h.1.1.1.0 (k.0).1,
      (k.0).2,
      boot_peers_again v r.peers fields h.1.1.1.1 k.1,
    ) refl

regions_lead : (v : ℕ) (ss : List Store) (s : ℕ) (done rs all : List Boot) (last b b' c o : ℕ) → done ++ rs ≡ all → 0 < s → Rising last (map (λ r. r.region) rs) → AllByRecursion (IsBoot v) rs → b + length rs ≡ b' → b' ≤ 4096
    → Leads (store_at v ss s done last b c o) (map region_forms rs) (store_at v ss s all (last_id last rs) b' c o)
regions_lead v ss s done [] all last b b' c o whole some r h boots fits =
    let a : done ≡ all = sym (append-nil done) ∙ whole in
    let e : b ≡ b' = omega arith in
    rw (a, e) refl
regions_lead v ss s done (x ∷ rs) all last b b' c o whole some r h boots fits = (
  store_at v ss s (done ++ x ∷ []) x.region (b + 1) c o,
  λ fields t. region_step v ss s done last b c o x fields t some r.0 r.1 h.0 (omega arith),
  regions_lead v ss s (done ++ x ∷ []) rs all x.region (b + 1) b' c o (append_assoc done (x ∷ []) rs ∙ whole) some r.2 h.1 (omega arith) fits,
)

-- ---- stores

pub store_again : (p : Progress) (id : ℕ) (fields : Fields) → SpellsFields fields (number id ∷ []) → IsId id → p.store < id → stores_so_far p < 64 → store_line p fields ≡ Ok (open_store id (close_store (close_log p)))
unfolding store_line id_at
store_again p id [] h i above room = absurd h
store_again p id (f ∷ g ∷ fs) h i above room = absurd h.1
store_again p id (f ∷ []) h i above room = rw (h.0, id_again id i, lt-ltb _ _ above, lt-ltb _ _ room) refl

not_ended : (t : Bool) (x : Result Progress TextKind) → t ≡ false → cond t (Err BadLine) x ≡ x
not_ended t x h = rw h refl

-- a store line, where a line may come that isn't carried
pub store_step : (p : Progress) (id : ℕ) → p.ended ≡ false → p.commit ≡ None → IsId id → p.store < id → stores_so_far p < 64 → (fields : Fields) → SpellsFields fields (Exact (codes "store") ∷ number id ∷ []) → step p fields ≡ Ok (open_store id (close_store (close_log (record p { commit = None }))))
unfolding step line_after free_line
store_step p id e c i above room [] s = absurd s
store_step p id e c i above room (word ∷ fields) s =
    let q : Progress = record p { commit = None } in
    not_ended p.ended (line_after q p.commit word fields) e ∙ ap (λ o. line_after q o word fields) c ∙ ap (λ w. free_line q w fields) s.0 ∙ store_again q id fields s.1 i above room

pub record StoresRead (v : ℕ) (from : Progress) (lines : List Forms) (all : List Store) (b c o : ℕ) : Type 0 where
  pub p : Progress
  pub logs : List Log
  pub log : ℕ
  pub entries : List Entry
  pub next : ℕ
  pub version : p.version ≡ v
  pub leads : Leads from lines (on p logs log entries next b c o)
  pub closes : close_store (close_log (on p logs log entries next b c o)) ≡ store_at v all 0 [] 0 b c o

abbrev pub regions_total : List Store → ℕ
regions_total ss = sum_by (λ s. length s.regions) ss

abbrev pub all_entries : List Store → List Entry
all_entries ss = flat_map (λ s. flat_map (λ l. l.entries) s.logs) ss

one_more : (n s m : ℕ) → 0 < s → m ≡ n + 1 → cond (eqb s 0) n (n + 1) ≡ m
one_more n s m h e = rw (ne_eqb s 0 (omega arith)) (sym e)

stores_lead : (v : ℕ) (p : Progress) (ls : List Log) (l : ℕ) (es : List Entry) (n b b' c c' o o' : ℕ) (done ss all : List Store) → p.version ≡ v → close_store (close_log (on p ls l es n b c o)) ≡ store_at v done 0 [] 0 b c o → stores_so_far (on p ls l es n b c o) ≡ length done → done ++ ss ≡ all → length all ≤ 64
    → Rising p.store (map (λ s. s.id) ss) → AllByRecursion (IsStore v) ss
    → b + (regions_total ss + pairs_total (all_entries ss)) ≡ b' → b' ≤ 4096 → c + lines_total (all_entries ss) ≡ c' → c' ≤ 1048576 → o + ops_total (all_entries ss) ≡ o' → o' ≤ 1048576
    → StoresRead v (on p ls l es n b c o) (flat_map store_lines ss) all b' c' o'
unfolding close_log close_store
stores_lead v p ls l es n b b' c c' o o' done [] all same closes so_far whole size r h boots fits_b lines fits_c ops fits_o =
    let a : all ≡ done = sym whole ∙ append-nil done in
    let e1 : b' ≡ b = omega arith in
    let e2 : c' ≡ c = omega arith in
    let e3 : o' ≡ o = omega arith in
    rw (a, e1, e2, e3) (record { p = p; logs = ls; log = l; entries = es; next = n; version = same; leads = refl; closes = closes })
stores_lead v p ls l es n b b' c c' o o' done (s ∷ ss) all same closes so_far whole size r h boots fits_b lines fits_c ops fits_o =
    let own_entries : List Entry = flat_map (λ k. k.entries) s.logs in
    let b1 : ℕ = b + length s.regions in
    let b2 : ℕ = b1 + pairs_total own_entries in
    let c2 : ℕ = c + lines_total own_entries in
    let o2 : ℕ = o + ops_total own_entries in
    let split_r = sum_by-cons (λ (t : Store). length t.regions) s ss in
    let split_b = sum_by-append (λ (e : Entry). pairs_in e.body) own_entries (all_entries ss) in
    let split_c = sum_by-append (λ (e : Entry). 1 + length (carried_of e.body)) own_entries (all_entries ss) in
    let split_o = sum_by-append (λ (e : Entry). ops_in e.body + sum_by (λ (x : Carried). carried_ops_in x.body) (carried_of e.body)) own_entries (all_entries ss) in
    let positive : 0 < s.id = omega (arith, r.0) in
    let room : length done < 64 = omega (arith, ap length whole, length-append done (s ∷ ss)) in
    let q0 : Progress = on p ls l es n b c o in
    let q1 : Progress = store_at v done s.id [] 0 b c o in
    let last : ℕ = last_id 0 s.regions in
    let p2 : Progress = store_at v done s.id s.regions last 0 0 0 in
    let q2 : Progress = store_at v done s.id s.regions last b1 c o in
    let opened : Leads q0 ((Exact (codes "store") ∷ number s.id ∷ []) ∷ []) q1 = (open_store s.id (close_store (close_log q0)), λ fields t. store_step q0 s.id refl refl (positive, r.1) r.0 (omega (arith, so_far)) fields t, ap (open_store s.id) closes) in
    let booted : Leads q1 (map region_forms s.regions) q2 = regions_lead v done s.id [] s.regions s.regions 0 b b1 c o refl positive h.0.0 h.0.1 refl (omega arith) in
    let logs = logs_lead p2 [] 0 [] 6 b1 b2 c c2 o o2 [] s.logs s.logs positive refl refl h.0.2 h.0.3 refl (omega arith) refl (omega arith) refl (omega arith) in
    let q3 : Progress = on p2 logs.logs logs.log logs.entries logs.next b2 c2 o2 in
    let shut : close_store (on p2 s.logs 0 [] 6 b2 c2 o2) ≡ store_at v (done ++ s ∷ []) 0 [] 0 b2 c2 o2 = rw (ne_eqb s.id 0 (omega arith)) refl in
    let closed : close_store (close_log q3) ≡ store_at v (done ++ s ∷ []) 0 [] 0 b2 c2 o2 = ap close_store logs.closes ∙ shut in
    let more = stores_lead v p2 logs.logs logs.log logs.entries logs.next b2 b' c2 c' o2 o' (done ++ s ∷ []) ss all refl closed (one_more (length done) s.id (length (done ++ s ∷ [])) positive (length-append done (s ∷ []))) (append_assoc done (s ∷ []) ss ∙ whole) size r.2 h.1 (omega arith) fits_b (omega arith) fits_c (omega arith) fits_o in
    let q4 : Progress = on more.p more.logs more.log more.entries more.next b' c' o' in
    record {
      p = more.p;
      logs = more.logs;
      log = more.log;
      entries = more.entries;
      next = more.next;
      version = more.version;
      leads = Leads-append q0 (store_lines s) (flat_map store_lines ss) q3 q4
          (Leads-append q0 ((Exact (codes "store") ∷ number s.id ∷ []) ∷ []) (map region_forms s.regions ++ flat_map log_lines s.logs) q1 q3 opened
          (Leads-append q1 (map region_forms s.regions) (flat_map log_lines s.logs) q2 q3 booted logs.leads))
          more.leads;
      closes = more.closes;
    }

-- ---- whole texts

end_step : (p : Progress) (ls : List Log) (l : ℕ) (es : List Entry) (n b c o : ℕ) (fields : Fields) → SpellsFields fields (Exact (codes "end") ∷ []) → step (on p ls l es n b c o) fields ≡ Ok (record (on p ls l es n b c o) { ended = true })
unfolding step line_after free_line
end_step p ls l es n b c o [] s = absurd s
end_step p ls l es n b c o (w ∷ f ∷ fields) s = absurd s.1
end_step p ls l es n b c o (w ∷ []) s = rw (s.0) refl

-- the line `end` changes nothing of what is closed
pub same_stores : (q : Progress) → (close_store (close_log (record q { ended = true }))).stores ≡ (close_store (close_log q)).stores
unfolding close_log close_store
same_stores q = go (eqb q.log 0) (eqb q.store 0) refl refl where
  go : (t u : Bool) → eqb q.log 0 ≡ t → eqb q.store 0 ≡ u → (close_store (close_log (record q { ended = true }))).stores ≡ (close_store (close_log q)).stores
  go true true h k = rw (h, k) refl
  go true false h k = rw (h, k) refl
  go false true h k = rw (h, k) refl
  go false false h k = rw (h, k) refl

headed : (v : ℕ) (fields : Fields) → (v ≡ 1) ⊎ (v ≡ 2) → SpellsFields fields (Exact (codes "raftreplay") ∷ number v ∷ []) → header_of fields ≡ Some v
unfolding fmt.digits
headed v [] h s = absurd s
headed v (a ∷ []) h s = absurd s.1
headed v (a ∷ b ∷ c ∷ fields) h s = absurd s.1.1
headed v (a ∷ b ∷ []) (inl h) s = let e : b ≡ codes "1" = s.1.0 ∙ ap fmt.decimal h in rw (s.0, e, h) refl
headed v (a ∷ b ∷ []) (inr h) s = let e : b ≡ codes "2" = s.1.0 ∙ ap fmt.decimal h in rw (s.0, e, h) refl

only_parts : (parts : List (List ℕ)) (x : Input) → WellFormed x → SpellsLines parts (lines_of x) → read_parts parts ≡ Ok x
unfolding read_parts lines_of last_line close_log close_store
only_parts [] x w s = absurd s
only_parts (line ∷ []) x w s = absurd s
only_parts (line ∷ next ∷ more) x w s =
    let b : ℕ = regions_total x.stores + pairs_total (all_entries x.stores) in
    let c : ℕ = lines_total (all_entries x.stores) in
    let o : ℕ = ops_total (all_entries x.stores) in
    let r = stores_lead x.version (start x.version) [] 0 [] 6 0 b 0 c 0 o [] x.stores x.stores refl refl refl refl w.count w.ids w.stores (omega arith) w.boots (omega arith) w.lines (omega arith) w.operations in
    let q : Progress = on r.p r.logs r.log r.entries r.next b c o in
    let last : Progress = record q { ended = true } in
    let ended : Leads q ((Exact (codes "end") ∷ []) ∷ []) last = (last, λ fields t. end_step r.p r.logs r.log r.entries r.next b c o fields t, refl) in
    let whole : Leads (start x.version) (flat_map store_lines x.stores ++ (Exact (codes "end") ∷ []) ∷ []) last = Leads-append (start x.version) (flat_map store_lines x.stores) ((Exact (codes "end") ∷ []) ∷ []) q last r.leads ended in
    let read = run (flat_map store_lines x.stores ++ (Exact (codes "end") ∷ []) ∷ []) 2 (start x.version) last (next ∷ more) whole s.1 in
    let stores : (close_store (close_log last)).stores ≡ x.stores = same_stores q ∙ ap (λ (p : Progress). p.stores) r.closes in
    rw (headed x.version (fields_of line) w.version s.0) (read.1 ∙ ap (λ (ss : List Store). Ok (record { version = r.p.version; stores = ss })) stores ∙ ap (λ (v : ℕ). Ok (record { version = v; stores = x.stores })) r.version)

-- a text that belongs to an input is read as it
pub only : (text : List ℕ) (x : Input) → Belongs text x → read_text text ≡ Ok x
unfolding read_text
only text x h = only_parts (parts_of text) x h.well_formed h.spelled

-- what is written is read again
pub read_again : (x : Input) → WellFormed x → read_text (text_of x) ≡ Ok x
read_again x w = only (text_of x) x (canonical_belongs x w)
