-- Entry and carry lines that are read: the progress stands for one more line.
-- `X_found`: a line of the kind X is a step from a good progress to a good one.
use Rattle.rs_entry.specs.declared.entry.Body.TheVariants as body
use Rattle.std.proofs.Common.{◌≡◌, ℕ, zero, suc, ◌+◌, ◌-◌, ◌<◌, ◌≤◌, Bool, true, false, ◌||◌, cond, eqb, leb, List, [], ◌∷◌, ◌++◌, length, map, codes, Option, Some, None, Ok, refl, sym, ap, subst, ◌∙◌, append_assoc, inl, inr, arith}
use Rattle.std.specs.List.{flat_map, sum_by}
use Rattle.std.specs.Str.{bytes_eq}
use Rattle.std.proofs.lemmas.Bool.{leb-true, eqb-true, eqb-false, ne_eqb, eq-eqb, cases_eq}
use Rattle.std.proofs.lemmas.List.{append-nil, length-append, map-append}
use Rattle.std.proofs.lemmas.List.Sums.{sum_by_push}
use Rattle.std.proofs.lemmas.Grind.{flat_map-append}
use Rattle.rs_key.specs.declared.epoch.Epoch.{Epoch}
use Rattle.rs_entry.specs.declared.entry.Carried.{Carried}
use Rattle.rs_entry.specs.declared.entry.Body.{Body}
use Rattle.rs_entry.specs.declared.entry.Entry.{Entry}
use Rattle.rs_entry.specs.declared.input.Log.{Log}
use Rattle.rs_entry.specs.declared.input.Boot.{Boot}
use Rattle.rs_entry.specs.declared.input.Store.{Store}
use Rattle.rs_text.specs.declared.progress.OpenCommit.{OpenCommit}
use Rattle.rs_text.specs.declared.progress.Progress.{Progress}
use Rattle.rs_field.specs.Fields.{◌>>=◌, Fields}
use Rattle.rs_entry.specs.Entries.{ops_in, pairs_in, carried_ops_in, carried_of}
use Rattle.rs_text.specs.Steps.{entry_to, commit_to, carried_to, body_at}
use Rattle.rs_text.specs.Bodies.{commit_at, carried_body_at}
use Rattle.rs_field.specs.Forms.{Exact, Forms, number, SpellsFields}
use Rattle.rs_text.specs.Logs.{head, body_forms, carried_body_forms, carry_forms, carried_lines, entry_lines, store_lines}
use Rattle.rs_entry.specs.WellFormed.{IsNumber, IsId, IsEpoch, IsBody}
use Rattle.rs_field.proofs.ReadLaws.{bind_ok}
use Rattle.rs_text.proofs.FieldLaws.{is_word}
use Rattle.rs_text.proofs.FoundBodies.{IsEnding, IsPassing, body_spelled, commit_spelled, ending_spelled, passing_spelled}
use Rattle.rs_text.proofs.FoundLines.{CarryRead, EntryRead}
use Rattle.rs_text.proofs.OnlyBodies.{IsPlainBody}
use Rattle.rs_text.proofs.OnlyEntries.{commit_entry}
use Rattle.rs_text.proofs.OnlyTexts.{all_entries, lines_total, ops_total, regions_total}
use Rattle.rs_text.proofs.SoFar.{Begun, Good, IsOpenStore, IsPending, Steps, Totals, at_end, begun_more, carried_whole, commit_line, commit_part, entries_more, log_entries, log_part, mk, store_part, waiting, waiting_lines, waiting_ops}

-- ---- entries

totals_push : (before es : List Entry) (e : Entry) (regions b b' c c' o o' wl wo : ℕ) → Totals (before ++ es) regions b c o wl wo → b + pairs_in e.body ≡ b' → b' ≤ 4096 → c' + wl ≡ c + (1 + length (carried_of e.body)) → c' ≤ 1048576 → o' + wo ≡ o + (ops_in e.body + sum_by (λ x. carried_ops_in x.body) (carried_of e.body)) → o' ≤ 1048576
    → Totals (before ++ (es ++ e ∷ [])) regions b' c' o' 0 0
totals_push before es e regions b b' c c' o o' wl wo t hb fb hc fc ho fo =
    let push_b = sum_by_push (λ (z : Entry). pairs_in z.body) (before ++ es) e in
    let push_c = sum_by_push (λ (z : Entry). 1 + length (carried_of z.body)) (before ++ es) e in
    let push_o = sum_by_push (λ (z : Entry). ops_in z.body + sum_by (λ (x : Carried). carried_ops_in x.body) (carried_of z.body)) (before ++ es) e in
    subst (λ (all : List Entry). Totals all regions b' c' o' 0 0) (append_assoc before es (e ∷ []))
    (record { boots = omega arith; few_boots = fb; lines = omega arith; few_lines = fc; ops = omega arith; few_ops = fo })

pub same_totals : (xs ys : List Entry) (r r' b c o wl wo : ℕ) → xs ≡ ys → r ≡ r' → Totals xs r b c o wl wo → Totals ys r' b c o wl wo
same_totals xs ys r r' b c o wl wo e h t =
    subst (λ (all : List Entry). Totals all r' b c o wl wo) e (subst (λ (n : ℕ). Totals xs n b c o wl wo) h t)

good_push : (v : ℕ) (ss : List Store) (s : ℕ) (rs : List Boot) (last : ℕ) (ls : List Log) (l : ℕ) (es : List Entry) (n n' : ℕ) (pending : Option OpenCommit) (b b' c c' o o' : ℕ) (e : Entry) → Good (mk v ss s rs last ls (suc l) es n pending b c o) → e.index ≡ 6 + length es → IsNumber e.index → IsEpoch e.epoch → IsBody v e.body
    → n' + waiting pending ≡ n + 1 → b + pairs_in e.body ≡ b' → b' ≤ 4096 → c' + waiting_lines pending ≡ c + (1 + length (carried_of e.body)) → c' ≤ 1048576 → o' + waiting_ops pending ≡ o + (ops_in e.body + sum_by (λ x. carried_ops_in x.body) (carried_of e.body)) → o' ≤ 1048576
    → Good (mk v ss s rs last ls (suc l) (es ++ e ∷ []) n' None b' c' o')
good_push v ss s rs last ls l es n n' pending b b' c c' o o' e g at i k h next hb fb hc fc ho fo =
    let size = length-append es (e ∷ []) in
    let was : n ≡ 6 + length es + waiting pending = g.next in
    let t = totals_push (all_entries ss ++ log_entries ls) es e (regions_total ss + length rs) b b' c c' o o' (waiting_lines pending) (waiting_ops pending)
    (same_totals _ _ _ _ b c o (waiting_lines pending) (waiting_ops pending) (sym (append_assoc (all_entries ss) (log_entries ls) es)) refl g.totals) hb fb hc fc ho fo in
    record {
      ended = refl;
      version = g.version;
      last_store = g.last_store;
      stores = g.stores;
      store_ids = g.store_ids;
      open_store = open_more s g.open_store;
      count = g.count;
      regions = g.regions;
      region_ids = g.region_ids;
      last_log = g.last_log;
      logs = g.logs;
      log_ids = g.log_ids;
      open_log = g.open_log;
      entries = entries_more v 6 es e g.entries at i k h;
      next = omega arith;
      pending = tt;
      totals = same_totals _ _ _ _ b' c' o' 0 0 (append_assoc (all_entries ss) (log_entries ls) (es ++ e ∷ [])) refl t;
    } where
      open_more : (s : ℕ) → IsOpenStore s g.last_store rs ls (suc l) → IsOpenStore s g.last_store rs ls (suc l)
      open_more s h = h

flat_push : (es : List Entry) (e : Entry) → flat_map entry_lines (es ++ e ∷ []) ≡ flat_map entry_lines es ++ entry_lines e
flat_push es e = flat_map-append entry_lines es (e ∷ []) ∙ ap (λ (x : List Forms). flat_map entry_lines es ++ x) (append-nil (entry_lines e))

-- an entry that is one line
one_line : (l : ℕ) (es : List Entry) (e : Entry) (f : Forms) → entry_lines e ≡ f ∷ [] → log_part (suc l) (es ++ e ∷ []) ++ [] ≡ (log_part (suc l) es ++ []) ++ f ∷ []
one_line l es e f h =
    let x : List Forms = flat_map entry_lines es in
    append-nil (log_part (suc l) (es ++ e ∷ [])) ∙ ap (λ (y : List Forms). (Exact (codes "log") ∷ number (suc l) ∷ []) ∷ y) (flat_push es e ∙ ap (λ (y : List Forms). x ++ y) h) ∙ sym (ap (λ (y : List Forms). y ++ f ∷ []) (append-nil (log_part (suc l) es)))

plain_line : (e : Entry) → IsPlainBody e.body → entry_lines e ≡ head e.index e.epoch (body_forms e.body) ∷ []
plain_line e h = go e.body h where
  go : (b : Body) → IsPlainBody b → head e.index e.epoch (body_forms e.body) ∷ carried_lines b ≡ head e.index e.epoch (body_forms e.body) ∷ []
  go body.Empty h = refl
  go (body.Write ops) h = refl
  go (body.Split sd ids keys) h = refl
  go (body.Prepare target) h = refl
  go (body.Commit source commit cs) h = absurd h
  go (body.Rollback commit) h = refl
  go (body.Conf change) h = refl

none_carried : (b : Body) → IsPlainBody b → carried_of b ≡ []
none_carried body.Empty h = refl
none_carried (body.Write ops) h = refl
none_carried (body.Split sd ids keys) h = refl
none_carried (body.Prepare target) h = refl
none_carried (body.Commit source commit cs) h = absurd h
none_carried (body.Rollback commit) h = refl
none_carried (body.Conf change) h = refl

plain_found : (v : ℕ) (ss : List Store) (s : ℕ) (rs : List Boot) (last : ℕ) (ls : List Log) (l : ℕ) (es : List Entry) (n b c o : ℕ) (e : Entry) (fields : Fields) → Good (mk v ss s rs last ls (suc l) es n None b c o)
    → SpellsFields fields (head e.index e.epoch (body_forms e.body)) → IsPlainBody e.body → e.index ≡ n → IsNumber e.index → IsEpoch e.epoch → IsBody v e.body → b + pairs_in e.body ≤ 4096 → c < 1048576 → o + ops_in e.body ≤ 1048576
    → Steps (mk v ss s rs last ls (suc l) es n None b c o) fields (entry_to e (mk v ss s rs last ls (suc l) es n None b c o))
plain_found v ss s rs last ls l es n b c o e fields g sp y at i k h boots lines ops =
    let none = none_carried e.body y in
    let none_lines = ap (λ (cs : List Carried). length cs) none in
    let none_ops = ap (λ (cs : List Carried). sum_by (λ (x : Carried). carried_ops_in x.body) cs) none in
    let was : n ≡ 6 + length es + 0 = g.next in
    record {
      forms = head e.index e.epoch (body_forms e.body);
      spelled = sp;
      lines = at_end (flat_map store_lines ss) (store_part s rs ls) (log_part (suc l) es ++ []) (log_part (suc l) (es ++ e ∷ []) ++ []) (head e.index e.epoch (body_forms e.body)) (one_line l es e (head e.index e.epoch (body_forms e.body)) (plain_line e y));
      same_version = refl;
      good = good_push v ss s rs last ls l es n (n + 1) None b (b + pairs_in e.body) c (c + 1) o (o + ops_in e.body) e g (omega arith) i k h (omega arith) refl boots (omega arith) (omega arith) (omega arith) ops;
    }

-- ---- commits

-- a commit without carried entries
empty_commit_found : (v : ℕ) (ss : List Store) (s : ℕ) (rs : List Boot) (last : ℕ) (ls : List Log) (l : ℕ) (es : List Entry) (n b c o index : ℕ) (epoch : Epoch) (source commit : ℕ) (fields : Fields) → Good (mk v ss s rs last ls (suc l) es n None b c o)
    → SpellsFields fields (head index epoch (Exact (codes "commit") ∷ number source ∷ number commit ∷ number 0 ∷ [])) → index ≡ n → IsNumber index → IsEpoch epoch → IsId source → IsNumber commit → c < 1048576
    → Steps (mk v ss s rs last ls (suc l) es n None b c o) fields (entry_to (commit_entry index epoch source commit []) (mk v ss s rs last ls (suc l) es n None b c o))
empty_commit_found v ss s rs last ls l es n b c o index epoch source commit fields g sp at i k src cnum lines =
    let e : Entry = commit_entry index epoch source commit [] in
    let was : n ≡ 6 + length es + 0 = g.next in
    let f : Forms = head index epoch (Exact (codes "commit") ∷ number source ∷ number commit ∷ number 0 ∷ []) in
    let few_b = g.totals.few_boots in
    let few_o = g.totals.few_ops in
    record {
      forms = f;
      spelled = sp;
      lines = at_end (flat_map store_lines ss) (store_part s rs ls) (log_part (suc l) es ++ []) (log_part (suc l) (es ++ e ∷ []) ++ []) f (one_line l es e f refl);
      same_version = refl;
      good = good_push v ss s rs last ls l es n (n + 1) None b (b + 0) c (c + 1) o (o + 0) e g (omega arith) i k (src, cnum, omega arith, tt) (omega arith) refl (omega arith) (omega arith) (omega arith) (omega arith) (omega arith);
    }

-- a commit of which carried entries are to come
commit_found : (v : ℕ) (ss : List Store) (s : ℕ) (rs : List Boot) (last : ℕ) (ls : List Log) (l : ℕ) (es : List Entry) (n b c o index : ℕ) (epoch : Epoch) (source commit count : ℕ) (fields : Fields) → Good (mk v ss s rs last ls (suc l) es n None b c o)
    → SpellsFields fields (head index epoch (Exact (codes "commit") ∷ number source ∷ number commit ∷ number count ∷ [])) → index ≡ n → IsNumber index → IsEpoch epoch → IsId source → IsNumber commit → 0 < count → count ≤ 4096 → count + 5 ≤ commit → c < 1048576
    → Steps (mk v ss s rs last ls (suc l) es n None b c o) fields (mk v ss s rs last ls (suc l) es (n + 1) (Some (record { index = index; epoch = epoch; source = source; commit = commit; count = count; carried = [] })) b (c + 1) o)
commit_found v ss s rs last ls l es n b c o index epoch source commit count fields g sp at i k src cnum some few fits lines =
    let was : n ≡ 6 + length es + 0 = g.next in
    let f : Forms = head index epoch (Exact (codes "commit") ∷ number source ∷ number commit ∷ number count ∷ []) in
    let t = g.totals in
    record {
      forms = f;
      spelled = sp;
      lines = at_end (flat_map store_lines ss) (store_part s rs ls) (log_part (suc l) es ++ []) (log_part (suc l) es ++ f ∷ []) f (sym (ap (λ (y : List Forms). y ++ f ∷ []) (append-nil (log_part (suc l) es))));
      same_version = refl;
      good = record {
        ended = refl;
        version = g.version;
        last_store = g.last_store;
        stores = g.stores;
        store_ids = g.store_ids;
        open_store = open_same s g.open_store;
        count = g.count;
        regions = g.regions;
        region_ids = g.region_ids;
        last_log = g.last_log;
        logs = g.logs;
        log_ids = g.log_ids;
        open_log = g.open_log;
        entries = g.entries;
        next = omega arith;
        pending = record { at = omega arith; is_number = i; is_epoch = k; source = src; commit = cnum; few = few; left = count_less; to_come = omega arith; fits = fits; begun = tt };
        totals = record { boots = t.boots; few_boots = t.few_boots; lines = omega (arith, t.lines); few_lines = omega arith; ops = t.ops; few_ops = t.few_ops };
      };
    } where
      open_same : (s : ℕ) → IsOpenStore s g.last_store rs ls (suc l) → IsOpenStore s g.last_store rs ls (suc l)
      open_same s h = h

      count_less : ℕ
      count_less = count - 1

-- ---- carried entries

-- where no more is to come, the commit is whole
carried_is_last : (pending : OpenCommit) (x : Carried) (p : Progress) → length pending.carried + 1 ≡ pending.count → carried_to pending x p ≡ record p { lines = p.lines + 1; operations = p.operations + carried_ops_in x.body; commit = None; entries = p.entries ++ commit_entry pending.index pending.epoch pending.source pending.commit (pending.carried ++ x ∷ []) ∷ [] }
carried_is_last pending x p e = rw (eq-eqb (length (pending.carried ++ x ∷ [])) pending.count (omega (arith, length-append pending.carried (x ∷ [])))) refl

carried_is_more : (pending : OpenCommit) (x : Carried) (p : Progress) → length pending.carried + 1 < pending.count → carried_to pending x p ≡ record p { lines = p.lines + 1; operations = p.operations + carried_ops_in x.body; commit = Some (record pending { carried = pending.carried ++ x ∷ [] }) }
carried_is_more pending x p lt = rw (ne_eqb (length (pending.carried ++ x ∷ [])) pending.count (omega (arith, length-append pending.carried (x ∷ [])))) refl

whole_lines : (l : ℕ) (es : List Entry) (o : OpenCommit) (x : Carried) → length (o.carried ++ x ∷ []) ≡ o.count
    → log_part (suc l) (es ++ commit_entry o.index o.epoch o.source o.commit (o.carried ++ x ∷ []) ∷ []) ++ [] ≡ (log_part (suc l) es ++ commit_part (Some o)) ++ carry_forms x ∷ []
whole_lines l es o x size =
    let e : Entry = commit_entry o.index o.epoch o.source o.commit (o.carried ++ x ∷ []) in
    let lg : Forms = Exact (codes "log") ∷ number (suc l) ∷ [] in
    let old : List Forms = flat_map entry_lines es in
    let line : Forms → List Forms = λ f. f ∷ map carry_forms (o.carried ++ x ∷ []) in
    let same_line : entry_lines e ≡ commit_line o ∷ map carry_forms (o.carried ++ x ∷ []) = ap (λ (n : ℕ). head o.index o.epoch (Exact (codes "commit") ∷ number o.source ∷ number o.commit ∷ number n ∷ []) ∷ map carry_forms (o.carried ++ x ∷ [])) size in
    let same_rest : commit_line o ∷ map carry_forms (o.carried ++ x ∷ []) ≡ commit_part (Some o) ++ carry_forms x ∷ [] = ap (λ (y : List Forms). commit_line o ∷ y) (map-append carry_forms o.carried (x ∷ [])) in
    append-nil (log_part (suc l) (es ++ e ∷ [])) ∙ ap (λ (y : List Forms). lg ∷ y) (flat_push es e ∙ ap (λ (y : List Forms). old ++ y) (same_line ∙ same_rest) ∙ sym (append_assoc old (commit_part (Some o)) (carry_forms x ∷ [])))

last_found : (v : ℕ) (ss : List Store) (s : ℕ) (rs : List Boot) (last : ℕ) (ls : List Log) (l : ℕ) (es : List Entry) (n : ℕ) (oc : OpenCommit) (b c o : ℕ) (x : Carried) (fields : Fields) → Good (mk v ss s rs last ls (suc l) es n (Some oc) b c o)
    → SpellsFields fields (carry_forms x) → length oc.carried + 1 ≡ oc.count → x.index + oc.count ≡ oc.commit + (length oc.carried + 1) → IsEpoch x.epoch → IsEnding x.body → c < 1048576 → o + carried_ops_in x.body ≤ 1048576
    → Steps (mk v ss s rs last ls (suc l) es n (Some oc) b c o) fields (carried_to oc x (mk v ss s rs last ls (suc l) es n None b c o))
last_found v ss s rs last ls l es n oc b c o x fields g sp size at k h lines ops =
    let e : Entry = commit_entry oc.index oc.epoch oc.source oc.commit (oc.carried ++ x ∷ []) in
    let w : IsPending (6 + length es) oc = g.pending in
    let few_b : b ≤ 4096 = g.totals.few_boots in
    let none : 1 + w.left ≡ 1 = omega arith in
    let long = length-append oc.carried (x ∷ []) in
    let sums = sum_by_push (λ (y : Carried). carried_ops_in y.body) oc.carried x in
    let at_commit : x.index ≡ oc.commit = omega arith in
    let high : 6 ≤ x.index = omega arith in
    let begun : Begun oc.commit 1 oc.carried = subst (λ (m : ℕ). Begun oc.commit m oc.carried) none w.begun in
    let q : Progress = mk v ss s rs last ls (suc l) (es ++ e ∷ []) n None b (c + 1) (o + carried_ops_in x.body) in
    let is : carried_to oc x (mk v ss s rs last ls (suc l) es n None b c o) ≡ q = carried_is_last oc x (mk v ss s rs last ls (suc l) es n None b c o) size in
    subst (Steps (mk v ss s rs last ls (suc l) es n (Some oc) b c o) fields) (sym is) (record {
      forms = carry_forms x;
      spelled = sp;
      lines = at_end (flat_map store_lines ss) (store_part s rs ls) (log_part (suc l) es ++ commit_part (Some oc)) (log_part (suc l) (es ++ e ∷ []) ++ []) (carry_forms x) (whole_lines l es oc x (omega arith));
      same_version = refl;
      good = good_push v ss s rs last ls l es n n (Some oc) b b c (c + 1) o (o + carried_ops_in x.body) e g w.at w.is_number w.is_epoch (w.source, w.commit, omega arith, carried_whole oc.commit oc.carried x begun at_commit high k h) refl (omega arith) few_b (omega arith) (omega arith) (omega arith) ops;
    })

more_found : (v : ℕ) (ss : List Store) (s : ℕ) (rs : List Boot) (last : ℕ) (ls : List Log) (l : ℕ) (es : List Entry) (n : ℕ) (oc : OpenCommit) (b c o : ℕ) (x : Carried) (fields : Fields) → Good (mk v ss s rs last ls (suc l) es n (Some oc) b c o)
    → SpellsFields fields (carry_forms x) → (length oc.carried + 1 ≡ oc.count → ⊥) → x.index + oc.count ≡ oc.commit + (length oc.carried + 1) → IsEpoch x.epoch → IsPassing x.body → c < 1048576 → o + carried_ops_in x.body ≤ 1048576
    → Steps (mk v ss s rs last ls (suc l) es n (Some oc) b c o) fields (carried_to oc x (mk v ss s rs last ls (suc l) es n None b c o))
more_found v ss s rs last ls l es n oc b c o x fields g sp short at k h lines ops =
    let w : IsPending (6 + length es) oc = g.pending in
    let was : n ≡ 6 + length es + 1 = g.next in
    let t = g.totals in
    let tl : c ≡ lines_total (all_entries ss ++ (log_entries ls ++ es)) + (1 + length oc.carried) = t.lines in
    let to : o ≡ ops_total (all_entries ss ++ (log_entries ls ++ es)) + sum_by (λ y. carried_ops_in y.body) oc.carried = t.ops in
    let less : ℕ = w.left - 1 in
    let first : length oc.carried + (1 + w.left) ≡ oc.count = w.to_come in
    let some : 0 < w.left = elim (cases_eq w.left 0) [ inl z ↦ absurd (short (omega arith)) | inr z ↦ omega arith ] in
    let less_is : 1 + w.left ≡ 1 + (1 + less) = omega arith in
    let long = length-append oc.carried (x ∷ []) in
    let sums = sum_by_push (λ (y : Carried). carried_ops_in y.body) oc.carried x in
    let here : x.index + (1 + less) ≡ oc.commit = omega arith in
    let high : 6 ≤ x.index = omega arith in
    let oc2 : OpenCommit = record oc { carried = oc.carried ++ x ∷ [] } in
    let q : Progress = mk v ss s rs last ls (suc l) es n (Some oc2) b (c + 1) (o + carried_ops_in x.body) in
    let is : carried_to oc x (mk v ss s rs last ls (suc l) es n None b c o) ≡ q = carried_is_more oc x (mk v ss s rs last ls (suc l) es n None b c o) (omega arith) in
    let same_rest : commit_part (Some oc2) ≡ commit_part (Some oc) ++ carry_forms x ∷ [] = ap (λ (y : List Forms). commit_line oc ∷ y) (map-append carry_forms oc.carried (x ∷ [])) in
    let pushed : log_part (suc l) es ++ commit_part (Some oc2) ≡ (log_part (suc l) es ++ commit_part (Some oc)) ++ carry_forms x ∷ [] = ap (λ (y : List Forms). log_part (suc l) es ++ y) same_rest ∙ sym (append_assoc (log_part (suc l) es) (commit_part (Some oc)) (carry_forms x ∷ [])) in
    subst (Steps (mk v ss s rs last ls (suc l) es n (Some oc) b c o) fields) (sym is) (record {
      forms = carry_forms x;
      spelled = sp;
      lines = at_end (flat_map store_lines ss) (store_part s rs ls) (log_part (suc l) es ++ commit_part (Some oc)) (log_part (suc l) es ++ commit_part (Some oc2)) (carry_forms x) pushed;
      same_version = refl;
      good = record {
        ended = refl;
        version = g.version;
        last_store = g.last_store;
        stores = g.stores;
        store_ids = g.store_ids;
        open_store = g.open_store;
        count = g.count;
        regions = g.regions;
        region_ids = g.region_ids;
        last_log = g.last_log;
        logs = g.logs;
        log_ids = g.log_ids;
        open_log = g.open_log;
        entries = g.entries;
        next = was;
        pending = record { at = w.at; is_number = w.is_number; is_epoch = w.is_epoch; source = w.source; commit = w.commit; few = w.few; left = less; to_come = omega arith; fits = w.fits; begun = begun_more oc.commit (1 + less) oc.carried x (subst (λ (m : ℕ). Begun oc.commit m oc.carried) less_is w.begun) here high k h };
        totals = record { boots = t.boots; few_boots = t.few_boots; lines = omega arith; few_lines = omega arith; ops = omega arith; few_ops = ops };
      };
    })

pub carry_found : (v : ℕ) (ss : List Store) (s : ℕ) (rs : List Boot) (last : ℕ) (ls : List Log) (l : ℕ) (es : List Entry) (n : ℕ) (oc : OpenCommit) (b c o : ℕ) (word : List ℕ) (fields : Fields) (q : Progress) → Good (mk v ss s rs last ls (suc l) es n (Some oc) b c o)
    → word ≡ codes "carry" → CarryRead (mk v ss s rs last ls (suc l) es n None b c o) q oc fields → Steps (mk v ss s rs last ls (suc l) es n (Some oc) b c o) (word ∷ fields) q
carry_found v ss s rs last ls l es n oc b c o word fields q g w r =
    subst (Steps (mk v ss s rs last ls (suc l) es n (Some oc) b c o) (word ∷ fields)) r.is (go (eqb (length oc.carried + 1) oc.count) refl r.read) where
      go : (t : Bool) → eqb (length oc.carried + 1) oc.count ≡ t → carried_body_at v o t r.word r.rest ≡ Ok r.body → Steps (mk v ss s rs last ls (suc l) es n (Some oc) b c o) (word ∷ fields) (carried_to oc (record { index = r.index; epoch = r.epoch; body = r.body }) (mk v ss s rs last ls (suc l) es n None b c o))
      go true h e =
          let few : o ≤ 1048576 = g.totals.few_ops in
          let a = ending_spelled v o r.word r.rest r.body few e in
          last_found v ss s rs last ls l es n oc b c o (record { index = r.index; epoch = r.epoch; body = r.body }) (word ∷ fields) g (w, r.spelled (carried_body_forms r.body) a.0.spelled) (eqb-true _ _ h) r.at r.is_epoch a.1 r.room a.0.ops
      go false h e =
          let few : o ≤ 1048576 = g.totals.few_ops in
          let a = passing_spelled v o r.word r.rest r.body few e in
          more_found v ss s rs last ls l es n oc b c o (record { index = r.index; epoch = r.epoch; body = r.body }) (word ∷ fields) g (w, r.spelled (carried_body_forms r.body) a.0.spelled) (eqb-false _ _ h) r.at r.is_epoch a.1 r.room a.0.ops

-- ---- entry lines

commit_step_found : (v : ℕ) (ss : List Store) (s : ℕ) (rs : List Boot) (last : ℕ) (ls : List Log) (l : ℕ) (es : List Entry) (n b c o index : ℕ) (epoch : Epoch) (x : ℕ × ℕ × ℕ) (fields : Fields) → Good (mk v ss s rs last ls (suc l) es n None b c o)
    → SpellsFields fields (head index epoch (Exact (codes "commit") ∷ number x.0 ∷ number x.1 ∷ number x.2 ∷ [])) → index ≡ n → IsNumber index → IsEpoch epoch → IsId x.0 → IsNumber x.1 → x.2 ≤ 4096 → (eqb x.2 0 || leb (x.2 + 5) x.1) ≡ true → c < 1048576
    → Steps (mk v ss s rs last ls (suc l) es n None b c o) fields (commit_to index epoch x (mk v ss s rs last ls (suc l) es n None b c o))
commit_step_found v ss s rs last ls l es n b c o index epoch x fields g sp at i k src cnum few fits lines = go x.0 x.1 x.2 sp src cnum few fits where
  go : (source commit count : ℕ) → SpellsFields fields (head index epoch (Exact (codes "commit") ∷ number source ∷ number commit ∷ number count ∷ [])) → IsId source → IsNumber commit → count ≤ 4096 → (eqb count 0 || leb (count + 5) commit) ≡ true
      → Steps (mk v ss s rs last ls (suc l) es n None b c o) fields (commit_to index epoch (source, commit, count) (mk v ss s rs last ls (suc l) es n None b c o))
  go source commit zero sp src cnum few fits = empty_commit_found v ss s rs last ls l es n b c o index epoch source commit fields g sp at i k src cnum lines
  go source commit (suc m) sp src cnum few fits =
      let ne : eqb (suc m) 0 ≡ false = ne_eqb (suc m) 0 (omega arith) in
      let big : leb (suc m + 5) commit ≡ true = sym (ap (λ (t : Bool). t || leb (suc m + 5) commit) ne) ∙ fits in
      let is : commit_to index epoch (source, commit, suc m) (mk v ss s rs last ls (suc l) es n None b c o) ≡ mk v ss s rs last ls (suc l) es (n + 1) (Some (record { index = index; epoch = epoch; source = source; commit = commit; count = suc m; carried = [] })) b (c + 1) o = rw ne refl in
      subst (Steps (mk v ss s rs last ls (suc l) es n None b c o) fields) (sym is) (commit_found v ss s rs last ls l es n b c o index epoch source commit (suc m) fields g sp at i k src cnum (omega arith) few (leb-true _ _ big) lines)

pub entry_found : (v : ℕ) (ss : List Store) (s : ℕ) (rs : List Boot) (last : ℕ) (ls : List Log) (l : ℕ) (es : List Entry) (n b c o : ℕ) (word : List ℕ) (fields : Fields) (q : Progress) → Good (mk v ss s rs last ls (suc l) es n None b c o)
    → EntryRead (mk v ss s rs last ls (suc l) es n None b c o) q word fields → Steps (mk v ss s rs last ls (suc l) es n None b c o) (word ∷ fields) q
entry_found v ss s rs last ls l es n b c o word fields q g r = go (bytes_eq r.word (codes "commit")) refl r.tail where
  go : (t : Bool) → bytes_eq r.word (codes "commit") ≡ t → cond t (commit_at r.rest >>= λ x. Ok (commit_to r.index r.epoch x (mk v ss s rs last ls (suc l) es n None b c o))) (body_at (mk v ss s rs last ls (suc l) es n None b c o) r.word r.rest >>= λ bd. Ok (entry_to (record { index = r.index; epoch = r.epoch; body = bd }) (mk v ss s rs last ls (suc l) es n None b c o))) ≡ Ok q
      → Steps (mk v ss s rs last ls (suc l) es n None b c o) (word ∷ fields) q
  go true h e =
      let a = bind_ok (commit_at r.rest) _ q e in
      let x = commit_spelled r.rest a.0 a.1 in
      let is : commit_to r.index r.epoch a.0 (mk v ss s rs last ls (suc l) es n None b c o) ≡ q = cc (a.2) in
      subst (Steps (mk v ss s rs last ls (suc l) es n None b c o) (word ∷ fields)) is
      (commit_step_found v ss s rs last ls l es n b c o r.index r.epoch a.0 (word ∷ fields) g (r.spelled (Exact (codes "commit") ∷ number (a.0).0 ∷ number (a.0).1 ∷ number (a.0).2 ∷ []) (is_word r.word (codes "commit") h, x.0)) r.is_next r.is_number r.is_epoch x.1 x.2 x.3 x.4 r.room)
  go false h e =
      let p : Progress = mk v ss s rs last ls (suc l) es n None b c o in
      let a = bind_ok (body_at p r.word r.rest) _ q e in
      let few_o : o ≤ 1048576 = g.totals.few_ops in
      let few_b : b ≤ 4096 = g.totals.few_boots in
      let x = body_spelled p r.word r.rest a.0 few_o few_b a.1 in
      let e2 : Entry = record { index = r.index; epoch = r.epoch; body = a.0 } in
      let is : entry_to e2 p ≡ q = cc (a.2) in
      subst (Steps p (word ∷ fields)) is (plain_found v ss s rs last ls l es n b c o e2 (word ∷ fields) g (r.spelled (body_forms a.0) x.spelled) x.plain r.is_next r.is_number r.is_epoch x.good x.boots r.room x.ops)
