-- The lines of a log's entries, however they are spelled, lead from one progress to the next.
-- `X_step`: what one line does, however it is spelled. `X_leads`: what the lines of one entry do, one after the other.
-- The end states are variables that are equal to what is added up, so that no sum has to be moved.
use Rattle.std.specs.Fmt as fmt
use Rattle.rs_entry.specs.declared.entry.CarriedBody.TheVariants as carried
use Rattle.rs_entry.specs.declared.entry.Body.TheVariants as body
use Rattle.std.proofs.Common.{◌≡◌, ℕ, ◌+◌, ◌<◌, ◌≤◌, true, false, ◌||◌, eqb, leb, List, [], ◌∷◌, ◌++◌, length, map, codes, Some, None, Ok, refl, sym, ap, ◌∙◌, append_assoc, inl, inr, arith}
use Rattle.std.specs.List.{flat_map, sum_by}
use Rattle.std.proofs.lemmas.Bool.{lt-ltb, le-leb, ne_eqb, eq-eqb, cases_eq, or_right}
use Rattle.std.proofs.lemmas.List.{append-nil, length-append}
use Rattle.std.proofs.lemmas.List.Sums.{sum_by-cons}
use Rattle.rs_key.specs.declared.epoch.Epoch.{Epoch}
use Rattle.rs_entry.specs.declared.entry.Change.TheVariants.{Add, Remove}
use Rattle.rs_entry.specs.declared.entry.CarriedBody.{CarriedBody}
use Rattle.rs_entry.specs.declared.entry.Carried.{Carried}
use Rattle.rs_entry.specs.declared.entry.Body.{Body}
use Rattle.rs_entry.specs.declared.entry.Entry.{Entry}
use Rattle.rs_entry.specs.declared.input.Log.{Log}
use Rattle.rs_text.specs.declared.progress.OpenCommit.{OpenCommit}
use Rattle.rs_text.specs.declared.progress.Progress.{Progress}
use Rattle.rs_field.specs.Fields.{Fields}
use Rattle.rs_text.specs.Steps.{step, line_after, free_line, carry_or_bad, entry_line, entry_to, commit_to, index_of, epoch_at, carry_line, carried_to}
use Rattle.rs_entry.specs.Entries.{ops_in, pairs_in, carried_ops_in, carried_of}
use Rattle.rs_field.specs.Forms.{Exact, SpellsFields}
use Rattle.rs_text.specs.Logs.{body_forms, carried_body_forms, head, carry_forms, entry_lines}
use Rattle.rs_entry.specs.WellFormed.{IsNumber, IsId, IsEpoch, IsBody, IsCarriedBody, AreCarried, AreEntries}
use Rattle.rs_field.proofs.NumberLaws.{number_again}
use Rattle.rs_text.proofs.FieldLaws.{digit_first, not_word, number_at_again}
use Rattle.rs_text.proofs.OnlyBodies.{IsPlainBody, body_again, carried_again, commit_again, entry_opened}
use Rattle.rs_text.proofs.Runs.{Leads, Leads-append}

-- A progress in which no commit is pending: its logs, the open log with its entries, the next index, and the totals.
abbrev pub on : Progress → List Log → ℕ → List Entry → ℕ → ℕ → ℕ → ℕ → Progress
on p ls l es n b c o = record p { logs = ls; log = l; entries = es; next = n; commit = None; boots = b; lines = c; operations = o; ended = false }

-- the same with a pending commit
abbrev pub held : Progress → List Log → ℕ → List Entry → ℕ → ℕ → ℕ → ℕ → OpenCommit → Progress
held p ls l es n b c o pending = record p { logs = ls; log = l; entries = es; next = n; commit = Some pending; boots = b; lines = c; operations = o; ended = false }

-- ---- carried entries

some_body : (b : CarriedBody) → SpellsFields [] (carried_body_forms b) → ⊥
some_body carried.Empty s = s
some_body (carried.Write ops) s = s
some_body (carried.Prepare target) s = s

-- an entry is the last where no other follows
pub is_last : (m n count : ℕ) → n + (1 + m) ≡ count → eqb m 0 ≡ eqb (n + 1) count
is_last m n count e =
    elim (cases_eq m 0) [
      | inl z ↦ eq-eqb m 0 z ∙ sym (eq-eqb (n + 1) count (omega arith))
      | inr z ↦ ne_eqb m 0 z ∙ sym (ne_eqb (n + 1) count (omega arith))
    ]

carry_reads : (p : Progress) (pending : OpenCommit) (x : Carried) (cs : List Carried) (fields : Fields) → SpellsFields fields (head x.index x.epoch (carried_body_forms x.body)) → IsNumber x.index → IsEpoch x.epoch → IsCarriedBody cs x.body
    → p.lines < 1048576 → p.operations + carried_ops_in x.body ≤ 1048576 → x.index + length cs ≡ pending.commit → length pending.carried + (1 + length cs) ≡ pending.count
    → carry_line p pending fields ≡ Ok (carried_to pending x p)
unfolding carry_line index_of epoch_at
carry_reads p pending x cs [] s n k h room ops at all = absurd s
carry_reads p pending x cs (f ∷ []) s n k h room ops at all = absurd s.1
carry_reads p pending x cs (f ∷ g ∷ []) s n k h room ops at all = absurd s.1.1
carry_reads p pending x cs (f ∷ g ∷ i ∷ []) s n k h room ops at all = absurd (some_body x.body s.1.1.1)
carry_reads p pending x cs (f ∷ g ∷ i ∷ w ∷ fields) s n k h room ops at all =
    rw (
      s.0,
      number_again x.index n,
      lt-ltb p.lines 1048576 room,
      eq-eqb (x.index + pending.count) (pending.commit + (length pending.carried + 1)) (omega arith),
      s.1.0,
      number_at_again x.epoch.conf_ver (i ∷ w ∷ fields) k.0,
      s.1.1.0,
      number_at_again x.epoch.version (w ∷ fields) k.1,
      carried_again p.version p.operations cs x.body (eqb (length pending.carried + 1) pending.count) w fields s.1.1.1 h (is_last (length cs) (length pending.carried) pending.count all) ops,
    ) refl

carry_step : (p : Progress) (ls : List Log) (l : ℕ) (es : List Entry) (n b c o : ℕ) (pending : OpenCommit) (x : Carried) (cs : List Carried) (fields : Fields) → SpellsFields fields (carry_forms x) → IsNumber x.index → IsEpoch x.epoch → IsCarriedBody cs x.body
    → c < 1048576 → o + carried_ops_in x.body ≤ 1048576 → x.index + length cs ≡ pending.commit → length pending.carried + (1 + length cs) ≡ pending.count
    → step (held p ls l es n b c o pending) fields ≡ Ok (carried_to pending x (on p ls l es n b c o))
unfolding step line_after carry_or_bad
carry_step p ls l es n b c o pending x cs [] s i k h room ops at all = absurd s
carry_step p ls l es n b c o pending x cs (w ∷ fields) s i k h room ops at all =
    rw (s.0) (carry_reads (on p ls l es n b c o) pending x cs fields s.1 i k h room ops at all)

abbrev pub pending : ℕ → Epoch → ℕ → ℕ → ℕ → List Carried → OpenCommit
pending index epoch source commit count cs = record { index = index; epoch = epoch; source = source; commit = commit; count = count; carried = cs }

abbrev pub commit_entry : ℕ → Epoch → ℕ → ℕ → List Carried → Entry
commit_entry index epoch source commit cs = record { index = index; epoch = epoch; body = body.Commit source commit cs }

carried_last : (p : Progress) (ls : List Log) (l : ℕ) (es : List Entry) (n b c o index : ℕ) (epoch : Epoch) (source commit count : ℕ) (done : List Carried) (x : Carried) → length (done ++ x ∷ []) ≡ count
    → carried_to (pending index epoch source commit count done) x (on p ls l es n b c o) ≡ on p ls l (es ++ commit_entry index epoch source commit (done ++ x ∷ []) ∷ []) n b (c + 1) (o + carried_ops_in x.body)
carried_last p ls l es n b c o index epoch source commit count done x e = rw (eq-eqb (length (done ++ x ∷ [])) count e) refl

carried_more : (p : Progress) (ls : List Log) (l : ℕ) (es : List Entry) (n b c o index : ℕ) (epoch : Epoch) (source commit count : ℕ) (done : List Carried) (x : Carried) → length (done ++ x ∷ []) < count
    → carried_to (pending index epoch source commit count done) x (on p ls l es n b c o) ≡ held p ls l es n b (c + 1) (o + carried_ops_in x.body) (pending index epoch source commit count (done ++ x ∷ []))
carried_more p ls l es n b c o index epoch source commit count done x lt = rw (ne_eqb (length (done ++ x ∷ [])) count (omega arith)) refl

carries_lead : (p : Progress) (ls : List Log) (l : ℕ) (es : List Entry) (n b c c' o o' index : ℕ) (epoch : Epoch) (source commit count : ℕ) (done : List Carried) (x : Carried) (xs all : List Carried)
    → done ++ x ∷ xs ≡ all → length all ≡ count → AreCarried commit (x ∷ xs) → IsNumber commit → c + length (x ∷ xs) ≡ c' → c' ≤ 1048576 → o + sum_by (λ y. carried_ops_in y.body) (x ∷ xs) ≡ o' → o' ≤ 1048576
    → Leads (held p ls l es n b c o (pending index epoch source commit count done)) (map carry_forms (x ∷ xs)) (on p ls l (es ++ commit_entry index epoch source commit all ∷ []) n b c' o')
carries_lead p ls l es n b c c' o o' index epoch source commit count done x [] all whole size h i lines room ops fits =
    let e : length (done ++ x ∷ []) ≡ count = ap length whole ∙ size in
    let d : length done + (1 + 0) ≡ count = omega (arith, length-append done (x ∷ [])) in
    let lines_eq : c + 1 ≡ c' = lines in
    let ops_eq : o + carried_ops_in x.body ≡ o' = omega arith in (
      on p ls l (es ++ commit_entry index epoch source commit (done ++ x ∷ []) ∷ []) n b (c + 1) (o + carried_ops_in x.body),
      λ fields s. carry_step p ls l es n b c o (pending index epoch source commit count done) x [] fields s (omega (arith, h.0, i)) h.2 h.3 (omega arith) (omega arith) h.0 d ∙ ap (λ (q : Progress). Ok q) (carried_last p ls l es n b c o index epoch source commit count done x e),
      rw (whole, lines_eq, ops_eq) refl,
    )
carries_lead p ls l es n b c c' o o' index epoch source commit count done x (y ∷ ys) all whole size h i lines room ops fits =
    let e : length done + (1 + length (y ∷ ys)) ≡ count = omega (arith, length-append done (x ∷ y ∷ ys), ap length whole, size) in
    let some : 0 < length (y ∷ ys) = omega arith in
    let more = sum_by-cons (λ (z : Carried). carried_ops_in z.body) x (y ∷ ys) in
    let lt : length (done ++ x ∷ []) < count = omega (arith, length-append done (x ∷ [])) in (
      held p ls l es n b (c + 1) (o + carried_ops_in x.body) (pending index epoch source commit count (done ++ x ∷ [])),
      λ fields s. carry_step p ls l es n b c o (pending index epoch source commit count done) x (y ∷ ys) fields s (omega (arith, h.0, i)) h.2 h.3 (omega arith) (omega arith) h.0 e ∙ ap (λ (q : Progress). Ok q) (carried_more p ls l es n b c o index epoch source commit count done x lt),
      carries_lead p ls l es n b (c + 1) c' (o + carried_ops_in x.body) o' index epoch source commit count (done ++ x ∷ []) y ys all (append_assoc done (x ∷ []) (y ∷ ys) ∙ whole) size h.4 i (omega arith) room (omega arith) fits,
    )

-- ---- entries

free_entry : (q : Progress) (index : ℕ) (f : List ℕ) (fields : Fields) → f ≡ fmt.decimal index → IsNumber index → 0 < q.log → free_line q f fields ≡ entry_line q f fields
unfolding free_line
free_entry q index f fields e n lt =
    rw (e, not_word index (codes "store") n refl, not_word index (codes "end") n refl, not_word index (codes "region") n refl, not_word index (codes "log") n refl, digit_first index n, ne_eqb q.log 0 (omega arith)) refl

no_body : (b : Body) → SpellsFields [] (body_forms b) → ⊥
no_body body.Empty s = s
no_body (body.Write ops) s = s
no_body (body.Split sd ids keys) s = s
no_body (body.Prepare target) s = s
no_body (body.Commit source commit cs) s = s
no_body (body.Rollback commit) s = s
no_body (body.Conf (Add peer)) s = s
no_body (body.Conf (Remove peer)) s = s

plain_step : (p : Progress) (ls : List Log) (l : ℕ) (es : List Entry) (n b c o : ℕ) (e : Entry) (fields : Fields) → SpellsFields fields (head e.index e.epoch (body_forms e.body)) → IsPlainBody e.body → IsBody p.version e.body → e.index ≡ n → IsNumber e.index → IsEpoch e.epoch
    → 0 < l → b + pairs_in e.body ≤ 4096 → c < 1048576 → o + ops_in e.body ≤ 1048576 → step (on p ls l es n b c o) fields ≡ Ok (entry_to e (on p ls l es n b c o))
unfolding step line_after
plain_step p ls l es n b c o e [] s y h at i k lt boots lines ops = absurd s
plain_step p ls l es n b c o e (f ∷ []) s y h at i k lt boots lines ops = absurd s.1
plain_step p ls l es n b c o e (f ∷ g ∷ []) s y h at i k lt boots lines ops = absurd s.1.1
plain_step p ls l es n b c o e (f ∷ g ∷ v ∷ []) s y h at i k lt boots lines ops = absurd (no_body e.body s.1.1.1)
plain_step p ls l es n b c o e (f ∷ g ∷ v ∷ w ∷ fields) s y h at i k lt boots lines ops =
    let q : Progress = on p ls l es n b c o in
    let r = body_again q e.body w fields s.1.1.1 y h ops boots in
    free_entry q e.index f (g ∷ v ∷ w ∷ fields) s.0 i lt ∙ entry_opened q e.index e.epoch f g v w fields s.0 s.1.0 s.1.1.0 at i k lines ∙ rw (r.0, r.1) refl

commit_step : (p : Progress) (ls : List Log) (l : ℕ) (es : List Entry) (n b c o index : ℕ) (epoch : Epoch) (source commit count : ℕ) (fields : Fields) → SpellsFields fields (head index epoch (Exact (codes "commit") ∷ Exact (fmt.decimal source) ∷ Exact (fmt.decimal commit) ∷ Exact (fmt.decimal count) ∷ [])) → index ≡ n → IsNumber index → IsEpoch epoch
    → 0 < l → c < 1048576 → IsId source → IsNumber commit → count ≤ 4096 → (eqb count 0 || leb (count + 5) commit) ≡ true → step (on p ls l es n b c o) fields ≡ Ok (commit_to index epoch (source, commit, count) (on p ls l es n b c o))
unfolding step line_after
commit_step p ls l es n b c o index epoch source commit count [] s at i k lt lines src cnum size fits = absurd s
commit_step p ls l es n b c o index epoch source commit count (f ∷ []) s at i k lt lines src cnum size fits = absurd s.1
commit_step p ls l es n b c o index epoch source commit count (f ∷ g ∷ []) s at i k lt lines src cnum size fits = absurd s.1.1
commit_step p ls l es n b c o index epoch source commit count (f ∷ g ∷ v ∷ []) s at i k lt lines src cnum size fits = absurd s.1.1.1
commit_step p ls l es n b c o index epoch source commit count (f ∷ g ∷ v ∷ w ∷ fields) s at i k lt lines src cnum size fits =
    let q : Progress = on p ls l es n b c o in
    free_entry q index f (g ∷ v ∷ w ∷ fields) s.0 i lt ∙ entry_opened q index epoch f g v w fields s.0 s.1.0 s.1.1.0 at i k lines ∙ rw (s.1.1.1.0, commit_again source commit count fields s.1.1.1.1 src cnum size fits) refl

plain_leads : (p : Progress) (ls : List Log) (l : ℕ) (es : List Entry) (n b c c' o o' : ℕ) (e : Entry) → IsPlainBody e.body → IsBody p.version e.body → e.index ≡ n → IsNumber e.index → IsEpoch e.epoch
    → 0 < l → b + pairs_in e.body ≤ 4096 → c + 1 ≡ c' → c' ≤ 1048576 → o + ops_in e.body ≡ o' → o' ≤ 1048576
    → Leads (on p ls l es n b c o) (head e.index e.epoch (body_forms e.body) ∷ []) (on p ls l (es ++ e ∷ []) (n + 1) (b + pairs_in e.body) c' o')
plain_leads p ls l es n b c c' o o' e y h at i k lt boots lines room ops fits =
    (entry_to e (on p ls l es n b c o), λ fields s. plain_step p ls l es n b c o e fields s y h at i k lt boots (omega arith) (omega arith), rw (lines, ops) refl)

entry_leads : (p : Progress) (ls : List Log) (l : ℕ) (es : List Entry) (n b c c' o o' index : ℕ) (epoch : Epoch) (bd : Body) → IsBody p.version bd → index ≡ n → IsNumber index → IsEpoch epoch
    → 0 < l → b + pairs_in bd ≤ 4096 → c + (1 + length (carried_of bd)) ≡ c' → c' ≤ 1048576 → o + (ops_in bd + sum_by (λ x. carried_ops_in x.body) (carried_of bd)) ≡ o' → o' ≤ 1048576
    → Leads (on p ls l es n b c o) (entry_lines (record { index = index; epoch = epoch; body = bd })) (on p ls l (es ++ record { index = index; epoch = epoch; body = bd } ∷ []) (n + 1) (b + pairs_in bd) c' o')
entry_leads p ls l es n b c c' o o' index epoch body.Empty h at i k lt boots lines room ops fits =
    plain_leads p ls l es n b c c' o o' (record { index = index; epoch = epoch; body = body.Empty }) tt h at i k lt boots (omega arith) room (omega arith) fits
entry_leads p ls l es n b c c' o o' index epoch (body.Write w) h at i k lt boots lines room ops fits =
    plain_leads p ls l es n b c c' o o' (record { index = index; epoch = epoch; body = body.Write w }) tt h at i k lt boots (omega arith) room (omega arith) fits
entry_leads p ls l es n b c c' o o' index epoch (body.Split sd ids keys) h at i k lt boots lines room ops fits =
    plain_leads p ls l es n b c c' o o' (record { index = index; epoch = epoch; body = body.Split sd ids keys }) tt h at i k lt boots (omega arith) room (omega arith) fits
entry_leads p ls l es n b c c' o o' index epoch (body.Prepare target) h at i k lt boots lines room ops fits =
    plain_leads p ls l es n b c c' o o' (record { index = index; epoch = epoch; body = body.Prepare target }) tt h at i k lt boots (omega arith) room (omega arith) fits
entry_leads p ls l es n b c c' o o' index epoch (body.Rollback commit) h at i k lt boots lines room ops fits =
    plain_leads p ls l es n b c c' o o' (record { index = index; epoch = epoch; body = body.Rollback commit }) tt h at i k lt boots (omega arith) room (omega arith) fits
entry_leads p ls l es n b c c' o o' index epoch (body.Conf change) h at i k lt boots lines room ops fits =
    plain_leads p ls l es n b c c' o o' (record { index = index; epoch = epoch; body = body.Conf change }) tt h at i k lt boots (omega arith) room (omega arith) fits
entry_leads p ls l es n b c c' o o' index epoch (body.Commit source commit []) h at i k lt boots lines room ops fits =
    let lines_eq : c + 1 ≡ c' = omega arith in
    let ops_eq : o + 0 ≡ o' = omega arith in (
      entry_to (commit_entry index epoch source commit []) (on p ls l es n b c o),
      λ fields s. commit_step p ls l es n b c o index epoch source commit 0 fields s at i k lt (omega arith) h.0 h.1 (omega arith) refl,
      rw (lines_eq, ops_eq) refl,
    )
entry_leads p ls l es n b c c' o o' index epoch (body.Commit source commit (x ∷ xs)) h at i k lt boots lines room ops fits =
    let count : ℕ = length (x ∷ xs) in
    let big : leb (count + 5) commit ≡ true = le-leb (count + 5) commit (omega (arith, h.3.0, h.3.1)) in
    let none : b + 0 ≡ b = omega arith in
    let first : Progress = held p ls l es (n + 1) b (c + 1) o (pending index epoch source commit count []) in (
      first,
      λ fields s. commit_step p ls l es n b c o index epoch source commit count fields s at i k lt (omega arith) h.0 h.1 h.2 (or_right (eqb count 0) (leb (count + 5) commit) big) ∙ rw (ne_eqb count 0 (omega arith)) refl,
      rw none (carries_lead p ls l es (n + 1) b (c + 1) c' o o' index epoch source commit count [] x xs (x ∷ xs) refl refl h.3 h.1 (omega arith) room (omega arith) fits),
    )

pub entries_lead : (p : Progress) (ls : List Log) (l : ℕ) (done es all : List Entry) (n n' b b' c c' o o' : ℕ) → done ++ es ≡ all → AreEntries p.version n es → 0 < l
    → n + length es ≡ n' → b + sum_by (λ e. pairs_in e.body) es ≡ b' → b' ≤ 4096 → c + sum_by (λ e. 1 + length (carried_of e.body)) es ≡ c' → c' ≤ 1048576
    → o + sum_by (λ e. ops_in e.body + sum_by (λ x. carried_ops_in x.body) (carried_of e.body)) es ≡ o' → o' ≤ 1048576
    → Leads (on p ls l done n b c o) (flat_map entry_lines es) (on p ls l all n' b' c' o')
entries_lead p ls l done [] all n n' b b' c c' o o' whole h lt next boots fits_b lines fits_c ops fits_o =
    let a : done ≡ all = sym (append-nil done) ∙ whole in
    let e0 : n ≡ n' = omega arith in
    let e1 : b ≡ b' = omega arith in
    let e2 : c ≡ c' = omega arith in
    let e3 : o ≡ o' = omega arith in
    rw (a, e0, e1, e2, e3) refl
entries_lead p ls l done (e ∷ es) all n n' b b' c c' o o' whole h lt next boots fits_b lines fits_c ops fits_o =
    let boots_more = sum_by-cons (λ (z : Entry). pairs_in z.body) e es in
    let lines_more = sum_by-cons (λ (z : Entry). 1 + length (carried_of z.body)) e es in
    let ops_more = sum_by-cons (λ (z : Entry). ops_in z.body + sum_by (λ (x : Carried). carried_ops_in x.body) (carried_of z.body)) e es in
    let c1 : ℕ = c + (1 + length (carried_of e.body)) in
    let o1 : ℕ = o + (ops_in e.body + sum_by (λ x. carried_ops_in x.body) (carried_of e.body)) in
    Leads-append (on p ls l done n b c o) (entry_lines e) (flat_map entry_lines es) (on p ls l (done ++ e ∷ []) (n + 1) (b + pairs_in e.body) c1 o1) (on p ls l all n' b' c' o')
    (entry_leads p ls l done n b c c1 o o1 e.index e.epoch e.body h.3 h.0 h.1 h.2 lt (omega arith) refl (omega arith) refl (omega arith))
    (entries_lead p ls l (done ++ e ∷ []) es all (n + 1) n' (b + pairs_in e.body) b' c1 c' o1 o' (append_assoc done (e ∷ []) es ∙ whole) h.4 lt (omega arith) (omega arith) fits_b (omega arith) fits_c (omega arith) fits_o)
