-- The lines that a progress stands for, and what holds of it.
-- `so_far` are the lines that were read; `Good` says that what they gave keeps all rules and totals; `Steps` is one line more.
use Rattle.rs_entry.specs.declared.entry.CarriedBody.TheVariants as carried
use Rattle.std.proofs.Common.{◌≡◌, ℕ, zero, suc, ◌+◌, ◌<◌, ◌≤◌, false, List, [], ◌∷◌, ◌++◌, length, map, codes, Option, Some, None, refl, append_assoc, ◌⊎◌, arith}
use Rattle.std.specs.List.{flat_map, sum_by, AllByRecursion}
use Rattle.std.proofs.lemmas.List.{length-append}
use Rattle.rs_entry.specs.declared.entry.CarriedBody.{CarriedBody}
use Rattle.rs_entry.specs.declared.entry.Carried.{Carried}
use Rattle.rs_entry.specs.declared.entry.Entry.{Entry}
use Rattle.rs_entry.specs.declared.input.Log.{Log}
use Rattle.rs_entry.specs.declared.input.Boot.{Boot}
use Rattle.rs_entry.specs.declared.input.Store.{Store}
use Rattle.rs_text.specs.declared.progress.OpenCommit.{OpenCommit}
use Rattle.rs_text.specs.declared.progress.Progress.{Progress}
use Rattle.rs_field.specs.Fields.{Fields}
use Rattle.rs_entry.specs.Entries.{carried_ops_in}
use Rattle.rs_field.specs.Forms.{Exact, Forms, number, SpellsFields}
use Rattle.rs_text.specs.Logs.{head, carry_forms, entry_lines, log_lines, region_forms, store_lines}
use Rattle.rs_entry.specs.WellFormed.{IsNumber, IsId, Rising, IsEpoch, IsBody, IsCarriedBody, AreCarried, AreEntries, IsBoot, IsStore}
use Rattle.rs_text.proofs.FoundBodies.{IsEnding, IsPassing}
use Rattle.rs_text.proofs.OnlyTexts.{all_entries, lines_total, ops_total, pairs_total, regions_total}

-- ---- lists that grow at their end

pub all_more : {A : Type 0} (P : A → Type 0) (xs : List A) (x : A) → AllByRecursion P xs → P x → AllByRecursion P (xs ++ x ∷ [])
all_more P [] x h k = (k, tt)
all_more P (y ∷ xs) x h k = (h.0, all_more P xs x h.1 k)

-- ids above `low`, each above the one before, the last of which is `last`
abbrev pub RisesTo : {A : Type 0} → (A → ℕ) → ℕ → List A → ℕ → Type 0
RisesTo id low [] last = low ≡ last
RisesTo id low (x ∷ xs) last = (low < id x) × IsNumber (id x) × RisesTo id (id x) xs last

pub rises_more : {A : Type 0} (id : A → ℕ) (low : ℕ) (xs : List A) (last : ℕ) (x : A) → RisesTo id low xs last → last < id x → IsNumber (id x) → RisesTo id low (xs ++ x ∷ []) (id x)
rises_more id low [] last x h lt n = (omega arith, n, refl)
rises_more id low (y ∷ xs) last x h lt n = (h.0, h.1, rises_more id (id y) xs last x h.2 lt n)

pub rising : {A : Type 0} (id : A → ℕ) (low : ℕ) (xs : List A) (last : ℕ) → RisesTo id low xs last → Rising low (map id xs)
rising id low [] last h = tt
rising id low (x ∷ xs) last h = (h.0, h.1, rising id (id x) xs last h.2)

pub entries_more : (v n : ℕ) (es : List Entry) (e : Entry) → AreEntries v n es → e.index ≡ n + length es → IsNumber e.index → IsEpoch e.epoch → IsBody v e.body → AreEntries v n (es ++ e ∷ [])
entries_more v n [] e h at i k b = (omega arith, i, k, b, tt)
entries_more v n (x ∷ es) e h at i k b = (h.0, h.1, h.2, h.3, entries_more v (n + 1) es e h.4 (omega arith) i k b)

-- carried entries of a commit, after which `left` others follow
abbrev pub Begun : ℕ → ℕ → List Carried → Type 0
Begun commit left [] = Unit {0}
Begun commit left (c ∷ cs) = (c.index + (length cs + left) ≡ commit) × (6 ≤ c.index) × IsEpoch c.epoch × IsPassing c.body × Begun commit left cs

pub begun_more : (commit left : ℕ) (cs : List Carried) (x : Carried) → Begun commit (1 + left) cs → x.index + left ≡ commit → 6 ≤ x.index → IsEpoch x.epoch → IsPassing x.body → Begun commit left (cs ++ x ∷ [])
begun_more commit left [] x h at i k b = (omega arith, i, k, b, tt)
begun_more commit left (c ∷ cs) x h at i k b = (omega (arith, h.0, length-append cs (x ∷ [])), h.1, h.2, h.3, begun_more commit left cs x h.4 at i k b)

passes : (cs : List Carried) (x : Carried) (b : CarriedBody) → IsPassing b → IsCarriedBody (cs ++ x ∷ []) b
passes [] x carried.Empty h = tt
passes [] x (carried.Write ops) h = h
passes [] x (carried.Prepare target) h = absurd h
passes (c ∷ cs) x carried.Empty h = tt
passes (c ∷ cs) x (carried.Write ops) h = h
passes (c ∷ cs) x (carried.Prepare target) h = absurd h

ends : (b : CarriedBody) → IsEnding b → IsCarriedBody [] b
ends carried.Empty h = absurd h
ends (carried.Write ops) h = absurd h
ends (carried.Prepare target) h = h

pub carried_whole : (commit : ℕ) (cs : List Carried) (x : Carried) → Begun commit 1 cs → x.index ≡ commit → 6 ≤ x.index → IsEpoch x.epoch → IsEnding x.body → AreCarried commit (cs ++ x ∷ [])
carried_whole commit [] x h at i k b = (omega arith, i, k, ends x.body b, tt)
carried_whole commit (c ∷ cs) x h at i k b = (omega (arith, h.0, length-append cs (x ∷ [])), h.1, h.2, passes cs x c.body h.3, carried_whole commit cs x h.4 at i k b)

-- ---- the lines of a progress

abbrev pub store_part : ℕ → List Boot → List Log → List Forms
store_part zero rs ls = []
store_part (suc s) rs ls = (Exact (codes "store") ∷ number (suc s) ∷ []) ∷ (map region_forms rs ++ flat_map log_lines ls)

abbrev pub log_part : ℕ → List Entry → List Forms
log_part zero es = []
log_part (suc l) es = (Exact (codes "log") ∷ number (suc l) ∷ []) ∷ flat_map entry_lines es

abbrev pub commit_line : OpenCommit → Forms
commit_line o = head o.index o.epoch (Exact (codes "commit") ∷ number o.source ∷ number o.commit ∷ number o.count ∷ [])

abbrev pub commit_part : Option OpenCommit → List Forms
commit_part None = []
commit_part (Some o) = commit_line o ∷ map carry_forms o.carried

-- the lines that were read, but for line 1 and `end`
abbrev pub so_far : Progress → List Forms
so_far p = flat_map store_lines p.stores ++ (store_part p.store p.regions p.logs ++ (log_part p.log p.entries ++ commit_part p.commit))

-- ---- what holds of a progress

abbrev pub waiting : Option OpenCommit → ℕ
waiting None = 0
waiting (Some o) = 1

abbrev pub waiting_lines : Option OpenCommit → ℕ
waiting_lines None = 0
waiting_lines (Some o) = 1 + length o.carried

abbrev pub waiting_ops : Option OpenCommit → ℕ
waiting_ops None = 0
waiting_ops (Some o) = sum_by (λ c. carried_ops_in c.body) o.carried

pub record Totals (es : List Entry) (regions b c o more_lines more_ops : ℕ) : Type 0 where
  pub boots : b ≡ regions + pairs_total es
  pub few_boots : b ≤ 4096
  pub lines : c ≡ lines_total es + more_lines
  pub few_lines : c ≤ 1048576
  pub ops : o ≡ ops_total es + more_ops
  pub few_ops : o ≤ 1048576

pub record IsPending (index : ℕ) (o : OpenCommit) : Type 0 where
  pub at : o.index ≡ index
  pub is_number : IsNumber o.index
  pub is_epoch : IsEpoch o.epoch
  pub source : IsId o.source
  pub commit : IsNumber o.commit
  pub few : o.count ≤ 4096
  pub left : ℕ
  pub to_come : length o.carried + (1 + left) ≡ o.count
  pub fits : o.count + 5 ≤ o.commit
  pub begun : Begun o.commit (1 + left) o.carried

abbrev pub ArePending : ℕ → Option OpenCommit → Type 0
ArePending index None = Unit {0}
ArePending index (Some o) = IsPending index o

-- no store is open only at the start
abbrev pub IsOpenStore : ℕ → ℕ → List Boot → List Log → ℕ → Type 0
IsOpenStore zero last [] [] zero = last ≡ 0
IsOpenStore zero last _ _ _ = ⊥
IsOpenStore (suc s) last rs ls l = (last < suc s) × IsNumber (suc s)

abbrev pub IsOpenLog : ℕ → ℕ → List Log → List Entry → Option OpenCommit → Type 0
IsOpenLog zero last [] [] None = last ≡ 0
IsOpenLog zero last _ _ _ = ⊥
IsOpenLog (suc l) last ls es o = (last < suc l) × IsNumber (suc l)

abbrev pub is_open : ℕ → ℕ
is_open zero = 0
is_open (suc s) = 1

abbrev pub log_entries : List Log → List Entry
log_entries ls = flat_map (λ l. l.entries) ls

pub record Good (p : Progress) : Type 0 where
  pub ended : p.ended ≡ false
  pub last_store : ℕ
  pub version : (p.version ≡ 1) ⊎ (p.version ≡ 2)
  pub stores : AllByRecursion (IsStore p.version) p.stores
  pub store_ids : RisesTo (λ s. s.id) 0 p.stores last_store
  pub open_store : IsOpenStore p.store last_store p.regions p.logs p.log
  pub count : length p.stores + is_open p.store ≤ 64
  pub regions : AllByRecursion (IsBoot p.version) p.regions
  pub region_ids : RisesTo (λ r. r.region) 0 p.regions p.last_region
  pub last_log : ℕ
  pub logs : AllByRecursion (λ l. AreEntries p.version 6 l.entries) p.logs
  pub log_ids : RisesTo (λ l. l.region) 0 p.logs last_log
  pub open_log : IsOpenLog p.log last_log p.logs p.entries p.commit
  pub entries : AreEntries p.version 6 p.entries
  pub next : p.next ≡ 6 + length p.entries + waiting p.commit
  pub pending : ArePending (6 + length p.entries) p.commit
  pub totals : Totals (all_entries p.stores ++ (log_entries p.logs ++ p.entries)) (regions_total p.stores + length p.regions) p.boots p.lines p.operations (waiting_lines p.commit) (waiting_ops p.commit)

-- a step from one progress to the next: what the line spells is one more line
pub record Steps (p : Progress) (fields : Fields) (q : Progress) : Type 0 where
  pub forms : Forms
  pub spelled : SpellsFields fields forms
  pub lines : so_far q ≡ so_far p ++ forms ∷ []
  pub same_version : q.version ≡ p.version
  pub good : Good q

abbrev pub mk : ℕ → List Store → ℕ → List Boot → ℕ → List Log → ℕ → List Entry → ℕ → Option OpenCommit → ℕ → ℕ → ℕ → Progress
mk v ss s rs last ls l es n pending b c o = record { version = v; stores = ss; store = s; regions = rs; last_region = last; logs = ls; log = l; entries = es; next = n; commit = pending; boots = b; lines = c; operations = o; ended = false }

-- one more line at the end of the last part
pub at_end : (a b c d : List Forms) (f : Forms) → d ≡ c ++ f ∷ [] → a ++ (b ++ d) ≡ (a ++ (b ++ c)) ++ f ∷ []
at_end a b c d f h = rw h (simp append_assoc refl)
