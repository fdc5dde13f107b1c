-- A text has a line for each log.
use Rattle.std.proofs.Common.{◌≡◌, ℕ, ◌+◌, ◌≤◌, List, [], ◌∷◌, ◌++◌, length, map, codes, Result, Ok, Err, refl, arith}
use Rattle.std.specs.Prelude.{◌==◌, IfOk}
use Rattle.std.specs.List.{flat_map, AllByRecursion}
use Rattle.std.proofs.lemmas.List.{length-append}
use Rattle.std.proofs.lemmas.List.Splits.{length-slice_split}
use Rattle.std.proofs.lemmas.List.Sums.{count_by-le-length}
use Rattle.rs_entry.specs.declared.input.Log.{Log}
use Rattle.rs_entry.specs.declared.input.Store.{Store}
use Rattle.rs_entry.specs.declared.input.Input.{Input}
use Rattle.rs_field.specs.Lines.{parts_of}
use Rattle.rs_field.specs.Forms.{Exact, Forms, SpellsLines}
use Rattle.rs_text.specs.declared.error.TextError.{TextError}
use Rattle.rs_text.specs.Logs.{log_lines, region_forms, store_lines, lines_of}
use Rattle.rs_text.specs.Reading.{GivesText, read_text}
use Rattle.rs_text.specs.Grammar.{Belongs, HasFewLogs}
use Rattle.rs_text.proofs.FoundTexts.{found}

-- each part but the last is a line
parts_spelled : (parts : List (List ℕ)) (lines : List Forms) → SpellsLines parts lines → length parts ≡ 1 + length lines
parts_spelled [] [] s = absurd s
parts_spelled [] (f ∷ fs) s = absurd s
parts_spelled (last ∷ []) [] s = refl
parts_spelled (last ∷ []) (f ∷ fs) s = absurd s
parts_spelled (line ∷ next ∷ more) [] s = absurd s
parts_spelled (line ∷ next ∷ more) (f ∷ fs) s = let e = parts_spelled (next ∷ more) fs s.1 in omega (arith, e)

logs_have_lines : (ls : List Log) → length ls ≤ length (flat_map log_lines ls)
logs_have_lines [] = omega arith
logs_have_lines (l ∷ ls) =
    let e = logs_have_lines ls in
    let n = length-append (log_lines l) (flat_map log_lines ls) in
    omega (arith, e, n)

few_logs : (most : ℕ) (ss : List Store) → length (flat_map store_lines ss) ≤ most → AllByRecursion (λ s. length s.logs ≤ most) ss
few_logs most [] le = tt
few_logs most (s ∷ ss) le =
    let all = length-append (store_lines s) (flat_map store_lines ss) in
    let own = length-append (map region_forms s.regions) (flat_map log_lines s.logs) in
    let logs = logs_have_lines s.logs in
    (omega (arith, all, own, logs, le), few_logs most ss (omega (arith, all, le)))

belongs_counted : (text : List ℕ) (x : Input) → Belongs text x → HasFewLogs text x
unfolding lines_of parts_of
belongs_counted text x b =
    let parts = parts_spelled (parts_of text) (lines_of x) b.spelled in
    let cuts = length-slice_split (λ b. b == 10) text in
    let few = count_by-le-length (λ b. b == 10) text in
    let lines = length-append (flat_map store_lines x.stores) ((Exact (codes "end") ∷ []) ∷ []) in
    few_logs (length text) x.stores (omega (arith, parts, cuts, few, lines))

pub counted_given : (r : Result Input TextError) (text : List ℕ) → GivesText r (read_text text) → IfOk r (HasFewLogs text)
counted_given (Ok x) text e = belongs_counted text x (found text x e)
counted_given (Err error) text e = tt
