-- A text within the limit counts its logs in four bytes.
use Rattle.std.proofs.Common.{◌<◌, ◌≤◌, ◌^◌, ℕ, List, [], ◌∷◌, length, arith}
use Rattle.std.specs.List.{AllByRecursion}
use Rattle.rs_entry.specs.declared.input.Store.{Store}
use Rattle.rs_entry.specs.declared.input.Input.{Input}
use Rattle.rs_text.specs.Grammar.{HasFewLogs}
use Rattle.rs_bin.specs.Grammar.{AreCounted}
use Rattle.raftreplay.specs.Expected.{limit}

few_logs : (most : ℕ) (ss : List Store) → most ≤ limit → AllByRecursion (λ s. length s.logs ≤ most) ss → AllByRecursion (λ s. length s.logs < 2 ^ 32) ss
few_logs most [] le all = tt
few_logs most (s ∷ ss) le all = (omega (arith, le, all.0), few_logs most ss le all.1)

pub few_counted : (text : List ℕ) (x : Input) → length text ≤ limit → HasFewLogs text x → AreCounted x
few_counted text x le all = few_logs (length text) x.stores le all
