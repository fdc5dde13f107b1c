-- Long texts for vectors.
use Rattle.std.proofs.Common.{ℕ, zero, suc, ◌+◌, List, [], ◌++◌}
use Rattle.std.specs.Fmt.{decimal}

-- so many times the same
abbrev pub times : ℕ → List ℕ → List ℕ
times zero t = []
times (suc n) t = t ++ times n t

-- so many numbers, each between the two
abbrev pub numbered : ℕ → ℕ → List ℕ → List ℕ → List ℕ
numbered zero from before after = []
numbered (suc n) from before after = before ++ decimal from ++ after ++ numbered n (from + 1) before after
