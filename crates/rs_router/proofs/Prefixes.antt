-- What begins with a list that begins with another begins with that one.
use Rattle.std.proofs.Common.{ℕ, List, ◌++◌, ap, append_assoc, ◌∙◌}
use Rattle.rs_router.specs.Lists.{StartsWith}

pub starts_then : (xs ys zs : List ℕ) → StartsWith ys xs → StartsWith zs ys → StartsWith zs xs
starts_then xs ys zs first more = (first.0 ++ more.0, more.1 ∙ ap (λ us. us ++ more.0) first.1 ∙ append_assoc xs first.0 more.0)
