-- Replies of a region.
use Rattle.std.specs.Prelude.{ℕ, ◌==◌, Bool}
use Rattle.rs_entry.specs.declared.outcome.ReplyLine.{ReplyLine}

-- the reply is of this region
abbrev pub of_region : ℕ → ReplyLine → Bool
of_region id y = id == y.region
