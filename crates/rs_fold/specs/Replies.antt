-- The order of replies.
use Rattle.std.specs.Prelude.{Bool}
use Rattle.std.specs.Ordering.{nat_cmp, is_lt}
use Rattle.rs_entry.specs.declared.outcome.ReplyLine.{ReplyLine}

-- the first reply's region is below the second's
abbrev pub region_below : ReplyLine → ReplyLine → Bool
region_below a b = is_lt (nat_cmp a.region b.region)
