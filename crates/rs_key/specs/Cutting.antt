-- Why a range wasn't cut.
use Rattle.std.specs.Prelude.{◌≡◌, ℕ, Option, Some}
use Rattle.rs_key.specs.declared.range.CutError.{CutError}
use Rattle.rs_key.specs.declared.range.CutError.TheVariants as why

-- BadCut tells the first bad place that was found; want of memory has no cause
abbrev pub IsCauseOfCut : CutError → Option ℕ → Type 0
IsCauseOfCut (why.BadCut place) found = found ≡ Some place
IsCauseOfCut why.NoMemory found = Unit {0}
