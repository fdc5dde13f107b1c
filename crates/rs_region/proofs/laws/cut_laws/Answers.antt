use Rattle.rs_region.proofs.CutParts.{cut_parts, cut_counts}
use Rattle.rs_region.proofs.laws.cut_laws.Goals as goal

pub returns-clause-parts : goal.returns-clause-parts
returns-clause-parts c = cut_parts

pub returns-clause-counts : goal.returns-clause-counts
returns-clause-counts c = cut_counts
