use Rattle.rs_check.specs.Plans.{is_before}
use Rattle.rs_check.proofs.RowPlaces.{rows_part}
use Rattle.std.proofs.Common.{rules}
use Rattle.std.proofs.lemmas.List.Sorted.{IsPartitionPoint-from_clause}
use Rattle.rs_check.proofs.rows.first_from.Goals as goal

pub returns : goal.returns
returns c =
    IsPartitionPoint-from_clause (is_before c.args.store c.args.region) c.args.rows.now c.partition_point.result c.partition_point.ensures.partitioned
    (rows_part c.args.rows.now c.args.store c.args.region c.requires) (λ a r f. search rules)
