use Rattle.std.proofs.Common.{rules}
use Rattle.std.proofs.lemmas.List.Sorted.{IsPartitionPoint-from_clause}
use Rattle.rs_msg.specs.Maps.{begins_by}
use Rattle.rs_msg.proofs.Parted.{parts_begin}
use Rattle.rs_msg.proofs.map.parts_to.Goals as goal

pub returns-clause-point : goal.returns-clause-point
returns-clause-point c =
    IsPartitionPoint-from_clause (begins_by c.args.key.now) c.args.parts.now c.partition_point.result c.partition_point.ensures.partitioned
    (parts_begin c.args.key.now c.args.parts.now c.requires) (λ a r f. search rules)
