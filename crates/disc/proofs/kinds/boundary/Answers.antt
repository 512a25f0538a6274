-- `disc::kinds::boundary` meets its contract: the likely count stands, or halving finds the place.
-- Assumes nothing.
use Rattle.std.proofs.Common.{rules}
use Rattle.std.proofs.lemmas.List.Sorted.{IsPartitionPoint-from_clause}
use Rattle.disc.proofs.Order.{not-blank, order-parts, point-leading}
use Rattle.disc.proofs.kinds.boundary.Goals as goal

pub returns : goal.returns
returns c =
    let ks = c.args.kinds.now in
    (c.partition_point.ensures.bound, λ e. point-leading ks c.partition_point.result e c.partition_point.ensures.bound (IsPartitionPoint-from_clause not-blank ks c.partition_point.result c.partition_point.ensures.partitioned (order-parts ks e) (λ a r f k. search rules)))
