-- `vectors::make_table` is safe and ends: there is a block for each own sector of a table that is not too large.
use Rattle.std.proofs.Common.{rules, arith, length}
use Rattle.vat.specs.Table.{table_length}
use Rattle.vat.proofs.Theorems.{few-own, limit-held}
use Rattle.vectors.proofs.make_table.Goals as goal

pub record-requires : goal.record-requires
record-requires c = search (rules, few-own (table_length (length c.args.map.now)) (limit-held (length c.args.map.now) (omega arith)))
