-- `vectors::show_table` is safe and ends: the entries lie within the table.
use Rattle.std.proofs.Common.{arith}
use Rattle.vat.proofs.Frame.{entries-within}
use Rattle.vectors.proofs.show_table.Goals as goal

pub read32-requires : goal.read32-requires
read32-requires g c = omega (arith, c.entry_count-n.ensures, entries-within c.args.t.now)
