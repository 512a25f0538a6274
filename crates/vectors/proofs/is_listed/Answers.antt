-- `vectors::is_listed` is safe and ends: the entries lie within the table.
use Rattle.std.proofs.Common.{arith}
use Rattle.vat.proofs.Frame.{entries-within}
use Rattle.vectors.proofs.is_listed.Goals as goal

pub words_held-requires : goal.words_held-requires
words_held-requires c = omega (arith, c.entry_count.ensures, entries-within c.args.t.now)
