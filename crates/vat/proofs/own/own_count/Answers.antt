-- `vat::own::own_count` meets its contract: none up to the most that stand beside their ICB, else as many as hold the table's bytes.
-- Assumes nothing.
use mathlib.Core.Path.{sym}
use native.Mathlib.Omega.{arith}
use Rattle.vat.proofs.Theorems.{embedded-up-to}
use Rattle.vat.proofs.Described.{own-many}
use Rattle.vat.proofs.own.own_count.Goals as goal

pub returns-then-n-le-EMBEDDED_LIMIT : goal.returns-then-n-le-EMBEDDED_LIMIT
returns-then-n-le-EMBEDDED_LIMIT c = sym (embedded-up-to c.args.n c.if-n-le-EMBEDDED_LIMIT.true)

pub returns-else-n-le-EMBEDDED_LIMIT : goal.returns-else-n-le-EMBEDDED_LIMIT
returns-else-n-le-EMBEDDED_LIMIT c = rw (sym (own-many c.args.n c.if-n-le-EMBEDDED_LIMIT.false)) (grind (arith, c.div_ceil.ensures))
