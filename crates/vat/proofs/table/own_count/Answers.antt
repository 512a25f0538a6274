-- `vat::table::own_count` meets its contract: none where the ICB holds its table, else one for each descriptor.
-- Assumes nothing.
use mathlib.Core.Path.{sym}
use Rattle.vat.proofs.Measured.{none-counted, own-counted}
use Rattle.vat.proofs.table.own_count.Goals as goal

pub returns-then-is_embedded : goal.returns-then-is_embedded
returns-then-is_embedded c = sym (none-counted c.args.s.now (sym c.if-is_embedded.ensures))

pub returns-else-is_embedded : goal.returns-else-is_embedded
returns-else-is_embedded c = rw (c.described_length.ensures, own-counted c.args.s.now (sym c.if-is_embedded.ensures))
