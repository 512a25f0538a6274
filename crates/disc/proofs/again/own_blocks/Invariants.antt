-- `disc::again::own_blocks` meets its contract: the blocks so far, and then those that are left, are all of them.
-- Assumes nothing.
use mathlib.Core.Path.{◌≡◌}
use lib.ListN.{length}
use Rattle.le.specs.Field.{words}
use Rattle.vat.specs.Sector.{table_bytes}
use Rattle.disc.specs.Disc.{lent}
use Rattle.disc.proofs.Planned.{Planned}
use Rattle.disc.proofs.again.own_blocks.Given as goal

abbrev pub invariant-loop-i : goal.invariant-loop-i
invariant-loop-i l =
    (length l.blocks ≡ 8) × Planned (lent l.image l.kinds) (table_bytes (words l.n l.map 0) l.previous) l.previous l.own l.b l.blocks l.next l.i
