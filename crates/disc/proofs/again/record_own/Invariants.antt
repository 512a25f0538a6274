-- `disc::again::record_own` meets its contract: the sectors so far, and then those that are left, are all that are not named again.
-- Assumes nothing.
use mathlib.Core.Path.{◌≡◌}
use lib.ListN.{length}
use Rattle.le.specs.Field.{words}
use Rattle.vat.specs.Sector.{table_bytes}
use Rattle.disc.specs.Disc.{lent}
use Rattle.disc.proofs.Planned.{Recording}
use Rattle.disc.proofs.again.record_own.Given as goal

abbrev pub invariant-loop-i : goal.invariant-loop-i
invariant-loop-i l =
    (length l.image ≡ length l.initial.image)
    × (length l.kinds ≡ length l.initial.kinds)
    × Recording (lent l.initial.image l.initial.kinds) (table_bytes (words l.n l.map 0) l.previous) l.previous l.own l.b l.blocks (lent l.image l.kinds) l.next l.i
