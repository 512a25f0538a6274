-- `disc::tables::newest` meets its contract: the newest table below the block that the scan has come to is the newest one.
-- Assumes nothing.
use Prim.Native.Nat.{◌-◌, ◌*◌, ◌≤◌}
use mathlib.Core.Path.{◌≡◌}
use Rattle.le.specs.Bytes.{every}
use Rattle.le.specs.Field.{words}
use Rattle.vat.specs.Table.{unused_or_below, table_of, entries_of}
use Rattle.disc.specs.Disc.{lent}
use Rattle.disc.specs.Tables.{below, table_at, newest_below}
use Rattle.disc.proofs.tables.newest.Given as goal

abbrev pub invariant-loop-i : goal.invariant-loop-i
invariant-loop-i l =
    (l.i ≤ l.n)
    × (every (unused_or_below l.b) (words (l.n - l.i) (table_of (below (lent l.image l.kinds) l.b) l.s) (4 * l.i)) ≡ every (unused_or_below l.b) (entries_of (table_of (below (lent l.image l.kinds) l.b) l.s)))

abbrev pub decreases-loop-i : goal.decreases-loop-i
decreases-loop-i l = l.n - l.i

abbrev pub invariant-scan : goal.invariant-scan
invariant-scan l = (l.b ≤ l.recorded) × (newest_below (table_at (lent l.image l.kinds)) l.b ≡ newest_below (table_at (lent l.image l.kinds)) l.recorded)

abbrev pub decreases-scan : goal.decreases-scan
decreases-scan l = l.b
