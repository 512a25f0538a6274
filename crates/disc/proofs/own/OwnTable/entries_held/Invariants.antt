-- `disc::own::OwnTable::entries_held` meets its contract: piece by piece, each where it lies.
-- Assumes nothing.
use Rattle.std.proofs.Common.{◌≡◌, ◌+◌, ◌*◌, ◌%◌, ◌&&◌}
use Rattle.le.specs.Bytes.{every}
use Rattle.le.specs.Field.{words}
use Rattle.vat.specs.Table.{unused_or_below}
use Rattle.disc.specs.Own.{own_bytes}
use Rattle.disc.proofs.own.OwnTable.entries_held.Given as goal

abbrev pub invariant-loop-left : goal.invariant-loop-left
invariant-loop-left l =
    (l.j + 4 * l.left ≡ l.from + 4 * l.n)
    × (l.j % 4 ≡ 0)
    × ((l.held && every (unused_or_below l.self.b) (words l.left (own_bytes l.self) l.j)) ≡ every (unused_or_below l.self.b) (words l.n (own_bytes l.self) l.from))

abbrev pub decreases-loop-left : goal.decreases-loop-left
decreases-loop-left l = l.left
