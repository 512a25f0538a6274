-- `disc::own::OwnTable::holds` meets its contract: piece by piece, each where it lies; what is left of the text decides the rest.
-- Assumes nothing.
use Rattle.std.proofs.Common.{◌≡◌, ◌+◌, ◌-◌, ◌≤◌, ◌&&◌, length, drop}
use Rattle.le.specs.Bytes.{holds_text}
use Rattle.disc.specs.Own.{own_bytes}
use Rattle.disc.proofs.own.OwnTable.holds.Given as goal

abbrev pub invariant-loop-i : goal.invariant-loop-i
invariant-loop-i l =
    (l.i ≤ length l.text) × ((l.same && holds_text (own_bytes l.self) (l.from + l.i) (drop l.i l.text)) ≡ holds_text (own_bytes l.self) l.from l.text)

abbrev pub decreases-loop-i : goal.decreases-loop-i
decreases-loop-i l = length l.text - l.i
