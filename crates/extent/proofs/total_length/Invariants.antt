-- `extent::total_length` meets its contract: the sum so far, and the extents that are left, make the total.
-- Assumes nothing.
use Prim.Native.Nat.{◌+◌, ◌*◌, ◌≤◌}
use mathlib.Core.Path.{◌≡◌}
use Rattle.extent.specs.Extents.{extents_from, total_length}
use Rattle.extent.proofs.Extents.{extents_left}
use Rattle.extent.proofs.total_length.Given as goal

abbrev pub invariant-loop-i : goal.invariant-loop-i
invariant-loop-i l = (l.total ≤ 4294967296 * l.i) × (l.total + total_length (extents_left l.s l.at l.n l.i) ≡ total_length (extents_from l.n l.s l.at))
