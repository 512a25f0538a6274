-- `run::sector::total_length` meets its contract: the sum so far, and the extents that are left, make the total.
-- Assumes nothing.
use Prim.Native.Nat.{◌+◌, ◌*◌, ◌≤◌}
use mathlib.Core.Path.{◌≡◌}
use lib.ListN.{drop}
use Rattle.extent.specs.Extents.{total_length}
use Rattle.run.specs.Entry.{paired}
use Rattle.run.proofs.sector.total_length.Given as goal

abbrev pub invariant-loop-length : goal.invariant-loop-length
invariant-loop-length l = (l.total ≤ 4294967296 * l.length-index) × (l.total + total_length (paired (drop (2 * l.length-index) l.words)) ≡ total_length (paired l.words))
