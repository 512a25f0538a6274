-- `run::sector::total_sectors` meets its contract: the sum so far, and the extents that are left, make the total.
-- Assumes nothing.
use Prim.Native.Nat.{◌+◌, ◌*◌, ◌≤◌}
use mathlib.Core.Path.{◌≡◌}
use lib.ListN.{drop}
use Rattle.run.specs.Entry.{total_sectors, paired}
use Rattle.run.proofs.sector.total_sectors.Given as goal

abbrev pub invariant-loop-length : goal.invariant-loop-length
invariant-loop-length l = (l.total ≤ 4294967296 * l.length-index) × (l.total + total_sectors (paired (drop (2 * l.length-index) l.words)) ≡ total_sectors (paired l.words))
