-- `roles::mark_tables` meets its contract: below the block come to every table is marked, and what it names; then the block at the end is passed over, too.
-- Assumes nothing.
use Prim.Native.Nat.{◌-◌, ◌≤◌}
use mathlib.Core.Path.{◌≡◌}
use lib.ListN.{length}
use Rattle.disc.specs.Disc.{lent, recorded}
use Rattle.roles.specs.Roles.{tabulate}
use Rattle.roles.proofs.Scanning.{passed_to}
use Rattle.roles.proofs.mark_tables.Given as goal

abbrev pub invariant-loop-b : goal.invariant-loop-b
invariant-loop-b l = (l.b ≤ l.end) × (l.end ≤ recorded (lent l.image l.kinds)) × (l.roles ≡ tabulate (passed_to (lent l.image l.kinds) l.b) (length l.kinds))

abbrev pub decreases-loop-b : goal.decreases-loop-b
decreases-loop-b l = l.end - l.b
