-- `le::put8` meets its contract: a byte is its own low byte.
-- Assumes nothing.
use Rattle.le.specs.Field.{le}
use native.Mathlib.Nat.{mod-eq_of_lt}
use Rattle.le.proofs.put8.Goals as goal

pub returns : goal.returns
unfolding le
returns c =
    rw (mod-eq_of_lt c.ranges.x.fits)
