-- `le::read8` meets its contract: one byte is its own number.
-- Assumes nothing.
use native.Mathlib.Omega.{arith}
use Rattle.le.specs.Field.{read_le}
use Rattle.le.proofs.read8.Goals as goal

pub returns : goal.returns
unfolding read_le
returns c =
    omega arith
