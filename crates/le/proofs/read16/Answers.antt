use native.Mathlib.Omega.{arith}
use Rattle.le.specs.Field.{read_le}
use Rattle.le.proofs.read16.Goals as goal

pub returns : goal.returns
unfolding read_le
returns c =
    omega (arith, c.from_le_bytes.ensures)
