-- `le::read32` meets its contract: four bytes, joined as the definition nests them.
-- Assumes nothing.
use native.Mathlib.Nat.{add_assoc}
use native.Mathlib.Omega.{arith}
use Rattle.le.specs.Field.{read_le}
use Rattle.le.proofs.read32.Goals as goal

pub returns : goal.returns
unfolding read_le
returns c =
    simp add_assoc (omega (arith, c.join32.ensures))
