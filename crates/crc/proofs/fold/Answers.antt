-- `crc::fold` meets its contract.
-- Assumes nothing.
use native.Mathlib.Omega.{arith}
use Rattle.crc.proofs.Folding.{last-dropped}
use Rattle.crc.proofs.fold.Goals as goal

pub returns : goal.returns
returns c =
    last-dropped c.args.x c.args.last (omega arith)
