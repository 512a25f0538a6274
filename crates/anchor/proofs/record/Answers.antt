-- `anchor::record` meets its contract: zeros, the rows, and the sums.
-- Assumes nothing.
use Rattle.anchor.specs.Anchor.{anchor}
use native.Mathlib.Omega.{arith}
use Rattle.anchor.proofs.Theorems.{length-laid, crc-length}
use Rattle.anchor.proofs.record.Goals as goal

pub seal-requires : goal.seal-requires
seal-requires c =
    let a = c.args in
    rw (c.put_rows.ensures, c.clear.ensures, c.requires) (omega (arith, crc-length a.version a.main a.reserve a.location, length-laid a.version a.main a.reserve a.location))

pub returns : goal.returns
unfolding anchor
returns c = rw (c.seal.ensures, c.put_rows.ensures, c.clear.ensures, c.requires)
