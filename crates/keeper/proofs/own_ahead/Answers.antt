-- `keeper::own_ahead` meets its contract: in a ledger that fits, the own sectors are counted.
-- Assumes nothing.
use native.Mathlib.Omega.{arith}
use Rattle.disc.specs.Disc.{lent}
use Rattle.volume.specs.Volume.{unpack}
use Rattle.recorder.proofs.Sectors.{own-few}
use Rattle.keeper.proofs.own_ahead.Goals as goal

pub returns : goal.returns
returns c =
    let few = own-few (lent c.args.image.now c.args.kinds.now) (unpack c.args.ledger.now) (omega (arith, c.size.ensures, c.if-size-gt-LIMIT.false)) in
    (omega (arith, c.own_recorded.ensures, few), λ long below known. c.own_recorded.ensures)
