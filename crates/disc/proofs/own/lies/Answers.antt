-- `disc::own::lies` meets its contract: the block decides first, then length and kind.
-- Assumes nothing.
use mathlib.Core.Path.{sym}
use Rattle.disc.specs.Disc.{lent}
use Rattle.disc.proofs.Pieces.{lies-not, lies-if}
use Rattle.disc.proofs.own.lies.Goals as goal

pub returns-then-b-location : goal.returns-then-b-location
returns-then-b-location c =
    let a = c.args in λ image. sym (lies-not (lent image a.kinds.now) a.b a.bytes a.location c.if-b-location.true)

pub returns : goal.returns
returns c =
    let a = c.args in λ image. sym (lies-if (lent image a.kinds.now) a.b a.bytes a.location c.if-b-location.false)
