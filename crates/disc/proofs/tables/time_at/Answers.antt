-- `disc::tables::time_at` meets its contract: the twelve bytes within the sector.
-- Assumes nothing.
use Rattle.disc.specs.Disc.{lent}
use Rattle.disc.proofs.Found.{part-time}
use Rattle.disc.proofs.tables.time_at.Goals as goal

pub returns : goal.returns
returns c =
    λ kinds. part-time (lent c.args.image.now kinds) c.args.b
