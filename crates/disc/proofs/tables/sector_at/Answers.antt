-- `disc::tables::sector_at` meets its contract: the bytes of the sector, whatever the kinds.
-- Assumes nothing.
use Rattle.disc.specs.Disc.{lent}
use Rattle.disc.proofs.Found.{part-sector}
use Rattle.disc.proofs.tables.sector_at.Goals as goal

pub returns : goal.returns
returns c =
    λ kinds. part-sector (lent c.args.image.now kinds) c.args.b
