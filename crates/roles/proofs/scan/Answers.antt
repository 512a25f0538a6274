-- `roles::scan` meets its contract: the roles by the kinds, then the tables, then the entries of the map.
-- Assumes nothing.
use Rattle.disc.specs.Disc.{lent}
use Rattle.roles.specs.Keeping.{scanned}
use Rattle.roles.proofs.scan.Goals as goal

pub returns : goal.returns
unfolding scanned
returns c =
    c.name_blocks.ensures (lent c.args.image.now c.args.kinds.now) c.mark_tables.ensures
