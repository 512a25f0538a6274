-- `roles::mark_table` meets its contract: the table's own block is the first of those that are marked.
-- Assumes nothing.
use native.Mathlib.Omega.{arith}
use Rattle.disc.specs.Disc.{lent}
use Rattle.disc.proofs.Found.{table-within}
use Rattle.roles.specs.Roles.{marked_at}
use Rattle.roles.proofs.mark_table.Goals as goal

pub bounds-roles-b : goal.bounds-roles-b
bounds-roles-b c =
    omega (arith, c.requires.1, table-within (lent c.args.image.now c.args.kinds.now) c.args.b c.requires.2)

pub returns : goal.returns
unfolding marked_at
returns c =
    c.mark_named.ensures
