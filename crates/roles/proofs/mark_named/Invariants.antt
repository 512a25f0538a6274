-- `roles::mark_named` meets its contract: what is left to mark makes of the roles so far what the whole list makes of those at the entry.
-- Assumes nothing.
use mathlib.Core.Path.{◌≡◌}
use lib.ListN.{drop}
use Rattle.disc.specs.Disc.{lent}
use Rattle.disc.specs.Tables.{named_by}
use Rattle.roles.specs.Roles.{marked_at}
use Rattle.roles.proofs.mark_named.Given as goal

abbrev pub invariant-loop-i : goal.invariant-loop-i
invariant-loop-i l = marked_at (drop l.i (named_by (lent l.image l.kinds) l.b)) l.roles ≡ marked_at (named_by (lent l.image l.kinds) l.b) l.initial.roles
