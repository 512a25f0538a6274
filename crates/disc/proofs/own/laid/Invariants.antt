-- `disc::own::laid` meets its contract: what was found so far, and the descriptors that are left, make the answer.
-- Assumes nothing.
use Prim.Native.Nat.{ℕ}
use mathlib.Core.Path.{◌≡◌}
use mathlib.Core.Bool.{◌&&◌}
use mathlib.Core.List.{List}
use Rattle.extent.specs.Extents.{extents_from}
use Rattle.extent.proofs.Extents.{extents_left}
use Rattle.vat.specs.Table.{laid}
use Rattle.disc.specs.Disc.{lent}
use Rattle.disc.specs.Tables.{below}
use Rattle.disc.proofs.own.laid.Given as goal

abbrev pub invariant-loop-i : goal.invariant-loop-i
invariant-loop-i l =
    (l.count ≡ l.m) × ((image : List ℕ) → (l.held && laid (below (lent image l.kinds) l.b) (extents_left l.s l.at l.m l.i)) ≡ laid (below (lent image l.kinds) l.b) (extents_from l.m l.s l.at))
