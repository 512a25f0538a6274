-- `calls::admit::read` meets its contract: an entry that is in use names a sector of the disc.
-- Assumes nothing.
use Prim.Native.Nat.{ℕ}
use native.Mathlib.Omega.{arith}
use mathlib.Core.Path.{sym}
use mathlib.Core.List.{List}
use lib.Dec.{eqb}
use lib.ListN.{length}
use Rattle.vat.specs.Table.{sector_length}
use Rattle.disc.specs.Disc.{Disc, lent}
use Rattle.volume.specs.Volume.{unpack}
use Rattle.calls.proofs.Outcomes.{fitting-tells, entry-there}
use Rattle.calls.proofs.admit.read.Goals as goal

pub bounds-kinds-b : goal.bounds-kinds-b
bounds-kinds-b c =
    let d : Disc = lent c.args.image.now c.args.kinds.now in
    let l : List ℕ = c.args.ledger.now in
    let told = fitting-tells d l (eqb (length c.args.block.now) sector_length) c.in_ok-fitting.ensures in
    omega (arith, c.entry-b.ensures, entry-there d (unpack l) c.args.n told.fit (sym c.if-not_in_use.ensures))
