-- `disc::tables::table_at` meets its contract: beyond the disc and of another kind there is no table sector, and else the sector is tested.
-- Assumes nothing.
use Rattle.std.proofs.Common.{refl, sym, ◌∙◌}
use Rattle.disc.specs.Disc.{lent, sector_at}
use Rattle.disc.specs.Tables.{below}
use Rattle.disc.proofs.Told.{table-of, other-kind}
use Rattle.disc.proofs.Found.{table-beyond}
use Rattle.disc.proofs.tables.table_at.Goals as goal
use Rattle.disc.proofs.tables.table_at.Goals.{then-kinds-place-via-then-kinds-place, then-kinds-place-via-else-kinds-place+then-kinds-place-2}

pub returns-then-kinds-place : goal.returns-then-kinds-place
returns-then-kinds-place c =
    let d = lent c.args.image.now c.args.kinds.now in
    elim c.then-kinds-place.branch [
      | then-kinds-place-via-then-kinds-place w ↦ sym (table-beyond d c.args.b w.if-kinds-place.true)
      | then-kinds-place-via-else-kinds-place+then-kinds-place-2 w ↦ sym (other-kind d c.args.b w.if-kinds-place-2.true)
    ]

pub returns : goal.returns
returns c =
    let d = lent c.args.image.now c.args.kinds.now in
    c.holds_table.ensures ∙ sym (table-of d c.args.b (below d c.args.b) (sector_at d c.args.b) refl refl c.if-kinds-place-2.false)
