-- `disc::tables::holds_table` meets its contract: the tag decides first.
-- Assumes nothing.
use Rattle.std.proofs.Common.{arith, ℕ, eqb, List, length, sym, ap, ◌∙◌}
use Rattle.le.specs.Field.{read_le}
use Rattle.disc.specs.Disc.{lent, sector_at}
use Rattle.disc.specs.Tables.{below}
use Rattle.disc.proofs.Recording.{sized-tells}
use Rattle.disc.proofs.Found.{sector-end, sector-long, untagged}
use Rattle.disc.proofs.tables.holds_table.Goals as goal

pub sector_at-s-requires : goal.sector_at-s-requires
sector_at-s-requires c =
    let d = lent c.args.image.now c.args.kinds.now in
    sector-end d (sized-tells d c.requires.0) c.args.b c.requires.1

pub tagged-requires : goal.tagged-requires
tagged-requires c =
    let d = lent c.args.image.now c.args.kinds.now in
    ap length (c.sector_at-s.ensures d.kinds) ∙ sector-long d (sized-tells d c.requires.0) c.args.b c.requires.1

pub is_table-requires : goal.is_table-requires
is_table-requires c =
    let d = lent c.args.image.now c.args.kinds.now in
    (c.requires.0, omega (arith, c.requires.1), ap length (c.sector_at-s.ensures d.kinds) ∙ sector-long d (sized-tells d c.requires.0) c.args.b c.requires.1)

pub returns-else-tagged : goal.returns-else-tagged
returns-else-tagged c =
    let d = lent c.args.image.now c.args.kinds.now in
    let other = ap (λ (s : List ℕ). eqb (read_le 2 s 0) 261) (sym (c.sector_at-s.ensures d.kinds)) ∙ sym c.tagged.ensures ∙ c.if-tagged.false in
    c.if-tagged.false ∙ sym (untagged (below d c.args.b) (sector_at d c.args.b) c.args.b other)
