-- `disc::again::named_block` meets its contract: the ICB's descriptor tells the block.
-- Assumes nothing.
use Prim.Native.Nat.{ℕ, ◌+◌, ◌*◌, ◌<◌}
use native.Mathlib.Omega.{arith}
use mathlib.Core.Path.{◌≡◌, sym, ap, ap₂, ◌∙◌, subst}
use mathlib.Core.List.{List}
use lib.ListN.{length, get_or}
use Rattle.le.specs.Field.{read_le}
use Rattle.vat.specs.Table.{sector_length, table_start, attribute_length, whole_length}
use Rattle.vat.proofs.Theorems.{Recognised}
use Rattle.disc.specs.Disc.{Disc, lent, sector_at}
use Rattle.disc.specs.Tables.{below, named_by}
use Rattle.disc.proofs.Recording.{sized-tells}
use Rattle.disc.proofs.Told.{recognised-at}
use Rattle.disc.proofs.Found.{sector-end, table-within}
use Rattle.disc.proofs.Forms.{Named, named-at}
use Rattle.disc.proofs.again.named_block.Goals as goal

pub sector_at-s-requires : goal.sector_at-s-requires
sector_at-s-requires c =
    let D : Disc = lent c.args.image.now c.args.kinds.now in
    let told : Named D c.args.b c.args.i = named-at D c.args.b c.args.i c.requires.1 in
    let within : c.args.b < length D.kinds = table-within D c.args.b told.a-table in
    sector-end D (sized-tells D c.requires.0) c.args.b within

pub start-requires : goal.start-requires
start-requires c =
    let D : Disc = lent c.args.image.now c.args.kinds.now in
    let told : Named D c.args.b c.args.i = named-at D c.args.b c.args.i c.requires.1 in
    let frame : Recognised (below D c.args.b) (sector_at D c.args.b) c.args.b = recognised-at D c.args.b told.a-table in
    let its-bytes : c.sector_at-s.result.now ≡ sector_at D c.args.b = c.sector_at-s.ensures D.kinds in
    subst (λ (x : List ℕ). (length x ≡ sector_length) × (whole_length x < sector_length)) (sym its-bytes) (frame.whole, frame.frame.below)

pub own_block-requires : goal.own_block-requires
own_block-requires c =
    let D : Disc = lent c.args.image.now c.args.kinds.now in
    let told : Named D c.args.b c.args.i = named-at D c.args.b c.args.i c.requires.1 in
    let its-bytes : c.sector_at-s.result.now ≡ sector_at D c.args.b = c.sector_at-s.ensures D.kinds in
    let its-start : c.start.result ≡ table_start (attribute_length (sector_at D c.args.b)) = c.start.ensures ∙ ap (λ (x : List ℕ). table_start (attribute_length x)) its-bytes in
    omega (arith, its-start, told.within, ap length its-bytes)

pub returns : goal.returns
returns c =
    let D : Disc = lent c.args.image.now c.args.kinds.now in
    let told : Named D c.args.b c.args.i = named-at D c.args.b c.args.i c.requires.1 in
    let within : c.args.b < length D.kinds = table-within D c.args.b told.a-table in
    let its-bytes : c.sector_at-s.result.now ≡ sector_at D c.args.b = c.sector_at-s.ensures D.kinds in
    let its-start : c.start.result ≡ table_start (attribute_length (sector_at D c.args.b)) = c.start.ensures ∙ ap (λ (x : List ℕ). table_start (attribute_length x)) its-bytes in
    let read : c.own_block.result ≡ get_or (named_by D c.args.b) c.args.i 0 =
    c.own_block.ensures ∙ ap₂ (λ (x : List ℕ) (at : ℕ). read_le 4 x (at + 8 * c.args.i + 4)) its-bytes its-start ∙ told.read in
    (read, omega (arith, read, told.low, within))
