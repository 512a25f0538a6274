-- `disc::again::named_count` meets its contract: where there is no table none are named, and else the ICB tells how many.
-- Assumes nothing.
use Prim.Native.Nat.{ℕ, ◌≤◌}
use native.Mathlib.Omega.{arith}
use mathlib.Core.Path.{◌≡◌, sym, ap, ◌∙◌}
use mathlib.Core.Bool.{true}
use mathlib.Core.List.{List}
use lib.ListN.{length}
use borrow.Author.Tests.{ne_eqb}
use Rattle.vat.specs.Table.{unused, own_of}
use Rattle.disc.specs.Disc.{Disc, lent, sector_at}
use Rattle.disc.specs.Tables.{table_at}
use Rattle.disc.proofs.Recording.{Sized, sized-tells}
use Rattle.disc.proofs.Told.{names-none}
use Rattle.disc.proofs.Found.{sector-end, sector-long, table-beyond, table-within}
use Rattle.disc.proofs.Forms.{length-named}
use Rattle.disc.proofs.again.named_count.Goals as goal

pub returns-then-b-eq-UNUSED : goal.returns-then-b-eq-UNUSED
returns-then-b-eq-UNUSED c =
    let D : Disc = lent c.args.image.now c.args.kinds.now in
    let ok : Sized D = sized-tells D c.requires.0 in
    let beyond : length D.kinds ≤ c.args.b = omega (arith, ok.few, c.if-b-eq-UNUSED.true) in
    sym (ap length (names-none D c.args.b (table-beyond D c.args.b beyond)))

pub sector_at-requires : goal.sector_at-requires
sector_at-requires c =
    let D : Disc = lent c.args.image.now c.args.kinds.now in
    let ok : Sized D = sized-tells D c.requires.0 in
    let a-table : table_at D c.args.b ≡ true = rw (ne_eqb c.args.b unused c.if-b-eq-UNUSED.false) at c.requires.1 in
    sector-end D ok c.args.b (table-within D c.args.b a-table)

pub own_count-requires : goal.own_count-requires
own_count-requires c =
    let D : Disc = lent c.args.image.now c.args.kinds.now in
    let ok : Sized D = sized-tells D c.requires.0 in
    let a-table : table_at D c.args.b ≡ true = rw (ne_eqb c.args.b unused c.if-b-eq-UNUSED.false) at c.requires.1 in
    let its-bytes : c.sector_at.result.now ≡ sector_at D c.args.b = c.sector_at.ensures D.kinds in
    ap length its-bytes ∙ sector-long D ok c.args.b (table-within D c.args.b a-table)

pub returns : goal.returns
returns c =
    let D : Disc = lent c.args.image.now c.args.kinds.now in
    let a-table : table_at D c.args.b ≡ true = rw (ne_eqb c.args.b unused c.if-b-eq-UNUSED.false) at c.requires.1 in
    let its-bytes : c.sector_at.result.now ≡ sector_at D c.args.b = c.sector_at.ensures D.kinds in
    c.own_count.ensures ∙ ap (λ (x : List ℕ). length (own_of x)) its-bytes ∙ sym (length-named D c.args.b a-table)
