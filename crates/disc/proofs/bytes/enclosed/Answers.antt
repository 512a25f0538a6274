-- `disc::bytes::enclosed` meets its contract, whichever form the table has.
-- Assumes nothing.
use Prim.Native.Nat.{ℕ}
use native.Mathlib.Omega.{arith}
use mathlib.Core.Path.{sym, ap, ◌∙◌}
use mathlib.Core.List.{List}
use lib.ListN.{length}
use Rattle.vat.specs.Table.{enclosed}
use Rattle.vat.proofs.Frame.{Framed, framed-tells, table-inside, inside-short}
use Rattle.disc.specs.Disc.{Disc, lent}
use Rattle.disc.specs.Tables.{below}
use Rattle.disc.proofs.bytes.enclosed.Goals as goal

pub table-requires : goal.table-requires
table-requires c =
    let S : List ℕ = c.args.s.now in
    let told : Framed S c.args.b = framed-tells S c.args.b c.requires.3 in
    (c.requires.2, told.below)

pub enclosed-requires : goal.enclosed-requires
enclosed-requires c =
    let S : List ℕ = c.args.s.now in
    let told : Framed S c.args.b = framed-tells S c.args.b c.requires.3 in
    omega (arith, ap length c.table.ensures, inside-short S c.requires.2 told.below)

pub returns-then-is_embedded : goal.returns-then-is_embedded
returns-then-is_embedded c =
    let D : Disc = lent c.args.image.now c.args.kinds.now in
    let S : List ℕ = c.args.s.now in
    c.enclosed.ensures
    ∙ ap (λ (x : List ℕ). enclosed x c.args.b) (c.table.ensures ∙ sym (table-inside (below D c.args.b) S (sym c.is_embedded.ensures ∙ c.if-is_embedded.true)))
