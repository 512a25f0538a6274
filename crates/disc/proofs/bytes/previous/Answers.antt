-- `disc::bytes::previous` meets its contract, whichever form the table has.
-- Assumes nothing.
use Prim.Native.Nat.{ℕ}
use native.Mathlib.Omega.{arith}
use mathlib.Core.Path.{◌≡◌, sym, ap, ◌∙◌}
use mathlib.Core.List.{List}
use lib.ListN.{length}
use Rattle.vat.specs.Table.{table_of, table_length, entry_count, previous_of}
use Rattle.vat.proofs.Frame.{table-inside, inside-short}
use Rattle.vat.proofs.Theorems.{Recognised, framed_of, recognised}
use Rattle.disc.specs.Disc.{Disc, lent}
use Rattle.disc.specs.Tables.{below}
use Rattle.disc.proofs.bytes.previous.Goals as goal

pub is_embedded-requires : goal.is_embedded-requires
is_embedded-requires c =
    let D : Disc = lent c.args.image.now c.args.kinds.now in
    let S : List ℕ = c.args.s.now in
    let told : Recognised (below D c.args.b) S c.args.b = recognised (below D c.args.b) S c.args.b c.requires.2 in
    told.whole

pub table-requires : goal.table-requires
table-requires c =
    let D : Disc = lent c.args.image.now c.args.kinds.now in
    let S : List ℕ = c.args.s.now in
    let told : Recognised (below D c.args.b) S c.args.b = recognised (below D c.args.b) S c.args.b c.requires.2 in
    let t = told in (t.whole, t.frame.below)

pub previous-requires : goal.previous-requires
previous-requires c =
    let D : Disc = lent c.args.image.now c.args.kinds.now in
    let S : List ℕ = c.args.s.now in
    let T : List ℕ = table_of (below D c.args.b) S in
    let told : Recognised (below D c.args.b) S c.args.b = recognised (below D c.args.b) S c.args.b c.requires.2 in
    let whole : length T ≡ table_length (entry_count T) = told.around.long in
    let here : c.table.result.now ≡ T = c.table.ensures ∙ sym (table-inside (below D c.args.b) S (sym c.is_embedded.ensures ∙ c.if-is_embedded.true)) in
    (omega (arith, whole, ap length here), omega (arith, ap length c.table.ensures, inside-short S told.whole told.frame.below))

pub returns-then-is_embedded : goal.returns-then-is_embedded
returns-then-is_embedded c =
    let D : Disc = lent c.args.image.now c.args.kinds.now in
    let S : List ℕ = c.args.s.now in
    let T : List ℕ = table_of (below D c.args.b) S in
    let here : c.table.result.now ≡ T = c.table.ensures ∙ sym (table-inside (below D c.args.b) S (sym c.is_embedded.ensures ∙ c.if-is_embedded.true)) in
    c.previous.ensures ∙ ap previous_of here

pub apart-requires : goal.apart-requires
apart-requires c =
    let D : Disc = lent c.args.image.now c.args.kinds.now in
    let S : List ℕ = c.args.s.now in
    let told : Recognised (below D c.args.b) S c.args.b = recognised (below D c.args.b) S c.args.b c.requires.2 in
    (c.requires.0, c.requires.1, told.whole, framed_of (below D c.args.b) S c.args.b c.requires.2, told.on-data, sym c.is_embedded.ensures ∙ c.if-is_embedded.false)

pub previous-requires-2 : goal.previous-requires-2
previous-requires-2 c =
    let D : Disc = lent c.args.image.now c.args.kinds.now in
    let S : List ℕ = c.args.s.now in
    let told : Recognised (below D c.args.b) S c.args.b = recognised (below D c.args.b) S c.args.b c.requires.2 in
    (omega (arith, told.around.long), omega (arith, told.around.long))
