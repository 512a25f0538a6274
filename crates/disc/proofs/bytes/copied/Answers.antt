-- `disc::bytes::copied` meets its contract, whichever form the table has.
-- Assumes nothing.
use Prim.Native.Nat.{ℕ, ◌*◌, ◌≤◌}
use native.Mathlib.Omega.{arith}
use mathlib.Core.Path.{◌≡◌, sym, ap, ◌∙◌}
use mathlib.Core.List.{List}
use lib.ListN.{length}
use lib.Seq.{sets}
use Rattle.le.specs.Field.{words, le_words}
use Rattle.vat.specs.Table.{table_of}
use Rattle.vat.proofs.Frame.{table-inside, entries-within}
use Rattle.vat.proofs.Theorems.{Recognised, framed_of, recognised}
use Rattle.disc.specs.Disc.{Disc, lent}
use Rattle.disc.specs.Tables.{below}
use Rattle.disc.proofs.bytes.copied.Goals as goal

pub is_embedded-requires : goal.is_embedded-requires
is_embedded-requires c =
    let D : Disc = lent c.args.image.now c.args.kinds.now in
    let S : List ℕ = c.args.s.now in
    let told : Recognised (below D c.args.b) S c.args.b = recognised (below D c.args.b) S c.args.b c.requires.2 in
    told.whole

pub table-requires : goal.table-requires
table-requires c =
    let D : Disc = lent c.args.image.now c.args.kinds.now in
    let S : List ℕ = c.args.s.now in
    let told : Recognised (below D c.args.b) S c.args.b = recognised (below D c.args.b) S c.args.b c.requires.2 in
    let t = told in (t.whole, t.frame.below)

pub copy_words-requires : goal.copy_words-requires
copy_words-requires c =
    let D : Disc = lent c.args.image.now c.args.kinds.now in
    let S : List ℕ = c.args.s.now in
    let T : List ℕ = table_of (below D c.args.b) S in
    let within : 4 * c.args.n ≤ length T = omega (arith, c.requires.3, entries-within T) in
    let here : c.table.result.now ≡ T = c.table.ensures ∙ sym (table-inside (below D c.args.b) S (sym c.is_embedded.ensures ∙ c.if-is_embedded.true)) in
    (omega (arith, c.requires.4), omega (arith, within, ap length here))

pub returns-then-is_embedded : goal.returns-then-is_embedded
returns-then-is_embedded c =
    let D : Disc = lent c.args.image.now c.args.kinds.now in
    let S : List ℕ = c.args.s.now in
    let T : List ℕ = table_of (below D c.args.b) S in
    let here : c.table.result.now ≡ T = c.table.ensures ∙ sym (table-inside (below D c.args.b) S (sym c.is_embedded.ensures ∙ c.if-is_embedded.true)) in
    let a = c.args in
    c.copy_words.ensures ∙ ap (λ (x : List ℕ). sets a.l.now 0 (le_words (words a.n x 0))) here

pub apart-requires : goal.apart-requires
apart-requires c =
    let D : Disc = lent c.args.image.now c.args.kinds.now in
    let S : List ℕ = c.args.s.now in
    let told : Recognised (below D c.args.b) S c.args.b = recognised (below D c.args.b) S c.args.b c.requires.2 in
    (c.requires.0, c.requires.1, told.whole, framed_of (below D c.args.b) S c.args.b c.requires.2, told.on-data, sym c.is_embedded.ensures ∙ c.if-is_embedded.false)

pub copied-requires : goal.copied-requires
copied-requires c =
    let D : Disc = lent c.args.image.now c.args.kinds.now in
    (omega (arith, c.requires.3, entries-within (table_of (below D c.args.b) c.args.s.now)), c.requires.4)
