-- `disc::bytes::entries_held` meets its contract, whichever form the table has.
-- Assumes nothing.
use Prim.Native.Nat.{ℕ, ◌+◌, ◌*◌, ◌≤◌}
use native.Mathlib.Omega.{arith}
use mathlib.Core.Path.{◌≡◌, sym, ap, ◌∙◌}
use mathlib.Core.List.{List}
use lib.ListN.{length}
use Rattle.le.specs.Bytes.{every}
use Rattle.le.specs.Field.{words}
use Rattle.vat.specs.Table.{unused_or_below, table_of}
use Rattle.vat.proofs.Frame.{Framed, framed-tells, table-inside, entries-within}
use Rattle.disc.specs.Disc.{Disc, lent}
use Rattle.disc.specs.Tables.{below}
use Rattle.disc.proofs.bytes.entries_held.Goals as goal

pub table-requires : goal.table-requires
table-requires c =
    let S : List ℕ = c.args.s.now in
    let told : Framed S c.args.b = framed-tells S c.args.b c.requires.3 in
    (c.requires.2, told.below)

pub words_held-requires : goal.words_held-requires
words_held-requires c =
    let D : Disc = lent c.args.image.now c.args.kinds.now in
    let S : List ℕ = c.args.s.now in
    let T : List ℕ = table_of (below D c.args.b) S in
    let within : 4 * c.args.first + 4 * c.args.count ≤ length T = omega (arith, c.requires.5, entries-within T) in
    let here : c.table.result.now ≡ T = c.table.ensures ∙ sym (table-inside (below D c.args.b) S (sym c.is_embedded.ensures ∙ c.if-is_embedded.true)) in
    omega (arith, within, ap length here)

pub returns-then-is_embedded : goal.returns-then-is_embedded
returns-then-is_embedded c =
    let D : Disc = lent c.args.image.now c.args.kinds.now in
    let S : List ℕ = c.args.s.now in
    let T : List ℕ = table_of (below D c.args.b) S in
    let here : c.table.result.now ≡ T = c.table.ensures ∙ sym (table-inside (below D c.args.b) S (sym c.is_embedded.ensures ∙ c.if-is_embedded.true)) in
    let a = c.args in
    c.words_held.ensures ∙ ap (λ (x : List ℕ). every (unused_or_below a.b) (words a.count x (4 * a.first))) here

pub entries_held-requires : goal.entries_held-requires
entries_held-requires c =
    let D : Disc = lent c.args.image.now c.args.kinds.now in
    (omega (arith, c.requires.5, entries-within (table_of (below D c.args.b) c.args.s.now)), omega arith)
