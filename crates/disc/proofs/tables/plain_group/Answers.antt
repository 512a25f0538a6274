-- `disc::tables::plain_group` meets its contract: while no sector is tagged, none of those looked at is a table.
-- Assumes nothing.
use Prim.Native.Nat.{ℕ, ◌+◌, ◌<◌}
use native.Mathlib.Omega.{arith}
use mathlib.Core.Path.{◌≡◌, sym, ap, ◌∙◌}
use mathlib.Core.Bool.{false}
use mathlib.Core.List.{List}
use lib.Dec.{eqb}
use lib.ListN.{length}
use Rattle.le.specs.Field.{read_le}
use Rattle.disc.specs.Disc.{Disc, lent, sector_at}
use Rattle.disc.specs.Tables.{table_at}
use Rattle.disc.proofs.Recording.{Sized, sized-tells}
use Rattle.disc.proofs.Found.{sector-end, sector-long, untagged-block, one_more}
use Rattle.disc.proofs.tables.plain_group.Goals as goal

pub overflow_add-b : goal.overflow_add-b
overflow_add-b c =
    let D : Disc = lent c.args.image.now c.args.kinds.now in
    let B : ℕ = c.args.b + c.loop-i.i in
    let ok : Sized D = sized-tells D c.requires.0 in
    let within : B < length D.kinds = omega (arith, c.requires.1) in
    omega (arith, within, ok.few)

pub sector_at-requires : goal.sector_at-requires
sector_at-requires c =
    let D : Disc = lent c.args.image.now c.args.kinds.now in
    let B : ℕ = c.args.b + c.loop-i.i in
    let ok : Sized D = sized-tells D c.requires.0 in
    let within : B < length D.kinds = omega (arith, c.requires.1) in
    sector-end D ok B within

pub tagged-requires : goal.tagged-requires
tagged-requires c =
    let D : Disc = lent c.args.image.now c.args.kinds.now in
    let B : ℕ = c.args.b + c.loop-i.i in
    let S : List ℕ = c.sector_at.result.now in
    let ok : Sized D = sized-tells D c.requires.0 in
    let within : B < length D.kinds = omega (arith, c.requires.1) in
    let its-bytes : S ≡ sector_at D B = c.sector_at.ensures D.kinds in
    ap length its-bytes ∙ sector-long D ok B within

pub loop-i-preserved : goal.loop-i-preserved
loop-i-preserved c =
    let D : Disc = lent c.args.image.now c.args.kinds.now in
    let B : ℕ = c.args.b + c.loop-i.i in
    let S : List ℕ = c.sector_at.result.now in
    let its-bytes : S ≡ sector_at D B = c.sector_at.ensures D.kinds in
    let here : c.tagged.result ≡ false → table_at D B ≡ false = λ t. untagged-block D B (ap (λ (s : List ℕ). eqb (read_le 2 s 0) 261) (sym its-bytes) ∙ sym c.tagged.ensures ∙ t) in
    let l = c.loop-i in
    one_more (table_at D) c.args.b l.i l.plain c.tagged.result l.invariant here
