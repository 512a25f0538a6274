-- `disc::bytes::laid` meets its contract: an ICB that holds its table names none, and any other those that its descriptors name.
-- Assumes nothing.
use Prim.Native.Nat.{ℕ}
use mathlib.Core.Path.{◌≡◌, sym, ap, ◌∙◌}
use mathlib.Core.Bool.{false}
use mathlib.Core.List.{List}
use Rattle.vat.specs.Table.{embedded, laid}
use Rattle.vat.proofs.Frame.{Framed, framed-tells, own-none}
use Rattle.vat.proofs.Measured.{own_read}
use Rattle.disc.specs.Disc.{lent}
use Rattle.disc.specs.Tables.{below}
use Rattle.disc.proofs.Forms.{descriptors-within}
use Rattle.disc.proofs.bytes.laid.Goals as goal

pub returns-then-is_embedded : goal.returns-then-is_embedded
unfolding laid
returns-then-is_embedded c =
    let S : List ℕ = c.args.s.now in
    λ image. sym (ap (laid (below (lent image c.args.kinds.now) c.args.b)) (own-none S (sym c.is_embedded.ensures ∙ c.if-is_embedded.true)))

pub start-requires : goal.start-requires
start-requires c =
    let S : List ℕ = c.args.s.now in
    let told : Framed S c.args.b = framed-tells S c.args.b c.requires.2 in
    (c.requires.1, told.below)

pub laid-requires : goal.laid-requires
laid-requires c =
    let S : List ℕ = c.args.s.now in
    let told : Framed S c.args.b = framed-tells S c.args.b c.requires.2 in
    let apart : embedded S ≡ false = sym c.is_embedded.ensures ∙ c.if-is_embedded.false in
    (c.requires.0, descriptors-within S c.args.b c.requires.1 told apart c.start.result c.own_count.result c.start.ensures c.own_count.ensures)

pub returns : goal.returns
returns c =
    let S : List ℕ = c.args.s.now in
    let apart : embedded S ≡ false = sym c.is_embedded.ensures ∙ c.if-is_embedded.false in
    λ image.
    c.laid.ensures image
    ∙ ap (laid (below (lent image c.args.kinds.now) c.args.b)) (own_read S apart c.own_count.result c.start.result c.own_count.ensures c.start.ensures)
