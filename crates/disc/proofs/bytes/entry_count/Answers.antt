-- `disc::bytes::entry_count` meets its contract: the length that the ICB tells is the table's, whatever the image.
-- Assumes nothing.
use Prim.Native.Nat.{ℕ, ◌-◌, ◌/◌}
use native.Mathlib.Omega.{arith}
use mathlib.Core.Path.{ap, ◌∙◌}
use mathlib.Core.List.{List, []}
use Rattle.vat.proofs.Frame.{Framed, framed-tells}
use Rattle.disc.specs.Disc.{Disc, lent}
use Rattle.disc.specs.Tables.{below}
use Rattle.disc.proofs.Recording.{sized-tells}
use Rattle.disc.proofs.Forms.{told-short, told-count}
use Rattle.disc.proofs.bytes.entry_count.Goals as goal

pub information_length-requires : goal.information_length-requires
information_length-requires c =
    let S : List ℕ = c.args.s.now in
    let told : Framed S c.args.b = framed-tells S c.args.b c.requires.2 in
    (c.requires.1, omega (arith, told-short S c.args.b c.requires.1 told (below (lent [] c.args.kinds.now) c.args.b) (c.requires.3 [])))

pub returns : goal.returns
returns c =
    let S : List ℕ = c.args.s.now in
    let told : Framed S c.args.b = framed-tells S c.args.b c.requires.2 in
    λ image sized.
    let d : Disc = lent image c.args.kinds.now in
    c.count_entries.ensures ∙ ap (λ (k : ℕ). (k - 36) / 4) c.information_length.ensures
    ∙ told-count d (sized-tells d sized) c.args.b c.requires.0 S c.requires.1 told (c.requires.3 image)
