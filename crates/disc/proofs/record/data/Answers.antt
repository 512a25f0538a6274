-- `disc::record::data` meets its contract: the block is copied to its place, and the kind set.
-- Assumes nothing.
use Prim.Native.Nat.{ℕ, ◌+◌, ◌*◌, ◌≤◌}
use native.Mathlib.Omega.{arith}
use mathlib.Core.Path.{refl, ◌∙◌}
use mathlib.Core.List.{List, append_assoc}
use lib.ListN.{length, take, drop}
use lib.Seq.{sets-eq}
use Rattle.vat.specs.Table.{sector_length}
use Rattle.disc.specs.Disc.{stored}
use Rattle.disc.proofs.record.data.Goals as goal

pub returns : goal.returns
unfolding stored
returns c =
    let image : List ℕ = c.args.image.now in
    let block : List ℕ = c.args.block.now in
    let fits : sector_length * c.args.b + length block ≤ length image = omega (arith, c.requires) in
    let at : ℕ = sector_length * c.args.b in
    (c.put_block.ensures ∙ sets-eq block image at fits ∙ append_assoc (take at image) block (drop (at + length block) image), refl)
