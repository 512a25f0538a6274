-- `disc::again::record_sector` meets its contract: the sector is made in its place, and the kind set.
-- Assumes nothing.
use Prim.Native.Nat.{ℕ, ◌+◌, ◌-◌, ◌*◌, ◌≤◌}
use native.Mathlib.Omega.{arith}
use mathlib.Core.Path.{◌≡◌, ap, ap₂, ◌∙◌}
use mathlib.Core.List.{List, ◌++◌}
use lib.ListN.{length, take, drop, set, length-drop}
use lib.Seq.{length-take-le}
use Rattle.le.specs.Field.{words}
use Rattle.vat.specs.Table.{sector_length}
use Rattle.vat.specs.Sector.{table_bytes}
use Rattle.vat.specs.Own.{own_sector}
use Rattle.vat.proofs.Joined.{length-filled}
use Rattle.disc.specs.Disc.{lent}
use Rattle.disc.proofs.Recording.{stored-part}
use Rattle.disc.proofs.Planned.{own-inside}
use Rattle.disc.proofs.again.record_sector.Goals as goal

pub own_sector-requires : goal.own_sector-requires
own_sector-requires c =
    let at : ℕ = sector_length * c.args.b in
    let long : (at + sector_length) - at ≡ sector_length = omega arith in
    let image : List ℕ = c.args.image.now in
    let inside : sector_length ≤ length (drop at image) = rw (length-drop at image) (omega (arith, c.requires.0, c.requires.1)) in
    let own = own-inside c.args.n c.args.i c.requires.3 c.requires.4 in
    (ap (λ (k : ℕ). length (take k (drop at image))) long ∙ length-take-le sector_length (drop at image) inside, c.requires.2, own.0, own.1)

pub returns : goal.returns
returns c =
    let T : List ℕ = table_bytes (words c.args.n c.args.map.now 0) c.args.previous in
    let at : ℕ = sector_length * c.args.b in
    let image : List ℕ = c.args.image.now in
    let sector : List ℕ = own_sector T c.args.i in
    let long : (at + sector_length) - at ≡ sector_length = omega arith in
    ap (λ (x : List ℕ). lent x (set c.args.kinds.now c.args.b 1))
    (ap₂ (λ (k : ℕ) (l : List ℕ). take at image ++ (l ++ drop k (drop at image))) long c.own_sector.ensures
    ∙ stored-part image sector at sector_length (length-filled (drop (sector_length * c.args.i) T)))
