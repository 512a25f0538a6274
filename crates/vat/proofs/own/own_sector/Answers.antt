-- `vat::own::own_sector` meets its contract: a sector of entries alone is the map's bytes as they stand, and any other is made.
-- Assumes nothing.
use Prim.Native.Nat.{ℕ, ◌+◌, ◌-◌, ◌*◌}
use native.Mathlib.Omega.{arith}
use mathlib.Core.Path.{◌≡◌, sym, ap, ◌∙◌}
use mathlib.Core.List.{List}
use lib.ListN.{length, take, drop, length-drop}
use lib.Seq.{sets, length-take-le}
use Rattle.le.proofs.Runs.{AllBytes, all-bytes, sets-all}
use Rattle.vat.specs.Table.{sector_length}
use Rattle.vat.proofs.Made.{entries-alone}
use Rattle.vat.proofs.own.own_sector.Goals as goal

pub returns-else-n-end : goal.returns-else-n-end
returns-else-n-end c =
    let a = c.args in
    let first : ℕ = sector_length * a.i in
    let l : List ℕ = a.map.now in
    let bytes : AllBytes l = all-bytes l (λ i. omega (arith, c.type_inv.map i)) in
    let count : (first + sector_length) - first ≡ sector_length = omega arith in
    let part = ap (λ (n : ℕ). take n (drop first l)) count in
    let long : length (take sector_length (drop first l)) ≡ sector_length = length-take-le sector_length (drop first l) (rw (length-drop first l) (omega (arith, c.requires.1, c.if-n-end.false))) in
    c.put_block.ensures
    ∙ ap (sets a.s.now 0) part
    ∙ sets-all (take sector_length (drop first l)) a.s.now (long ∙ sym c.requires.0)
    ∙ sym (entries-alone a.n a.i l a.previous bytes c.requires.1 (omega (arith, c.if-n-end.false)))
