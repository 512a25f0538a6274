-- `vat::own::last_sector` meets its contract: entries, then what of the tail stands in the sector, over zeros.
-- Assumes nothing.
use Prim.Native.Nat.{ℕ, ◌+◌, ◌-◌, ◌*◌}
use native.Mathlib.Omega.{arith}
use mathlib.Core.Path.{◌≡◌, refl}
use lib.ListN.{replicate}
use Rattle.vat.proofs.Made.{Split, tail-alone, sector-made}
use Rattle.vat.proofs.own.last_sector.Goals as goal

pub returns : goal.returns
returns c =
    let a = c.args in
    let before : ℕ = c.min-before.result in
    let count : ℕ = c.min-count.result in
    let split : Split a.n a.i before count = record { before-is = c.min-before.ensures; count-is = c.min-count.ensures } in
    let from : ℕ = 2048 * a.i - 4 * before in
    let rest : (from + c.min.result) - from ≡ c.min.result = omega arith in
    rw (c.put_text.ensures, c.copy_words.ensures, c.clear.ensures, c.requires.0, rest, c.put_tail.ensures, tail-alone (replicate 36 0) a.previous refl)
    (sector-made a.n a.i before count split a.map.now a.previous from c.min.result refl c.min.ensures)
