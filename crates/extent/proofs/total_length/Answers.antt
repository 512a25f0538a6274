-- `extent::total_length` meets its contract: the sum so far, and the extents that are left, make the total.
-- Assumes nothing.
use native.Mathlib.Nat.{add-zero}
use native.Mathlib.Omega.{arith}
use mathlib.Core.Path.{◌≡◌, sym, ◌∙◌}
use mathlib.Core.List.{[]}
use Rattle.extent.specs.Extents.{total_length}
use Rattle.extent.proofs.Extents.{extents_left, none_left, length_taken}
use Rattle.extent.proofs.total_length.Goals as goal

pub loop-i-preserved : goal.loop-i-preserved
loop-i-preserved c =
    let a = c.args in
    let taken = length_taken c.loop-i.total a.s.now a.at a.n c.loop-i.i c.read-e.result (omega arith) c.read-e.ensures in
    (omega arith, omega (arith, taken, c.from-total.ensures, c.loop-i.invariant.1))

pub returns : goal.returns
unfolding total_length
returns c =
    let a = c.args in
    let none : extents_left a.s.now a.at a.n c.loop-i.i ≡ [] = none_left a.s.now a.at a.n c.loop-i.i (omega arith) in
    sym (add-zero c.loop-i.total) ∙ rw none at c.loop-i.invariant.1
