-- `le::run::every` meets its contract: what is left of the bytes decides the rest, by each test that the closure makes.
-- Assumes nothing.
use Prim.Native.Nat.{ℕ}
use mathlib.Core.Path.{◌≡◌, sym, ◌∙◌}
use mathlib.Core.Bool.{and-true}
use native.Mathlib.Omega.{arith}
use lib.ListN.{get_or, drop_of_length-le}
use Rattle.le.specs.Bytes.{every}
use Rattle.le.proofs.Runs.{test-taken}
use Rattle.le.proofs.run.every.Goals as goal

pub loop-x-preserved : goal.loop-x-preserved
loop-x-preserved g c =
    λ p computes.
    let s = c.args.s.now in
    let i : ℕ = c.loop-x.x-index in
    let same : c.holds-held.result ≡ p (get_or s i 0) = computes (get_or s i 0) c.holds-held.result (omega (arith, c.type_inv.s i)) c.holds-held.ensures in
    rw same (test-taken p c.loop-x.held s i (omega arith) ∙ c.loop-x.invariant p computes)

pub returns : goal.returns
unfolding every
returns g c =
    λ p computes. sym (and-true c.loop-x.held) ∙ rw (drop_of_length-le c.args.s.now c.loop-x-test.false) at (c.loop-x.invariant p computes)
