-- `le::run::byte_sum` meets its contract: the sum so far and the sum of what is left make the whole, modulo 256.
-- Assumes nothing.
use mathlib.Core.Path.{◌∙◌}
use native.Mathlib.Omega.{arith}
use lib.ListN.{drop_of_length-le}
use Rattle.le.specs.Bytes.{total}
use Rattle.le.proofs.Runs.{total-taken}
use Rattle.le.proofs.run.byte_sum.Goals as goal

pub loop-x-preserved : goal.loop-x-preserved
loop-x-preserved c =
    total-taken c.loop-x.sum c.args.s.now c.loop-x.x-index (omega arith) ∙ c.loop-x.invariant

pub returns : goal.returns
unfolding total
returns c =
    let whole = rw (drop_of_length-le c.args.s.now c.loop-x-test.false) at c.loop-x.invariant in omega arith
