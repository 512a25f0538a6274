-- `le::run::byte_sum` meets its contract: the sum so far and the sum of what is left make the whole, modulo 256.
-- Assumes nothing.
use Prim.Native.Nat.{◌+◌, ◌%◌}
use mathlib.Core.Path.{◌≡◌}
use lib.ListN.{drop}
use Rattle.le.specs.Bytes.{total}
use Rattle.le.proofs.run.byte_sum.Given as goal

abbrev pub invariant-loop-x : goal.invariant-loop-x
invariant-loop-x l = (l.sum + total (drop l.x-index l.s)) % 256 ≡ total l.s % 256
