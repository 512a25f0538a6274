-- `le::run::every` meets its contract: what is left of the bytes decides the rest, by each test that the closure makes.
-- Assumes nothing.
use Prim.Native.Nat.{ℕ, ◌<◌}
use mathlib.Core.Path.{◌≡◌}
use mathlib.Core.Bool.{Bool, ◌&&◌}
use lib.ListN.{drop}
use Rattle.le.specs.Bytes.{every}
use Rattle.le.proofs.run.every.Given as goal

abbrev pub invariant-loop-x : goal.invariant-loop-x
invariant-loop-x g l =
    (p : ℕ → Bool) → ((x : ℕ) (r : Bool) → x < 256 → goal.F-post g l.holds x r → r ≡ p x) → (l.held && every p (drop l.x-index l.s)) ≡ every p l.s
