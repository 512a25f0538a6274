-- `run::entry::lies` meets its contract: the tests of the definition, where the length is rounded up to whole sectors.
-- Assumes nothing.
use Prim.Native.Nat.{ℕ, ◌+◌, ◌-◌}
use native.Mathlib.Omega.{arith}
use mathlib.Core.Path.{◌≡◌}
use borrow.Author.Rules.{rules}
use Rattle.std.specs.Int.{div_ceil}
use Rattle.run.specs.Entry.{lies}
use Rattle.run.proofs.Words.{rounded}
use Rattle.run.proofs.entry.lies.Goals as goal

behind : (a n : ℕ) → (a + n) - a ≡ n
behind a n = omega arith

pub returns-then-end-b : goal.returns-then-end-b
unfolding lies
returns-then-end-b c =
    rw (rounded c.args.e.length, ← behind c.args.e.location (div_ceil c.args.e.length 2048)) (search rules)

pub returns-else-end-b : goal.returns-else-end-b
unfolding lies
returns-else-end-b c =
    rw (rounded c.args.e.length) (search rules)
