-- `le::run::repeat_word` meets its contract: what is left, put from here, gives the whole.
-- Assumes nothing.
use Prim.Native.Nat.{ℕ, ◌≤◌}
use mathlib.Core.Path.{◌∙◌}
use native.Mathlib.Omega.{arith}
use lib.ListN.{length, replicate, drop_of_length-le, length-replicate}
use Rattle.std.proofs.lemmas.List.{get_or-replicate}
use Rattle.le.specs.Field.{le_words}
use Rattle.le.proofs.Runs.{word-put}
use Rattle.le.proofs.run.repeat_word.Goals as goal

pub loop-i-preserved : goal.loop-i-preserved
loop-i-preserved c =
    let a = c.args in
    let i : ℕ = c.loop-i.i in
    rw c.put32.ensures
    (word-put c.loop-i.s (replicate a.n a.x) a.at i a.x (omega (arith, length-replicate a.n a.x)) (get_or-replicate a.n i a.x 0 (omega arith)) ∙ c.loop-i.invariant)

pub returns : goal.returns
unfolding le_words
returns c =
    let a = c.args in
    let done : length (replicate a.n a.x) ≤ c.loop-i.i = omega (arith, length-replicate a.n a.x) in
    rw (drop_of_length-le (replicate a.n a.x) done) at c.loop-i.invariant
