-- `le::run::put_words` meets its contract: what is left, put from here, gives the whole.
-- Assumes nothing.
use mathlib.Core.Path.{refl, ◌∙◌}
use native.Mathlib.Omega.{arith}
use lib.ListN.{drop_of_length-le}
use Rattle.le.specs.Field.{le_words}
use Rattle.le.proofs.Runs.{word-put}
use Rattle.le.proofs.run.put_words.Goals as goal

pub loop-i-preserved : goal.loop-i-preserved
loop-i-preserved c =
    rw c.put32.ensures (word-put c.loop-i.s c.args.xs.now c.args.at c.loop-i.i _ (omega arith) refl ∙ c.loop-i.invariant)

pub returns : goal.returns
unfolding le_words
returns c =
    rw (drop_of_length-le c.args.xs.now c.loop-i-test.false) at c.loop-i.invariant
