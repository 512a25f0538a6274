-- `le::run::repeat_word` meets its contract: what is left, put from here, gives the whole.
-- Assumes nothing.
use Prim.Native.Nat.{◌+◌, ◌*◌}
use mathlib.Core.Path.{◌≡◌}
use lib.ListN.{drop, replicate}
use lib.Seq.{sets}
use Rattle.le.specs.Field.{le_words}
use Rattle.le.proofs.run.repeat_word.Given as goal

abbrev pub invariant-loop-i : goal.invariant-loop-i
invariant-loop-i l = sets l.s (l.at + 4 * l.i) (le_words (drop l.i (replicate l.n l.x))) ≡ sets l.initial.s l.at (le_words (replicate l.n l.x))
