-- `vat::table::words_held` meets its contract: what was found so far, and what is left of both halves, make the answer.
-- Assumes nothing.
use mathlib.Core.Path.{◌≡◌}
use Rattle.le.specs.Bytes.{every}
use Rattle.le.specs.Field.{words}
use Rattle.le.proofs.Halves.{left_of}
use Rattle.vat.specs.Table.{unused_or_below}
use Rattle.vat.proofs.table.words_held.Given as goal

abbrev pub invariant-loop-i : goal.invariant-loop-i
invariant-loop-i l = left_of (unused_or_below l.b) (words l.n l.s l.at) l.half l.turns l.i l.held ≡ every (unused_or_below l.b) (words l.n l.s l.at)
