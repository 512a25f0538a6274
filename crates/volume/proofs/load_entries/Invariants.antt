-- `volume::load_entries` meets its contract: the entries so far are the words so far.
-- Assumes nothing.
use mathlib.Core.Path.{◌≡◌}
use lib.ListN.{take}
use Rattle.le.specs.Field.{words}
use Rattle.volume.proofs.load_entries.Given as goal

abbrev pub invariant-loop-i : goal.invariant-loop-i
invariant-loop-i l = take l.i l.entry-items ≡ words l.i l.l 0
