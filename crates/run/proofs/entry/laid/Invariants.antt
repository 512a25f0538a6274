-- `run::entry::laid` meets its contract: those before are laid, and those that are left settle the answer.
-- Assumes nothing.
use mathlib.Core.Path.{◌≡◌}
use Rattle.extent.specs.Extents.{extents_from}
use Rattle.extent.proofs.Extents.{extents_left}
use Rattle.run.specs.Entry.{descriptors_at, laid}
use Rattle.run.proofs.entry.laid.Given as goal

abbrev pub invariant-loop-i : goal.invariant-loop-i
invariant-loop-i l = laid l.kinds l.b (extents_left l.s descriptors_at l.count l.i) ≡ laid l.kinds l.b (extents_from l.n l.s descriptors_at)
