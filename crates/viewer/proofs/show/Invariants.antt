-- `viewer::show` meets its contract: what is filled so far, and what the extents that are left show, are all that is to be shown.
-- Assumes nothing.
use Prim.Native.Nat.{ℕ}
use mathlib.Core.Path.{◌≡◌}
use mathlib.Core.Bool.{true}
use mathlib.Core.List.{List, []}
use lib.ListN.{length, take, drop}
use Rattle.extent.proofs.Extents.{extents_left}
use Rattle.disc.specs.Disc.{lent}
use Rattle.run.specs.Entry.{descriptors_at, extents_of, laid, run_bytes}
use Rattle.viewer.proofs.Pieces.{Filled}
use Rattle.viewer.proofs.show.Given as goal

abbrev pub invariant-loop-i : goal.invariant-loop-i
invariant-loop-i l =
    ((kinds : List ℕ) (b : ℕ) → laid kinds b (extents_of l.entry) ≡ true → laid kinds b (extents_left l.entry descriptors_at l.count l.i) ≡ true)
    × Filled l.initial.buffer (take (length l.initial.buffer) (drop l.offset (run_bytes (lent l.image []) (extents_of l.entry)))) (lent l.image []) (extents_left l.entry descriptors_at l.count l.i) l.buffer l.skip l.filled
