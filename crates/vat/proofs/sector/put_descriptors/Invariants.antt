-- `vat::sector::put_descriptors` meets its contract: the descriptors that are left, put from here, give the whole.
-- Assumes nothing.
use Prim.Native.Nat.{◌+◌, ◌-◌, ◌*◌}
use mathlib.Core.Path.{◌≡◌}
use lib.ListN.{drop}
use lib.Seq.{sets}
use Rattle.extent.specs.Extents.{descriptors}
use Rattle.vat.specs.Table.{sector_length, table_start}
use Rattle.vat.specs.Own.{extents_at}
use Rattle.vat.proofs.sector.put_descriptors.Given as goal

abbrev pub invariant-loop-i : goal.invariant-loop-i
invariant-loop-i l =
    (l.left ≡ l.bytes - sector_length * l.i)
    × (sets l.s (table_start 0 + 8 * l.i) (descriptors (extents_at l.left (drop l.i l.blocks))) ≡ sets l.initial.s (table_start 0) (descriptors (extents_at l.bytes l.blocks)))
