-- `listing::text::used` meets its contract: the entries counted, and the numbers in use that are left, are all that are in use.
-- Assumes nothing.
use Prim.Native.Nat.{◌+◌, ◌-◌, ◌≤◌}
use mathlib.Core.Path.{◌≡◌}
use lib.ListN.{length}
use Rattle.std.specs.List.{filter, range_with_len}
use Rattle.volume.specs.Volume.{places, unpack}
use Rattle.listing.specs.Text.{used}
use Rattle.listing.proofs.Lines.{in_use}
use Rattle.listing.proofs.text.used.Given as goal

abbrev pub invariant-loop-i : goal.invariant-loop-i
invariant-loop-i l =
    (l.count ≤ l.i) × (l.count + length (filter (in_use (unpack l.ledger).entries) (range_with_len l.i (places - l.i))) ≡ used (unpack l.ledger).entries)
