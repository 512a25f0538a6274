-- `listing::text::put_column` meets its contract: the digits that are left, put before those that are there, are the column.
-- Assumes nothing.
use Prim.Native.Nat.{◌-◌}
use mathlib.Core.Path.{◌≡◌}
use lib.Seq.{sets}
use Rattle.listing.specs.Text.{ahead}
use Rattle.listing.proofs.text.put_column.Given as goal

abbrev pub invariant-loop-place : goal.invariant-loop-place
invariant-loop-place l = sets l.out l.at (ahead (l.place - l.at) l.m) ≡ sets l.initial.out l.at (ahead (l.last - l.at) l.initial.m)
