-- `listing::list::put_rows` meets its contract: the rows so far, and those that are left, are all of them.
-- Assumes nothing.
use Prim.Native.Nat.{◌+◌, ◌-◌, ◌*◌}
use mathlib.Core.Path.{◌≡◌}
use lib.ListN.{length}
use lib.Seq.{sets}
use Rattle.disc.specs.Disc.{lent}
use Rattle.listing.specs.Listing.{rows_from}
use Rattle.listing.proofs.list.put_rows.Given as goal

abbrev pub invariant-loop-k : goal.invariant-loop-k
invariant-loop-k l =
    (l.at ≡ 25 + 25 * l.k) × (length l.out ≡ length l.initial.out) × (sets l.out l.at (rows_from (lent l.image l.kinds) l.clean (32 - l.k) l.k) ≡ sets l.initial.out 25 (rows_from (lent l.image l.kinds) l.clean 32 0))
    × (l.at + length (rows_from (lent l.image l.kinds) l.clean (32 - l.k) l.k) ≡ 25 + length (rows_from (lent l.image l.kinds) l.clean 32 0))
