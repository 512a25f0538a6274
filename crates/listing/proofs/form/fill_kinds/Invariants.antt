-- `listing::form::fill_kinds` meets its contract: the kinds so far, and those of the digits that are left, are all of them.
-- Assumes nothing.
use mathlib.Core.Path.{◌≡◌}
use lib.ListN.{drop}
use lib.Seq.{sets}
use Rattle.listing.specs.Listing.{kinds_of}
use Rattle.listing.proofs.form.fill_kinds.Given as goal

abbrev pub invariant-loop-i : goal.invariant-loop-i
invariant-loop-i l = sets l.kinds l.i (kinds_of (drop l.i l.digits)) ≡ sets l.initial.kinds 0 (kinds_of l.digits)
