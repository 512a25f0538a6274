-- `listing::form::fill_kinds` meets its contract: the kinds so far, and those of the digits that are left, are all of them.
-- Assumes nothing.
use Prim.Native.Nat.{ℕ, ◌+◌}
use native.Mathlib.Omega.{arith}
use mathlib.Core.Path.{sym, ap, ◌∙◌}
use mathlib.Core.List.{List}
use lib.ListN.{set, drop, drop_of_length-le}
use lib.Seq.{sets}
use Rattle.le.proofs.Runs.{sets-all}
use Rattle.listing.specs.Listing.{kinds_of}
use Rattle.listing.proofs.Input.{length-kinds, kind-put}
use Rattle.listing.proofs.form.fill_kinds.Goals as goal

pub loop-i-preserved : goal.loop-i-preserved
loop-i-preserved c =
    let l = c.loop-i in
    let digits : List ℕ = c.args.digits.now in
    ap (λ (x : ℕ). sets (set l.kinds l.i x) (l.i + 1) (kinds_of (drop (l.i + 1) digits))) c.saturating_sub.ensures ∙ kind-put l.kinds digits l.i (omega arith) ∙ l.invariant

pub returns : goal.returns
unfolding kinds_of
returns c =
    let digits : List ℕ = c.args.digits.now in
    rw (drop_of_length-le digits c.loop-i-test.false) at c.loop-i.invariant ∙ sets-all (kinds_of digits) c.args.kinds.now (length-kinds digits ∙ sym c.requires)
