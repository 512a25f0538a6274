-- `listing::text::used` meets its contract: the entries counted, and the numbers in use that are left, are all that are in use.
-- Assumes nothing.
use Prim.Native.Nat.{ℕ, suc, ◌+◌, ◌-◌, ◌≤◌}
use native.Mathlib.Omega.{arith}
use mathlib.Core.Path.{◌≡◌, sym, ap, ◌∙◌}
use mathlib.Core.Bool.{Bool, true, false, not, cond}
use mathlib.Core.List.{List, ◌∷◌}
use mir.Val.{bool_byte}
use lib.Dec.{eqb}
use lib.ListN.{length, get_or}
use Rattle.std.specs.List.{filter, range_with_len}
use Rattle.le.proofs.Runs.{length-words}
use Rattle.vat.specs.Table.{unused}
use Rattle.volume.specs.Volume.{places, unpack}
use Rattle.listing.specs.Text.{used}
use Rattle.listing.proofs.Lines.{in_use, used_from}
use Rattle.listing.proofs.text.used.Goals as goal

long : (l : List ℕ) → 0 + places ≡ length (unpack l).entries
unfolding unpack
long l = sym (length-words places l 0)

none-counted : (xs : List ℕ) (n : ℕ) → n ≡ used xs → 0 + n ≡ used xs
none-counted xs n e = omega (arith, e)

pub loop-i-init : goal.loop-i-init
loop-i-init c =
    let entries : List ℕ = (unpack c.args.ledger.now).entries in
    (omega arith, none-counted entries (length (filter (in_use entries) (range_with_len 0 places))) (used_from entries 0 places (long c.args.ledger.now)))

-- one number more, in use or not
one-more : (t : Bool) (ns : List ℕ) (i count byte total : ℕ) → count ≤ i → count + length (cond (not t) (i ∷ ns) ns) ≡ total → byte ≡ bool_byte (not t)
    → (count + byte ≤ i + 1) × (count + byte + length ns ≡ total)
one-more true ns i count byte total few e b = let none : byte ≡ 0 = b in (omega (arith, few, none), omega (arith, e, none))
one-more false ns i count byte total few e b = let one : byte ≡ 1 = b in (omega (arith, few, one), omega (arith, e, one))

pub loop-i-preserved : goal.loop-i-preserved
loop-i-preserved c =
    let l = c.loop-i in
    let entries : List ℕ = (unpack c.args.ledger.now).entries in
    let left : ℕ = places - (l.i + 1) in
    let more : places - l.i ≡ suc left = omega (arith, c.loop-i-test.true) in
    one-more (eqb (get_or entries l.i unused) unused) (filter (in_use entries) (range_with_len (l.i + 1) left)) l.i l.count c.from-count.result _
    l.invariant.0
    (rw more at l.invariant.1)
    (c.from-count.ensures ∙ ap (λ (x : ℕ). bool_byte (not (eqb x unused))) c.entry.ensures)

pub returns : goal.returns
returns c =
    let l = c.loop-i in
    let none : places - l.i ≡ 0 = omega (arith, c.loop-i-test.false) in
    let counted = rw none at l.invariant.1 in
    omega (arith, counted)
