-- `vat::table::measured` meets its contract: the form decides, then the number of own sectors, then the lengths.
-- Assumes nothing.
use Prim.Native.Nat.{◌≤◌}
use native.Mathlib.Omega.{arith}
use mathlib.Core.Path.{◌≡◌, sym, ◌∙◌}
use mathlib.Core.Bool.{false, or-false}
use lib.ListN.{length}
use borrow.Author.Tests.{le-leb}
use Rattle.extent.specs.Extents.{extents_from}
use Rattle.vat.specs.Table.{most_own, allocation_type, embedded, own_of, measured}
use Rattle.vat.proofs.Measured.{own-within, own_read}
use Rattle.vat.proofs.table.measured.Goals as goal

pub returns-in-3 : goal.returns-in-3
unfolding measured
returns-in-3 c =
    let three : allocation_type c.args.s.now ≡ 3 = sym c.allocation_type.ensures ∙ c.in-3.is in
    rw (three, c.lengths_held.ensures, c.attribute_length-attributes.ensures, c.from.ensures, c.described_length-length.ensures) (sym (or-false _))

pub total_length-requires : goal.total_length-requires
total_length-requires c =
    let apart : embedded c.args.s.now ≡ false = grind arith in
    omega (arith, c.own_count-own.ensures, own-within c.args.s.now apart)

pub returns-then-contains : goal.returns-then-contains
unfolding measured
returns-then-contains c =
    let s = c.args.s.now in
    let zero : allocation_type s ≡ 0 = sym c.allocation_type.ensures ∙ c.in-0.is in
    let apart : embedded s ≡ false = grind arith in
    let own : extents_from c.own_count-own.result s c.start-at.result ≡ own_of s =
    own_read s apart c.own_count-own.result c.start-at.result c.own_count-own.ensures c.start-at.ensures in
    let some : 1 ≤ length (own_of s) = grind arith in
    let few : length (own_of s) ≤ most_own = grind arith in
    rw (
      c.lengths_held-then-contains.ensures,
      c.total_length.ensures,
      own,
      c.attribute_length-attributes.ensures,
      c.own_count-own.ensures,
      zero,
      le-leb 1 (length (own_of s)) some,
      le-leb (length (own_of s)) most_own few,
    )

pub returns-else-contains : goal.returns-else-contains
unfolding measured
returns-else-contains c =
    let zero : allocation_type c.args.s.now ≡ 0 = sym c.allocation_type.ensures ∙ c.in-0.is in
    rw zero (grind arith)

pub returns-in_default : goal.returns-in_default
unfolding measured
returns-in_default c =
    let z : allocation_type c.args.s.now ≡ 0 → ⊥ = λ e. omega arith in
    let t : allocation_type c.args.s.now ≡ 3 → ⊥ = λ e. omega arith in
    grind arith
