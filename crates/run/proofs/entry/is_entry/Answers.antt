-- `run::entry::is_entry` meets its contract: each test that fails settles the answer, in the order of the definition.
-- Assumes nothing.
use Prim.Native.Nat.{ℕ}
use native.Mathlib.Omega.{arith}
use mathlib.Core.Path.{◌≡◌, refl, sym, ◌∙◌}
use mathlib.Core.Bool.{◌&&◌}
use mathlib.Core.List.{List}
use lib.Dec.{eqb, leb}
use lib.Bits.{bit_and, and_mask}
use lib.ListN.{length}
use borrow.Author.Rules.{rules}
use borrow.Author.Tests.{eq-eqb}
use Rattle.le.specs.Field.{read_le, holds}
use Rattle.tag.specs.Tag.{sealed}
use Rattle.vat.specs.Table.{sector_length, tag_version, entry_rows, length_rows}
use Rattle.vat.proofs.Frame.{lengths}
use Rattle.extent.specs.Extents.{descriptors_length, extents_from, total_length}
use Rattle.run.specs.Entry.{most_extents, descriptors_at, extent_count, laid, file_type, is_entry}
use Rattle.run.proofs.entry.is_entry.Goals as goal

-- the tests, of a whole sector whose flags and count were read
tests : (kinds s : List ℕ) (b flags n : ℕ) → length s ≡ sector_length → flags ≡ read_le 2 s 34 → n ≡ extent_count s
    → is_entry kinds s b
    ≡ (holds s (entry_rows tag_version file_type b)
    && (eqb (bit_and flags 7) 0
    && (leb 1 n
    && (leb n most_extents
    && (holds s (length_rows 0 (descriptors_length n) (total_length (extents_from n s descriptors_at))) && (laid kinds b (extents_from n s descriptors_at) && sealed s))))))
unfolding is_entry
tests kinds s b flags n whole f count = rw (eq-eqb (length s) sector_length whole, and_mask flags 3, f, count)

pub returns-then-not-entry_held : goal.returns-then-not-entry_held
returns-then-not-entry_held c =
    let a = c.args in
    rw (tests a.kinds.now a.s.now a.b (read_le 2 a.s.now 34) (extent_count a.s.now) c.requires.0 refl refl) (search rules)

pub returns-then-n-eq0 : goal.returns-then-n-eq0
returns-then-n-eq0 c =
    let a = c.args in
    rw (tests a.kinds.now a.s.now a.b c.read16.result c.extent_count-n.result c.requires.0 c.read16.ensures c.extent_count-n.ensures) (search rules)

pub returns-then-not-lengths_held : goal.returns-then-not-lengths_held
returns-then-not-lengths_held c =
    let a = c.args in
    rw (tests a.kinds.now a.s.now a.b c.read16.result c.extent_count-n.result c.requires.0 c.read16.ensures c.extent_count-n.ensures) (search rules)

pub sealed-requires : goal.sealed-requires
sealed-requires c =
    let n : ℕ = c.extent_count-n.result in
    omega (arith, c.requires.0, (lengths c.args.s.now 0 (descriptors_length n) c.total_length.result (sym c.lengths_held.ensures ∙ c.if-not-lengths_held.false)).summed)

pub returns-then-laid : goal.returns-then-laid
returns-then-laid c =
    let a = c.args in
    rw (tests a.kinds.now a.s.now a.b c.read16.result c.extent_count-n.result c.requires.0 c.read16.ensures c.extent_count-n.ensures) (search rules)

pub returns-else-laid : goal.returns-else-laid
returns-else-laid c =
    let a = c.args in
    rw (tests a.kinds.now a.s.now a.b c.read16.result c.extent_count-n.result c.requires.0 c.read16.ensures c.extent_count-n.ensures) (search rules)
