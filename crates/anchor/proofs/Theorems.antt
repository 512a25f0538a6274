-- The pointer that closing records:
--     length-anchor    it fills a sector
--     tagged-anchor    its tag is such a tag at every block from which its location is at most 400,000 away
--     anchor-no-table  it is no table sector, nor is a sector of zeros (`zeros-no-table`)
-- Assumes nothing.
use Prim.Native.Nat.{ℕ, ◌+◌, ◌≤◌, ◌<◌}
use native.Mathlib.Omega.{arith}
use mathlib.Core.Path.{◌≡◌, refl, sym, ap, ◌∙◌}
use mathlib.Core.Bool.{Bool, true, false, ◌&&◌}
use mathlib.Core.List.{List, [], ◌∷◌}
use lib.Dec.{eqb, lit<}
use lib.ListN.{length, replicate, length-replicate}
use borrow.Author.Tests.{eq-eqb, eqb-true, le-leb}
use Rattle.le.specs.Field.{Row, row, read_le, holds, lay}
use Rattle.le.proofs.Rows.{and_left, length-lay, read-lay, read-laid}
use Rattle.tag.specs.Tag.{crc_length}
use Rattle.tag.proofs.Sums.{seal_rows, seal-lays, summed-seal}
use Rattle.vat.specs.Table.{sector_length, Lower, plain_rows, is_table}
use Rattle.vat.proofs.Theorems.{recognised}
use Rattle.extent.specs.declared.Extent.{Extent}
use Rattle.anchor.specs.Anchor.{anchor_identifier, anchor_rows, anchor, farthest_start, anchor_tagged}

module _ (version : ℕ) (main reserve : Extent) (location : ℕ) where
  abbrev laid : List ℕ
  laid = lay (replicate sector_length 0) (anchor_rows version main reserve location)

  pub length-laid : length laid ≡ sector_length
  length-laid = length-lay (anchor_rows version main reserve location) (replicate sector_length 0) ∙ length-replicate {A = ℕ} sector_length 0

  -- the rows behind the tag
  abbrev extent_rows : List Row
  extent_rows = row 16 4 main.length ∷ row 20 4 main.location ∷ row 24 4 reserve.length ∷ row 28 4 reserve.location ∷ []

  -- what is sealed has the CRC length of its row
  pub crc-length : crc_length laid ≡ 496
  unfolding anchor_rows
  crc-length =
      read-laid (row 0 2 anchor_identifier ∷ row 2 2 version ∷ []) (row 12 4 location ∷ extent_rows) (row 10 2 496) (replicate sector_length 0) tt
      (omega (arith, length-replicate {A = ℕ} sector_length 0)) (lit< tt)

  anchor-lays : anchor version main reserve location ≡ lay laid (seal_rows laid)
  unfolding anchor
  anchor-lays = seal-lays laid

  pub length-anchor : length (anchor version main reserve location) ≡ sector_length
  length-anchor = ap length anchor-lays ∙ length-lay (seal_rows laid) laid ∙ length-laid

  identified : read_le 2 (anchor version main reserve location) 0 ≡ anchor_identifier
  unfolding anchor_rows
  identified =
      ap (λ (l : List ℕ). read_le 2 l 0) anchor-lays
      ∙ read-lay (seal_rows laid) laid 0 2 tt
      ∙ read-laid [] (row 2 2 version ∷ row 10 2 496 ∷ row 12 4 location ∷ extent_rows) (row 0 2 anchor_identifier) (replicate sector_length 0) tt
      (omega (arith, length-replicate {A = ℕ} sector_length 0)) (lit< tt)

  located : location < 4294967296 → read_le 4 (anchor version main reserve location) 12 ≡ location
  unfolding anchor_rows
  located small =
      ap (λ (l : List ℕ). read_le 4 l 12) anchor-lays
      ∙ read-lay (seal_rows laid) laid 12 4 tt
      ∙ read-laid (row 0 2 anchor_identifier ∷ row 2 2 version ∷ row 10 2 496 ∷ []) extent_rows (row 12 4 location) (replicate sector_length 0) tt
      (omega (arith, length-replicate {A = ℕ} sector_length 0)) (omega arith)

  pub tagged-anchor : location < 4294967296 → (b : ℕ) → b ≤ location → location ≤ b + farthest_start → anchor_tagged (anchor version main reserve location) b ≡ true
  unfolding anchor_tagged anchor
  tagged-anchor small b low high =
      rw (
        eq-eqb (read_le 2 (anchor version main reserve location) 0) anchor_identifier identified,
        located small,
        le-leb b location low,
        le-leb location (b + farthest_start) high,
      ) (summed-seal laid (omega (arith, length-laid)))

-- a table sector has another identifier
pub table-identifier : (lower : Lower) (s : List ℕ) (b : ℕ) → is_table lower s b ≡ true → read_le 2 s 0 ≡ 261
unfolding holds plain_rows
table-identifier lower s b e =
    let rest : Bool = eqb (read_le 2 s 2) 2 && (eqb (read_le 1 s 5) 0 && (eqb (read_le 4 s 12) b && (eqb (read_le 2 s 20) 4 && (eqb (read_le 1 s 27) 0 && (eqb (read_le 2 s 48) 0 && true))))) in
    eqb-true (read_le 2 s 0) 261 (and_left (eqb (read_le 2 s 0) 261) rest (recognised lower s b e).frame.plain)

not-a-table : (lower : Lower) (s : List ℕ) (b : ℕ) → (read_le 2 s 0 ≡ 261 → ⊥) → is_table lower s b ≡ false
not-a-table lower s b other = go (is_table lower s b) refl
  where
    go : (t : Bool) → is_table lower s b ≡ t → t ≡ false
    go true e = absurd (other (table-identifier lower s b e))
    go false e = refl

pub anchor-no-table : (version : ℕ) (main reserve : Extent) (location : ℕ) (lower : Lower) (b : ℕ) → is_table lower (anchor version main reserve location) b ≡ false
anchor-no-table version main reserve location lower b =
    not-a-table lower (anchor version main reserve location) b (λ z. let clash : ◌≡◌ {A = ℕ} 2 261 = sym (identified version main reserve location) ∙ z in omega arith)

pub zeros-no-table : (lower : Lower) (b : ℕ) → is_table lower (replicate sector_length 0) b ≡ false
unfolding read_le
zeros-no-table lower b = not-a-table lower (replicate sector_length 0) b (λ z. omega arith)
