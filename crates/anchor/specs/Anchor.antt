-- An Anchor Volume Descriptor Pointer (ECMA-167 3/10.2; document 02, R-5), by which a plain drive finds the volume on a closed disc: the sector that
-- closing records, and the tag by which a block is taken for one.
use Rattle.std.specs.Prelude.{ℕ, ◌+◌, Bool, ◌&&◌, List, [], ◌∷◌, eqb, leb, replicate}
use Rattle.le.specs.Field.{Row, row, read_le, lay}
use Rattle.tag.specs.Tag.{summed, seal}
use Rattle.vat.specs.Table.{sector_length}
use Rattle.extent.specs.declared.Extent.{Extent}

-- "tag identifier 2".
abbrev pub anchor_identifier : ℕ
anchor_identifier = 2

-- The rows of the pointer with a version and a tag location: "tag identifier 2, version 2, .. CRC length 496, the extents at bytes 16 and 24 (length, location,
-- 32 bits each)".
unfoldable pub anchor_rows : ℕ → Extent → Extent → ℕ → List Row
anchor_rows version main reserve location =
    row 0 2 anchor_identifier
    ∷ row 2 2 version  -- descriptor version
    ∷ row 10 2 496  -- CRC length
    ∷ row 12 4 location  -- tag location
    ∷ row 16 4 main.length
    ∷ row 20 4 main.location
    ∷ row 24 4 reserve.length
    ∷ row 28 4 reserve.location
    ∷ []

-- The sector: "right sums, .. and zeros elsewhere".
unfoldable pub anchor : ℕ → Extent → Extent → ℕ → List ℕ
anchor version main reserve location = seal (lay (replicate sector_length 0) (anchor_rows version main reserve location))

-- No partition starts above block 400,000 (18), and so a pointer's tag location is at most "its block + 400,000".
abbrev pub farthest_start : ℕ
farthest_start = 400000

-- The sector s at block b "has tag identifier 2, a right tag checksum and a tag location from its block to its block + 400,000". Nothing else is asked.
unfoldable pub anchor_tagged : List ℕ → ℕ → Bool
anchor_tagged s b =
    let location : ℕ = read_le 4 s 12 in
    eqb (read_le 2 s 0) anchor_identifier && (leb b location && (leb location (b + farthest_start) && summed s))
